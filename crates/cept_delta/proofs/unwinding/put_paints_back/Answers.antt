use Rattle.std.proofs.Common.{◌+◌, nat_lt, Option, unwrap_or, refl, ap, ◌∙◌, arith}
use Rattle.std.proofs.lemmas.Bool.Decides.{nat_tests}
use Rattle.cept_codes.specs.declared.look.Paint.{Paint}
use Rattle.cept_codes.specs.Look.{black_paint}
use Rattle.cept_profile.specs.OldValues.{old_paint}
use Rattle.cept_delta.proofs.PutBack.{entries_back-all, entries_back-more, entries_back-none}
use Rattle.cept_delta.proofs.unwinding.put_paints_back.Goals as goal

pub loop-i-init : goal.loop-i-init
loop-i-init c = (
  entries_back-none black_paint 0 32 (λ j. nat_lt j 0) (old_paint c.args.delta.now) c.args.colours.now.paints
      c.requires.entries (λ k low. grind (arith, nat_tests)),
  refl,
)

pub loop-i-preserved : goal.loop-i-preserved
loop-i-preserved c = (
  entries_back-more black_paint 0 32 c.loop-i.i (c.loop-i.i + 1) (old_paint c.args.delta.now)
      c.unwrap_or-paint.result c.args.colours.now.paints c.loop-i.colours.paints c.set.new.self.paints
      c.loop-i.invariant.0 c.set.ensures.paints refl (omega arith) (omega arith)
      (c.unwrap_or-paint.ensures ∙ ap (λ (o : Option Paint). unwrap_or o c.paint.result) c.old_paint.ensures
      ∙ ap (λ (p : Paint). unwrap_or (old_paint c.args.delta.now c.loop-i.i) p) c.paint.ensures.paint),
  c.set.ensures.dclut ∙ c.loop-i.invariant.1,
)

pub returns-clause-paints : goal.returns-clause-paints
returns-clause-paints c =
    entries_back-all black_paint 0 32 c.loop-i.i (old_paint c.args.delta.now) c.args.colours.now.paints
    c.loop-i.colours.paints c.loop-i.invariant.0 (omega arith)
