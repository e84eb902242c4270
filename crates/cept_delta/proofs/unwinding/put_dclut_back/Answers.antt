use Rattle.std.proofs.Common.{ℕ, ◌+◌, nat_lt, Option, unwrap_or, refl, ap, ◌∙◌, arith}
use Rattle.std.proofs.lemmas.Bool.Decides.{nat_tests}
use Rattle.cept_profile.specs.OldValues.{old_dclut}
use Rattle.cept_delta.proofs.PutBack.{entries_back-all, entries_back-more, entries_back-none}
use Rattle.cept_delta.proofs.unwinding.put_dclut_back.Goals as goal

pub loop-i-init : goal.loop-i-init
loop-i-init c = (
  entries_back-none 0 0 4 (λ j. nat_lt j 0) (old_dclut c.args.delta.now) c.args.colours.now.dclut
      c.requires.names (λ k low. grind (arith, nat_tests)),
  refl,
)

pub loop-i-preserved : goal.loop-i-preserved
loop-i-preserved c = (
  entries_back-more 0 0 4 c.loop-i.i (c.loop-i.i + 1) (old_dclut c.args.delta.now)
      c.unwrap_or-entry.result c.args.colours.now.dclut c.loop-i.colours.dclut c.set_dclut.new.self.dclut
      c.loop-i.invariant.0 c.set_dclut.ensures.dclut refl (omega arith) (omega arith)
      (c.unwrap_or-entry.ensures ∙ ap (λ (o : Option ℕ). unwrap_or o c.dclut.result) c.old_dclut.ensures
      ∙ ap (λ (n : ℕ). unwrap_or (old_dclut c.args.delta.now c.loop-i.i) n) c.dclut.ensures.dclut),
  c.set_dclut.ensures.paints ∙ c.loop-i.invariant.1,
)

pub returns-clause-dclut : goal.returns-clause-dclut
returns-clause-dclut c =
    entries_back-all 0 0 4 c.loop-i.i (old_dclut c.args.delta.now) c.args.colours.now.dclut
    c.loop-i.colours.dclut c.loop-i.invariant.0 (omega arith)
