use Rattle.std.proofs.Common.{◌≡◌, ◌≢◌, ◌*◌, refl, subst, arith}
use Rattle.cept_redraw.specs.inside.Named.{AreJustRemembered, IsUnmarkedBelow}
use Rattle.cept_redraw.proofs.NamesKept.{forgotten-all, forgotten-first, forgotten-more}
use Rattle.cept_redraw.proofs.kept_names.KeptNames.forget_marked.Goals as goal

pub loop-place-init : goal.loop-place-init
loop-place-init c = record {
  forgotten = forgotten-first c.args.self.now c.forget.new.self c.args.marks.now c.args.row c.forget.ensures;
  high = omega arith;
}

pub loop-place-preserved : goal.loop-place-preserved
loop-place-preserved c =
    let end : c.in-Some.place.row ≡ c.from-from.result =
    omega (arith, c.from-from.ensures, c.row.ensures.row) in
    record {
      forgotten =
          subst (λ n. AreJustRemembered c.args.self.now c.forget-in-Some.new.self (λ r. (r ≢ c.args.row)
          × IsUnmarkedBelow c.args.marks.now (40 * n) r)) end
          (forgotten-more c.args.marks.now c.args.row c.loop-place.from c.loop-place.invariant.forgotten
          c.in-Some.place c.in-Some.ensures.first
          (subst (λ n. AreJustRemembered c.loop-place.self c.forget-in-Some.new.self (λ r. r ≢ n)) c.in_row.ensures.row
          c.forget-in-Some.ensures));
      high = omega (arith, end, c.row.ensures.on_screen);
    }

pub returns : goal.returns
returns c =
    forgotten-all c.args.marks.now c.args.row c.loop-place.from c.loop-place.invariant.forgotten c.loop-place.invariant.high
    (c.in_default.ensures.none.0 refl)
