use Rattle.std.proofs.Common.{◌≡◌, ℕ, Bool, true, false, List, Option, Some, inl, inr, get_or, sym, ap, subst, ◌∙◌, arith}
use Rattle.std.proofs.lemmas.Bool.{cases_eq}
use Rattle.std.proofs.lemmas.List.{get_or_default, length-set}
use Rattle.cept_codes.specs.Place.{OnScreen, number}
use Rattle.cept_codes.specs.Table.{entry}
use Rattle.cept_codes.proofs.Laws.{entry_from}
use Rattle.cept_redraw.specs.declared.followed_rows.Followed.{Followed}
use Rattle.cept_redraw.specs.inside.Due.{freed, row_from}
use Rattle.cept_redraw.specs.Marks.{is_marked}
use Rattle.cept_redraw.specs.inside.Named.{IsStill}
use Rattle.cept_redraw.proofs.NamesKept.{known-kept, known-stays}
use Rattle.cept_redraw.proofs.kept_names.KeptNames.forget_rows.Goals as goal

-- a row, flagged or not and come of this row, that stays
abbrev IsLeft : Bool → Option ℕ → List Bool → ℕ → Type 0
IsLeft flag from marks r =
    (flag ≡ false) × (from ≡ Some r) × ((c : ℕ) → OnScreen r c → is_marked marks (number r c) ≡ false)

-- the flag of the row at hand, and of which row it came
flag_is : (c : goal.After-self-1)
    → get_or c.args.flags.now c.index-at.result false ≡ entry false 1 c.args.flags.now c.numbered-row.result
flag_is c =
    ap (λ n. get_or c.args.flags.now n false) c.index-at.ensures.index
    ∙ sym (entry_from false 1 c.args.flags.now c.numbered-row.result c.index-at.ensures.in_range.0)

from_is : (c : goal.After-self-1)
    → (get_or c.args.rows.now c.index-at.result c.index-rows-at.result).from
    ≡ row_from c.args.rows.now c.numbered-row.result
from_is c =
    ap (λ (f : Followed). f.from) (sym (entry_from freed 1 c.args.rows.now c.numbered-row.result
    c.index-at.ensures.in_range.0
    ∙ ap (λ n. get_or c.args.rows.now n freed) (sym c.index-at.ensures.index)
    ∙ get_or_default c.args.rows.now c.index-at.result freed c.index-rows-at.result
    (omega (arith, c.index-at.ensures.below, c.requires.rows))))

-- the row at hand, where it stays
still : (c : goal.After-self-1) → c.is_left-stays.result ≡ true
    → IsStill c.args.flags.now c.args.rows.now c.args.marks.now c.numbered-row.result
still c stays =
    subst (λ b. IsLeft b (row_from c.args.rows.now c.numbered-row.result) c.args.marks.now c.numbered-row.result)
    (flag_is c)
    (subst (λ f. IsLeft (get_or c.args.flags.now c.index-at.result false) f c.args.marks.now c.numbered-row.result)
    (from_is c) (c.is_left-stays.ensures.0 stays))

-- and it stays where it is still
stays : (c : goal.After-self-1) → IsStill c.args.flags.now c.args.rows.now c.args.marks.now c.numbered-row.result
    → c.is_left-stays.result ≡ true
stays c is =
    c.is_left-stays.ensures.1
    (subst (λ b. IsLeft b (get_or c.args.rows.now c.index-at.result c.index-rows-at.result).from c.args.marks.now
    c.numbered-row.result) (sym (flag_is c))
    (subst (λ f. IsLeft (entry false 1 c.args.flags.now c.numbered-row.result) f c.args.marks.now c.numbered-row.result)
    (sym (from_is c)) is))

pub loop-number-preserved : goal.loop-number-preserved
loop-number-preserved c = record {
  above = c.loop-number.invariant.above;
  rows = c.loop-number.invariant.rows;
  flags = length-set _ _ _ ∙ c.loop-number.invariant.flags;
  known = λ r low high so.
      let stays = known-stays c.loop-number.self-inside.known c.loop-number.invariant.flags c.numbered-row.result
      c.index-at.result c.index-at.ensures.index c.index-at.ensures.in_range.0 c.index-at.ensures.in_range.1 _ r so in
      let before = c.loop-number.invariant.known r low high stays.0 in (
        before.0,
        λ below. elim (cases_eq r c.numbered-row.result) [
          | inl is ↦
              subst (λ n. IsStill c.args.flags.now c.args.rows.now c.args.marks.now n) (sym is) (still c (stays.1 is))
          | inr other ↦ before.1 (omega (arith, below, other, c.numbered-row.ensures))
        ],
      );
  kept = λ r low high was is.
      known-kept c.loop-number.self-inside.known c.loop-number.invariant.flags c.numbered-row.result c.index-at.result
      c.index-at.ensures.index c.index-at.ensures.in_range.0 c.index-at.ensures.in_range.1 _ r
      (c.loop-number.invariant.kept r low high was is)
      (λ here. stays c (subst (λ n. IsStill c.args.flags.now c.args.rows.now c.args.marks.now n) here is));
}
