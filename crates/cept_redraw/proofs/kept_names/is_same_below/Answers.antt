use Rattle.std.proofs.Common.{◌≡◌, inl, inr, subst, sym, ap, ◌∙◌, arith}
use Rattle.std.proofs.lemmas.Bool.{cases_lt, true≢false}
use Rattle.cept_codes.specs.Look.{blank_look}
use Rattle.cept_profile.specs.Look.{part_of}
use Rattle.cept_profile.specs.Tiling.{column_entry, covers_below}
use Rattle.cept_redraw.proofs.kept_names.is_same_below.Goals as goal
use Rattle.cept_redraw.proofs.kept_names.is_same_below.Goals.{
  else-covers_below-via-then-covers_below+else-not-is_same_in,
  else-covers_below-via-else-covers_below,
}
use Rattle.cept_rows.specs.KeptNames.{names_kept}

pub loop-number-preserved : goal.loop-number-preserved
loop-number-preserved c = λ d low below covers. elim (cases_lt d c.loop-number.number) [
  | inl before ↦ c.loop-number.invariant d low before covers
  | inr last ↦
      let here : d ≡ c.numbered-column.result = omega (arith, below, last, c.numbered-column.ensures) in
      elim c.else-covers_below.branch [
        | else-covers_below-via-then-covers_below+else-not-is_same_in w ↦
            subst (λ n. names_kept c.args.names.now n ≡ names_kept c.args.others.now n) (sym here)
            (w.is_same_in.ensures w.if-not-is_same_in.false)
        | else-covers_below-via-else-covers_below w ↦
            absurd (true≢false (sym covers
            ∙ ap (λ n. covers_below (part_of (column_entry blank_look c.args.looks.now n))) here
            ∙ sym c.covers_below.ensures ∙ w.if-covers_below.false))
      ]
]
