use Rattle.std.proofs.Common.{◌≡◌, ℕ, ◌+◌, ◌&&◌, not, nat_lt, Bool, get_or, subst, false, true, refl, sym, ap, ◌∙◌}
use Rattle.std.proofs.Common.{arith}
use Rattle.cept_codes.specs.declared.look.Part.{Part}
use Rattle.cept_codes.specs.declared.attribute.Size.{Size}
use Rattle.cept_codes.specs.declared.attribute.Size.TheVariants as sizes
use Rattle.cept_profile.specs.Tiling.{column_entry, covers_below, is_high, is_wide}
use Rattle.cept_profile.specs.Tiling.{single_part}
use Rattle.cept_codes.specs.Look.{IsValidPart}
use Rattle.cept_codes.specs.Table.{row_of}
use Rattle.cept_profile.specs.Tiling.{IsTiledRow, tiled_row}
use Rattle.cept_profile.proofs.Laws.{IsTiledRow-tiled_row}
use Rattle.cept_sizes.proofs.RowTiled.{column_entry-index, part_there, IsMade, IsMade-below, IsMade-right}
use Rattle.cept_sizes.proofs.RowTiled.{IsMade-single}
use Rattle.cept_sizes.proofs.RowTiled.{IsMade-origin, HasMadeParts-none, HasMadeParts-more, tiled_row-made}
use Rattle.cept_sizes.proofs.ValidRow.{IsValidPart-tiled_row, tiled_row-next}
use Rattle.cept_sizes.proofs.row.tile_row.Goals as goal
use Rattle.cept_sizes.proofs.row.tile_row.Goals.{then-covers_below, else-covers_below+then-wide}
use Rattle.cept_sizes.proofs.row.tile_row.Goals.{else-covers_below+else-wide+then-is_single}
use Rattle.cept_sizes.proofs.row.tile_row.Goals.{else-covers_below+else-wide+else-is_single}

pub loop-k-init : goal.loop-k-init
unfolding row_of
loop-k-init c = HasMadeParts-none c.args.above.now.parts c.args.wants.now.sizes c.args.last false

pub loop-k-preserved : goal.loop-k-preserved
loop-k-preserved c =
    let k : ℕ = c.loop-k.k in
    let parts = c.args.above.now.parts in
    let wanted = c.args.wants.now.sizes in
    let last : Bool = c.args.last in
    let high : Bool = c.loop-k.high in
    let above : ℕ → Part = column_entry single_part parts in
    let a : Part = above (k + 1) in
    let al : Part = above k in
    let ar : Part = above (k + 2) in
    let l : Part = part_there parts wanted last k in
    let size : Size = column_entry sizes.Normal wanted (k + 1) in
    let here : (d : Part) → a ≡ get_or parts k d = λ d. column_entry-index single_part d parts k (omega arith) in
    let size_here : (d : Size) → get_or wanted k d ≡ size =
    λ d. sym (column_entry-index sizes.Normal d wanted k (omega arith)) in
    let covers : covers_below a ≡ c.covers_below.result = ap covers_below (here _) ∙ sym c.covers_below.ensures in
    let left : (b : Bool) → c.loop-k.wide ≡ b → IsMade al l l b high =
    λ b e. subst (λ x. IsMade al l l x high) e c.loop-k.invariant.left in
    let more = HasMadeParts-more parts wanted last c.loop-k.parts c.if-covers_below.parts k c.loop-k.wide high
    c.if-covers_below.wide c.if-covers_below.high in
    elim c.if-covers_below.branch [
      | then-covers_below w ↦
          more false high w.below.result c.loop-k.invariant c.loop-k-test.true
          (IsMade-below a al ar l w.below.result size last high (k + 1) (covers ∙ w.if-covers_below.true)
          (w.below.ensures ∙ ap (λ (p : Part). let q : Part = record p { dy = 1 } in q) (sym (here _))))
          w.parts-is w.wide-is w.high-is
      | else-covers_below+then-wide w ↦
          more false high w.to_the_right.result c.loop-k.invariant c.loop-k-test.true
          (IsMade-right a al ar l w.to_the_right.result size last high high (k + 1) (covers ∙ w.if-covers_below.false)
          (left true w.if-wide.true) (w.to_the_right.ensures
          ∙ ap (λ (p : Part). let q : Part = record p { dy = 0; dx = 1 } in q) w.origin.ensures))
          w.parts-is w.wide-is w.high-is
      | else-covers_below+else-wide+then-is_single w ↦
          more false high single_part c.loop-k.invariant c.loop-k-test.true
          (IsMade-single a al ar l single_part size last high high (k + 1) (covers ∙ w.if-covers_below.false)
          (left false w.if-wide.false)
          (sym w.if-is_single.true ∙ w.is_single.ensures
          ∙ ap (λ s. not (is_high s) && not (is_wide s)) (size_here _)) refl)
          w.parts-is (w.wide-is ∙ w.if-wide.false) w.high-is
      | else-covers_below+else-wide+else-is_single w ↦
          more w.is_wide_there-wide.result (w.is_high.result && not last) w.origin-else-is_single.result
          c.loop-k.invariant c.loop-k-test.true
          (IsMade-origin a al ar l w.origin-else-is_single.result size last high w.is_wide_there-wide.result
          (w.is_high.result && not last) (k + 1) (covers ∙ w.if-covers_below.false) (left false w.if-wide.false)
          (w.is_wide_there-wide.ensures
          ∙ ap (λ s. is_wide s && nat_lt (k + 1) 40 && not (covers_below ar)) (size_here _))
          (ap (λ b. b && not last) (w.is_high.ensures ∙ ap is_high (size_here _)))
          w.origin-else-is_single.ensures)
          w.parts-is w.wide-is w.high-is
    ]

row_made : (c : goal.After-loop-k)
    → c.loop-k.parts ≡ tiled_row c.args.above.now.parts (column_entry sizes.Normal c.args.wants.now.sizes) c.args.last
row_made c = tiled_row-made _ _ _ _ c.loop-k.k _ _ c.loop-k.invariant (omega arith)

pub returns : goal.returns
returns c =
    let above = c.args.above.now.parts in
    let wanted : ℕ → Size = column_entry sizes.Normal c.args.wants.now.sizes in
    record {
      row = row_made c;
      tiled = subst (IsTiledRow above wanted c.args.last) (sym (row_made c))
          (IsTiledRow-tiled_row above wanted c.args.last);
      beneath = λ wants is_last t r is low high above_is wants_is last_is.
          row_made c
          ∙ tiled_row-next above c.args.wants.now.sizes sizes.Normal c.args.last wants is_last t r is low high
          above_is wants_is last_is;
      valid = λ column low high.
          subst (λ row. IsValidPart (column_entry single_part row column)) (sym (row_made c))
          (IsValidPart-tiled_row above wanted c.args.last c.requires.above column low high);
    }
