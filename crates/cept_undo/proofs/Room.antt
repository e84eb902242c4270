-- The old values of an edit that is kept come first.
use Rattle.std.proofs.Common.{◌≡◌, ℕ, ◌≤◌, ◌+◌, Option, Some, List, [], ◌∷◌, take, drop, length, ap, ◌∙◌, arith}
use Rattle.std.specs.Prelude.{IsNone, slice_get}
use Rattle.std.proofs.lemmas.List.{length-drop, take_all}
use Rattle.cept_profile.specs.OldValues.{OldValues}
use Rattle.circular_buffer.specs.Buffer.{Buffer, buffer}
use Rattle.cept_undo.specs.Past.{Edits, HasRoom, most_kept}
use Rattle.cept_undo.proofs.InTurn.{some_by_first}

-- those of an edit that is kept come first, and of all as many stay as may be kept
pub kept_more : (edits : Edits) (kept : List OldValues) (places : ℕ) (old : OldValues) (more : Buffer OldValues)
    → kept ≡ edits.kept → places ≡ most_kept → more ≡ buffer (take places (old ∷ kept)) places
    → more.items ≡ take most_kept (old ∷ edits.kept)
kept_more edits kept places old more same all e =
    ap (λ (b : Buffer OldValues). b.items) e
    ∙ ap (λ n. take n (old ∷ kept)) all
    ∙ ap (λ (l : List OldValues). take most_kept (old ∷ l)) same

-- those of the latest edit that is kept become others
pub latest_noted : (kept : List OldValues) (places : ℕ) (old noted : OldValues) (rest more : Buffer OldValues)
    → length kept ≤ places → Some old ≡ slice_get kept 0 → rest ≡ buffer (drop 1 kept) places
    → more ≡ buffer (take rest.capacity (noted ∷ rest.items)) rest.capacity
    → more.items ≡ noted ∷ drop 1 kept
latest_noted kept places old noted rest more few first e f =
    let some : 1 ≤ length kept = some_by_first kept old first in
    let fits : length (noted ∷ rest.items) ≤ rest.capacity =
    omega (
      arith,
      few,
      some,
      ap (λ (b : Buffer OldValues). b.capacity) e,
      ap (λ (b : Buffer OldValues). length b.items) e,
      length-drop 1 kept,
    ) in
    ap (λ (b : Buffer OldValues). b.items) f
    ∙ take_all rest.capacity (noted ∷ rest.items) fits
    ∙ ap (λ (b : Buffer OldValues). noted ∷ b.items) e

pub HasRoom-noted : {kept undone spare no_more back : List OldValues} {begun : Option OldValues}
    {places undone_places spare_places new_places back_places : ℕ}
    → HasRoom kept places undone undone_places begun spare spare_places → IsNone begun → (old : OldValues)
    → Some old ≡ slice_get kept 0 → (noted : OldValues) (rest more : Buffer OldValues) → rest ≡ buffer (drop 1 kept) places
    → more ≡ buffer (take rest.capacity (noted ∷ rest.items)) rest.capacity → no_more ≡ []
    → new_places ≡ undone_places → length back ≡ length undone + length spare → back_places ≡ spare_places
    → HasRoom more.items more.capacity no_more new_places begun back back_places
HasRoom-noted {kept} {undone} {spare} {no_more} {back} {begun} {places} m none old first noted rest more e f empty same_places given same_back =
    let within : length kept ≤ places = omega (arith, m.few, m.edits) in
    let items = latest_noted kept places old noted rest more within first e f in
    let long : length more.items ≡ length kept =
    omega (arith, some_by_first kept old first, ap (λ (l : List OldValues). length l) items, length-drop 1 kept) in
    record {
      edits = ap (λ (b : Buffer OldValues). b.capacity) f ∙ ap (λ (b : Buffer OldValues). b.capacity) e ∙ m.edits;
      undone_edits = same_places ∙ m.undone_edits;
      deltas = same_back ∙ m.deltas;
      few = omega (arith, m.few, long, ap (λ (l : List OldValues). length l) empty);
      all = omega (arith, m.all, given, long, ap (λ (l : List OldValues). length l) empty);
      alone = λ begun. empty;
    }
