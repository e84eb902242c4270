-- What a shelf tells of the file that it has chosen is sound. This project's own. It holds proofs: a ghost member of an
-- object can cite specs alone, and `sound` cites these.
use Rattle.std.proofs.Common.{◌≡◌, ℕ, ◌≤◌, Bool, true, List, [], Option, Some, None, option_map, unwrap_or, string_bytes}
use Rattle.std.proofs.Common.{drop, length, zero, suc, sym, ap, subst, ◌∙◌, refl}
use Rattle.std.proofs.Math.Nat.{not-suc-le-zero}
use Rattle.std.proofs.lemmas.List.{drop_all}
use Rattle.std.proofs.lemmas.Option.{none-some, same_Some}
use Rattle.cept_outside.specs.declared.rack.StoredFile.{StoredFile}
use Rattle.cept_outside.specs.declared.rack.Rack.{Rack}
use Rattle.cept_outside.specs.declared.slice_shelf.SliceFile.{SliceFile}
use Rattle.cept_outside.specs.declared.slice_shelf.SliceShelf.{SliceShelf}
use Rattle.cept_outside.specs.Files.{bytes_of, chosen_file}
use Rattle.cept_outside.specs.Rack.{rack_state}
use Rattle.cept_outside.specs.ShelfState.{IsSound}
use Rattle.cept_outside.specs.SliceShelf.{slice_shelf_state}
use Rattle.cept_outside.specs.Slices.{bytes_in}

-- of files with names and bytes, of which those are found that are under a name
module _ {F : Type 0} (name_in bytes : F → List ℕ) (under : List ℕ → Option (List ℕ)) (at : ℕ) where
  -- the name of a file, none where there is no file
  abbrev name_if : Option F → Option (List ℕ)
  name_if chosen = option_map name_in chosen

  -- the bytes of a file, none where there is no file
  abbrev bytes_if : Option F → List ℕ
  bytes_if chosen = unwrap_or (option_map bytes chosen) []

  -- the chosen file, if one is, is the one that is found under its name
  abbrev IsFound : Option F → Type 0
  IsFound chosen = (file : F) → chosen ≡ Some file → under (name_in file) ≡ Some (bytes file)

  -- a chosen file has the bytes that are found
  left_is : (chosen : Option F) → IsFound chosen → (name : List ℕ) → name_if chosen ≡ Some name
      → (found : List ℕ) × (under name ≡ Some found) × (drop at (bytes_if chosen) ≡ drop at found)
  left_is None named name e = absurd (none-some name e)
  left_is (Some file) named name e = (
    bytes file,
    subst (λ n. under n ≡ Some (bytes file)) (same_Some (name_in file) name e) (named file refl),
    refl,
  )

  -- no more bytes were taken of a chosen file than are found under its name
  within_is : (chosen : Option F) → IsFound chosen → at ≤ length (bytes_if chosen) → (name found : List ℕ)
      → name_if chosen ≡ Some name → under name ≡ Some found → at ≤ length found
  within_is None named within name found e is = absurd (none-some name e)
  within_is (Some file) named within name found e is =
      let same : under (name_in file) ≡ Some found =
      subst (λ n. under n ≡ Some found) (sym (same_Some (name_in file) name e)) is in
      subst (λ l. at ≤ length l) (same_Some (bytes file) found (sym (named file refl) ∙ same)) within

-- where no file is chosen no bytes are left, and none were taken
nothing_is : {F : Type 0} (name_in bytes : F → List ℕ) (at : ℕ) (chosen : Option F)
    → at ≤ length (unwrap_or (option_map bytes chosen) []) → option_map name_in chosen ≡ None
    → (drop at (unwrap_or (option_map bytes chosen) []) ≡ []) × (at ≡ 0)
nothing_is name_in bytes zero None within e = (refl, refl)
nothing_is name_in bytes (suc n) None within e = absurd (not-suc-le-zero within)
nothing_is name_in bytes at (Some file) within e = absurd (none-some (name_in file) (sym e))

-- where at least as many bytes were taken as there are, none are left
end_is : (at : ℕ) (whole bytes : List ℕ) → length whole ≤ at → Some (drop at whole) ≡ Some bytes → bytes ≡ []
end_is at whole bytes within e = sym (same_Some (drop at whole) bytes e) ∙ drop_all at whole within

-- a shelf of which a file is chosen that is found under its name agrees with its files
is_sound : {F : Type 0} (name_in bytes : F → List ℕ) (under : List ℕ → Option (List ℕ)) (at : ℕ) (chosen : Option F)
    → ((file : F) → chosen ≡ Some file → under (name_in file) ≡ Some (bytes file))
    → at ≤ length (unwrap_or (option_map bytes chosen) []) → (ended : Bool)
    → (ended ≡ true → length (unwrap_or (option_map bytes chosen) []) ≤ at) → (missed faults : ℕ)
    → IsSound (record {
      files = Some under;
      selected = Some (option_map name_in chosen);
      left = Some (drop at (unwrap_or (option_map bytes chosen) []));
      taken = at;
      ended = ended;
      missed = missed;
      faults = faults;
    })
is_sound name_in bytes under at chosen named within ended end missed faults = record {
  together = refl;
  left = λ name e _.
      let l = left_is name_in bytes under at chosen named name (same_Some (option_map name_in chosen) (Some name) e) in
      (l.0, l.1, ap Some l.2);
  within = λ name found e is.
      within_is name_in bytes under at chosen named within name found
      (same_Some (option_map name_in chosen) (Some name) e) is;
  nothing = λ e.
      let n = nothing_is name_in bytes at chosen within (same_Some (option_map name_in chosen) None e) in
      (ap Some n.0, n.1);
  ended = λ e found left. end_is at (unwrap_or (option_map bytes chosen) []) found (end e) left;
}

-- what a rack tells of its selection agrees with its files
pub rack_state_is_sound : (rack : Rack) (missed faults : ℕ) → IsSound (rack_state rack missed faults)
rack_state_is_sound rack missed faults =
    is_sound (λ (file : StoredFile). string_bytes file.name) (λ (file : StoredFile). file.bytes.items)
    (bytes_of rack.files.items) rack.at (chosen_file rack.files.items rack.selected) rack.named rack.within rack.ended
    rack.end missed faults

-- so does what a shelf over slices tells
pub slice_shelf_is_sound : (shelf : SliceShelf) → IsSound (slice_shelf_state shelf)
slice_shelf_is_sound shelf =
    is_sound (λ (file : SliceFile). file.name.now) (λ (file : SliceFile). file.bytes.now) (bytes_in shelf.files.now)
    shelf.at shelf.chosen shelf.there shelf.within shelf.ended shelf.end shelf.missed shelf.missed
