-- The file at the place where a name is first found is the file with that name.
use Rattle.std.proofs.Common.{◌≡◌, ℕ, ◌<◌, Bool, true, false, cond, List, [], ◌∷◌, length, Option, Some, None}
use Rattle.std.proofs.Common.{is_some, option_map, unwrap_or, slice_get, find, position, string_bytes, nat_lt, refl}
use Rattle.std.proofs.Common.{sym, ap, subst, ◌∙◌, ⊎_elim, arith}
use Rattle.std.specs.List.{position_or_len}
use Rattle.std.proofs.lemmas.Bool.{ltb-true, ltb-false, cases_Bool}
use Rattle.std.proofs.lemmas.List.Folds.{find_at}
use Rattle.std.proofs.lemmas.Option.{slice_get_past, slice_get_cases, same_Some}
use Rattle.std.proofs.lemmas.Slice.Eq.{bytes_eq-Decides}
use Rattle.cept_outside.specs.declared.rack.StoredFile.{StoredFile}
use Rattle.cept_outside.specs.Files.{has_name, bytes_of, chosen_file, chosen_bytes, chosen_name}

place_at : (b : Bool) (files : List StoredFile) (n : ℕ) → nat_lt n (length files) ≡ b
    → chosen_file files (cond b (Some n) None) ≡ slice_get files n
place_at true files n e = refl
place_at false files n e = sym (slice_get_past files n (ltb-false n (length files) e))

is_place : (b : Bool) (files : List StoredFile) (n : ℕ) → nat_lt n (length files) ≡ b
    → is_some (cond b (Some n) None) ≡ is_some (slice_get files n)
is_place true files n e =
    ⊎_elim (λ s. sym (ap is_some s.2)) (λ s. absurd (omega (arith, s.0, ltb-true n (length files) e)))
    (slice_get_cases files n).1
is_place false files n e = sym (ap is_some (slice_get_past files n (ltb-false n (length files) e)))

place_within : (b : Bool) (files : List StoredFile) (n : ℕ) → nat_lt n (length files) ≡ b → (x : ℕ)
    → cond b (Some n) None ≡ Some x → x < length files
place_within true files n e x h = subst (λ m. m < length files) (same_Some n x h) (ltb-true n (length files) e)
place_within false files n e x h = cc

find_passes : (p : StoredFile → Bool) (files : List StoredFile) (x : StoredFile) → find p files ≡ Some x → p x ≡ true
find_passes p [] x h = cc
find_passes p (y ∷ files) x h =
    ⊎_elim
    (λ t. let same : Some y ≡ Some x = ap (λ b. cond b (Some y) (find p files)) (sym t) ∙ h in
    subst (λ z. p z ≡ true) (same_Some y x same) t)
    (λ t. find_passes p files x (ap (λ b. cond b (Some y) (find p files)) (sym t) ∙ h))
    (cases_Bool (p y))

is_some_map : {X Y : Type 0} (g : X → Y) (o : Option X) → is_some (option_map g o) ≡ is_some o
is_some_map g None = refl
is_some_map g (Some x) = refl

option_map_some : {X Y : Type 0} (g : X → Y) (o : Option X) (y : Y) → option_map g o ≡ Some y
    → (x : X) × (o ≡ Some x) × (g x ≡ y)
option_map_some g None y h = cc
option_map_some g (Some x) y h = (x, refl, same_Some (g x) y h)

option_map_none : {X Y : Type 0} (g : X → Y) (o : Option X) → option_map g o ≡ None → o ≡ None
option_map_none g None h = refl
option_map_none g (Some x) h = cc

module _ (files : List StoredFile) (name : List ℕ) (place : Option ℕ) (e : place ≡ position (has_name name) files) where
  abbrev first : ℕ
  first = position_or_len (has_name name) files

  -- the file that is chosen is the one that is found
  pub chosen_is : chosen_file files place ≡ find (has_name name) files
  chosen_is = ap (chosen_file files) e ∙ place_at (nat_lt first (length files)) files first refl
      ∙ sym (find_at (has_name name) files)

  pub is_found : is_some place ≡ is_some (bytes_of files name)
  is_found =
      ap is_some e ∙ is_place (nat_lt first (length files)) files first refl
      ∙ ap is_some (sym (find_at (has_name name) files))
      ∙ sym (is_some_map (λ (file : StoredFile). file.bytes.items) (find (has_name name) files))

  pub place_there : (x : ℕ) → place ≡ Some x → x < length files
  place_there x h = place_within (nat_lt first (length files)) files first refl x (sym e ∙ h)

  pub found_name : (file : StoredFile) → find (has_name name) files ≡ Some file → string_bytes file.name ≡ name
  found_name file h = (bytes_eq-Decides (string_bytes file.name) name).0 (find_passes (has_name name) files file h)

  pub chosen_named : (file : StoredFile) → chosen_file files place ≡ Some file
      → bytes_of files (string_bytes file.name) ≡ Some file.bytes.items
  chosen_named file h =
      let found = sym chosen_is ∙ h in
      subst (λ n. bytes_of files n ≡ Some file.bytes.items) (sym (found_name file found))
      (ap (option_map (λ (f : StoredFile). f.bytes.items)) found)

  pub chosen_found : (bytes : List ℕ) → bytes_of files name ≡ Some bytes
      → (chosen_name files place ≡ Some name) × (chosen_bytes files place ≡ bytes)
  chosen_found bytes h =
      let f = option_map_some (λ (file : StoredFile). file.bytes.items) (find (has_name name) files) bytes h in
      let is : chosen_file files place ≡ Some f.0 = chosen_is ∙ f.1 in (
        ap (option_map (λ (file : StoredFile). string_bytes file.name)) is ∙ ap Some (found_name f.0 f.1),
        ap (λ o. unwrap_or (option_map (λ (file : StoredFile). file.bytes.items) o) []) is ∙ f.2,
      )

  pub chosen_absent : bytes_of files name ≡ None → (chosen_name files place ≡ None) × (chosen_bytes files place ≡ [])
  chosen_absent h =
      let is : chosen_file files place ≡ None = chosen_is
      ∙ option_map_none (λ (file : StoredFile). file.bytes.items) (find (has_name name) files) h in (
        ap (option_map (λ (file : StoredFile). string_bytes file.name)) is,
        ap (λ o. unwrap_or (option_map (λ (file : StoredFile). file.bytes.items) o) []) is,
      )
