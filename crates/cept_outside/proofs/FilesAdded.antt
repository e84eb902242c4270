-- A file added under a name, in the place of the one with that name or after the others.
use Rattle.std.proofs.Common.{◌≡◌, ℕ, ◌<◌, Bool, true, false, cond, List, [], ◌∷◌, ◌++◌, length, set, get_or, Option}
use Rattle.std.proofs.Common.{Some, None, option_map, find, position, string_bytes, bytes_eq, refl, sym, ap, subst}
use Rattle.std.proofs.Common.{◌∙◌}
use Rattle.std.specs.List.{position_or_len}
use Rattle.std.specs.Option.{option_or}
use Rattle.std.proofs.lemmas.List.Folds.{find-set, find_past, find-append}
use Rattle.std.proofs.lemmas.Option.{slice_get-get_or, cond_some}
use Rattle.std.proofs.lemmas.Slice.Eq.{bytes_eq-Decides}
use Rattle.cept_outside.specs.declared.rack.StoredFile.{StoredFile}
use Rattle.cept_outside.specs.Files.{has_name, bytes_of}
use Rattle.cept_outside.proofs.FilesChosen.{chosen_is, found_name}

abbrev bytes_if_found : Option StoredFile → Option (List ℕ)
bytes_if_found o = option_map (λ (file : StoredFile). file.bytes.items) o

after : (b : Bool) (old : Option StoredFile) (file : StoredFile) → (b ≡ true → old ≡ None)
    → bytes_if_found (option_or old (cond b (Some file) None)) ≡ cond b (Some file.bytes.items) (bytes_if_found old)
after true None file h = refl
after true (Some x) file h = let e = h refl in cc
after false None file h = refl
after false (Some x) file h = refl

-- the test of the file's own name
same_test : (file : StoredFile) (name other : List ℕ) (x y : Option (List ℕ)) → string_bytes file.name ≡ name
    → cond (has_name other file) x y ≡ cond (bytes_eq name other) x y
same_test file name other x y e = ap (λ n. cond (bytes_eq n other) x y) e

pub bytes_of_pushed : (files : List StoredFile) (name : List ℕ) (file : StoredFile)
    → position (has_name name) files ≡ None → string_bytes file.name ≡ name
    → (other : List ℕ) → bytes_of (files ++ file ∷ []) other
    ≡ cond (bytes_eq name other) (Some file.bytes.items) (bytes_of files other)
bytes_of_pushed files name file absent named other =
    let none : has_name other file ≡ true → find (has_name other) files ≡ None =
    λ t. let same : name ≡ other = sym named ∙ (bytes_eq-Decides (string_bytes file.name) other).0 t in
    subst (λ n. find (has_name n) files ≡ None) same (sym (chosen_is files name None (sym absent))) in
    ap bytes_if_found (find-append (has_name other) files (file ∷ []))
    ∙ after (has_name other file) (find (has_name other) files) file none
    ∙ same_test file name other (Some file.bytes.items) (bytes_of files other) named

replaced : (b : Bool) (files : List StoredFile) (i : ℕ) (file : StoredFile) (other : List ℕ)
    → has_name other file ≡ b → (b ≡ true → find (has_name other) (set files i file) ≡ Some file)
    → (b ≡ false → find (has_name other) (set files i file) ≡ find (has_name other) files)
    → bytes_of (set files i file) other ≡ cond b (Some file.bytes.items) (bytes_of files other)
replaced true files i file other e hit miss = ap bytes_if_found (hit refl)
replaced false files i file other e hit miss = ap bytes_if_found (miss refl)

pub bytes_of_set : (files : List StoredFile) (name : List ℕ) (i : ℕ) (file : StoredFile)
    → Some i ≡ position (has_name name) files → i < length files → string_bytes file.name ≡ name
    → (other : List ℕ) → bytes_of (set files i file) other
    ≡ cond (bytes_eq name other) (Some file.bytes.items) (bytes_of files other)
bytes_of_set files name i file at within named other =
    let former = get_or files i file in
    let is : find (has_name name) files ≡ Some former = sym (chosen_is files name (Some i) at)
    ∙ slice_get-get_or files i file within in
    let its_name : string_bytes former.name ≡ name = found_name files name (Some i) at former is in
    let same : has_name other file ≡ true → name ≡ other = λ t. sym named
    ∙ (bytes_eq-Decides (string_bytes file.name) other).0 t in
    let place : i ≡ position_or_len (has_name name) files =
    sym (cond_some _ (position_or_len (has_name name) files) i (sym at)).1 in
    replaced (has_name other file) files i file other refl
    (λ t. find-set (has_name other) files i file (subst (λ n. i ≡ position_or_len (has_name n) files) (same t) place)
    within t)
    (λ f. find_past (has_name other) files i file file (ap (λ n. bytes_eq n other) (its_name ∙ sym named) ∙ f) f)
    ∙ same_test file name other (Some file.bytes.items) (bytes_of files other) named
