-- The first file of a name, and its bytes.
use Rattle.std.proofs.Common.{◌≡◌, Bool, true, cond, List, [], ◌∷◌, ℕ, Option, Some, None, option_map, find, refl}
use Rattle.std.proofs.Common.{sym, ap, subst, ◌∙◌, ⊎_elim, IfSome}
use Rattle.std.proofs.lemmas.Bool.{cases_Bool}
use Rattle.std.proofs.lemmas.Option.{same_Some}
use Rattle.std.proofs.lemmas.Slice.Eq.{bytes_eq-Decides}
use Rattle.cept_outside.specs.declared.slice_shelf.SliceFile.{SliceFile}
use Rattle.cept_outside.specs.Slices.{bytes_in, is_named}

-- what is found passes the test
find_passes : {F : Type 0} (p : F → Bool) (files : List F) (x : F) → find p files ≡ Some x → p x ≡ true
find_passes p [] x h = cc
find_passes p (y ∷ files) x h =
    ⊎_elim
    (λ t. let same : Some y ≡ Some x = ap (λ b. cond b (Some y) (find p files)) (sym t) ∙ h in
    subst (λ z. p z ≡ true) (same_Some y x same) t)
    (λ t. find_passes p files x (ap (λ b. cond b (Some y) (find p files)) (sym t) ∙ h))
    (cases_Bool (p y))

-- what holds of each value there is holds of the one there is
pub if_some : {F : Type 0} {P : F → Type 0} (found : Option F) → ((x : F) → found ≡ Some x → P x) → IfSome found P
if_some None each = tt
if_some (Some x) each = each x refl

module _ (files : List SliceFile) (name : List ℕ) (found : Option SliceFile) (is : found ≡ find (is_named name) files) where
  pub named : (file : SliceFile) → found ≡ Some file → file.name.now ≡ name
  named file e =
      (bytes_eq-Decides file.name.now name).0 (find_passes (is_named name) files file (sym is ∙ e))

  pub there : (file : SliceFile) → found ≡ Some file → bytes_in files name ≡ Some file.bytes.now
  there file e = ap (option_map (λ (f : SliceFile). f.bytes.now)) (sym is ∙ e)

  pub under_its_name : (file : SliceFile) → found ≡ Some file → bytes_in files file.name.now ≡ Some file.bytes.now
  under_its_name file e = ap (bytes_in files) (named file e) ∙ there file e

  pub absent : found ≡ None → bytes_in files name ≡ None
  absent e = ap (option_map (λ (f : SliceFile). f.bytes.now)) (sym is ∙ e)
