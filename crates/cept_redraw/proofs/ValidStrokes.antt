-- Each of some valid strokes is valid.
use Rattle.std.specs.List.{AllByRecursion}
use Rattle.std.proofs.Common.{◌≡◌, ℕ, ◌<◌, List, get_or, length, sym, subst}
use Rattle.std.proofs.lemmas.List.Elements.{All-from_recursion}
use Rattle.cept_codes.specs.declared.stroke.Stroke.{Stroke}
use Rattle.cept_codes.specs.Stroke.{IsValidStroke}

pub valid_item : (xs : List Stroke) → AllByRecursion IsValidStroke xs → (i : ℕ) (x : Stroke) → i < length xs
    → x ≡ get_or xs i x → IsValidStroke x
valid_item xs all i x below item =
    subst (λ (s : Stroke). IsValidStroke s) (sym item) (All-from_recursion IsValidStroke xs all i x below)
