-- What is noted of strokes before each is drawn, where anything may be noted.
use Rattle.std.proofs.Common.{◌≡◌, ℕ, ◌+◌, ◌<◌, ◌≤◌, Option, Some, None, List, [], ◌∷◌, length, drop, get_or}
use Rattle.std.proofs.Common.{refl, sym, ap, ◌∙◌, arith}
use Rattle.std.specs.Prelude.{option_map}
use Rattle.std.proofs.lemmas.List.{at_drop_all, at_drop_more}
use Rattle.cept_codes.specs.declared.stroke.Stroke.{Stroke}
use Rattle.cept_profile.specs.NotedStrokes.{with_stroke, with_strokes}
use Rattle.cept_profile.specs.OldValues.{OldValues}
use Rattle.cept_profile.specs.State.{Page}
use Rattle.cept_page.specs.Drawn.{IsDrawn}
use Rattle.cept_page.proofs.PageParts.{page_after-one}

-- what strokes change on a page
abbrev noted_of : Page → List Stroke → Option OldValues → Option OldValues
noted_of p xs noted = option_map (with_strokes p xs) noted

noted-nil : (p : Page) (noted : Option OldValues) → noted_of p [] noted ≡ noted
unfolding with_strokes
noted-nil p None = refl
noted-nil p (Some old) = refl

noted-more : (p q : Page) (x : Stroke) (xs : List Stroke) (before : Option OldValues) → IsDrawn p x q
    → noted_of q xs (option_map (with_stroke p x) before) ≡ noted_of p (x ∷ xs) before
unfolding with_strokes
noted-more p q x xs None drawn = refl
noted-more p q x xs (Some old) drawn =
    ap (λ (r : Page). Some (with_strokes r xs (with_stroke p x old))) (page_after-one p q x drawn)

-- the next stroke is noted and drawn: what is noted after all stays
pub noted-drop : (p q : Page) (xs : List Stroke) (i : ℕ) (x : Stroke) (before after : Option OldValues) → i < length xs
    → x ≡ get_or xs i x → IsDrawn p x q → after ≡ option_map (with_stroke p x) before
    → option_map (with_strokes q (drop (i + 1) xs)) after ≡ option_map (with_strokes p (drop i xs)) before
noted-drop p q xs i x before after below item drawn noted =
    ap (noted_of q (drop (i + 1) xs)) noted
    ∙ noted-more p q x (drop (i + 1) xs) before drawn
    ∙ ap (λ (y : Stroke). noted_of p (y ∷ drop (i + 1) xs) before) item
    ∙ sym (at_drop_more (λ (l : List Stroke). noted_of p l before) xs i x below)

-- no stroke is left
pub noted-drop_all : (p : Page) (xs : List Stroke) (i : ℕ) (noted : Option OldValues) → length xs ≤ i
    → option_map (with_strokes p (drop i xs)) noted ≡ noted
noted-drop_all p xs i noted past =
    at_drop_all (λ (l : List Stroke). noted_of p l noted) xs i past ∙ noted-nil p noted

-- there is none
pub noted-none : (p : Page) (xs : List Stroke) (noted : Option OldValues) → length xs ≡ 0
    → noted ≡ option_map (with_strokes p xs) noted
noted-none p [] noted none = sym (noted-nil p noted)
noted-none p (x ∷ xs) noted none = absurd (omega arith)

-- there is one
pub noted-one : (p : Page) (xs : List Stroke) (x : Stroke) (before after : Option OldValues) → xs ≡ x ∷ []
    → after ≡ option_map (with_stroke p x) before → after ≡ option_map (with_strokes p xs) before
unfolding with_strokes
noted-one p xs x None after only noted = noted
noted-one p xs x (Some old) after only noted =
    noted ∙ ap (λ (l : List Stroke). Some (with_strokes p l old)) (sym only)
