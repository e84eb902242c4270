-- What the words of a call ask for, by whether the first is text.
use Rattle.std.proofs.Common.{◌≡◌, ℕ, true, false, List, [], ◌∷◌, Option, None, cond, refl, sym, ap, subst, ◌∙◌}
use Rattle.std.specs.Str.{is_utf8}
use Rattle.cept_run.specs.Words.{Request, request_of}
use Rattle.tamligub.specs.Words.{words_after, words_for}

pub asked_of_text : (word first : List ℕ) (given number : ℕ) (asked : Option Request) → is_utf8 word ≡ true
    → first ≡ word → asked ≡ request_of (first ∷ words_after given number) → asked ≡ request_of (words_for word given number)
asked_of_text word first given number asked text is e =
    subst (λ b. asked ≡ request_of (cond b (word ∷ words_after given number) [])) (sym text)
    (e ∙ ap (λ w. request_of (w ∷ words_after given number)) is)

pub nothing_asked : (word : List ℕ) (given number : ℕ) → is_utf8 word ≡ false
    → None ≡ request_of (words_for word given number)
unfolding request_of
nothing_asked word given number other =
    subst (λ b. None ≡ request_of (cond b (word ∷ words_after given number) [])) (sym other) refl
