-- The words of a call. This project's own.
use Rattle.std.specs.Prelude.{ℕ, ◌==◌, List, [], ◌∷◌, codes, decimal, if◌then◌else◌}
use Rattle.std.specs.Str.{is_utf8}

-- the words after the first, by what is given: a page, a page and a script, a number, a page and a number; or nothing
abbrev pub words_after : ℕ → ℕ → List (List ℕ)
words_after given number =
    if given == 1 then codes "page" ∷ [] else
    if given == 2 then codes "page" ∷ codes "script" ∷ [] else
    if given == 3 then decimal number ∷ [] else
    if given == 4 then codes "page" ∷ decimal number ∷ [] else
    []

-- the words of a call; none where the first isn't text
abbrev pub words_for : List ℕ → ℕ → ℕ → List (List ℕ)
words_for word given number = if is_utf8 word then word ∷ words_after given number else []
