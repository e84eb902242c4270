-- What stands after a word, and how many words that is (this project's own). Clauses alone cite this file.
use Rattle.std.specs.Prelude.{ℕ, ◌≡◌, ◌≢◌, List, [], ◌∷◌, length, Option, Some, None}
use Rattle.std.specs.Borrow.{Bor}
use Rattle.cept_words.specs.Lines.{words}

-- what stands after a word and a space; nothing where no space stands after the word
abbrev pub bytes_after : Option (Bor (List ℕ)) → List ℕ
bytes_after None = []
bytes_after (Some rest) = rest.now

-- the words in what stands after a word, if a space does
abbrev pub words_after : Option (Bor (List ℕ)) → List (List ℕ)
words_after None = []
words_after (Some rest) = words rest.now

-- the words from a first one on, if there is one
abbrev pub first_words : Option (Bor (List ℕ) × Option (Bor (List ℕ))) → List (List ℕ)
first_words None = []
first_words (Some parts) = parts.0.now ∷ words_after parts.1

-- the words are this one alone; where none is answered, there isn't exactly one
abbrev pub IsOneWord : List (List ℕ) → Option (Bor (List ℕ)) → Type 0
IsOneWord ws None = length ws ≢ 1
IsOneWord ws (Some v) = ws ≡ v.now ∷ []

-- the words are these two alone; where none are answered, there aren't exactly two
abbrev pub AreTwoWords : List (List ℕ) → Option (Bor (List ℕ) × Bor (List ℕ)) → Type 0
AreTwoWords ws None = length ws ≢ 2
AreTwoWords ws (Some vs) = ws ≡ vs.0.now ∷ vs.1.now ∷ []

-- the words are these four alone; where none are answered, there aren't exactly four
abbrev pub AreFourWords : List (List ℕ) → Option (Bor (List ℕ) × Bor (List ℕ) × Bor (List ℕ) × Bor (List ℕ)) → Type 0
AreFourWords ws None = length ws ≢ 4
AreFourWords ws (Some vs) = ws ≡ vs.0.now ∷ vs.1.now ∷ vs.2.now ∷ vs.3.now ∷ []
