-- Worked lines, words and numbers, by computing.
use Rattle.std.proofs.Common.{◌≡◌, ℕ, List, [], ◌∷◌, ◌++◌, codes, map, Option, Some, None, Result, Ok, Err, refl}
use Rattle.std.specs.List.{range_with_len}
use Rattle.cept_codes.specs.declared.line_reason.LineReason.{LineReason}
use Rattle.cept_codes.specs.declared.line_reason.LineReason.TheVariants as reasons
use Rattle.cept_words.specs.Faults.{fault_from}
use Rattle.cept_words.specs.Lines.{lines, number, words}

lines-none : lines [] ≡ []
lines-none = refl

lines-of_line_end : lines (0x0A ∷ []) ≡ [] ∷ []
lines-of_line_end = refl

lines-last : lines (0x41 ∷ 0x0A ∷ 0x0A ∷ 0x42 ∷ []) ≡ (0x41 ∷ []) ∷ [] ∷ (0x42 ∷ []) ∷ []
lines-last = refl

lines-ended : lines (0x41 ∷ 0x0A ∷ []) ≡ (0x41 ∷ []) ∷ []
lines-ended = refl

-- a space too many parts an empty word
words-parted : words (codes " a  b") ≡ [] ∷ codes "a" ∷ [] ∷ codes "b" ∷ []
words-parted = refl

words-none : words [] ≡ [] ∷ []
words-none = refl

numbers : map number (codes "7" ∷ codes "07" ∷ codes "40" ∷ codes "99" ∷ []) ≡ Some 7 ∷ Some 7 ∷ Some 40 ∷ Some 99 ∷ []
numbers = refl

no_numbers : map number ([] ∷ codes "a" ∷ codes "4a" ∷ codes "-1" ∷ codes "001" ∷ []) ≡ None ∷ None ∷ None ∷ None ∷ None ∷ []
no_numbers = refl

-- the digits are 3/0 to 3/9, and no byte beside them is one
all_digits : map (λ a. number (a ∷ [])) (range_with_len 0x2F 12)
    ≡ None ∷ Some 0 ∷ Some 1 ∷ Some 2 ∷ Some 3 ∷ Some 4 ∷ Some 5 ∷ Some 6 ∷ Some 7 ∷ Some 8 ∷ Some 9 ∷ None ∷ []
all_digits = refl

-- the first of two digits counts tens
tens : map number (codes "00" ∷ codes "12" ∷ codes "21" ∷ codes "90" ∷ codes "09" ∷ [])
    ≡ Some 0 ∷ Some 12 ∷ Some 21 ∷ Some 90 ∷ Some 9 ∷ []
tens = refl

-- either of two bytes that is no digit makes no number of them
no_tens : map number (codes "/0" ∷ codes ":0" ∷ codes "0/" ∷ codes "0:" ∷ codes " 0" ∷ codes "0 " ∷ [])
    ≡ None ∷ None ∷ None ∷ None ∷ None ∷ None ∷ []
no_tens = refl

-- 0/10 alone ends a line, and 2/0 alone parts words
lines-of_other_ends : lines (0x41 ∷ 0x0D ∷ 0x0C ∷ 0x42 ∷ []) ≡ (0x41 ∷ 0x0D ∷ 0x0C ∷ 0x42 ∷ []) ∷ []
lines-of_other_ends = refl

words-of_other_bytes : words (codes "a\tb," ++ 0xA0 ∷ codes "c") ≡ (codes "a\tb," ++ 0xA0 ∷ codes "c") ∷ []
words-of_other_bytes = refl

-- of lines of which those that are no number mean nothing, the first such one, by its number from 1 on
abbrev meant : Option ℕ → Result ℕ LineReason
meant (Some n) = Ok n
meant None = Err reasons.UnknownWord

abbrev number_or : List ℕ → Result ℕ LineReason
number_or line = meant (number line)

first_fault : map (λ bytes. fault_from number_or 1 (lines (codes bytes))) ("7\n8" ∷ "a" ∷ "7\na\n8\nb" ∷ "7\n8\n9\na\n" ∷ [])
    ≡ None ∷ Some (record { line = 1; reason = reasons.UnknownWord })
    ∷ Some (record { line = 2; reason = reasons.UnknownWord })
    ∷ Some (record { line = 4; reason = reasons.UnknownWord }) ∷ []
unfolding fault_from
first_fault = refl
