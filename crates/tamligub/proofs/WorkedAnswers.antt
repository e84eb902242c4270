-- Worked tables of what calls on a decoder answer, by computing.
use Rattle.std.proofs.Common.{◌≡◌, ℕ, List, [], ◌∷◌, map, refl, arith}
use Rattle.cept_codes.specs.declared.line_reason.LineReason.TheVariants as reasons
use Rattle.cept_live.specs.declared.lines.Lined.{Lined}
use Rattle.cept_live.specs.declared.lines.Lined.TheVariants as answers
use Rattle.tamligub.specs.Decoders.{AnswersText}
use Rattle.tamligub.specs.EditLines.{fault_number, line_answer, line_fault, line_notices}

-- an unknown word; a wrong count; a bad number; a bad text; bad digits; bytes that are no commands
faults : map fault_number (reasons.UnknownWord ∷ reasons.WrongCount ∷ reasons.BadNumber ∷ reasons.BadText ∷ reasons.BadHex
    ∷ reasons.BadBytes ∷ []) ≡ 1 ∷ 2 ∷ 3 ∷ 4 ∷ 5 ∷ 6 ∷ []
faults = refl

abbrev each_answer : List Lined
each_answer = answers.Made 7 ∷ answers.Early ∷ answers.Nothing ∷ answers.Bad reasons.BadHex ∷ answers.NoMemory ∷ answers.TooLong ∷ []

lines_answer : map line_answer each_answer ≡ 0 ∷ 1 ∷ 2 ∷ 3 ∷ 6 ∷ 7 ∷ []
lines_answer = refl

lines_count : map line_notices each_answer ≡ 7 ∷ 0 ∷ 0 ∷ 0 ∷ 0 ∷ 0 ∷ []
lines_count = refl

lines_give_reasons : map line_fault each_answer ≡ 0 ∷ 0 ∷ 0 ∷ 5 ∷ 0 ∷ 0 ∷ []
lines_give_reasons = refl

-- 5 isn't answered where there is room
room_is_found : (put : ℕ) (new : List ℕ) → AnswersText (0x41 ∷ []) (0 ∷ 0 ∷ []) new put 5 → ⊥
room_is_found put new answered = omega (arith, answered.longer refl)
