-- Worked tables: the number and the name of each reason in its line, and the counts of a check, by computing.
use Rattle.std.proofs.Common.{◌≡◌, ℕ, List, [], ◌∷◌, codes, map, refl}
use Rattle.std.specs.Fmt.{digits}
use Rattle.cept_codes.specs.declared.item.Reason.{Reason}
use Rattle.cept_codes.specs.declared.item.Reason.TheVariants as reasons
use Rattle.cept_codes.specs.declared.line_reason.LineReason.{LineReason}
use Rattle.cept_codes.specs.declared.line_reason.LineReason.TheVariants as line_reasons
use Rattle.cept_report.specs.Text.{check_line, named_line_reason, named_reason}
use Rattle.cept_report.specs.Text.{refusal_line, script_fault_line}

-- places, lengths and reasons of refused items, each with its line
abbrev refused : List (ℕ × ℕ × Reason × List ℕ) → Type 0
refused rows =
    map (λ (row : ℕ × ℕ × Reason × List ℕ). refusal_line row.0 row.1 row.2) rows
    ≡ map (λ (row : ℕ × ℕ × Reason × List ℕ). row.3) rows

each_reason : refused (
    (0, 1, reasons.UnassignedControl, codes "! 0 1 1 UnassignedControl\n")
    ∷ (0, 5, reasons.UnknownEscape, codes "! 0 5 2 UnknownEscape\n")
    ∷ (0, 10, reasons.UnknownCsi, codes "! 0 10 3 UnknownCsi\n")
    ∷ (0, 2, reasons.UnknownUnit, codes "! 0 2 4 UnknownUnit\n")
    ∷ (6, 1, reasons.BadParameter, codes "! 6 1 5 BadParameter\n")
    ∷ (4, 1, reasons.Interrupted, codes "! 4 1 6 Interrupted\n")
    ∷ (16777215, 99, reasons.Truncated, codes "! 16777215 99 7 Truncated\n") ∷ [])
unfolding named_reason digits
each_reason = refl

-- numbers and reasons of lines that are outside the grammar, each with the line that says so
abbrev faulty : List (ℕ × LineReason × List ℕ) → Type 0
faulty rows =
    map (λ (row : ℕ × LineReason × List ℕ). script_fault_line row.0 row.1) rows
    ≡ map (λ (row : ℕ × LineReason × List ℕ). row.2) rows

each_reason_of_a_line : faulty (
    (1, line_reasons.UnknownWord, codes "script line 1: 1 UnknownWord\n")
    ∷ (2, line_reasons.WrongCount, codes "script line 2: 2 WrongCount\n")
    ∷ (2, line_reasons.BadNumber, codes "script line 2: 3 BadNumber\n")
    ∷ (9, line_reasons.BadText, codes "script line 9: 4 BadText\n")
    ∷ (10, line_reasons.BadHex, codes "script line 10: 5 BadHex\n")
    ∷ (1048576, line_reasons.BadBytes, codes "script line 1048576: 6 BadBytes\n") ∷ [])
unfolding named_line_reason digits
each_reason_of_a_line = refl

-- how many items there are, and how many of them are refused, with the line of a check
abbrev checked : List (ℕ × ℕ × List ℕ) → Type 0
checked rows =
    map (λ (row : ℕ × ℕ × List ℕ). check_line row.0 row.1) rows ≡ map (λ (row : ℕ × ℕ × List ℕ). row.2) rows

checks : checked (
    (2, 0, codes "items 2 refused 0\n")
    ∷ (3, 1, codes "items 3 refused 1\n")
    ∷ (0, 0, codes "items 0 refused 0\n")
    ∷ (16777216, 0, codes "items 16777216 refused 0\n") ∷ [])
unfolding digits
checks = refl
