-- Classes of bytes, and the small forms of which the units are made (the classes are this profile's own). Codes are
-- written column/row, as in the standards.
use Rattle.std.specs.Prelude.{ℕ, zero, suc, ◌+◌, ◌-◌, ◌*◌, Bool, true, false, List, [], ◌∷◌, if◌then◌else◌, ◌==◌}
use Rattle.std.specs.List.{list_any}
use Rattle.cept_codes.specs.declared.item.Reason.TheVariants.{Interrupted}
use Rattle.cept_codes.specs.declared.item.Said.{Said}
use Rattle.cept_codes.specs.declared.item.Said.TheVariants.{Refused}
pub use Rattle.cept_drcs.specs.Bytes.{is_between}
use Rattle.cept_parser.specs.declared.context.Mode.{Mode}
use Rattle.cept_parser.specs.declared.context.Mode.TheVariants.{Text}
use Rattle.cept_parser.specs.declared.context.Context.{Context}
use Rattle.cept_parser.specs.declared.context.Outcome.{Outcome}
use Rattle.cept_parser.specs.declared.fit.Fit.{Fit}
use Rattle.cept_parser.specs.declared.fit.Fit.TheVariants.{Misfit, Open, Whole, Longer}

-- a plain byte: 2/0 to 7/15
abbrev pub is_plain : ℕ → Bool
is_plain a = is_between 0x20 0x7F a

-- a digit: 3/0 to 3/9
abbrev pub is_digit : ℕ → Bool
is_digit a = is_between 0x30 0x39 a

-- the number of two digits
abbrev pub two_digits : ℕ → ℕ → ℕ
two_digits a b = 10 * (a - 0x30) + (b - 0x30)

-- the number of a digit
abbrev pub digit : ℕ → ℕ
digit a = a - 0x30

-- a row: 4/1 to 5/8 for 1 to 24
abbrev pub is_row : ℕ → Bool
is_row r = is_between 0x41 0x58 r

-- there are no bytes
abbrev pub is_empty : List ℕ → Bool
is_empty [] = true
is_empty (a ∷ u) = false

-- the byte is among these
abbrev pub contains : List ℕ → ℕ → Bool
contains bs a = list_any (λ b. b == a) bs

-- what is said, with the context in this mode after it
abbrev pub outcome : Context → Mode → Said → Outcome
outcome x m said = record { said = said; next = record x { mode = m } }

-- ---- how bytes stand to the grammar

-- something begins with them, or is they
abbrev pub is_fit : Fit → Bool
is_fit Misfit = false
is_fit _ = true

-- they are a whole unit or refused shape
abbrev pub is_whole : Fit → Bool
is_whole Whole = true
is_whole Longer = true
is_whole _ = false

-- they are, and a longer one begins with them
abbrev pub is_longer : Fit → Bool
is_longer Longer = true
is_longer _ = false

-- how bytes stand to the grammar, and what whole ones say, with the context after them. Of others nobody reads it
pub record Standing : Type 0 where
  pub fit : Fit
  pub outcome : Outcome

-- how each list of bytes stands
abbrev pub Table : Type 0
Table = List ℕ → Standing

-- bytes that aren't whole
abbrev pub unsaid : Context → Fit → Standing
unsaid x w = record { fit = w; outcome = outcome x Text (Refused Interrupted) }

-- how bytes stand that are complete without these: whole, if there are none
abbrev pub end : List ℕ → Fit
end [] = Whole
end (a ∷ u) = Misfit

-- a unit or refused shape that is complete
abbrev pub complete : Outcome → Table
complete o u = record { fit = end u; outcome = o }

-- a plain byte, and then bytes that stand as it tells
abbrev pub then_plain : Context → (ℕ → Table) → Table
then_plain x k [] = unsaid x Open
then_plain x k (c ∷ u) = if is_plain c then k c u else unsaid x Misfit

-- a sequence: at most n plain bytes below `final`, and one from there to 7/15, or one byte too many
abbrev pub sequence : ℕ → ℕ → List ℕ → Fit
sequence final n [] = Open
sequence final zero (a ∷ u) = if is_plain a then end u else Misfit
sequence final (suc n) (a ∷ u) =
    if is_between final 0x7F a then end u else
    if is_plain a then sequence final n u else
    Misfit

-- the same, or the beginning of it
unfoldable pub begins_sequence : ℕ → ℕ → List ℕ → Bool
begins_sequence final n u = is_fit (sequence final n u)

-- a whole sequence
unfoldable pub is_sequence : ℕ → ℕ → List ℕ → Bool
is_sequence final n u = is_whole (sequence final n u)

-- optional parts in their order: each byte is of a later part than the one before. A part is the list of its bytes
abbrev pub optional : List (List ℕ) → List ℕ → Fit
optional [] u = end u
optional (p ∷ parts) [] = Longer
optional (p ∷ parts) (a ∷ u) = if contains p a then optional parts u else optional parts (a ∷ u)

-- bytes that stand as the first tells, and say what the second tells
abbrev pub saying : (List ℕ → Fit) → (List ℕ → Outcome) → Table
saying w k u = record { fit = w u; outcome = k u }
