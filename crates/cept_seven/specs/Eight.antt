-- The bytes of a seven-bit form back in eight bits (this project's own): each byte by looking back.
use Rattle.std.specs.Prelude.{◌≡◌, ℕ, ◌+◌, ◌-◌, Bool, false, not, ◌&&◌, ◌||◌, List, [], ◌∷◌, ◌++◌, reverse}
use Rattle.std.specs.Prelude.{if◌then◌else◌, ◌==◌, nat_lt, nat_le}
use Rattle.cept_parser.specs.Bytes.{is_between, is_plain}
use Rattle.cept_seven.specs.Seven.{is_quotable}
use Rattle.cept_seven.specs.declared.from_seven.Heard.{Heard}
use Rattle.cept_seven.specs.declared.from_seven.Heard.TheVariants.{Byte, Silent, Refused}

-- of bytes, the last one first: the last below 2/0 is SO
unfoldable pub is_shifted : List ℕ → Bool
is_shifted [] = false
is_shifted (a ∷ h) = if nat_lt a 0x20 then a == 0x0E else is_shifted h

-- the last one is DLE
abbrev pub is_quoted : List ℕ → Bool
is_quoted [] = false
is_quoted (a ∷ h) = a == 0x10

-- how a byte is read: as one of the right half where it is plain, and as a quoted one
pub record ShiftState : Type 0 where
  pub shifted : Bool
  pub quoted : Bool

-- how a byte is read after these, the last one first
abbrev pub state_after : List ℕ → ShiftState
state_after h = record { shifted = is_shifted h; quoted = is_quoted h }

-- how the next byte is read after one byte more
abbrev pub state_with : ShiftState → ℕ → ShiftState
state_with t a = record { shifted = (if nat_lt a 0x20 then a == 0x0E else t.shifted); quoted = a == 0x10 }

-- no seven-bit form has the byte there: it has eight bits, or is quoted and stands for none of SO, SI and DLE
abbrev pub is_refused : ShiftState → ℕ → Bool
is_refused t a = nat_le 0x80 a || (t.quoted && not (is_between 0x4E 0x50 a))

-- what a byte gives
abbrev pub heard : ShiftState → ℕ → Heard
heard t a =
    if is_refused t a then Refused else
    if is_quotable a then Silent else
    if t.quoted then Byte (a - 0x40) else
    if is_plain a && t.shifted then Byte (a + 0x80) else
    Byte a

-- the bytes that are given
abbrev pub bytes_heard : Heard → List ℕ
bytes_heard (Byte a) = a ∷ []
bytes_heard Silent = []
bytes_heard Refused = []

-- bytes in eight bits, after these, the last one first
unfoldable pub eight_after : List ℕ → List ℕ → List ℕ
eight_after h [] = []
eight_after h (a ∷ s) = bytes_heard (heard (state_after h) a) ++ eight_after (a ∷ h) s

-- bytes in eight bits, of which none is refused
abbrev pub eight : List ℕ → List ℕ
eight s = eight_after [] s

-- the longest front of bytes in which none is refused, after those, the last one first
unfoldable pub accepted_after : List ℕ → List ℕ → List ℕ
accepted_after h [] = []
accepted_after h (a ∷ s) = if is_refused (state_after h) a then [] else a ∷ accepted_after (a ∷ h) s

-- the longest front in which no byte is refused
abbrev pub accepted : List ℕ → List ℕ
accepted s = accepted_after [] s

-- no byte is refused
abbrev pub AreAccepted : List ℕ → Type 0
AreAccepted s = accepted s ≡ s

-- bytes lead to a state: none is refused, and the next one is read so
pub record Leads (s : List ℕ) (t : ShiftState) : Type 0 where
  pub accepted : AreAccepted s
  pub state : t ≡ state_after (reverse s)
