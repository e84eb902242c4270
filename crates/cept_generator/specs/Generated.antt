-- The generated page of a number (this project's own): the head of a page and 20,000 units, each of one of eight kinds,
-- drawn from a state that starts as the number. Codes are written in hexadecimal, what is drawn in decimal.
use Rattle.std.specs.Prelude.{ℕ, zero, suc, ◌+◌, ◌*◌, ◌/◌, ◌%◌, ◌^◌, Bool, List, [], ◌∷◌, ◌++◌, if◌then◌else◌, ◌==◌}
use Rattle.cept_codes.specs.declared.command.C1Set.TheVariants.{Parallel}
use Rattle.cept_codes.specs.declared.command.Command.{Command}
use Rattle.cept_codes.specs.declared.command.Command.TheVariants as command
use Rattle.cept_parser.specs.Runs.{colour}

-- ---- draws

-- the state after a draw
unfoldable pub state_after : ℕ → ℕ
state_after s = (s * 1664525 + 1013904223) % 2 ^ 32

-- the state after so many draws
abbrev pub state_after_draws : ℕ → ℕ → ℕ
state_after_draws zero s = s
state_after_draws (suc k) s = state_after (state_after_draws k s)

-- what a draw answers that leaves this state, of the numbers below n
abbrev pub answer : ℕ → ℕ → ℕ
answer n s = s / 65536 % n

-- what the k-th draw from state s on answers, of the numbers below n
abbrev pub draw : ℕ → ℕ → ℕ → ℕ
draw s k n = answer n (state_after_draws k s)

-- ---- units

-- the kind of the unit that is drawn from this state on: the first draw
abbrev pub kind : ℕ → ℕ
kind s = draw s 1 8

-- how many draws a unit of a kind has, the first of which is its kind
abbrev pub draws_of : ℕ → ℕ
draws_of k =
    if k == 0 then 3 else
    if k == 1 then 5 else
    if k == 6 then 4 else
    if k == 7 then 1 else
    2

-- the state after the unit
abbrev pub state_after_unit : ℕ → ℕ
state_after_unit s = state_after_draws (draws_of (kind s)) s

-- the bytes that define a colour entry: its two digits, and its colour in two bytes. 0F ends the colours
abbrev pub colour_bytes : ℕ → ℕ → ℕ → List ℕ
colour_bytes e a b =
    0x1F ∷ 0x26 ∷ (0x30 + e / 10) ∷ (0x30 + e % 10) ∷ (0x40 + a) ∷ (0x40 + b) ∷ 0x0F ∷ []

-- the bytes of the unit that is drawn from this state on, a line for each kind
unfoldable pub unit_bytes : ℕ → List ℕ
unit_bytes s =
    if kind s == 0 then 0x1F ∷ (0x41 + draw s 2 24) ∷ (0x41 + draw s 3 40) ∷ [] else
    if kind s == 1 then
    (0x41 + draw s 2 26) ∷ (0x41 + draw s 3 26) ∷ (0x41 + draw s 4 26) ∷ (0x41 + draw s 5 26) ∷ [] else
    if kind s == 2 then (0x80 + draw s 2 8) ∷ [] else
    if kind s == 3 then (0x90 + draw s 2 8) ∷ [] else
    if kind s == 4 then (0x8C + draw s 2 4) ∷ [] else
    if kind s == 5 then 0x12 ∷ (0x40 + draw s 2 64) ∷ [] else
    if kind s == 6 then colour_bytes (16 + draw s 2 8) (draw s 3 64) (draw s 4 64) else
    0x18 ∷ []

-- the commands of the bytes that define a colour entry: colours begin at it, it is defined, and G0 is locked to the left
abbrev pub colour_commands : ℕ → ℕ → ℕ → List Command
colour_commands e a b =
    command.ColourStart e ∷ command.Entry e (colour (0x40 + a) (0x40 + b)) ∷ command.LockLeft 0 ∷ []

-- the commands of the unit that is drawn from this state on: a position, four letters, the colour of the signs, that of
-- the mosaics, a size, a repetition, a colour entry defined and the set G0 locked, or the rest of the row erased
unfoldable pub unit_commands : ℕ → List Command
unit_commands s =
    if kind s == 0 then command.Position (1 + draw s 2 24) (1 + draw s 3 40) ∷ [] else
    if kind s == 1 then
    command.Graphic (0x41 + draw s 2 26) ∷ command.Graphic (0x41 + draw s 3 26) ∷ command.Graphic (0x41 + draw s 4 26)
    ∷ command.Graphic (0x41 + draw s 5 26) ∷ [] else
    if kind s == 2 then command.C1 (draw s 2 8) ∷ [] else
    if kind s == 3 then command.C1 (0x10 + draw s 2 8) ∷ [] else
    if kind s == 4 then command.C1 (0x0C + draw s 2 4) ∷ [] else
    if kind s == 5 then command.Repeat (draw s 2 64) ∷ [] else
    if kind s == 6 then colour_commands (16 + draw s 2 8) (draw s 3 64) (draw s 4 64) else
    command.Cancel ∷ []

-- ---- the page

-- the bytes of so many units, each drawn from the state that the one before it leaves
unfoldable pub bytes_of_units : ℕ → ℕ → List ℕ
bytes_of_units zero s = []
bytes_of_units (suc n) s = unit_bytes s ++ bytes_of_units n (state_after_unit s)

-- the commands of so many units
unfoldable pub commands_of_units : ℕ → ℕ → List Command
commands_of_units zero s = []
commands_of_units (suc n) s = unit_commands s ++ commands_of_units n (state_after_unit s)

-- the bytes of the head: full defaults with the parallel set
abbrev pub head_bytes : List ℕ
head_bytes = 0x1F ∷ 0x2F ∷ 0x42 ∷ []

-- the bytes of the generated page of a number
unfoldable pub generated : ℕ → List ℕ
generated number = head_bytes ++ bytes_of_units 20000 number

-- its commands
unfoldable pub generated_commands : ℕ → List Command
generated_commands number = command.FullDefaults Parallel ∷ commands_of_units 20000 number

-- ---- what is left of a page

-- the bytes after a part of the page was taken: the head where it wasn't, and so many units from a state on
unfoldable pub bytes_left : Bool → ℕ → ℕ → List ℕ
bytes_left begun n s = (if begun then [] else head_bytes) ++ bytes_of_units n s
