-- Commands of drawings, worked.
use Rattle.std.proofs.Common.{◌≡◌, ℕ, ◌==◌, ◌&&◌, Bool, true, false, None, [], ◌∷◌, refl}
use Rattle.std.specs.Prelude.{nat_lt, if◌then◌else◌}
use Rattle.cept_codes.specs.declared.cell.Cell.{Cell}
use Rattle.cept_codes.specs.declared.cell.What.TheVariants as whats
use Rattle.cept_codes.specs.declared.command.C1Set.TheVariants as c1sets
use Rattle.cept_codes.specs.declared.command.Command.TheVariants as commands
use Rattle.cept_codes.specs.declared.glyph.SetId.TheVariants as sets
use Rattle.cept_codes.specs.Cell.{blank_cell}
use Rattle.cept_codes.specs.Table.{row_of, table}
use Rattle.cept_profile.specs.Sets.{sign}
use Rattle.cept_profile.specs.State.{Core, blank_page}
use Rattle.cept_plot.specs.Commands.{cells_commands, code_of_value, drawn, value_of_points}
use Rattle.cept_plot.proofs.CommandsInTurn.{numbered_cell_commands}

-- four points from the left in the second row of points
abbrev points : ℕ → ℕ → Bool
points x y = nat_lt x 4 && (y == 1)

-- the values of the six points, from the top left to the bottom right
top : value_of_points (λ x y. (x == 2) && (y == 3)) 2 2 ≡ 1
top = refl

top_right : value_of_points (λ x y. (x == 3) && (y == 3)) 2 2 ≡ 2
top_right = refl

middle : value_of_points points 1 1 ≡ 12
middle = refl

bottom : value_of_points (λ x y. y == 5) 2 2 ≡ 48
bottom = refl

whole : value_of_points (λ x y. true) 24 40 ≡ 63
whole = refl

-- the codes: those above 3/15 go on from 6/0
codes_of_values : code_of_value 31 ∷ code_of_value 32 ∷ code_of_value 63 ∷ [] ≡ 0x3F ∷ 0x60 ∷ 0x7F ∷ []
codes_of_values = refl

-- on a blank page the cells with points are written, and no other
abbrev blank : Core
blank = record { page = blank_page; rows = 24; wrap = true; area = None; implicit = false; revision = 1 }

all : drawn blank points ≡ commands.ControlDefaults c1sets.Parallel ∷ commands.Implicit false
    ∷ commands.Position 1 1 ∷ commands.LockLeft 1 ∷ commands.Graphic 0x2C ∷ commands.LockLeft 0
    ∷ commands.Position 1 2 ∷ commands.LockLeft 1 ∷ commands.Graphic 0x2C ∷ commands.LockLeft 0
    ∷ commands.Implicit false ∷ []
unfolding cells_commands table row_of
all = refl

-- on a page with mosaics one whose points are taken away is written as a space, and one that stays isn't written
abbrev mosaic : Bool → Cell
mosaic protected = record { what = whats.Serial (sign sets.M 0x2C); protected = protected }

abbrev with_cells : (ℕ → ℕ → Cell) → Core
with_cells f = record blank { page = record blank_page { cells = table f } }

fewer : cells_commands (with_cells (λ r c. if nat_lt c 3 then mosaic false else blank_cell))
    (λ x y. nat_lt x 2 && (y == 1)) 4 ≡ commands.Position 1 2 ∷ commands.Graphic 0x20 ∷ []
unfolding cells_commands table row_of
fewer = refl

-- a protected cell isn't written
shielded : cells_commands (with_cells (λ r c. mosaic (c == 2))) (λ x y. false) 3
    ≡ commands.Position 1 1 ∷ commands.Graphic 0x20 ∷ commands.Position 1 3 ∷ commands.Graphic 0x20 ∷ []
unfolding cells_commands table row_of
shielded = refl

-- nor one past the format
past : numbered_cell_commands (record blank { rows = 20 }) (λ x y. true) 800 ≡ []
unfolding table row_of
past = refl
