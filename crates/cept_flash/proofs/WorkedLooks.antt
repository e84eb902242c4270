-- Worked tables: which looks are seen flashing, and what a grid changes from phase to phase, by computing.
use Rattle.std.proofs.Common.{◌≡◌, ℕ, List, [], ◌∷◌, map, replicate, Bool, true, false, refl}
use Rattle.std.specs.Prelude.{◌==◌, if◌then◌else◌}
use Rattle.cept_codes.specs.declared.attribute.Flash.{Flash}
use Rattle.cept_codes.specs.declared.attribute.Flash.TheVariants.{Fast1, Fast2, Fast3, Inverted, Plain, Reduced, Steady}
use Rattle.cept_codes.specs.declared.glyph.SetId.TheVariants.{P}
use Rattle.cept_codes.specs.declared.look.Look.{Look}
use Rattle.cept_codes.specs.declared.look.Paint.{Paint}
use Rattle.cept_codes.specs.declared.look.Paint.TheVariants.{Ink, Video}
use Rattle.cept_codes.specs.declared.look.Shape.{Shape}
use Rattle.cept_codes.specs.declared.look.Shape.TheVariants.{Char, Drcs, Space}
use Rattle.cept_codes.specs.Look.{black_paint, blank_look}
use Rattle.cept_codes.specs.Place.{Place}
use Rattle.cept_codes.specs.Table.{row_of, table}
use Rattle.cept_profile.specs.Changes.{changes_between, differences, marked_looks}
use Rattle.cept_flash.specs.Phases.{frame, look_at_phase, next_phase}
use Rattle.cept_flash.specs.SeenFlashing.{flashes_seen}

-- ---- which looks aren't the same at all phases

-- red, green and blue
abbrev rgb : ℕ → ℕ → ℕ → Paint
rgb red green blue = Ink (record { r = red; g = green; b = blue })

-- an A, and a pattern with the inks black, red, white and the picture behind
abbrev letter : Shape
letter = Char (record { set = P; code = 0x41; accent = 0 })

abbrev pattern : Shape
pattern = Drcs (record { w = 6; h = 6; planes = 2; bits = 0xFFFFFFFFF ∷ replicate 8 0 })
    (record { count = 4; paints = black_paint ∷ rgb 15 0 0 ∷ rgb 15 15 15 ∷ Video ∷ replicate 12 black_paint })

-- a look that flashes so, with this shape and this foreground, with and without a line
abbrev plain : Flash → Shape → Paint → Look
plain way shape fore = record blank_look { flash = way; shape = shape; fore = fore }

abbrev lined : Flash → Shape → Paint → Look
lined way shape fore = record (plain way shape fore) { lined = true }

-- it isn't the same at all phases
abbrev yes : Bool
yes = true

-- it is
abbrev no : Bool
no = false

-- looks, each with whether it isn't the same at all phases
abbrev flash : List (Look × Bool) → Type 0
flash rows = map (λ (row : Look × Bool). flashes_seen row.0) rows ≡ map (λ (row : Look × Bool). row.1) rows

-- whatever goes away: a sign, a pattern or a line
going_away : flash (
    (lined Steady letter (rgb 15 15 15), no)
    ∷ (plain Plain letter (rgb 15 15 15), yes) ∷ (plain Plain Space (rgb 15 15 15), no)
    ∷ (lined Plain Space (rgb 15 15 15), yes) ∷ (plain Plain pattern (rgb 15 15 15), yes)
    ∷ (plain Inverted letter (rgb 15 15 15), yes) ∷ (plain Inverted Space (rgb 15 15 15), no)
    ∷ (lined Inverted Space (rgb 15 15 15), yes) ∷ (plain Inverted pattern (rgb 15 15 15), yes)
    ∷ (plain Fast1 letter (rgb 15 15 15), yes) ∷ (plain Fast1 Space (rgb 15 15 15), no)
    ∷ (lined Fast1 Space (rgb 15 15 15), yes) ∷ (plain Fast1 pattern (rgb 15 15 15), yes)
    ∷ (plain Fast2 letter (rgb 15 15 15), yes) ∷ (plain Fast2 Space (rgb 15 15 15), no)
    ∷ (lined Fast2 Space (rgb 15 15 15), yes) ∷ (plain Fast2 pattern (rgb 15 15 15), yes)
    ∷ (plain Fast3 letter (rgb 15 15 15), yes) ∷ (plain Fast3 Space (rgb 15 15 15), no)
    ∷ (lined Fast3 Space (rgb 15 15 15), yes) ∷ (plain Fast3 pattern (rgb 15 15 15), yes)
    ∷ (plain Plain letter (rgb 0 0 0), yes) ∷ (plain Plain letter Video, yes) ∷ [])
going_away = refl

-- of reduced intensity whatever foreground has any: also under a space, and not the black one and the picture behind
growing_dim : flash (
    (plain Reduced letter (rgb 15 15 15), yes) ∷ (plain Reduced Space (rgb 15 15 15), yes)
    ∷ (plain Reduced pattern (rgb 15 15 15), yes) ∷ (plain Reduced letter (rgb 1 0 0), yes)
    ∷ (plain Reduced letter (rgb 0 1 0), yes) ∷ (plain Reduced letter (rgb 0 0 1), yes)
    ∷ (lined Reduced letter (rgb 0 0 0), no) ∷ (lined Reduced letter Video, no) ∷ [])
growing_dim = refl

-- the inks of a pattern stay as they are
inks_stay : map (look_at_phase (plain Reduced pattern (rgb 9 6 3))) (2 ∷ 3 ∷ [])
    ≡ plain Steady pattern (rgb 9 6 3) ∷ plain Steady pattern (rgb 4 3 1) ∷ []
inks_stay = refl

-- ---- a grid

-- a white A that flashes so
abbrev white : Flash → Look
white way = plain way letter (rgb 15 15 15)

-- seven such signs, one of each flash, at the edges and in the midst, and all else blank
abbrev seven : List (List Look)
seven = table (λ r c.
    if r == 1 then (if c == 1 then white Plain else if c == 40 then white Fast1 else blank_look) else
    if r == 12 then (if c == 20 then white Steady else if c == 21 then white Fast2 else blank_look) else
    if r == 20 then (if c == 40 then white Fast3 else blank_look) else
    if r == 24 then (if c == 1 then white Reduced else if c == 40 then white Inverted else blank_look) else
    blank_look)

-- a place with a steady A, the same at half its intensity, and a blank one
abbrev shown : ℕ → ℕ → Place × Look
shown r c = (record { row = r; column = c }, white Steady)

abbrev dim : ℕ → ℕ → Place × Look
dim r c = (record { row = r; column = c }, plain Steady letter (rgb 7 7 7))

abbrev gone : ℕ → ℕ → Place × Look
gone r c = (record { row = r; column = c }, blank_look)

-- the places that aren't blank at phase 0
at_the_start : changes_between (table (λ _ _. blank_look)) (frame seven 0)
    ≡ shown 1 1 ∷ shown 1 40 ∷ shown 12 20 ∷ shown 24 1 ∷ []
unfolding table row_of differences marked_looks frame
at_the_start = refl

-- those that the turn from phase 2 to 3 changes, and the one from 5 to 0
at_turns : map (λ k. changes_between (frame seven k) (frame seven (next_phase k))) (2 ∷ 5 ∷ [])
    ≡ (gone 1 1 ∷ dim 24 1 ∷ shown 24 40 ∷ [])
    ∷ (shown 1 1 ∷ shown 1 40 ∷ gone 20 40 ∷ shown 24 1 ∷ gone 24 40 ∷ []) ∷ []
unfolding table row_of differences marked_looks frame
at_turns = refl
