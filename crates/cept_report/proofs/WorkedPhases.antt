-- Worked cases: the lines of a screen that flashes, with the number of each turn, by computing.
use Rattle.std.proofs.Common.{◌≡◌, List, ◌++◌, codes, refl}
use Rattle.std.specs.Prelude.{◌==◌, ◌&&◌, if◌then◌else◌}
use Rattle.std.specs.Fmt.{digits}
use Rattle.cept_codes.specs.declared.attribute.Flash.{Flash}
use Rattle.cept_codes.specs.declared.attribute.Flash.TheVariants.{Plain, Reduced}
use Rattle.cept_codes.specs.declared.glyph.SetId.TheVariants.{P}
use Rattle.cept_codes.specs.declared.look.Look.{Look}
use Rattle.cept_codes.specs.declared.look.Shape.TheVariants.{Char}
use Rattle.cept_codes.specs.Look.{blank_look}
use Rattle.cept_codes.specs.Table.{row_of, table}
use Rattle.cept_flash.specs.Phases.{frame}
use Rattle.cept_profile.specs.Changes.{differences, marked_looks}
use Rattle.cept_report.specs.Phases.{phase_lines, turn_lines}
use Rattle.cept_report.specs.Text.{change_lines, shape_text}

-- a white A that flashes so
abbrev letter : Flash → Look
letter way = record blank_look { shape = Char (record { set = P; code = 0x41; accent = 0 }); flash = way }

-- a plain one at the first place, and one of reduced intensity at the last
abbrev two : List (List Look)
two = table (λ r c.
    if (r == 1) && (c == 1) then letter Plain else if (r == 24) && (c == 40) then letter Reduced else blank_look)

-- the start has the number 0, and of the first three turns the third alone changes something
through_three_turns : phase_lines two 3
    ≡ codes "0 1 1 P41 11.00 FFF 000 S---\n" ++ codes "0 24 40 P41 11.00 FFF 000 S---\n"
    ++ codes "3 1 1 - 11.00 FFF 000 S---\n" ++ codes "3 24 40 P41 11.00 777 000 S---\n"
unfolding phase_lines turn_lines change_lines shape_text digits table row_of differences marked_looks frame
through_three_turns = refl

-- the sixth turn leads to the first phase again
turn_six : turn_lines two 6
    ≡ codes "6 1 1 P41 11.00 FFF 000 S---\n" ++ codes "6 24 40 P41 11.00 FFF 000 S---\n"
unfolding turn_lines change_lines shape_text digits table row_of differences marked_looks frame
turn_six = refl
