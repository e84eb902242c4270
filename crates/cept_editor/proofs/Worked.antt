-- Worked cases of scripts, by computing: each word of the table, each reason, and lines.
use Rattle.std.proofs.Common.{◌≡◌, ℕ, true, false, List, [], ◌∷◌, ◌++◌, codes, map, Option, Some, None, Ok, Err, refl}
use Rattle.std.specs.Prelude.{Result}
use Rattle.cept_codes.specs.declared.command.Command.{Command}
use Rattle.cept_codes.specs.declared.line_reason.LineReason.{LineReason}
use Rattle.cept_codes.specs.declared.command.Command.TheVariants as commands
use Rattle.cept_codes.specs.declared.command.C1Set.TheVariants.{Serial, Parallel}
use Rattle.cept_codes.specs.declared.line_reason.LineReason.TheVariants as reasons
use Rattle.cept_editor.specs.Meaning.{Step, UndoRedo, Undo, Redo, Edit, hex_bytes, line_meaning}
use Rattle.cept_words.specs.Faults.{fault_from}
use Rattle.cept_editor.specs.Script.{edits, first_fault, edits_from}
use Rattle.cept_editor.specs.Table.{row_of}

-- ---- each word

-- lines, each with what it means
abbrev mean : List (List ℕ × Result (Option Step) LineReason) → Type 0
mean cases =
    map (λ (c : List ℕ × Result (Option Step) LineReason). line_meaning c.0) cases
    ≡ map (λ (c : List ℕ × Result (Option Step) LineReason). c.1) cases

-- an edit of one command
abbrev one : Command → Result (Option Step) LineReason
one command = Ok (Some (Edit (command ∷ [])))

each_word : mean (
    (codes "at 1 40", one (commands.Position 1 40))
    ∷ (codes "text A", Ok (Some (Edit (commands.LockLeft 0 ∷ commands.Graphic 0x41 ∷ []))))
    ∷ (codes "serial", one (commands.DesignateC1 Serial))
    ∷ (codes "parallel", one (commands.DesignateC1 Parallel))
    ∷ (codes "c1 31", one (commands.C1 31))
    ∷ (codes "row 12", one (commands.FullRow 12))
    ∷ (codes "screen 16", one (commands.FullScreen 16))
    ∷ (codes "table 3", one (commands.Table 3))
    ∷ (codes "colour 9 0 15 07", one (commands.Entry 9 (record { r = 0; g = 15; b = 7 })))
    ∷ (codes "repeat 63", one (commands.Repeat 63))
    ∷ (codes "erase", one commands.Cancel)
    ∷ (codes "clear", one commands.Clear)
    ∷ (codes "home", one commands.Home)
    ∷ (codes "return", one commands.Return)
    ∷ (codes "back", one commands.Back)
    ∷ (codes "forward", one commands.Forward)
    ∷ (codes "down", one commands.Down)
    ∷ (codes "up", one commands.Up)
    ∷ (codes "protect", one (commands.Protect true))
    ∷ (codes "unprotect", one (commands.Protect false))
    ∷ (codes "area 2 24", one (commands.AreaCreate 2 24))
    ∷ (codes "noarea 3 3", one (commands.AreaDelete 3 3))
    ∷ (codes "scrollup", one commands.ScrollUp)
    ∷ (codes "scrolldown", one commands.ScrollDown)
    ∷ (codes "implicit", one (commands.Implicit true))
    ∷ (codes "explicit", one (commands.Implicit false))
    ∷ (codes "revision 2", one (commands.Revision 2))
    ∷ (codes "undo", Ok (Some (UndoRedo Undo)))
    ∷ (codes "redo", Ok (Some (UndoRedo Redo)))
    ∷ ([], Ok None)
    ∷ (codes "# up", Ok None) ∷ [])
unfolding line_meaning row_of
each_word = refl

-- ---- each reason

each_reason : mean (
    (codes "Redo", Err reasons.UnknownWord)
    ∷ (codes "redo x", Err reasons.WrongCount)
    ∷ (codes " up", Err reasons.UnknownWord)
    ∷ (codes "UP", Err reasons.UnknownWord)
    ∷ (codes "up 1", Err reasons.WrongCount)
    ∷ (codes "up ", Err reasons.WrongCount)
    ∷ (codes "at  1 1", Err reasons.WrongCount)
    ∷ (codes "at x", Err reasons.WrongCount)
    ∷ (codes "text", Err reasons.WrongCount)
    ∷ (codes "text ", Err reasons.WrongCount)
    ∷ (codes "raw", Err reasons.WrongCount)
    ∷ (codes "at 0 1", Err reasons.BadNumber)
    ∷ (codes "at 1 41", Err reasons.BadNumber)
    ∷ (codes "at 1 001", Err reasons.BadNumber)
    ∷ (codes "c1 27", Err reasons.BadNumber)
    ∷ (codes "c1 ", Err reasons.BadNumber)
    ∷ (codes "row 32", Err reasons.BadNumber)
    ∷ (codes "screen 12", Err reasons.BadNumber)
    ∷ (codes "table 4", Err reasons.BadNumber)
    ∷ (codes "colour 32 0 0 0", Err reasons.BadNumber)
    ∷ (codes "repeat 64", Err reasons.BadNumber)
    ∷ (codes "revision 0", Err reasons.BadNumber)
    ∷ (codes "revision 3", Err reasons.BadNumber)
    ∷ (codes "revision", Err reasons.WrongCount)
    ∷ (codes "area 3 2", Err reasons.BadNumber)
    ∷ (codes "area 1 25", Err reasons.BadNumber)
    ∷ (codes "raw ", Err reasons.BadHex)
    ∷ (codes "raw 4", Err reasons.BadHex)
    ∷ (codes "raw 4g", Err reasons.BadHex)
    ∷ (codes "text A" ++ 0x7F ∷ [], Err reasons.BadText)
    ∷ (codes "up" ++ 0x0D ∷ [], Err reasons.UnknownWord) ∷ [])
unfolding line_meaning row_of hex_bytes
each_reason = refl

-- ---- lines

-- a comment, an edit, an empty line and undo
abbrev script : List ℕ
script = codes "# a" ++ 0x0A ∷ codes "up" ++ 0x0A ∷ 0x0A ∷ codes "undo"

edits-of_script : edits script
    ≡ record { line = 2; step = Edit (commands.Up ∷ []) } ∷ record { line = 4; step = UndoRedo Undo } ∷ []
unfolding line_meaning row_of edits_from
edits-of_script = refl

no_fault-of_script : first_fault script ≡ None
unfolding line_meaning row_of fault_from
no_fault-of_script = refl

first_fault-of_two : first_fault (codes "#" ++ 0x0A ∷ codes "at 25" ++ 0x0A ∷ codes "redo")
    ≡ Some (record { line = 2; reason = reasons.WrongCount })
unfolding line_meaning row_of fault_from
first_fault-of_two = refl
