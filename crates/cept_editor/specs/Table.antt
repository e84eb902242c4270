-- The words with which lines of a script begin (this project's own): how many words follow, their ranges, and the
-- commands.
use Rattle.std.specs.Prelude.{ℕ, Bool, true, false, not, ◌&&◌, List, Option, Some, None, codes, nat_le, ◌==◌}
use Rattle.std.specs.Prelude.{if◌then◌else◌, bytes_eq}
use Rattle.cept_codes.specs.declared.command.Command.{Command}
use Rattle.cept_codes.specs.declared.command.Command.TheVariants as commands
use Rattle.cept_codes.specs.declared.command.C1Set.TheVariants.{Serial, Parallel}
use Rattle.cept_parser.specs.Bytes.{is_between}
use Rattle.cept_editor.specs.declared.undo_redo.UndoRedo.{UndoRedo as UndoRedoKind}
use Rattle.cept_editor.specs.declared.undo_redo.UndoRedo.TheVariants.{Undo, Redo}

-- what a word asks of its line: no word more, one, two or four numbers in range, a text, hexadecimal digits, undo or redo
pub data Row : Type 0 where
  Alone : Command → Row
  One : (ℕ → Bool) → (ℕ → Command) → Row
  Two : (ℕ → ℕ → Bool) → (ℕ → ℕ → Command) → Row
  Four : (ℕ → ℕ → ℕ → ℕ → Bool) → (ℕ → ℕ → ℕ → ℕ → Command) → Row
  Text : Row
  Raw : Row
  UndoRedo : UndoRedoKind → Row

-- a row and a column of the screen
abbrev pub is_place : ℕ → ℕ → Bool
is_place row column = is_between 1 24 row && is_between 1 40 column

-- a C1 code counted from 8/0, without 9/11
abbrev pub is_c1 : ℕ → Bool
is_c1 n = is_between 0 31 n && not (n == 27)

-- a C1 code that may stand for the whole screen: the sizes 8/12 to 8/15 may not
abbrev pub is_screen_c1 : ℕ → Bool
is_screen_c1 n = is_c1 n && not (is_between 12 15 n)

-- a colour entry and three parts of four bits
abbrev pub is_colour : ℕ → ℕ → ℕ → ℕ → Bool
is_colour n r g b = is_between 0 31 n && is_between 0 15 r && is_between 0 15 g && is_between 0 15 b

-- the first and the last row of an area
abbrev pub is_area : ℕ → ℕ → Bool
is_area a b = is_between 1 24 a && is_between 1 24 b && nat_le a b

-- the row of the table for a word
unfoldable pub row_of : List ℕ → Option Row
row_of word =
    if bytes_eq word (codes "at") then Some (Two is_place commands.Position) else
    if bytes_eq word (codes "text") then Some Text else
    if bytes_eq word (codes "serial") then Some (Alone (commands.DesignateC1 Serial)) else
    if bytes_eq word (codes "parallel") then Some (Alone (commands.DesignateC1 Parallel)) else
    if bytes_eq word (codes "c1") then Some (One is_c1 commands.C1) else
    if bytes_eq word (codes "row") then Some (One is_c1 commands.FullRow) else
    if bytes_eq word (codes "screen") then Some (One is_screen_c1 commands.FullScreen) else
    if bytes_eq word (codes "table") then Some (One (is_between 0 3) commands.Table) else
    if bytes_eq word (codes "colour") then Some (Four is_colour (λ n r g b. commands.Entry n (record { r = r; g = g; b = b }))) else
    if bytes_eq word (codes "repeat") then Some (One (is_between 0 63) commands.Repeat) else
    if bytes_eq word (codes "erase") then Some (Alone commands.Cancel) else
    if bytes_eq word (codes "clear") then Some (Alone commands.Clear) else
    if bytes_eq word (codes "home") then Some (Alone commands.Home) else
    if bytes_eq word (codes "return") then Some (Alone commands.Return) else
    if bytes_eq word (codes "back") then Some (Alone commands.Back) else
    if bytes_eq word (codes "forward") then Some (Alone commands.Forward) else
    if bytes_eq word (codes "down") then Some (Alone commands.Down) else
    if bytes_eq word (codes "up") then Some (Alone commands.Up) else
    if bytes_eq word (codes "protect") then Some (Alone (commands.Protect true)) else
    if bytes_eq word (codes "unprotect") then Some (Alone (commands.Protect false)) else
    if bytes_eq word (codes "area") then Some (Two is_area commands.AreaCreate) else
    if bytes_eq word (codes "noarea") then Some (Two is_area commands.AreaDelete) else
    if bytes_eq word (codes "scrollup") then Some (Alone commands.ScrollUp) else
    if bytes_eq word (codes "scrolldown") then Some (Alone commands.ScrollDown) else
    if bytes_eq word (codes "implicit") then Some (Alone (commands.Implicit true)) else
    if bytes_eq word (codes "explicit") then Some (Alone (commands.Implicit false)) else
    if bytes_eq word (codes "revision") then Some (One (is_between 1 2) commands.Revision) else
    if bytes_eq word (codes "raw") then Some Raw else
    if bytes_eq word (codes "undo") then Some (UndoRedo Undo) else
    if bytes_eq word (codes "redo") then Some (UndoRedo Redo) else
    None
