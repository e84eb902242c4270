-- The words of the program: which of them are a request, and what a request asks for. This project's own.
use Rattle.std.specs.Prelude.{◌≢◌, ℕ, ◌^◌, Bool, true, false, ◌&&◌, List, [], ◌∷◌, Option, Some, None, codes}
use Rattle.std.specs.Prelude.{if◌then◌else◌, length, nat_lt, nat_le}
use Rattle.std.specs.Char.{is_ascii_digit}
use Rattle.std.specs.List.{list_all}
use Rattle.std.specs.Option.{option_map, option_and_then}
use Rattle.std.specs.Str.{bytes_eq}
use Rattle.std.specs.Str.Parse.{digits_value}
use Rattle.cept_run.specs.declared.words.ReportOptions.{ReportOptions}
use Rattle.cept_run.specs.declared.words.BytesAction.{BytesAction}
use Rattle.cept_run.specs.declared.words.BytesAction.TheVariants as bytes
use Rattle.cept_run.specs.declared.words.End.{End}
use Rattle.cept_run.specs.declared.words.End.TheVariants as ends
use Rattle.cept_run.specs.declared.words.NumberAction.{NumberAction}
use Rattle.cept_run.specs.declared.words.NumberAction.TheVariants as numbers
use Rattle.cept_run.specs.declared.words.PageAction.{PageAction}
use Rattle.cept_run.specs.declared.words.PageAction.TheVariants as pages
use Rattle.cept_run.specs.declared.words.Request.{Request as NamedRequest}
use Rattle.cept_run.specs.declared.words.Request.TheVariants as named
use Rattle.cept_run.specs.declared.words.ScriptAction.{ScriptAction}
use Rattle.cept_run.specs.declared.words.ScriptAction.TheVariants as scripts
use Rattle.cept_run.specs.declared.words.Way.{Way}
use Rattle.cept_run.specs.declared.words.Way.TheVariants as ways
use Rattle.cept_run.specs.declared.words.Word.{Word}
use Rattle.cept_run.specs.declared.words.Word.TheVariants as words

-- ---- requests

-- what the program is asked for: of the page of this name; of the bytes of the page of this name; of the page of the first
-- name and the script of the second; of the generated page of this number; of the page of this name through so many turns of
-- its flashing; of the page of the first name with the drawing of the second on it
pub data Request : Type 0 where
  Page : PageAction → List ℕ → Request
  Bytes : BytesAction → List ℕ → Request
  Script : ScriptAction → List ℕ → List ℕ → Request
  Number : NumberAction → ℕ → Request
  Flash : List ℕ → ℕ → Request
  Drawing : List ℕ → List ℕ → Request

-- a request by its names' bytes
abbrev pub request_by : NamedRequest → Request
request_by (named.Page action page) = Page action page.now
request_by (named.Bytes action page) = Bytes action page.now
request_by (named.Script action page script) = Script action page.now script.now
request_by (named.Number action number) = Number action number
request_by (named.Flash page turns) = Flash page.now turns
request_by (named.Drawing page drawing) = Drawing page.now drawing.now

-- the table of the first words
abbrev pub word_of : List ℕ → Option Word
word_of word =
    if bytes_eq word (codes "changes") then Some (words.Page pages.Changes) else
    if bytes_eq word (codes "check") then Some (words.Page pages.Check) else
    if bytes_eq word (codes "list") then Some (words.Page pages.List) else
    if bytes_eq word (codes "show") then Some (words.Page pages.Show) else
    if bytes_eq word (codes "cells") then Some (words.Page pages.Cells) else
    if bytes_eq word (codes "write") then Some (words.Page pages.Write) else
    if bytes_eq word (codes "trace") then Some (words.Script scripts.Trace) else
    if bytes_eq word (codes "edit") then Some (words.Script scripts.Edit) else
    if bytes_eq word (codes "gen") then Some (words.Number numbers.Generate) else
    if bytes_eq word (codes "load") then Some (words.Number numbers.Load) else
    if bytes_eq word (codes "seven") then Some (words.Bytes bytes.Seven) else
    if bytes_eq word (codes "eight") then Some (words.Bytes bytes.Eight) else
    if bytes_eq word (codes "flash") then Some words.Flash else
    if bytes_eq word (codes "plot") then Some words.Plot else
    None

-- the value in decimal of a word of one to ten digits, where it is at most 2^32 - 1
abbrev pub number_of : List ℕ → Option ℕ
number_of word =
    if nat_lt 0 (length word) && nat_le (length word) 10 && list_all is_ascii_digit word
    && nat_lt (digits_value 10 word) (2 ^ 32)
    then Some (digits_value 10 word) else None

-- what a first word asks for with the words after it: names of files, which aren't empty and differ, and numbers, of
-- which that of turns is at most 600
abbrev pub request_with : Word → List (List ℕ) → Option Request
request_with (words.Page action) ((a ∷ name) ∷ []) = Some (Page action (a ∷ name))
request_with (words.Bytes action) ((a ∷ name) ∷ []) = Some (Bytes action (a ∷ name))
request_with (words.Script action) ((a ∷ page) ∷ (b ∷ script) ∷ []) =
    if bytes_eq (a ∷ page) (b ∷ script) then None else Some (Script action (a ∷ page) (b ∷ script))
request_with (words.Number action) (number ∷ []) = option_map (Number action) (number_of number)
request_with words.Flash ((a ∷ page) ∷ turns ∷ []) =
    option_and_then (λ n. if nat_le n 600 then Some (Flash (a ∷ page) n) else None) (number_of turns)
request_with words.Plot ((a ∷ page) ∷ (b ∷ drawing) ∷ []) =
    if bytes_eq (a ∷ page) (b ∷ drawing) then None else Some (Drawing (a ∷ page) (b ∷ drawing))
request_with _ _ = None

-- what the words ask for
unfoldable pub request_of : List (List ℕ) → Option Request
request_of [] = None
request_of (word ∷ after) = option_and_then (λ w. request_with w after) (word_of word)

-- the names of two files differ
abbrev pub HasTwoNames : Request → Type 0
HasTwoNames (Script action page script) = script ≢ page
HasTwoNames (Drawing page drawing) = drawing ≢ page
HasTwoNames _ = Unit {0}

-- ---- the report options of each action

-- of a page that is painted, and of which nothing is put
abbrev pub painting_options : ReportOptions
painting_options = record {
  way = ways.Paint;
  refusals = false;
  edits_listed = false;
  end = ends.Nothing;
}

-- of a page
abbrev pub options_of_page : PageAction → ReportOptions
options_of_page pages.Changes = record painting_options { way = ways.PaintAndList; refusals = true }
options_of_page pages.Check = record painting_options { way = ways.Count; refusals = true }
options_of_page pages.List = record painting_options { way = ways.List; refusals = true }
options_of_page pages.Show = record painting_options { end = ends.Screen }
options_of_page pages.Cells = record painting_options { end = ends.Cells }
options_of_page pages.Write = record painting_options { end = ends.Page }

-- of a page and a script
abbrev pub options_of_script : ScriptAction → ReportOptions
options_of_script scripts.Trace = record painting_options { refusals = true; edits_listed = true }
options_of_script scripts.Edit = record painting_options { end = ends.Page }

-- commands are applied and painted
abbrev pub is_painted : Way → Bool
is_painted ways.Count = false
is_painted ways.List = false
is_painted _ = true

-- and what each changes is listed
abbrev pub lists_changes : Way → Bool
lists_changes ways.PaintAndList = true
lists_changes _ = false

-- painted cells are counted where the count is put at the end
abbrev pub is_counted : End → Bool
is_counted ends.Counts = true
is_counted _ = false
