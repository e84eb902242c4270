-- Worked tables: what words ask for, and what each request puts and paints, by computing.
use Rattle.std.proofs.Common.{◌≡◌, ℕ, List, [], ◌∷◌, codes, map, replicate, Option, Some, None, true, false, refl}
use Rattle.cept_run.specs.declared.words.BytesAction.TheVariants.{Eight, Seven}
use Rattle.cept_run.specs.declared.words.End.TheVariants as ends
use Rattle.cept_run.specs.declared.words.NumberAction.TheVariants.{Generate, Load}
use Rattle.cept_run.specs.declared.words.PageAction.TheVariants.{Cells, Changes, Check, List as ListItems, Show, Write}
use Rattle.cept_run.specs.declared.words.ScriptAction.TheVariants.{Edit, Trace}
use Rattle.cept_run.specs.Words.{Bytes, Drawing, Flash, Number, Page, Request, Script, request_of}
use Rattle.cept_run.specs.Words.{options_of_page, options_of_script}
use Rattle.cept_run.specs.declared.words.Way.TheVariants as ways
use Rattle.cept_run.specs.Words.{is_counted, is_painted, lists_changes, number_of}

-- ---- words

-- words, each list of them with what it asks for
abbrev ask : List (List (List ℕ) × Option Request) → Type 0
ask cases =
    map (λ (c : List (List ℕ) × Option Request). request_of c.0) cases
    ≡ map (λ (c : List (List ℕ) × Option Request). c.1) cases

-- each of the fourteen words, with what it takes
each_word : ask (
    (codes "changes" ∷ codes "p" ∷ [], Some (Page Changes (codes "p")))
    ∷ (codes "check" ∷ codes "p" ∷ [], Some (Page Check (codes "p")))
    ∷ (codes "list" ∷ codes "p" ∷ [], Some (Page ListItems (codes "p")))
    ∷ (codes "show" ∷ codes "p" ∷ [], Some (Page Show (codes "p")))
    ∷ (codes "cells" ∷ codes "p" ∷ [], Some (Page Cells (codes "p")))
    ∷ (codes "write" ∷ codes "p" ∷ [], Some (Page Write (codes "p")))
    ∷ (codes "trace" ∷ codes "p" ∷ codes "s" ∷ [], Some (Script Trace (codes "p") (codes "s")))
    ∷ (codes "edit" ∷ codes "p" ∷ codes "s" ∷ [], Some (Script Edit (codes "p") (codes "s")))
    ∷ (codes "gen" ∷ codes "7" ∷ [], Some (Number Generate 7))
    ∷ (codes "load" ∷ codes "7" ∷ [], Some (Number Load 7))
    ∷ (codes "seven" ∷ codes "p" ∷ [], Some (Bytes Seven (codes "p")))
    ∷ (codes "eight" ∷ codes "p" ∷ [], Some (Bytes Eight (codes "p")))
    ∷ (codes "flash" ∷ codes "p" ∷ codes "7" ∷ [], Some (Flash (codes "p") 7))
    ∷ (codes "plot" ∷ codes "p" ∷ codes "d" ∷ [], Some (Drawing (codes "p") (codes "d"))) ∷ [])
unfolding request_of
each_word = refl

-- words that ask for nothing: none, another one, too few and too many, an empty name, twice the same
no_requests : map request_of (
    []
    ∷ (codes "frob" ∷ codes "x" ∷ [])
    ∷ (codes "Show" ∷ codes "p" ∷ [])
    ∷ (codes "show " ∷ codes "p" ∷ [])
    ∷ (codes "--help" ∷ [])
    ∷ (codes "show" ∷ [])
    ∷ (codes "show" ∷ codes "p" ∷ codes "q" ∷ [])
    ∷ (codes "show" ∷ [] ∷ [])
    ∷ (codes "list" ∷ [])
    ∷ (codes "list" ∷ codes "p" ∷ codes "q" ∷ [])
    ∷ (codes "list" ∷ [] ∷ [])
    ∷ (codes "seven" ∷ [])
    ∷ (codes "eight" ∷ codes "p" ∷ codes "q" ∷ [])
    ∷ (codes "seven" ∷ [] ∷ [])
    ∷ (codes "trace" ∷ codes "p" ∷ [])
    ∷ (codes "trace" ∷ codes "p" ∷ codes "p" ∷ [])
    ∷ (codes "trace" ∷ codes "p" ∷ [] ∷ [])
    ∷ (codes "edit" ∷ [] ∷ codes "s" ∷ [])
    ∷ (codes "edit" ∷ codes "p" ∷ codes "s" ∷ codes "t" ∷ [])
    ∷ (codes "plot" ∷ codes "p" ∷ [])
    ∷ (codes "plot" ∷ codes "p" ∷ codes "p" ∷ [])
    ∷ (codes "plot" ∷ [] ∷ codes "d" ∷ [])
    ∷ (codes "plot" ∷ codes "p" ∷ [] ∷ [])
    ∷ (codes "gen" ∷ [])
    ∷ (codes "gen" ∷ codes "x" ∷ [])
    ∷ (codes "gen" ∷ codes "4294967296" ∷ [])
    ∷ (codes "load" ∷ codes "1" ∷ codes "1" ∷ [])
    ∷ (codes "flash" ∷ codes "p" ∷ [])
    ∷ (codes "flash" ∷ [] ∷ codes "1" ∷ []) ∷ [])
    ≡ replicate 29 None
unfolding request_of
no_requests = refl

-- a name is any text that isn't empty, also a word
any_names : ask (
    (codes "show" ∷ codes "show" ∷ [], Some (Page Show (codes "show")))
    ∷ (codes "trace" ∷ codes " " ∷ codes "  " ∷ [], Some (Script Trace (codes " ") (codes "  ")))
    ∷ (codes "plot" ∷ codes "-" ∷ codes "p" ∷ [], Some (Drawing (codes "-") (codes "p"))) ∷ [])
unfolding request_of
any_names = refl

-- numbers have one to ten digits and are 2^32 - 1 at most
numbers : map number_of (
    codes "0" ∷ codes "9" ∷ codes "10" ∷ codes "4294967295" ∷ codes "0000000000" ∷ codes "0000000600"
    ∷ codes "4294967296" ∷ codes "9999999999" ∷ codes "00000000000" ∷ [] ∷ codes "-1" ∷ codes "+1" ∷ codes "1 "
    ∷ codes "/" ∷ codes ":" ∷ codes "1a" ∷ [])
    ≡ Some 0 ∷ Some 9 ∷ Some 10 ∷ Some 4294967295 ∷ Some 0 ∷ Some 600 ∷ replicate 10 None
numbers = refl

-- of turns there are 600 at most
turns : ask (
    (codes "flash" ∷ codes "p" ∷ codes "0" ∷ [], Some (Flash (codes "p") 0))
    ∷ (codes "flash" ∷ codes "p" ∷ codes "0000000600" ∷ [], Some (Flash (codes "p") 600))
    ∷ (codes "flash" ∷ codes "p" ∷ codes "00000000600" ∷ [], None)
    ∷ (codes "flash" ∷ codes "p" ∷ codes "4294967296" ∷ [], None) ∷ [])
unfolding request_of
turns = refl

-- ---- what is put and painted

-- of a page: the changed cells and the refused items; the refused items and counts, or all items, and nothing is
-- painted; the screen; its cells; the page
of_pages : map options_of_page (Changes ∷ Check ∷ ListItems ∷ Show ∷ Cells ∷ Write ∷ []) ≡
    record { way = ways.PaintAndList; refusals = true; edits_listed = false; end = ends.Nothing }
    ∷ record { way = ways.Count; refusals = true; edits_listed = false; end = ends.Nothing }
    ∷ record { way = ways.List; refusals = true; edits_listed = false; end = ends.Nothing }
    ∷ record { way = ways.Paint; refusals = false; edits_listed = false; end = ends.Screen }
    ∷ record { way = ways.Paint; refusals = false; edits_listed = false; end = ends.Cells }
    ∷ record { way = ways.Paint; refusals = false; edits_listed = false; end = ends.Page } ∷ []
of_pages = refl

-- of a page and a script: the refused items and the changed cells of each edit; the page
of_scripts : map options_of_script (Trace ∷ Edit ∷ []) ≡
    record { way = ways.Paint; refusals = true; edits_listed = true; end = ends.Nothing }
    ∷ record { way = ways.Paint; refusals = false; edits_listed = false; end = ends.Page } ∷ []
of_scripts = refl

-- commands are painted but where items are counted or listed, and what they change is listed under one way
painted : map is_painted (ways.Count ∷ ways.List ∷ ways.Paint ∷ ways.PaintAndList ∷ []) ≡ false ∷ false ∷ true ∷ true ∷ []
painted = refl

changes_listed : map lists_changes (ways.Count ∷ ways.List ∷ ways.Paint ∷ ways.PaintAndList ∷ [])
    ≡ false ∷ false ∷ false ∷ true ∷ []
changes_listed = refl

-- painted cells are counted for the counts alone
counted : map is_counted (ends.Nothing ∷ ends.Screen ∷ ends.Cells ∷ ends.Page ∷ ends.Counts ∷ ends.Phases 1 ∷ [])
    ≡ false ∷ false ∷ false ∷ false ∷ true ∷ false ∷ []
counted = refl
