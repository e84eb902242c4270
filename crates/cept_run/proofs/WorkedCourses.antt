-- Worked tables: what each request reads and puts, and what decides its status, by computing.
use Rattle.std.proofs.Common.{◌≡◌, ℕ, List, [], ◌∷◌, codes, map, true, false, refl}
use Rattle.cept_run.specs.declared.words.BytesAction.TheVariants.{Eight, Seven}
use Rattle.cept_run.specs.declared.words.NumberAction.TheVariants.{Generate, Load}
use Rattle.cept_run.specs.declared.words.PageAction.TheVariants.{Cells, Changes, Check, List as ListItems, Show, Write}
use Rattle.cept_run.specs.declared.words.ScriptAction.TheVariants.{Edit, Trace}
use Rattle.cept_run.specs.declared.words.End.TheVariants as ends
use Rattle.cept_run.specs.declared.words.Way.TheVariants as ways
use Rattle.cept_run.specs.Course.{File, Given, Source, Scripts, Drawings, ScriptSource, NoScript, ScriptFile}
use Rattle.cept_run.specs.Course.{course_of, report_course}
use Rattle.cept_generator.specs.Generated.{generated}
use Rattle.cept_run.specs.Words.{Bytes, Drawing, Flash, Number, Page, Request, Script}
use Rattle.cept_seven.specs.Eight.{accepted_after, is_shifted}

-- ---- files

abbrev page : List ℕ
page = codes "page"

abbrev script : List ℕ
script = codes "script"

-- requests, each with where its page is read, and what is read before it
abbrev read : List (Request × Source × ScriptSource) → Type 0
read rows =
    (map (λ (row : Request × Source × ScriptSource). (course_of row.0).page) rows
    ≡ map (λ (row : Request × Source × ScriptSource). row.1) rows)
    × (map (λ (row : Request × Source × ScriptSource). (course_of row.0).script) rows
    ≡ map (λ (row : Request × Source × ScriptSource). row.2) rows)

sources : read (
    (Page Changes page, File page, NoScript)
    ∷ (Page Check page, File page, NoScript)
    ∷ (Page ListItems page, File page, NoScript)
    ∷ (Page Show page, File page, NoScript)
    ∷ (Page Cells page, File page, NoScript)
    ∷ (Page Write page, File page, NoScript)
    ∷ (Script Trace page script, File page, ScriptFile Scripts script)
    ∷ (Script Edit page script, File page, ScriptFile Scripts script)
    ∷ (Bytes Seven page, File page, NoScript)
    ∷ (Bytes Eight page, File page, NoScript)
    ∷ (Flash page 6, File page, NoScript)
    ∷ (Drawing page script, File page, ScriptFile Drawings script) ∷ [])
sources = (refl, refl)

-- ---- report options

-- of a generated page the counts, of a page through turns its phases, of a page with a drawing the page
of_loaded_pages : course_of (Number Load 7) ≡
    report_course (record { way = ways.Paint; refusals = false; edits_listed = false; end = ends.Counts })
    (Given (generated 7)) NoScript
of_loaded_pages = refl

of_flashing_pages : (turns : ℕ) → course_of (Flash page turns) ≡
    report_course (record { way = ways.Paint; refusals = false; edits_listed = false; end = ends.Phases turns })
    (File page) NoScript
of_flashing_pages turns = refl

of_drawings : course_of (Drawing page script) ≡
    report_course (record { way = ways.Paint; refusals = false; edits_listed = false; end = ends.Page })
    (File page) (ScriptFile Drawings script)
of_drawings = refl

-- ---- statuses

-- all requests
abbrev requests : List Request
requests = Page Changes page ∷ Page Check page ∷ Page ListItems page ∷ Page Show page ∷ Page Cells page
    ∷ Page Write page ∷ Script Trace page script ∷ Script Edit page script ∷ Number Generate 0 ∷ Number Load 0
    ∷ Bytes Seven page ∷ Bytes Eight page ∷ Flash page 6 ∷ Drawing page script ∷ []

-- refused items decide the status of all but `gen`, `seven` and `eight`
judged : map (λ request. (course_of request).judged) requests ≡
    true ∷ true ∷ true ∷ true ∷ true ∷ true ∷ true ∷ true ∷ false ∷ true ∷ false ∷ false ∷ true ∷ true ∷ []
judged = refl

-- all but `check`, `list`, `gen`, `seven` and `eight` paint, and take memory
painting : map (λ request. (course_of request).painting) requests ≡
    true ∷ false ∷ false ∷ true ∷ true ∷ true ∷ true ∷ true ∷ false ∷ true ∷ false ∷ false ∷ true ∷ true ∷ []
painting = refl

-- `write`, `edit` and `plot` put a page, and nothing else
written : map (λ request. (course_of request).written) requests ≡
    false ∷ false ∷ false ∷ false ∷ false ∷ true ∷ false ∷ true ∷ false ∷ false ∷ false ∷ false ∷ false ∷ true ∷ []
written = refl

-- ---- pages in seven bits: how far they can be read, and where they can end

readable : map (course_of (Bytes Eight page)).readable_front (
    (0x41 ∷ 0x10 ∷ [])
    ∷ (0x41 ∷ 0xC1 ∷ 0x41 ∷ [])
    ∷ (0x41 ∷ 0x10 ∷ 0x41 ∷ 0x42 ∷ []) ∷ [])
    ≡ (0x41 ∷ 0x10 ∷ []) ∷ (0x41 ∷ []) ∷ (0x41 ∷ 0x10 ∷ []) ∷ []
unfolding accepted_after is_shifted
readable = refl

ends_there : map (course_of (Bytes Eight page)).can_end (
    []
    ∷ (0x41 ∷ [])
    ∷ (0x10 ∷ [])
    ∷ (0x10 ∷ 0x4E ∷ []) ∷ [])
    ≡ true ∷ true ∷ false ∷ true ∷ []
unfolding accepted_after is_shifted
ends_there = refl
