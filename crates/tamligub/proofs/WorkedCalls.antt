-- Worked tables of calls, by computing: what is given after a word, the fourteen words, the two files, and the statuses. Whether
-- a word is text isn't computed, so that each word stands here for itself.
use Rattle.std.proofs.Common.{◌≡◌, ℕ, List, [], ◌∷◌, codes, map, Option, Some, None, refl}
use Rattle.std.specs.Fmt.{digits}
use Rattle.cept_run.specs.declared.run.Status.TheVariants as statuses
use Rattle.cept_run.specs.declared.words.BytesAction.TheVariants.{Eight, Seven}
use Rattle.cept_run.specs.declared.words.NumberAction.TheVariants.{Generate, Load}
use Rattle.cept_run.specs.declared.words.PageAction.TheVariants.{Cells, Changes, Check, List as ListItems, Show, Write}
use Rattle.cept_run.specs.declared.words.ScriptAction.TheVariants.{Edit, Trace}
use Rattle.cept_run.specs.Run.{status_number}
use Rattle.cept_run.specs.Words.{Bytes, Drawing, Flash, Number, Page, Request, Script, request_of}
use Rattle.tamligub.specs.Called.{file_in}
use Rattle.tamligub.specs.Words.{words_after}

abbrev page : List ℕ
page = codes "page"

abbrev script : List ℕ
script = codes "script"

-- 0 nothing, 1 the page, 2 the page and the script, 3 the number, 4 the page and the number; any other nothing
given : map (λ given. words_after given 600) (0 ∷ 1 ∷ 2 ∷ 3 ∷ 4 ∷ 5 ∷ 4294967295 ∷ [])
    ≡ [] ∷ (page ∷ []) ∷ (page ∷ script ∷ []) ∷ (codes "600" ∷ []) ∷ (page ∷ codes "600" ∷ []) ∷ [] ∷ [] ∷ []
unfolding digits
given = refl

-- words, what is given after each, and what they ask for
abbrev ask : List (List ℕ × ℕ × Option Request) → Type 0
ask rows =
    map (λ (row : List ℕ × ℕ × Option Request). request_of (row.0 ∷ words_after row.1 7)) rows
    ≡ map (λ (row : List ℕ × ℕ × Option Request). row.2) rows

each_word : ask (
    (codes "changes", 1, Some (Page Changes page)) ∷ (codes "check", 1, Some (Page Check page))
    ∷ (codes "list", 1, Some (Page ListItems page))
    ∷ (codes "show", 1, Some (Page Show page)) ∷ (codes "cells", 1, Some (Page Cells page))
    ∷ (codes "write", 1, Some (Page Write page)) ∷ (codes "seven", 1, Some (Bytes Seven page))
    ∷ (codes "eight", 1, Some (Bytes Eight page)) ∷ (codes "trace", 2, Some (Script Trace page script))
    ∷ (codes "edit", 2, Some (Script Edit page script)) ∷ (codes "plot", 2, Some (Drawing page script))
    ∷ (codes "gen", 3, Some (Number Generate 7)) ∷ (codes "load", 3, Some (Number Load 7))
    ∷ (codes "flash", 4, Some (Flash page 7)) ∷ [])
unfolding request_of digits
each_word = refl

-- where another is given than a word takes, nothing is asked for
other_given : ask (
    (codes "show", 0, None) ∷ (codes "show", 2, None) ∷ (codes "show", 4, None) ∷ (codes "trace", 1, None)
    ∷ (codes "plot", 1, None) ∷ (codes "gen", 1, None) ∷ (codes "flash", 1, None) ∷ (codes "flash", 3, None)
    ∷ (codes "frob", 1, None) ∷ (codes "Show", 1, None) ∷ ([], 1, None) ∷ [])
unfolding request_of digits
other_given = refl

-- where a word takes a name, the number is one: that of a file that no call has
number_as_name : ask ((codes "show", 3, Some (Page Show (codes "7"))) ∷ (codes "plot", 4, Some (Drawing page (codes "7"))) ∷ [])
unfolding request_of digits
number_as_name = refl

-- the file `page` is the page, the file `script` the script, and there is no other
files : map (λ name. file_in (0x41 ∷ []) (0x42 ∷ []) name) (page ∷ script ∷ codes "pages" ∷ codes "Page" ∷ [] ∷ [])
    ≡ Some (0x41 ∷ []) ∷ Some (0x42 ∷ []) ∷ None ∷ None ∷ None ∷ []
files = refl

-- done; refusals; no request; a bad line; a read fault; no room; no memory; too long; not seven bits
numbers : map status_number (statuses.Done ∷ statuses.Refusals ∷ statuses.Usage ∷ statuses.Script ∷ statuses.ReadFault
    ∷ statuses.WriteFault ∷ statuses.NoMemory ∷ statuses.TooLong ∷ statuses.NotSeven ∷ [])
    ≡ 0 ∷ 1 ∷ 2 ∷ 3 ∷ 4 ∷ 5 ∷ 6 ∷ 7 ∷ 8 ∷ []
numbers = refl
