-- The text of a page, put part by part.
use Rattle.std.proofs.Common.{◌≡◌, ℕ, List, ◌++◌, sym, ◌∙◌, ap, subst, Err, Result}
use Rattle.cept_codes.specs.declared.command.Command.{Command}
use Rattle.cept_outside.specs.SinkState.{SinkState, PutsText}
use Rattle.cept_parser.specs.Spelling.{spellings}
use Rattle.cept_profile.specs.State.{Core}
use Rattle.cept_writer.specs.CompactCommands.{changed_commands, compact_commands, defined_commands, page_text}
use Rattle.cept_writer.specs.EntryPieces.{entry_numbered, entry_piece, pattern_numbered, pattern_piece, pieces_in_turn}
use Rattle.cept_writer.specs.PageCommands.{area_commands, dclut_commands, first_commands, implicit_commands, rows_below}
use Rattle.cept_writer.specs.PageCommands.{screen_commands, with_colour_header}
use Rattle.cept_writer.specs.SegmentCommands.{segments_commands}
use Rattle.cept_writer.specs.SegmentPieces.{pieces_below}
use Rattle.cept_writer.proofs.EntriesInTurn.{entries_are_pieces, patterns_are_pieces}
use Rattle.cept_writer.proofs.TextsPut.{spellings_append}

-- ---- the parts that are put in turn

abbrev pub entry_pieces : Core → List Command
entry_pieces k = pieces_in_turn entry_piece (entry_numbered k.page.paints) 32

abbrev pub pattern_pieces : Core → List Command
pattern_pieces k = pieces_in_turn pattern_piece (pattern_numbered k.page.patterns) 94

abbrev pub cell_pieces : Core → List Command
cell_pieces k = pieces_below k.page.cells 960

-- ---- the page

-- from the part implicit on
abbrev pub from_implicit : Core → List ℕ
from_implicit k = spellings (implicit_commands k.implicit)

-- from the part area on
abbrev pub from_area : Core → List ℕ
from_area k = spellings (area_commands k.area) ++ from_implicit k

-- from the part cells on
abbrev pub from_cells : Core → List ℕ
from_cells k = spellings (cell_pieces k) ++ from_area k

-- from the part rows on
abbrev pub from_rows : Core → List ℕ
from_rows k = spellings (rows_below k.page.row_pens 24) ++ from_cells k

-- from the part screen_pen on
abbrev pub from_screen_pen : Core → List ℕ
from_screen_pen k = spellings (screen_commands k.page.screen_pen) ++ from_rows k

-- from the part patterns on
abbrev pub from_patterns : Core → List ℕ
from_patterns k = spellings (pattern_pieces k) ++ from_screen_pen k

-- from the part dclut on
abbrev pub from_dclut : Core → List ℕ
from_dclut k = spellings (dclut_commands k.page.dclut) ++ from_patterns k

-- from the part colours on
abbrev pub from_colours : Core → List ℕ
from_colours k = spellings (with_colour_header (entry_pieces k)) ++ from_dclut k

nine : (a b c d e f g h i : List Command)
    → spellings (a ++ (b ++ (c ++ (d ++ (e ++ (f ++ (g ++ (h ++ i)))))))) ≡ spellings a ++ (spellings b ++ (spellings c
    ++ (spellings d ++ (spellings e ++ (spellings f ++ (spellings g ++ (spellings h ++ spellings i)))))))
nine a b c d e f g h i =
    spellings_append a (b ++ (c ++ (d ++ (e ++ (f ++ (g ++ (h ++ i))))))) ∙ ap (λ l. spellings a ++ l)
    (spellings_append b (c ++ (d ++ (e ++ (f ++ (g ++ (h ++ i)))))) ∙ ap (λ l. spellings b ++ l)
    (spellings_append c (d ++ (e ++ (f ++ (g ++ (h ++ i))))) ∙ ap (λ l. spellings c ++ l)
    (spellings_append d (e ++ (f ++ (g ++ (h ++ i)))) ∙ ap (λ l. spellings d ++ l)
    (spellings_append e (f ++ (g ++ (h ++ i))) ∙ ap (λ l. spellings e ++ l)
    (spellings_append f (g ++ (h ++ i)) ∙ ap (λ l. spellings f ++ l)
    (spellings_append g (h ++ i) ∙ ap (λ l. spellings g ++ l) (spellings_append h i)))))))

-- the text of a page with these entries, patterns and cells
abbrev text_with : Core → List Command → List Command → List Command → List ℕ
text_with k entries patterns cells =
    spellings (first_commands k) ++ (spellings (with_colour_header entries) ++ (spellings (dclut_commands k.page.dclut)
    ++ (spellings patterns ++ (spellings (screen_commands k.page.screen_pen) ++ (spellings (rows_below k.page.row_pens 24)
    ++ (spellings cells ++ (spellings (area_commands k.area) ++ spellings (implicit_commands k.implicit))))))))

page_parts : (k : Core) → cell_pieces k ≡ segments_commands k.page.cells
    → page_text k ≡ spellings (first_commands k) ++ from_colours k
unfolding compact_commands
page_parts k cells =
    let entries = changed_commands k.page.paints in
    let patterns = defined_commands k.page.patterns in
    let segments = segments_commands k.page.cells in
    nine (first_commands k) (with_colour_header entries) (dclut_commands k.page.dclut) patterns
    (screen_commands k.page.screen_pen) (rows_below k.page.row_pens 24) segments (area_commands k.area)
    (implicit_commands k.implicit)
    ∙ ap (λ (l : List Command). text_with k l patterns segments) (sym (entries_are_pieces k.page.paints))
    ∙ ap (λ (l : List Command). text_with k (entry_pieces k) l segments) (sym (patterns_are_pieces k.page.patterns))
    ∙ ap (λ (l : List Command). text_with k (entry_pieces k) (pattern_pieces k) l) (sym cells)

-- the parts of a page were put
pub page_put : {X E : Type 0} (k : Core) → cell_pieces k ≡ segments_commands k.page.cells
    → (r : Result X E) (s u : SinkState)
    → PutsText s (spellings (first_commands k) ++ from_colours k) r u → PutsText s (page_text k) r u
page_put k cells r s u puts = subst (λ (l : List ℕ). PutsText s l r u) (sym (page_parts k cells)) puts

-- a failure that is handed on
pub handed_on : {X E : Type 0} {e : E} (r : Result X E) (s u : SinkState) (text : List ℕ) → r ≡ Err e
    → PutsText {X = X} {E = E} s text (Err e) u → PutsText s text r u
handed_on {X} {E} r s u text is puts = subst (λ (q : Result X E). PutsText {X = X} {E = E} s text q u) (sym is) puts

-- a part of a page failed, and that is handed on
pub page_failed : {X E : Type 0} {e : E} (k : Core) → cell_pieces k ≡ segments_commands k.page.cells
    → (r : Result X E) (s u : SinkState) → r ≡ Err e
    → PutsText {X = X} {E = E} s (spellings (first_commands k) ++ from_colours k) (Err e) u
    → PutsText s (page_text k) r u
page_failed k cells r s u is puts =
    page_put k cells r s u (handed_on r s u (spellings (first_commands k) ++ from_colours k) is puts)

-- a text that was put in part, by other commands that are the same
pub part_is : {X E : Type 0} {e : E} {cs ds : List Command} → cs ≡ ds → (s u : SinkState)
    → PutsText {X = X} {E = E} s (spellings cs) (Err e) u → PutsText {X = X} {E = E} s (spellings ds) (Err e) u
part_is {X} {E} {e} same s u puts =
    subst (λ (l : List Command). PutsText {X = X} {E = E} s (spellings l) (Err e) u) same puts
