-- Worked cases: units that begin with US, by computing.
use Rattle.std.proofs.Common.{Bool, true, false, ℕ, ◌+◌, ◌*◌, List, [], ◌∷◌, ◌++◌, map, refl}
use Rattle.std.specs.List.{flat_map, range_with_len}
use Rattle.cept_codes.specs.declared.command.C1Set.TheVariants.{Serial, Parallel}
use Rattle.cept_codes.specs.declared.command.Command.TheVariants as command
use Rattle.cept_codes.specs.declared.command.Form.{Form}
use Rattle.cept_codes.specs.declared.item.Reason.TheVariants as reason
use Rattle.cept_parser.specs.declared.context.ColourKind.{ColourKind}
use Rattle.cept_parser.specs.declared.context.ColourKind.TheVariants.{ColourTable, LookUpTable}
use Rattle.cept_parser.specs.declared.context.Context.{Context}
use Rattle.cept_parser.specs.declared.context.Mode.TheVariants.{Text, TableRun, DclutRun, DrcsRun, Skip}
use Rattle.cept_parser.proofs.WhatReads.{reading_computes}
use Rattle.cept_parser.proofs.WorkedRows.{Row, AreRead, says, is_refused, leaving}

-- ---- positions: row 4/1 to 5/8, column 4/1 to 6/8

abbrev positions : List Row
positions =
    map (λ r. says (0x1F ∷ (0x40 + r) ∷ 0x41 ∷ []) (command.Position r 1)) (range_with_len 1 24)
    ++ map (λ c. says (0x1F ∷ 0x58 ∷ (0x40 + c) ∷ []) (command.Position 24 c)) (range_with_len 1 40)
    ++ says (0x1F ∷ 0x42 ∷ 0x43 ∷ []) (command.Position 2 3)
    ∷ says (0x1F ∷ 0x43 ∷ 0x42 ∷ []) (command.Position 3 2)
    ∷ []

positions_are_read : AreRead positions
unfolding reading_computes
positions_are_read = refl

-- other rows of columns 4 to 7, and other plain bytes in place of a column
abbrev bad_positions : List Row
bad_positions =
    map (λ r. is_refused (0x1F ∷ r ∷ 0x41 ∷ []) reason.BadParameter) (0x40 ∷ range_with_len 0x59 39)
    ++ map (λ c. is_refused (0x1F ∷ 0x41 ∷ c ∷ []) reason.BadParameter)
    (range_with_len 0x20 33 ++ range_with_len 0x69 23)

bad_positions_are_read : AreRead bad_positions
unfolding reading_computes
bad_positions_are_read = refl

-- ---- 1F 23: downloaded characters

-- bytes of optional parts, and what each tells
abbrev deletions : List (List ℕ × Bool)
deletions = ([], false) ∷ (0x20 ∷ [], false) ∷ (0x28 ∷ [], true) ∷ []

abbrev one_byte_forms : List (List ℕ)
one_byte_forms = [] ∷ (0x40 ∷ []) ∷ []

abbrev sizes : List (List ℕ × ℕ × ℕ)
sizes =
    ([], 12, 10)
    ∷ (0x36 ∷ [], 12, 12)
    ∷ (0x37 ∷ [], 12, 10)
    ∷ (0x3A ∷ [], 6, 12)
    ∷ (0x3B ∷ [], 6, 10)
    ∷ (0x3C ∷ [], 6, 5)
    ∷ (0x3F ∷ [], 6, 6)
    ∷ []

abbrev planes : List (List ℕ × ℕ)
planes = ([], 1) ∷ (0x41 ∷ [], 1) ∷ (0x42 ∷ [], 2) ∷ (0x44 ∷ [], 4) ∷ []

-- a header of these parts: all patterns are deleted or not, the form is told, and plain bytes are passed over
abbrev header : List ℕ → Bool → Form → Row
header u deletes form = record (says (0x1F ∷ 0x23 ∷ 0x20 ∷ u) (command.DrcsHeader deletes form)) {
  after = record { mode = Skip; kind = ColourTable; form = form };
}

-- each choice of parts, in their order
abbrev headers : List Row
headers =
    flat_map (λ d. flat_map (λ o. flat_map (λ s. map (λ p.
    header (d.0 ++ o ++ s.0 ++ p.0) d.1 (record { w = s.1; h = s.2; planes = p.1 })) planes) sizes)
    one_byte_forms) deletions

headers_are_read : AreRead headers
unfolding reading_computes
headers_are_read = refl

abbrev pattern_starts : List Row
pattern_starts =
    map (λ code. leaving (DrcsRun code) (says (0x1F ∷ 0x23 ∷ code ∷ []) (command.DrcsStart code)))
    (range_with_len 0x21 94)
    ++ leaving Skip (is_refused (0x1F ∷ 0x23 ∷ 0x7F ∷ []) reason.BadParameter) ∷ []

pattern_starts_are_read : AreRead pattern_starts
unfolding reading_computes
pattern_starts_are_read = refl

-- ---- 1F 26: colours

abbrev kinds : List (List ℕ × Bool × ColourKind)
kinds = ([], false, ColourTable) ∷ (0x20 ∷ [], false, ColourTable) ∷ (0x22 ∷ [], true, LookUpTable) ∷ []

-- a context with this kind of colours
abbrev of_kind : ColourKind → Context → Context
of_kind kind x = record { mode = x.mode; kind = kind; form = x.form }

-- each choice of parts, before either kind
abbrev colour_headers : List Row
colour_headers =
    flat_map (λ old. flat_map (λ k. flat_map (λ f. map (λ o.
    let row : Row = says (0x1F ∷ 0x26 ∷ 0x20 ∷ (k.0 ++ f ++ o)) (command.ColourHeader k.1) in
    leaving Skip (record row { before = of_kind old row.before; after = of_kind k.2 row.after })) one_byte_forms)
    ([] ∷ (0x34 ∷ []) ∷ [])) kinds) (ColourTable ∷ LookUpTable ∷ [])

colour_headers_are_read : AreRead colour_headers
unfolding reading_computes
colour_headers_are_read = refl

-- a row under the kind of the DCLUT
abbrev under_dclut : Row → Row
under_dclut row = record row { before = of_kind LookUpTable row.before; after = of_kind LookUpTable row.after }

abbrev default_colours : List Row
default_colours =
    let row : Row = leaving Skip (says (0x1F ∷ 0x26 ∷ 0x21 ∷ []) command.ColourDefaults) in
    row ∷ under_dclut row ∷ []

default_colours_are_read : AreRead default_colours
unfolding reading_computes
default_colours_are_read = refl

-- two digits
abbrev digits : ℕ → ℕ → List ℕ
digits tens ones = (0x30 + tens) ∷ (0x30 + ones) ∷ []

-- tens and ones of the numbers from 10 * tens on
abbrev with_tens : {X : Type 0} → (ℕ → ℕ → X) → ℕ → ℕ → List X
with_tens f tens n = map (f tens) (range_with_len 0 n)

-- 0 to 31 of the table, and 0 to 3 of the DCLUT
abbrev table_start : ℕ → ℕ → Row
table_start tens ones =
    leaving (TableRun (10 * tens + ones))
    (says (0x1F ∷ 0x26 ∷ digits tens ones) (command.ColourStart (10 * tens + ones)))

abbrev bad_start : ℕ → ℕ → Row
bad_start tens ones = leaving Skip (is_refused (0x1F ∷ 0x26 ∷ digits tens ones) reason.BadParameter)

abbrev table_starts : List Row
table_starts =
    leaving (TableRun 19) (says (0x1F ∷ 0x26 ∷ 0x31 ∷ 0x39 ∷ []) (command.ColourStart 19))
    ∷ with_tens table_start 0 10 ++ with_tens table_start 1 10 ++ with_tens table_start 2 10
    ++ with_tens table_start 3 2
    ++ bad_start 3 2 ∷ bad_start 3 9 ∷ flat_map (λ tens. with_tens bad_start tens 10) (range_with_len 4 6)

table_starts_are_read : AreRead table_starts
unfolding reading_computes
table_starts_are_read = refl

abbrev dclut_start : ℕ → Row
dclut_start i = leaving (DclutRun i) (says (0x1F ∷ 0x26 ∷ digits 0 i) (command.ColourStart i))

abbrev dclut_starts : List Row
dclut_starts =
    map under_dclut (dclut_start 0 ∷ dclut_start 1 ∷ dclut_start 2 ∷ dclut_start 3
    ∷ map (bad_start 0) (range_with_len 4 6) ++ flat_map (λ tens. with_tens bad_start tens 10) (range_with_len 1 9))

dclut_starts_are_read : AreRead dclut_starts
unfolding reading_computes
dclut_starts_are_read = refl

-- other plain bytes than 20, 21 and digits, and after a digit
abbrev bad_colours : List Row
bad_colours =
    map (λ x. leaving Skip (is_refused (0x1F ∷ 0x26 ∷ x ∷ []) reason.BadParameter))
    (range_with_len 0x22 14 ++ range_with_len 0x3A 70)
    ++ map (λ y. leaving Skip (is_refused (0x1F ∷ 0x26 ∷ 0x30 ∷ y ∷ []) reason.BadParameter))
    (range_with_len 0x20 16 ++ range_with_len 0x3A 70)

bad_colours_are_read : AreRead bad_colours
unfolding reading_computes
bad_colours_are_read = refl

-- ---- 1F 2D: the format

abbrev rows : List (List ℕ × ℕ)
rows = ([], 24) ∷ (0x41 ∷ [], 24) ∷ (0x42 ∷ [], 20) ∷ []

abbrev wraps : List (List ℕ × Bool)
wraps = ([], true) ∷ (0x70 ∷ [], true) ∷ (0x71 ∷ [], false) ∷ []

-- each choice of parts, in their order
abbrev formats : List Row
formats = flat_map (λ r. map (λ w. says (0x1F ∷ 0x2D ∷ (r.0 ++ w.0)) (command.Format r.1 w.1)) wraps) rows

formats_are_read : AreRead formats
unfolding reading_computes
formats_are_read = refl

-- ---- 1F 2F: the service

abbrev services : List Row
services =
    map (λ r. says (0x1F ∷ 0x2F ∷ 0x40 ∷ (0x40 + r) ∷ []) (command.ServiceBreak r)) (range_with_len 1 24)
    ++ says (0x1F ∷ 0x2F ∷ 0x41 ∷ []) (command.FullDefaults Serial)
    ∷ says (0x1F ∷ 0x2F ∷ 0x42 ∷ []) (command.FullDefaults Parallel)
    ∷ says (0x1F ∷ 0x2F ∷ 0x43 ∷ []) (command.ControlDefaults Serial)
    ∷ says (0x1F ∷ 0x2F ∷ 0x44 ∷ []) (command.ControlDefaults Parallel)
    ∷ says (0x1F ∷ 0x2F ∷ 0x45 ∷ []) (command.Revision 2)
    ∷ says (0x1F ∷ 0x2F ∷ 0x46 ∷ []) (command.Revision 1)
    ∷ says (0x1F ∷ 0x2F ∷ 0x4F ∷ []) command.ServiceEnd
    ∷ []

services_are_read : AreRead services
unfolding reading_computes
services_are_read = refl

abbrev bad_services : List Row
bad_services =
    map (λ r. leaving Skip (is_refused (0x1F ∷ 0x2F ∷ 0x40 ∷ r ∷ []) reason.BadParameter))
    (range_with_len 0x20 33 ++ range_with_len 0x59 39)
    ++ map (λ x. leaving Skip (is_refused (0x1F ∷ 0x2F ∷ x ∷ []) reason.BadParameter))
    (range_with_len 0x20 32 ++ range_with_len 0x47 8 ++ range_with_len 0x50 48)

bad_services_are_read : AreRead bad_services
unfolding reading_computes
bad_services_are_read = refl

-- full defaults bring back the kind of colours and the form of patterns; all else leaves them
abbrev changed : Context
changed = record { mode = TableRun 3; kind = LookUpTable; form = record { w = 6; h = 5; planes = 4 } }

abbrev changed_in_text : Context
changed_in_text = record { mode = Text; kind = LookUpTable; form = record { w = 6; h = 5; planes = 4 } }

abbrev keeps_the_context : Row → Row
keeps_the_context row = record row { before = changed; after = changed_in_text }

abbrev defaults : List Row
defaults =
    record (says (0x1F ∷ 0x2F ∷ 0x41 ∷ []) (command.FullDefaults Serial)) { before = changed }
    ∷ record (says (0x1F ∷ 0x2F ∷ 0x42 ∷ []) (command.FullDefaults Parallel)) { before = changed }
    ∷ map keeps_the_context (says (0x1F ∷ 0x2F ∷ 0x43 ∷ []) (command.ControlDefaults Serial)
    ∷ says (0x1F ∷ 0x2F ∷ 0x44 ∷ []) (command.ControlDefaults Parallel)
    ∷ says (0x1F ∷ 0x2F ∷ 0x45 ∷ []) (command.Revision 2)
    ∷ says (0x1F ∷ 0x2F ∷ 0x46 ∷ []) (command.Revision 1)
    ∷ says (0x1F ∷ 0x2F ∷ 0x4F ∷ []) command.ServiceEnd
    ∷ says (0x1F ∷ 0x2F ∷ 0x40 ∷ 0x41 ∷ []) (command.ServiceBreak 1)
    ∷ says (0x1F ∷ 0x2D ∷ []) (command.Format 24 true)
    ∷ says (0x0C ∷ []) command.Clear
    ∷ [])

defaults_are_read : AreRead defaults
unfolding reading_computes
defaults_are_read = refl

-- ---- 2/0 to 3/15 that begin no unit

abbrev unknown_units : List Row
unknown_units =
    map (λ x. leaving Skip (is_refused (0x1F ∷ x ∷ []) reason.UnknownUnit))
    (range_with_len 0x20 3 ++ range_with_len 0x24 2 ++ range_with_len 0x27 6 ++ 0x2E ∷ range_with_len 0x30 16)

unknown_units_are_read : AreRead unknown_units
unfolding reading_computes
unknown_units_are_read = refl
