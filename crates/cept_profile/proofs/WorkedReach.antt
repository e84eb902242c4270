-- Worked cases: the rows that a command reaches, by computing.
use Rattle.cept_profile.proofs.WhatComputes.{computing}
use Rattle.std.proofs.Common.{rules, ◌≡◌, ℕ, ◌+◌, ◌-◌, ◌≤◌, cond, not, ◌&&◌, ◌||◌, Bool, true, false, List, [], ◌∷◌, ◌++◌}
use Rattle.std.proofs.Common.{Option, Some, None, zero, suc, map, refl, sym, subst, ap, ◌∙◌, ◌==◌, inl, inr, arith}
use Rattle.std.specs.Prelude.{nat_le}
use Rattle.std.specs.List.{count_by, list_any, range_with_len}
use Rattle.std.proofs.lemmas.Bool.{and_parts, cases_eq, cases_lt, not-false, or_from, or_parts, true≢false}
use Rattle.std.proofs.lemmas.Bool.Decides.{nat_tests}
use Rattle.std.proofs.lemmas.List.Sums.{sum_by-append, sum_by-cons}
use Rattle.cept_codes.specs.declared.command.Command.{Command}
use Rattle.cept_codes.specs.declared.command.Command.TheVariants.{AreaCreate, C1, Cancel, FullRow, FullScreen, Graphic}
use Rattle.cept_codes.specs.declared.command.Command.TheVariants.{Dclut, Designate, Down, DrcsHeader, DrcsPattern, Entry, Position, Return, ScrollUp}
use Rattle.cept_codes.specs.declared.glyph.SetId.TheVariants.{D, P}
use Rattle.cept_codes.specs.declared.stroke.Stroke.{Stroke}
use Rattle.cept_codes.specs.declared.look.Look.{Look}
use Rattle.cept_codes.specs.Command.{IsValidCommand}
use Rattle.cept_codes.specs.Look.{blank_look}
use Rattle.cept_codes.proofs.Laws.{same_table}
use Rattle.cept_profile.specs.Look.{grid, look, looks_of, part_of}
use Rattle.cept_profile.specs.MovedRows.{row_before}
use Rattle.cept_profile.specs.Reach.{has_other_attributes, is_reached_from}
use Rattle.cept_profile.specs.Reach.{is_redefined, is_written, reaches, rows_in_reach}
use Rattle.cept_profile.specs.RowsFromAbove.{is_covered_otherwise, look_seen, looks_in}
use Rattle.cept_profile.specs.State.{Core, State, core, core_of, state, state_after}
use Rattle.cept_profile.specs.Strokes.{strokes_of}
use Rattle.cept_profile.specs.Tiling.{column_entry, covers_below}
use Rattle.cept_profile.specs.Valid.{IsValidState}
use Rattle.cept_profile.proofs.ColumnEntries.{no_index}
use Rattle.cept_profile.proofs.LooksFromAbove.{covering-none, covers_nothing-first, look-seen}
use Rattle.cept_profile.proofs.RowsWithoutSizes.{sets_a_size, without_sizes}
use Rattle.cept_profile.proofs.WorkedPatterns.{pattern_of}
use Rattle.cept_profile.proofs.LooksInRows.{looks_of-alike}
use Rattle.cept_profile.proofs.OneMoreState.{page-one_more}
use Rattle.cept_profile.proofs.RowsReached.{is_reached-by, look-not_reached, reaches-by, rows_in_reach-counted}
use Rattle.cept_profile.proofs.ValidState.{IsValidState-state}

-- ---- rows far below any size

-- a row that came of this one is not far: the first three cases hold, or a size is set above it, before or after
abbrev is_near_from : Core → Core → List Stroke → Option ℕ → ℕ → Bool
is_near_from before after strokes None r = true
is_near_from before after strokes (Some q) r =
    (is_written strokes r || has_other_attributes before q after r || is_redefined after strokes r)
    || (not (nat_le q 24 && nat_le r 24) || (sets_a_size before (q - 1) || sets_a_size after (r - 1)))

abbrev pub is_near : State → Command → ℕ → Bool
is_near s command r =
    is_near_from (core_of s) (core_of (state_after s command)) (strokes_of s.control command)
    (row_before (strokes_of s.control command) r) r

nothing_covers : (k : Core) (r : ℕ) → r ≤ 24 → sets_a_size k r ≡ false → (c : ℕ)
    → covers_below (part_of (look_seen (looks_of k) r c)) ≡ false
nothing_covers k zero high none c = covers_nothing-first k c
nothing_covers k (suc r) high none c = without_sizes k (suc r) (omega arith) high none c

not_covered : (before after : Core) (q r : ℕ) → q ≤ 24 → r ≤ 24 → sets_a_size before (q - 1) ≡ false
    → sets_a_size after (r - 1) ≡ false → is_covered_otherwise (looks_of before) q (looks_of after) r ≡ false
not_covered before after q r to high above over =
    covering-none (looks_of before) (looks_of after) q r (nothing_covers before (q - 1) (omega arith) above)
    (nothing_covers after (r - 1) (omega arith) over)

far_from : (before after : Core) (strokes : List Stroke) (found : Option ℕ) (r : ℕ)
    → is_near_from before after strokes found r ≡ false → is_reached_from before after strokes found r ≡ false
far_from before after strokes None r far = absurd (true≢false far)
far_from before after strokes (Some q) r far =
    let three : Bool = is_written strokes r || has_other_attributes before q after r || is_redefined after strokes r in
    let parts = or_parts three
    (not (nat_le q 24 && nat_le r 24) || (sets_a_size before (q - 1) || sets_a_size after (r - 1))) far in
    let rows = or_parts (not (nat_le q 24 && nat_le r 24))
    (sets_a_size before (q - 1) || sets_a_size after (r - 1)) parts.1 in
    let sizes = or_parts (sets_a_size before (q - 1)) (sets_a_size after (r - 1)) rows.1 in
    let within = and_parts (nat_le q 24) (nat_le r 24) (not-false (nat_le q 24 && nat_le r 24) rows.0) in
    let to : q ≤ 24 = grind (arith, nat_tests) in
    let high : r ≤ 24 = grind (arith, nat_tests) in
    or_from three (is_covered_otherwise (looks_of before) q (looks_of after) r) parts.0
    (not_covered before after q r to high sizes.0 sizes.1)

far : (s : State) (command : Command) (r : ℕ) → is_near s command r ≡ false → reaches s command r ≡ false
far s command r none =
    reaches-by s command r
    ∙ is_reached-by (core_of s) (core_of (state_after s command)) (strokes_of s.control command) r
    ∙ far_from (core_of s) (core_of (state_after s command)) (strokes_of s.control command)
    (row_before (strokes_of s.control command) r) r none

none_counted : (s : State) (command : Command) (rows : List ℕ) → list_any (is_near s command) rows ≡ false
    → count_by (reaches s command) rows ≡ 0
none_counted s command [] none = refl
none_counted s command (r ∷ rows) none =
    let one : Bool → ℕ = λ b. cond b 1 0 in
    let parts = or_parts (is_near s command r) (list_any (is_near s command) rows) none in
    let here : one (reaches s command r) ≡ 0 = ap one (far s command r parts.0) in
    let rest : count_by (reaches s command) rows ≡ 0 = none_counted s command rows parts.1 in
    sum_by-cons (λ k. one (reaches s command k)) r rows ∙ omega (arith, here, rest)

-- among far rows these alone are counted
reached_among : (s : State) (command : Command) (upper rows lower : List ℕ)
    → range_with_len 1 24 ≡ upper ++ (rows ++ lower) → list_any (is_near s command) upper ≡ false
    → list_any (is_near s command) lower ≡ false → rows_in_reach s command ≡ count_by (reaches s command) rows
reached_among s command upper rows lower all above below =
    let one : ℕ → ℕ = λ r. cond (reaches s command r) 1 0 in
    let first : count_by (reaches s command) (upper ++ (rows ++ lower))
    ≡ count_by (reaches s command) upper + count_by (reaches s command) (rows ++ lower) =
    sum_by-append one upper (rows ++ lower) in
    let second : count_by (reaches s command) (rows ++ lower)
    ≡ count_by (reaches s command) rows + count_by (reaches s command) lower =
    sum_by-append one rows lower in
    let over : count_by (reaches s command) upper ≡ 0 = none_counted s command upper above in
    let under : count_by (reaches s command) lower ≡ 0 = none_counted s command lower below in
    rows_in_reach-counted s command ∙ ap (count_by (reaches s command)) all
    ∙ omega (arith, first, second, over, under)

-- ---- one row among letters

-- `1F 42 41 41 42 1F 43 41 43 44 1F 43 42`: AB in row 2 and CD in row 3, and the position on D
abbrev pub two_rows_of_letters : List Command
two_rows_of_letters = Position 2 1 ∷ Graphic 0x41 ∷ Graphic 0x42 ∷ Position 3 1 ∷ Graphic 0x43 ∷ Graphic 0x44
    ∷ Position 3 2 ∷ []

-- all rows but row 3 are far
abbrev pub row_3_alone : State → Command → Type 0
row_3_alone s command =
    (list_any (is_near s command) (range_with_len 1 2) ≡ false)
    × (list_any (is_near s command) (range_with_len 4 21) ≡ false)

row_3_counted : (s : State) (command : Command) → row_3_alone s command → count_by (reaches s command) (3 ∷ []) ≡ 1
    → rows_in_reach s command ≡ 1
row_3_counted s command alone here =
    reached_among s command (range_with_len 1 2) (3 ∷ []) (range_with_len 4 21) refl alone.0 alone.1 ∙ here

letter_far : row_3_alone (state two_rows_of_letters) (Graphic 0x45)
unfolding computing
letter_far = (refl, refl)

letter_here : count_by (reaches (state two_rows_of_letters) (Graphic 0x45)) (3 ∷ []) ≡ 1
unfolding computing
letter_here = refl

-- a letter reaches its row
pub letter : rows_in_reach (state two_rows_of_letters) (Graphic 0x45) ≡ 1
letter = row_3_counted (state two_rows_of_letters) (Graphic 0x45) letter_far letter_here

erase_far : row_3_alone (state two_rows_of_letters) Cancel
unfolding computing
erase_far = (refl, refl)

erase_here : count_by (reaches (state two_rows_of_letters) Cancel) (3 ∷ []) ≡ 1
unfolding computing
erase_here = refl

-- the erased end of a row reaches that row
pub erase : rows_in_reach (state two_rows_of_letters) Cancel ≡ 1
erase = row_3_counted (state two_rows_of_letters) Cancel erase_far erase_here

row_attribute_far : row_3_alone (state two_rows_of_letters) (FullRow 17)
unfolding computing
row_attribute_far = (refl, refl)

row_attribute_here : count_by (reaches (state two_rows_of_letters) (FullRow 17)) (3 ∷ []) ≡ 1
unfolding computing
row_attribute_here = refl

-- a background of the row, `1B 23 21 51`, reaches that row
pub row_attribute : rows_in_reach (state two_rows_of_letters) (FullRow 17) ≡ 1
row_attribute = row_3_counted (state two_rows_of_letters) (FullRow 17) row_attribute_far row_attribute_here

abbrev pub rows_that_scroll : List Command
rows_that_scroll = two_rows_of_letters ++ AreaCreate 2 3 ∷ []

shift_far : row_3_alone (state rows_that_scroll) ScrollUp
unfolding computing
shift_far = (refl, refl)

shift_here : count_by (reaches (state rows_that_scroll) ScrollUp) (3 ∷ []) ≡ 1
unfolding computing
shift_here = refl

-- of an area of two rows that goes up, `9B 30 60`, the last is reached, which comes free; the first has the letters of the
-- last
pub shift : rows_in_reach (state rows_that_scroll) ScrollUp ≡ 1
shift = row_3_counted (state rows_that_scroll) ScrollUp shift_far shift_here

-- ---- no row

none_reached : (s : State) (command : Command) → list_any (is_near s command) (range_with_len 1 24) ≡ false
    → rows_in_reach s command ≡ 0
none_reached s command far = reached_among s command [] [] (range_with_len 1 24) refl refl far

abbrev pub with_a_red_row : List Command
with_a_red_row = two_rows_of_letters ++ FullRow 17 ∷ []

row_attribute_again_far : list_any (is_near (state with_a_red_row) (FullRow 17)) (range_with_len 1 24) ≡ false
unfolding computing
row_attribute_again_far = refl

-- the same background of the row once more reaches none
pub row_attribute_again : rows_in_reach (state with_a_red_row) (FullRow 17) ≡ 0
row_attribute_again = none_reached (state with_a_red_row) (FullRow 17) row_attribute_again_far

abbrev pub on_a_blue_screen : List Command
on_a_blue_screen = two_rows_of_letters ++ FullScreen 20 ∷ []

screen_attribute_again_far : list_any (is_near (state on_a_blue_screen) (FullScreen 20)) (range_with_len 1 24) ≡ false
unfolding computing
screen_attribute_again_far = refl

-- nor does the same background of the screen, `1B 23 20 54`
pub screen_attribute_again : rows_in_reach (state on_a_blue_screen) (FullScreen 20) ≡ 0
screen_attribute_again = none_reached (state on_a_blue_screen) (FullScreen 20) screen_attribute_again_far

position_far : list_any (is_near (state two_rows_of_letters) (Position 5 5)) (range_with_len 1 24) ≡ false
unfolding computing
position_far = refl

-- nor a position
pub position : rows_in_reach (state two_rows_of_letters) (Position 5 5) ≡ 0
position = none_reached (state two_rows_of_letters) (Position 5 5) position_far

-- ---- signs of double height

-- high signs in the rows 1 to 4 of the first column: the first and the third cover the others
abbrev pub high_signs_in_a_column : List Command
high_signs_in_a_column = Position 1 1 ∷ C1 13 ∷ Graphic 0x41 ∷ Position 2 1 ∷ C1 13 ∷ Graphic 0x42 ∷ Position 3 1
    ∷ C1 13 ∷ Graphic 0x43 ∷ Position 4 1 ∷ C1 13 ∷ Graphic 0x44 ∷ Position 1 1 ∷ []

column_far : list_any (is_near (state high_signs_in_a_column) (Graphic 0x41)) (range_with_len 6 19) ≡ false
unfolding computing
column_far = refl

column_counted : count_by (reaches (state high_signs_in_a_column) (Graphic 0x41)) (range_with_len 1 5) ≡ 5
unfolding computing
column_counted = refl

-- where the first becomes of single size, the second and the fourth are seen, and the fourth covers row 5
pub five_rows : rows_in_reach (state high_signs_in_a_column) (Graphic 0x41) ≡ 5
five_rows =
    reached_among (state high_signs_in_a_column) (Graphic 0x41) [] (range_with_len 1 5) (range_with_len 6 19) refl refl
    column_far ∙ column_counted

-- `1F 41 41 8D 41 1F 42 41`: the position stands beneath a high sign
abbrev pub beneath_a_high_sign : List Command
beneath_a_high_sign = Position 1 1 ∷ C1 13 ∷ Graphic 0x41 ∷ Position 2 1 ∷ []

beneath_far : list_any (is_near (state beneath_a_high_sign) (Graphic 0x41)) (range_with_len 3 22) ≡ false
unfolding computing
beneath_far = refl

beneath_counted : count_by (reaches (state beneath_a_high_sign) (Graphic 0x41)) (range_with_len 1 2) ≡ 1
unfolding computing
beneath_counted = refl

-- a letter there reaches its row alone
pub beneath : rows_in_reach (state beneath_a_high_sign) (Graphic 0x41) ≡ 1
beneath =
    reached_among (state beneath_a_high_sign) (Graphic 0x41) [] (range_with_len 1 2) (range_with_len 3 22) refl refl
    beneath_far ∙ beneath_counted

-- nothing is seen to change where no row moves and all but one are not reached, which keeps its looks
one_row_stays : (s : State) (command : Command) (q : ℕ) → IsValidState s → IsValidCommand command
    → ((r : ℕ) → row_before (strokes_of s.control command) r ≡ Some r)
    → ((r : ℕ) → 1 ≤ r → r ≤ 24 → (r == q) ≡ false → reaches s command r ≡ false)
    → looks_in (looks_of (core_of (state_after s command))) q ≡ looks_in (looks_of (core_of s)) q
    → looks_of (core_of (state_after s command)) ≡ looks_of (core_of s)
one_row_stays s command q valid may still out same =
    let after : Core = core_of (state_after s command) in
    same_table (look after) (look (core_of s)) (λ r c on.
    elim (cases_eq r q) [
      | inl here ↦
          sym (look-seen after r c on)
          ∙ ap (λ (k : ℕ). column_entry blank_look (looks_in (looks_of after) k) c) here
          ∙ ap (λ (row : List Look). column_entry blank_look row c) same
          ∙ ap (λ (k : ℕ). column_entry blank_look (looks_in (looks_of (core_of s)) k) c) (sym here)
          ∙ look-seen (core_of s) r c on
      | inr other ↦
          let apart : (r == q) ≡ false = grind (arith, nat_tests) in
          look-not_reached s command r r c valid may on (still r) (out r on.from_top on.to_bottom apart)
    ])

beneath_still : (r : ℕ) → row_before (strokes_of (state beneath_a_high_sign).control (Graphic 0x41)) r ≡ Some r
unfolding computing
beneath_still r = refl

row_1_out : reaches (state beneath_a_high_sign) (Graphic 0x41) 1 ≡ false
unfolding computing
row_1_out = refl

others_out : (r : ℕ) → 1 ≤ r → r ≤ 24 → (r == 2) ≡ false → reaches (state beneath_a_high_sign) (Graphic 0x41) r ≡ false
others_out r low high apart =
    elim (cases_lt r 2) [
      | inl first ↦
          let one : r ≡ 1 = omega arith in
          subst (λ k. reaches (state beneath_a_high_sign) (Graphic 0x41) k ≡ false) (sym one) row_1_out
      | inr lower ↦
          let past : 3 ≤ r = grind (arith, nat_tests) in
          far (state beneath_a_high_sign) (Graphic 0x41) r
          (no_index 3 22 (is_near (state beneath_a_high_sign) (Graphic 0x41)) beneath_far r past (omega arith))
    ]

row_2_stays : looks_in (looks_of (core_of (state_after (state beneath_a_high_sign) (Graphic 0x41)))) 2
    ≡ looks_in (looks_of (core_of (state beneath_a_high_sign))) 2
unfolding computing
row_2_stays = refl

-- `1F 41 41 8D 41 1F 42 41 41`: the letter changes no look
pub sign_beneath : grid (beneath_a_high_sign ++ Graphic 0x41 ∷ []) ≡ grid beneath_a_high_sign
unfolding computing
sign_beneath =
    looks_of-alike (core (beneath_a_high_sign ++ Graphic 0x41 ∷ []))
    (core_of (state_after (state beneath_a_high_sign) (Graphic 0x41)))
    (page-one_more beneath_a_high_sign (Graphic 0x41) (search rules) (search rules)) refl
    ∙ one_row_stays (state beneath_a_high_sign) (Graphic 0x41) 2
    (IsValidState-state beneath_a_high_sign (search rules)) (search rules) beneath_still others_out row_2_stays

-- ---- colours

-- `81 41 0D 0A 42`: red A and B in the first two rows
abbrev pub two_red_letters : List Command
two_red_letters = C1 1 ∷ Graphic 0x41 ∷ Return ∷ Down ∷ Graphic 0x42 ∷ []

abbrev pub green_for_red : Command
green_for_red = Entry 1 (record { r = 0; g = 15; b = 0 })

green_far : list_any (is_near (state two_red_letters) green_for_red) (range_with_len 3 22) ≡ false
unfolding computing
green_far = refl

green_counted : count_by (reaches (state two_red_letters) green_for_red) (range_with_len 1 2) ≡ 2
unfolding computing
green_counted = refl

-- another paint of a colour entry, `1F 26 30 31 52 52`, reaches the rows that name the entry
pub green : rows_in_reach (state two_red_letters) green_for_red ≡ 2
green =
    reached_among (state two_red_letters) green_for_red [] (range_with_len 1 2) (range_with_len 3 22) refl refl green_far
    ∙ green_counted

-- `81 8D 41`: a red sign of double height
abbrev pub high_red_letter : List Command
high_red_letter = C1 1 ∷ C1 13 ∷ Graphic 0x41 ∷ []

-- the row of its lower half names its entry too
pub green_below : map (reaches (state high_red_letter) green_for_red) (range_with_len 1 3) ≡ true ∷ true ∷ false ∷ []
unfolding computing
green_below = refl

-- ---- patterns

-- rows 1 and 2 show signs of the downloaded set, the first drawn as a pattern of two planes, the second with none defined;
-- row 3 shows a letter
abbrev pub two_rows_of_patterns : List Command
two_rows_of_patterns = DrcsPattern 0x21 (pattern_of 2) ∷ Position 1 1 ∷ Designate 0 D ∷ Graphic 0x21 ∷ Position 2 1
    ∷ Graphic 0x22 ∷ Position 3 1 ∷ Designate 0 P ∷ Graphic 0x41 ∷ []

-- which of these three rows a command reaches
abbrev pub reached_of_three : Command → List Bool
reached_of_three command = map (reaches (state two_rows_of_patterns) command) (range_with_len 1 3)

-- a pattern reaches the rows that name its code, also where none was defined
pub pattern_again : map reached_of_three (DrcsPattern 0x21 (pattern_of 1) ∷ DrcsPattern 0x22 (pattern_of 1)
    ∷ DrcsPattern 0x23 (pattern_of 1) ∷ [])
    ≡ (true ∷ false ∷ false ∷ []) ∷ (false ∷ true ∷ false ∷ []) ∷ (false ∷ false ∷ false ∷ []) ∷ []
unfolding computing
pattern_again = refl

-- a header that deletes reaches the rows that name a code
pub deleted : reached_of_three (DrcsHeader true (record { w = 6; h = 6; planes = 1 })) ≡ true ∷ true ∷ false ∷ []
unfolding computing
deleted = refl

-- an entry of the DCLUT reaches the rows that show two planes, and so does a colour entry that one of them names, where no
-- row has it as foreground or background
pub inks_again : map reached_of_three (Dclut 3 5 ∷ Entry 2 (record { r = 1; g = 2; b = 3 })
    ∷ Entry 5 (record { r = 1; g = 2; b = 3 }) ∷ [])
    ≡ (true ∷ false ∷ false ∷ []) ∷ (true ∷ false ∷ false ∷ []) ∷ (false ∷ false ∷ false ∷ []) ∷ []
unfolding computing
inks_again = refl
