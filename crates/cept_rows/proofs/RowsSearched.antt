-- Rows searched column by column for a place that meets a test.
use Rattle.std.proofs.Common.{◌≡◌, ◌≢◌, ℕ, zero, suc, ◌+◌, ◌-◌, ◌<◌, ◌≤◌, ◌==◌, ◌||◌, cond, Bool, true, false, not, List, Some, None, get_or, set, take, length}
use Rattle.std.proofs.Common.{refl, sym, ap, ◌∙◌, arith}
use Rattle.std.specs.Prelude.{is_some}
use Rattle.std.specs.List.{list_any, range_with_len}
use Rattle.std.proofs.lemmas.Bool.Decides.{nat_tests}
use Rattle.std.proofs.lemmas.List.Elements.{All-from_get_or}
use Rattle.std.proofs.lemmas.List.{take_all}
use Rattle.std.proofs.lemmas.List.Folds.{list_any_at, list_any_more, list_any_none}
use Rattle.std.proofs.lemmas.List.FromFn.{get_or-range_with_len, length-range_with_len}
use Rattle.cept_codes.specs.declared.look.Look.{Look}
use Rattle.cept_codes.specs.declared.look.Shape.{Shape}
use Rattle.cept_codes.specs.declared.look.Shape.TheVariants as shapes
use Rattle.cept_codes.specs.Look.{blank_look}
use Rattle.cept_codes.specs.Table.{HasMadeEntries, entry, list_by_index}
use Rattle.cept_codes.proofs.Laws.{HasMadeEntries-more, entry_from, list_by_index-entry, same_indexed}
use Rattle.cept_profile.specs.Names.{is_code, pattern_shown, some_place}
use Rattle.cept_profile.specs.Tiling.{column_entry}
use Rattle.cept_rows.specs.declared.drawing.Drawing.{Drawing}
use Rattle.cept_rows.specs.declared.naming.RowNames.{RowNames}
use Rattle.cept_rows.specs.declared.small_look.SmallLook.{SmallLook}
use Rattle.cept_rows.specs.KeptNames.{code_kept, names_kept}
use Rattle.cept_rows.specs.inside.KeptRows.{HasNoPatterns}
use Rattle.cept_rows.specs.Planes.{has_inks, has_planes}
use Rattle.cept_rows.specs.SmallLooks.{has_pattern, is_drcs, sign_of, small_of}
use Rattle.cept_rows.specs.inside.SmallLooks.{drawing_of}

-- some place does, where this one does
pub found_there : (meets : ℕ → Bool) (c : ℕ) → 1 ≤ c → c ≤ 40 → meets c ≡ true → some_place meets ≡ true
found_there meets c low high there =
    let column : get_or (range_with_len 1 40) (c - 1) 0 ≡ c =
    get_or-range_with_len 1 40 (c - 1) 0 (omega arith) ∙ omega arith in
    list_any_at meets (range_with_len 1 40) (c - 1) 0 (omega (arith, length-range_with_len 1 40))
    (ap meets column ∙ there)

-- and none, where no column does
pub found_nowhere : (meets : ℕ → Bool) (end : ℕ) → 41 ≤ end → ((c : ℕ) → 1 ≤ c → c < end → meets c ≡ false)
    → some_place meets ≡ false
found_nowhere meets end past none =
    list_any_none meets (range_with_len 1 40) (All-from_get_or (λ c. meets c ≡ false) (range_with_len 1 40) 0 (λ i below.
    let within : i < 40 = omega (arith, below, length-range_with_len 1 40) in
    ap meets (get_or-range_with_len 1 40 i 0 within) ∙ none (1 + i) (omega arith) (omega arith)))

-- a search without an end before the last place: one place more, and all
pub searched_more : {found b : Bool} (meets : ℕ → Bool) (k : ℕ) → k < 40
    → found ≡ list_any meets (take k (range_with_len 1 40)) → b ≡ meets (k + 1)
    → (found || b) ≡ list_any meets (take (k + 1) (range_with_len 1 40))
searched_more {found} {b} meets k below so here =
    let column : get_or (range_with_len 1 40) k 0 ≡ k + 1 =
    get_or-range_with_len 1 40 k 0 below ∙ omega arith in
    (λ i. so i || (here ∙ ap meets (sym column)) i)
    ∙ sym (list_any_more meets (range_with_len 1 40) k 0 (omega (arith, below, length-range_with_len 1 40)))

pub searched_all : {found : Bool} (meets : ℕ → Bool) (k : ℕ) → 40 ≤ k
    → found ≡ list_any meets (take k (range_with_len 1 40)) → found ≡ some_place meets
searched_all {found} meets k past so =
    so ∙ ap (list_any meets) (take_all k (range_with_len 1 40) (omega (arith, past, length-range_with_len 1 40)))

-- flags that are set besides: one place more
pub flagged_more : {b : Bool} (before : List Bool) (meets : ℕ → Bool) (flags : List Bool) (k i : ℕ) → i ≡ k → k < 40
    → HasMadeEntries false 1 40 (λ c. entry false 1 before c || meets c) (entry false 1 before) flags k
    → b ≡ meets (k + 1)
    → HasMadeEntries false 1 40 (λ c. entry false 1 before c || meets c) (entry false 1 before)
    (set flags i (get_or flags i false || b)) (k + 1)
flagged_more {b} before meets flags k i at below made here =
    let back : k + 1 - 1 ≡ i = omega arith in
    let was : get_or flags i false ≡ entry false 1 before (k + 1) =
    ap (λ n. get_or flags n false) (sym back) ∙ sym (entry_from false 1 flags (k + 1) (omega arith))
    ∙ made.left (k + 1) (omega arith) (omega arith) (omega arith) in
    HasMadeEntries-more false (get_or flags i false || b) 1 40 (λ c. entry false 1 before c || meets c)
    (entry false 1 before) flags k i (k + 1) made below at (omega arith) (λ j. was j || here j)

-- ---- what a place of a row is asked

-- the colour entry
abbrev pub has_entry : RowNames → ℕ → ℕ → Bool
has_entry n entry c = (names_kept n c).fore == entry || (names_kept n c).back == entry

-- the code
abbrev pub has_code : RowNames → ℕ → ℕ → Bool
has_code n code c = is_code (names_kept n c).code code

-- a code
abbrev pub has_some_code : RowNames → ℕ → Bool
has_some_code n c = is_some (names_kept n c).code

-- the planes
abbrev pub shows_planes : List Look → ℕ → ℕ → Bool
shows_planes looks planes c = has_planes planes (pattern_shown (column_entry blank_look looks c).shape)

-- ---- and what a place that is read answers

pub entry_at : (n : RowNames) (entry k : ℕ) → (get_or n.fore k 0 == entry || get_or n.back k 0 == entry)
    ≡ has_entry n entry (k + 1)
entry_at n entry k =
    let back : k ≡ k + 1 - 1 = omega arith in
    ap (λ i. get_or n.fore i 0 == entry || get_or n.back i 0 == entry) back

-- a code that is kept, where it isn't 0
code_kept-some : (kept : ℕ) → kept ≢ 0 → code_kept kept ≡ Some kept
code_kept-some kept some =
    let other : (kept == 0) ≡ false = grind (arith, nat_tests) in ap (λ b. cond b None (Some kept)) other

code_is : (kept code : ℕ) → 1 ≤ code → (kept == code) ≡ is_code (code_kept kept) code
code_is zero code low = let other : (0 == code) ≡ false = grind (arith, nat_tests) in other
code_is (suc k) code low = ap (λ o. is_code o code) (sym (code_kept-some (suc k) (omega arith)))

pub code_at : (n : RowNames) (code k : ℕ) → 1 ≤ code → (get_or n.code k 0 == code) ≡ has_code n code (k + 1)
code_at n code k low =
    let back : k ≡ k + 1 - 1 = omega arith in
    ap (λ i. get_or n.code i 0 == code) back ∙ code_is (get_or n.code (k + 1 - 1) 0) code low

some_code : (kept : ℕ) → not (kept == 0) ≡ is_some (code_kept kept)
some_code zero = refl
some_code (suc k) =
    let other : (suc k == 0) ≡ false = grind (arith, nat_tests) in
    ap not other ∙ sym (ap is_some (code_kept-some (suc k) (omega arith)))

pub some_code_at : (n : RowNames) (k : ℕ) → not (get_or n.code k 0 == 0) ≡ has_some_code n (k + 1)
some_code_at n k =
    let back : k ≡ k + 1 - 1 = omega arith in
    ap (λ i. not (get_or n.code i 0 == 0)) back ∙ some_code (get_or n.code (k + 1 - 1) 0)

-- what shows no pattern has no planes
planes_of_plain : (planes : ℕ) (s : Shape) → is_drcs (sign_of s).kind ≡ false
    → has_planes planes (pattern_shown s) ≡ false
planes_of_plain planes shapes.Space plain = refl
planes_of_plain planes (shapes.Char g) plain = refl
planes_of_plain planes (shapes.Drcs pattern inks) plain = cc

-- nor has it inks
inks_of_plain : (s : Shape) → is_drcs (sign_of s).kind ≡ false → has_inks (pattern_shown s) ≡ false
inks_of_plain shapes.Space plain = refl
inks_of_plain (shapes.Char g) plain = refl
inks_of_plain (shapes.Drcs pattern inks) plain = cc

-- what isn't found in one place more
pub or_none : (a b : Bool) → b ≡ false → a ≡ (a || b)
or_none true b none = refl
or_none false b none = sym none

-- so in a row that shows none no flag is set besides
pub none_inked : (looks : List Look) (flags : List Bool) → length flags ≡ 40 → HasNoPatterns looks
    → flags ≡ list_by_index 1 40 (λ c. entry false 1 flags c
    || has_inks (pattern_shown (column_entry blank_look looks c).shape))
none_inked looks flags long plain =
    sym (list_by_index-entry false 1 40 flags long)
    ∙ same_indexed 1 40 (entry false 1 flags) _ (λ c low high.
    or_none (entry false 1 flags c) (has_inks (pattern_shown (column_entry blank_look looks c).shape))
    (inks_of_plain (column_entry blank_look looks c).shape (plain c)))

pub plain_asked : (looks : List Look) (planes c : ℕ) (small : SmallLook)
    → small ≡ small_of (column_entry blank_look looks c) → has_pattern small ≡ false
    → shows_planes looks planes c ≡ false
plain_asked looks planes c small is plain =
    planes_of_plain planes (column_entry blank_look looks c).shape (sym (ap has_pattern is) ∙ plain)

planes_of_drawn : (planes : ℕ) (s : Shape) (d : Drawing) → is_drcs (sign_of s).kind ≡ true → d ≡ drawing_of s
    → (d.pattern.planes == planes) ≡ has_planes planes (pattern_shown s)
planes_of_drawn planes shapes.Space d drawn is = cc
planes_of_drawn planes (shapes.Char g) d drawn is = cc
planes_of_drawn planes (shapes.Drcs pattern inks) d drawn is = ap (λ (e : Drawing). e.pattern.planes == planes) is

pub planes_asked : (looks : List Look) (planes c : ℕ) (small : SmallLook) (d : Drawing)
    → small ≡ small_of (column_entry blank_look looks c) → has_pattern small ≡ true
    → d ≡ drawing_of (column_entry blank_look looks c).shape
    → (d.pattern.planes == planes) ≡ shows_planes looks planes c
planes_asked looks planes c small d is drawn e =
    planes_of_drawn planes (column_entry blank_look looks c).shape d (sym (ap has_pattern is) ∙ drawn) e
