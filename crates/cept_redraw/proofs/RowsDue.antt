-- Rows that are due: a tick for each, and no more of them than a command may resolve.
use Rattle.std.proofs.Common.{◌≡◌, ℕ, ◌+◌, ◌-◌, ◌≤◌, ◌==◌, ◌||◌, ◌&&◌, ◌≢◌, not, Bool, true, false, cond, List, [], ◌∷◌, map}
use Rattle.std.proofs.Common.{Option, Some, None, get_or, take, inl, inr, refl, sym, ap, ◌∙◌, arith}
use Rattle.std.specs.List.{count_by, list_any, range_with_len}
use Rattle.std.proofs.lemmas.Bool.{and_parts, cases_Bool, eqb-true, false_from_ne_true, or_from, or_left, or_parts, or_right, true≢false}
use Rattle.std.proofs.lemmas.Bool.Decides.{nat_tests}
use Rattle.std.proofs.lemmas.List.{take_all}
use Rattle.std.proofs.lemmas.List.FromFn.{get_or-range_with_len, length-range_with_len}
use Rattle.std.proofs.lemmas.List.Sums.{count_by_more_no, count_by_more_yes, get_or-le-sum_by}
use Rattle.std.proofs.lemmas.List.Sums.{sum_by-cons, sum_by-le-sum_by}
use Rattle.cept_codes.specs.declared.cell.Cell.{Cell}
use Rattle.cept_codes.specs.declared.look.Look.{Look}
use Rattle.cept_codes.specs.declared.stroke.Stroke.{Stroke}
use Rattle.cept_codes.specs.declared.stroke.Stroke.TheVariants as strokes
use Rattle.cept_codes.specs.Place.{Place, OnScreen}
use Rattle.cept_codes.specs.Table.{entry, list_by_index}
use Rattle.cept_codes.proofs.Laws.{entry-list_by_index, entry_from, length-list_by_index, same_indexed}
use Rattle.cept_profile.specs.Edges.{Edges, edges_of_core}
use Rattle.cept_profile.specs.Look.{look, looks_of}
use Rattle.cept_profile.specs.MovedRows.{row_before}
use Rattle.cept_profile.specs.Reach.{LeadsTo, has_other_attributes, is_reached, is_reached_from, is_redefined}
use Rattle.cept_profile.specs.Reach.{is_written, redefines}
use Rattle.cept_profile.specs.RowsFromAbove.{is_covered_otherwise}
use Rattle.cept_profile.specs.State.{Core, Page}
use Rattle.cept_profile.proofs.Laws.{is_reached-by, look-unreached}
use Rattle.cept_page.specs.declared.page.Pens.{Pens}
use Rattle.cept_page.specs.Parts.{pens_of}
use Rattle.cept_redraw.specs.declared.followed_rows.Followed.{Followed}
use Rattle.cept_redraw.specs.inside.Due.{followed, has_others, is_altered, is_altered_from, is_covered_from, is_due}
use Rattle.cept_redraw.specs.inside.Due.{row_from, rows_due}
use Rattle.cept_redraw.specs.Resolved.{are_same_edges, defines, is_same_area, may_resolve, mixes, one_else}
use Rattle.cept_redraw.specs.Resolved.{rows_resolved_by}
use Rattle.cept_redraw.specs.Kept.{core_on}
use Rattle.cept_redraw.proofs.FollowedRows.{row_from-followed}

-- ---- a row that isn't altered, nor covered otherwise, keeps the looks of the row of which it came

-- what defines nothing defines no name of a row anew
defines-not : (k : Core) (r : ℕ) (x : Stroke) → defines x ≡ false → redefines k r x ≡ false
defines-not k r (strokes.Put p cell) none = refl
defines-not k r (strokes.Erase row from) none = refl
defines-not k r strokes.Wipe none = refl
defines-not k r (strokes.Shift first last way) none = refl
defines-not k r (strokes.Carry first last way) none = refl
defines-not k r (strokes.RowAttr row attr) none = refl
defines-not k r (strokes.ScreenAttr attr) none = refl
defines-not k r strokes.ScreenClear none = refl
defines-not k r (strokes.Colour i paint) none = absurd (true≢false none)
defines-not k r (strokes.Dclut j v) none = absurd (true≢false none)
defines-not k r strokes.ColourDefaults none = absurd (true≢false none)
defines-not k r (strokes.Drcs code pattern) none = absurd (true≢false none)
defines-not k r strokes.DrcsClear none = absurd (true≢false none)
defines-not k r (strokes.Format rows) none = refl

none_redefined : (k : Core) (xs : List Stroke) (r : ℕ) → list_any defines xs ≡ false → is_redefined k xs r ≡ false
unfolding is_redefined
none_redefined k [] r none = refl
none_redefined k (x ∷ xs) r none =
    let parts = or_parts (defines x) (list_any defines xs) none in
    or_from (redefines k r x) (is_redefined k xs r) (defines-not k r x parts.0) (none_redefined k xs r parts.1)

-- other attributes in the words of cores
has_others-cores : (before after : Core) (q r : ℕ)
    → has_other_attributes before q after r
    ≡ has_others (pens_of before.page) (edges_of_core before) q (pens_of after.page) (edges_of_core after) r
unfolding has_others has_other_attributes
has_others-cores before after q r = refl

-- whether a row is reached that came of this one
is_reached-came : (before after : Core) (xs : List Stroke) (q r : ℕ) → row_before xs r ≡ Some q
    → is_reached before after xs r
    ≡ (is_written xs r || has_other_attributes before q after r || is_redefined after xs r
    || is_covered_otherwise (looks_of before) q (looks_of after) r)
is_reached-came before after xs q r came =
    is_reached-by before after xs r ∙ ap (λ found. is_reached_from before after xs found r) came

pub look-unaltered : (before after : Core) (xs : List Stroke) (q r c : ℕ) → LeadsTo before after xs → OnScreen r c
    → row_before xs r ≡ Some q
    → is_altered xs (pens_of before.page) (edges_of_core before) (pens_of after.page) (edges_of_core after) r ≡ false
    → is_covered_otherwise (looks_of before) q (looks_of after) r ≡ false → look after r c ≡ look before q c
unfolding is_altered
look-unaltered before after xs q r c leads on came out covered =
    let others : Bool =
    has_others (pens_of before.page) (edges_of_core before) q (pens_of after.page) (edges_of_core after) r in
    let none : (is_written xs r || list_any defines xs || others) ≡ false =
    ap (λ found. is_altered_from (is_written xs r) (list_any defines xs) (pens_of before.page) (edges_of_core before)
    (pens_of after.page) (edges_of_core after) found r) (sym came) ∙ out in
    let parts = or_parts (is_written xs r || list_any defines xs) others none in
    let first = or_parts (is_written xs r) (list_any defines xs) parts.0 in
    let three : (is_written xs r || has_other_attributes before q after r || is_redefined after xs r) ≡ false =
    or_from (is_written xs r || has_other_attributes before q after r) (is_redefined after xs r)
    (or_from (is_written xs r) (has_other_attributes before q after r) first.0
    (has_others-cores before after q r ∙ parts.1)) (none_redefined after xs r first.1) in
    look-unreached before after xs q r c leads on came
    (is_reached-came before after xs q r came
    ∙ or_from (is_written xs r || has_other_attributes before q after r || is_redefined after xs r)
    (is_covered_otherwise (looks_of before) q (looks_of after) r) three covered)

-- ---- no more rows are due than a command may resolve

count_by-map : {X : Type 0} (f : X → Bool) (xs : List X) → count_by (λ b. b) (map f xs) ≡ count_by f xs
count_by-map f [] = refl
count_by-map f (x ∷ xs) =
    sum_by-cons (λ b. cond b 1 0) (f x) (map f xs) ∙ ap (λ n. cond (f x) 1 0 + n) (count_by-map f xs)
    ∙ sym (sum_by-cons (λ y. cond (f y) 1 0) x xs)

count_by-list_by_index : (f : ℕ → Bool) → count_by (λ b. b) (list_by_index 1 24 f) ≡ count_by f (range_with_len 1 24)
unfolding list_by_index
count_by-list_by_index f = count_by-map f (range_with_len 1 24)

-- the rows on the screen that pass two tests alike
pub same_count : (f g : ℕ → Bool) → ((r : ℕ) → 1 ≤ r → r ≤ 24 → f r ≡ g r) → count_by f (range_with_len 1 24)
    ≡ count_by g (range_with_len 1 24)
same_count f g same =
    sym (count_by-list_by_index f)
    ∙ ap (count_by (λ b. b)) (same_indexed 1 24 f g (λ r low high. same r low (omega (arith, high))))
    ∙ count_by-list_by_index g

pub or_false : (b : Bool) → (b || false) ≡ b
or_false true = refl
or_false false = refl

one_more : (a b : Bool) → cond {A = ℕ} a 1 0 ≤ cond {A = ℕ} (b || a) 1 0
one_more true b = omega (arith, ap (λ c. cond {A = ℕ} c 1 0) (or_right b true refl))
one_more false b = omega arith

implied : (a b : Bool) → (a ≡ true → b ≡ true) → (b || a) ≡ b
implied true b so = or_right b true refl ∙ sym (so refl)
implied false b so = or_false b

-- where each that passes one passes the other
pub fewer : (f g : ℕ → Bool) → ((r : ℕ) → 1 ≤ r → r ≤ 24 → f r ≡ true → g r ≡ true)
    → count_by f (range_with_len 1 24) ≤ count_by g (range_with_len 1 24)
fewer f g so =
    let more : count_by f (range_with_len 1 24) ≤ count_by (λ r. g r || f r) (range_with_len 1 24) =
    sum_by-le-sum_by (λ r. cond (f r) 1 0) (λ r. cond (g r || f r) 1 0) (range_with_len 1 24)
    (λ r. one_more (f r) (g r)) in
    let same : count_by (λ r. g r || f r) (range_with_len 1 24) ≡ count_by g (range_with_len 1 24) =
    same_count (λ r. g r || f r) g (λ r low high. implied (f r) (g r) (so r low high)) in
    omega (arith, more, same)

-- the rows that strokes alter between two cores
abbrev pub altered_by : Core → Core → List Stroke → List Bool
altered_by before after xs =
    list_by_index 1 24 (is_altered xs (pens_of before.page) (edges_of_core before) (pens_of after.page)
    (edges_of_core after))

-- two ways to say that one of four holds, of which the third does not
four : (a b c : Bool) → ((a || false || b) || c) ≡ ((a || b || false) || c)
four true b c = refl
four false true c = refl
four false false c = refl

-- a row that is due is reached, where nothing is defined
due_reached : (before after : Core) (xs : List Stroke) (r : ℕ) → list_any defines xs ≡ false → (found : Option ℕ)
    → row_before xs r ≡ found
    → (is_altered_from (is_written xs r) (list_any defines xs) (pens_of before.page) (edges_of_core before)
    (pens_of after.page) (edges_of_core after) found r
    || is_covered_from (looks_of before) found (looks_of after) r) ≡ true
    → is_reached before after xs r ≡ true
due_reached before after xs r none None came due =
    is_reached-by before after xs r ∙ ap (λ found. is_reached_from before after xs found r) came
due_reached before after xs r none (Some q) came due =
    let others : Bool =
    has_others (pens_of before.page) (edges_of_core before) q (pens_of after.page) (edges_of_core after) r in
    let covered : Bool = is_covered_otherwise (looks_of before) q (looks_of after) r in
    is_reached-came before after xs q r came
    ∙ (λ i. (is_written xs r || has_others-cores before after q r i || none_redefined after xs r none i) || covered)
    ∙ sym (four (is_written xs r) others covered)
    ∙ ap (λ b. (is_written xs r || b || others) || covered) (sym none) ∙ due

due_may : (before after : Core) (xs : List Stroke)
    → (list_any defines xs ≡ true → mixes (edges_of_core before) (edges_of_core after) xs ≡ true) → (r : ℕ) → 1 ≤ r
    → r ≤ 24
    → is_due (altered_by before after xs) (list_by_index 1 24 (followed xs)) (looks_of before) (looks_of after) r ≡ true
    → may_resolve before after xs r ≡ true
unfolding may_resolve is_altered
due_may before after xs mixed r low high due =
    let altered : ℕ → Bool =
    is_altered xs (pens_of before.page) (edges_of_core before) (pens_of after.page) (edges_of_core after) in
    let rows : List Followed = list_by_index 1 24 (followed xs) in
    let both : Bool = mixes (edges_of_core before) (edges_of_core after) xs in
    elim (cases_Bool (list_any defines xs)) [
      | inl so ↦ or_right (is_reached before after xs r) both (mixed so)
      | inr none ↦
          let flag : entry false 1 (altered_by before after xs) r ≡ altered r =
          entry-list_by_index false 1 24 altered r low (omega (arith, high)) in
          let from : row_from rows r ≡ row_before xs r = row_from-followed rows xs refl r low high in
          or_left (is_reached before after xs r) both
          (due_reached before after xs r none (row_before xs r) refl
          (sym (λ i. flag i || is_covered_from (looks_of before) (from i) (looks_of after) r) ∙ due))
    ]

-- as many as may be resolved, where all that are due may
pub rows_due-fewer : (before after : Core) (xs : List Stroke) (flags : List Bool) (rows : List Followed)
    → ((r : ℕ) → 1 ≤ r → r ≤ 24 → is_due flags rows (looks_of before) (looks_of after) r ≡ true
    → may_resolve before after xs r ≡ true)
    → rows_due flags rows (looks_of before) (looks_of after) ≤ rows_resolved_by before after xs
unfolding rows_due rows_resolved_by
rows_due-fewer before after xs flags rows so =
    fewer (is_due flags rows (looks_of before) (looks_of after)) (may_resolve before after xs) so

-- rows altered between pages with their edges, in the words of cores that have these
pub rows_due-resolved : (p q : Page) (xs : List Stroke) (before after : Edges) (was now : List (List Look)) (k m : Core)
    → edges_of_core k ≡ before → edges_of_core m ≡ after → was ≡ looks_of (core_on k p) → now ≡ looks_of (core_on m q)
    → (list_any defines xs ≡ true → mixes before after xs ≡ true)
    → rows_due (list_by_index 1 24 (is_altered xs (pens_of p) before (pens_of q) after))
    (list_by_index 1 24 (followed xs)) was now
    ≤ rows_resolved_by (core_on k p) (core_on m q) xs
rows_due-resolved p q xs before after was now k m ek em ew en mixed =
    let old : Core = core_on k p in
    let new : Core = core_on m q in
    let same : rows_due (list_by_index 1 24 (is_altered xs (pens_of p) before (pens_of q) after))
    (list_by_index 1 24 (followed xs)) was now
    ≡ rows_due (altered_by old new xs) (list_by_index 1 24 (followed xs)) (looks_of old) (looks_of new) =
    sym (λ i. rows_due (list_by_index 1 24 (is_altered xs (pens_of p) (ek i) (pens_of q) (em i)))
    (list_by_index 1 24 (followed xs)) (sym ew i) (sym en i)) in
    let so : list_any defines xs ≡ true → mixes (edges_of_core old) (edges_of_core new) xs ≡ true =
    λ some. (λ i. mixes (ek i) (em i) xs) ∙ mixed some in
    omega (
      arith,
      same,
      rows_due-fewer old new xs (altered_by old new xs) (list_by_index 1 24 (followed xs))
          (due_may old new xs so),
    )

-- edges that a test finds the same are the same
same_area : (area other : Option (ℕ × ℕ)) → is_same_area area other ≡ true → area ≡ other
same_area None None is = refl
same_area (Some area) (Some other) is =
    let parts = and_parts (area.0 == other.0) (area.1 == other.1) is in
    λ i. Some (eqb-true area.0 other.0 parts.0 i, eqb-true area.1 other.1 parts.1 i)
same_area None (Some other) is = absurd (true≢false (sym is))
same_area (Some area) None is = absurd (true≢false (sym is))

same_edges : (edges others : Edges) → are_same_edges edges others ≡ true → edges ≡ others
same_edges edges others is =
    let parts = and_parts (edges.rows == others.rows) (is_same_area edges.area others.area) is in
    λ i. record
    { rows = eqb-true edges.rows others.rows parts.0 i; area = same_area edges.area others.area parts.1 i }

-- what strokes between these edges mix
pub mixes-else : (before after : Edges) (xs : List Stroke) → one_else xs ≡ true → list_any defines xs ≡ true
    → mixes before after xs ≡ true
unfolding mixes
mixes-else before after xs else some =
    (λ i. some i && (else i || not (are_same_edges before after)))

pub mixes-edges : (before after : Edges) (xs : List Stroke) → before ≢ after → list_any defines xs ≡ true
    → mixes before after xs ≡ true
unfolding mixes
mixes-edges before after xs apart some =
    let no : are_same_edges before after ≡ false =
    false_from_ne_true (are_same_edges before after) (λ same. apart (same_edges before after same)) in
    (λ i. some i && (one_else xs || not (no i))) ∙ or_right (one_else xs) true refl

pub put_defines_nothing : (p : Place) (cell : Cell) (xs : List Stroke) → xs ≡ strokes.Put p cell ∷ []
    → list_any defines xs ≡ false
put_defines_nothing p cell xs e = ap (λ (l : List Stroke). list_any defines l) e

-- a row that was freed is altered
pub freed-altered : (flags : List Bool) (rows : List Followed) (xs : List Stroke) (was : Pens) (before : Edges)
    (now : Pens) (after : Edges) → flags ≡ list_by_index 1 24 (is_altered xs was before now after)
    → rows ≡ list_by_index 1 24 (followed xs) → (r : ℕ) → 1 ≤ r → r ≤ 24 → row_from rows r ≡ None
    → entry false 1 flags r ≡ true
unfolding is_altered
freed-altered flags rows xs was before now after es er r low high none =
    ap (λ (l : List Bool). entry false 1 l r) es
    ∙ entry-list_by_index false 1 24 (is_altered xs was before now after) r low (omega (arith, high))
    ∙ ap (λ found. is_altered_from (is_written xs r) (list_any defines xs) was before now after found r)
    (sym (row_from-followed rows xs er r low high) ∙ none)

-- a cell that is put is in reach of its row
pub put-resolved : (p : Place) (cell : Cell) (xs : List Stroke) (before after : Core) → xs ≡ strokes.Put p cell ∷ []
    → OnScreen p.row p.column → 1 ≤ rows_resolved_by before after xs
unfolding is_written row_before may_resolve rows_resolved_by
put-resolved p cell xs before after e on =
    let f : ℕ → Bool = may_resolve before after xs in
    let one : List Stroke = strokes.Put p cell ∷ [] in
    let here : (p.row == p.row) ≡ true = grind (arith, nat_tests) in
    let row : get_or (range_with_len 1 24) (p.row - 1) 0 ≡ p.row =
    get_or-range_with_len 1 24 (p.row - 1) 0 (omega (arith, on)) ∙ omega (arith, on) in
    let reached : is_reached before after xs p.row ≡ true =
    ap (λ (l : List Stroke). is_reached before after l p.row) e ∙ is_reached-by before after one p.row
    ∙ or_left _ _ (or_left _ _ (or_left _ _ (or_left (p.row == p.row) false here))) in
    let yes : f (get_or (range_with_len 1 24) (p.row - 1) 0) ≡ true = ap f row ∙ or_left _ _ reached in
    let counted : cond {A = ℕ} (f (get_or (range_with_len 1 24) (p.row - 1) 0)) 1 0
    ≡ 1 = ap (λ b. cond b 1 0) yes in
    omega (
      arith,
      counted,
      get_or-le-sum_by (λ r. cond (f r) 1 0) (range_with_len 1 24) (p.row - 1) 0
          (omega (arith, on, length-range_with_len 1 24)),
    )

-- ---- a tick for each row that is due

-- so many of the first rows are due
abbrev pub due_above : (ℕ → Bool) → ℕ → ℕ
due_above f row = count_by (λ flag. flag) (take (row - 1) (list_by_index 1 24 f))

ticks-more : (rows : List Bool) (row : ℕ) → 1 ≤ row → take (row - 1 + 1) rows ≡ take (row + 1 - 1) rows
ticks-more rows row low = let e : row - 1 + 1 ≡ row + 1 - 1 = omega arith in ap (λ n. take n rows) e

pub ticks-no : (f : ℕ → Bool) (row before steps : ℕ) → 1 ≤ row → row ≤ 24 → f row ≡ false
    → steps ≡ before + due_above f row → steps ≡ before + due_above f (row + 1)
ticks-no f row before steps low high unset e =
    let rows : List Bool = list_by_index 1 24 f in
    let flag : get_or rows (row - 1) false ≡ false =
    sym (entry_from false 1 rows row low) ∙ entry-list_by_index false 1 24 f row low (omega arith) ∙ unset in
    let one = count_by_more_no (λ flag. flag) rows (row - 1) false (omega (arith, length-list_by_index 1 24 f)) flag in
    e ∙ ap (λ n. before + n) (sym one ∙ ap (count_by (λ flag. flag)) (ticks-more rows row low))

pub ticks-yes : (f : ℕ → Bool) (row before steps next : ℕ) → 1 ≤ row → row ≤ 24 → f row ≡ true
    → steps ≡ before + due_above f row → next ≡ steps + 1 → next ≡ before + due_above f (row + 1)
ticks-yes f row before steps next low high set e tick =
    let rows : List Bool = list_by_index 1 24 f in
    let flag : get_or rows (row - 1) false ≡ true =
    sym (entry_from false 1 rows row low) ∙ entry-list_by_index false 1 24 f row low (omega arith) ∙ set in
    let one = count_by_more_yes (λ flag. flag) rows (row - 1) false (omega (arith, length-list_by_index 1 24 f)) flag in
    let more = ap (count_by (λ flag. flag)) (ticks-more rows row low) in
    omega (arith, e, tick, one, more)

-- all rows
pub ticks-all : (flags : List Bool) (rows : List Followed) (before steps : ℕ) (was now : List (List Look)) (row : ℕ) → 24 ≤ row - 1
    → steps ≡ before + due_above (is_due flags rows was now) row → steps ≡ before + rows_due flags rows was now
unfolding rows_due
ticks-all flags rows before steps was now row past e =
    let f : ℕ → Bool = is_due flags rows was now in
    e ∙ ap (λ (l : List Bool). before + count_by (λ flag. flag) l)
    (take_all (row - 1) (list_by_index 1 24 f) (omega (arith, length-list_by_index 1 24 f)))
    ∙ ap (λ n. before + n) (count_by-list_by_index f)
