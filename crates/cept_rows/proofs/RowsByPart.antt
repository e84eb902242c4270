-- Rows beneath others: each look is that of the place above, of the one to the left, or of what stands there itself.
use Rattle.std.proofs.Common.{◌≡◌, ℕ, ◌+◌, ◌-◌, ◌≤◌, ◌<◌, ◌&&◌, ltb, Bool, true, false, not, List}
use Rattle.std.proofs.Common.{zero, suc, length, get_or, refl, sym, ap, ◌∙◌, arith, subst, inl, inr, cond}
use Rattle.std.proofs.lemmas.Bool.{and_right, cases_lt, cond-true, cond-false}
use Rattle.cept_codes.specs.declared.attribute.Full.{Full}
use Rattle.cept_codes.specs.declared.attribute.Pen.{Pen}
use Rattle.cept_codes.specs.declared.cell.Cell.{Cell}
use Rattle.cept_codes.specs.declared.attribute.Size.{Size}
use Rattle.cept_codes.specs.declared.attribute.Size.TheVariants as sizes
use Rattle.cept_codes.specs.declared.cell.What.{What}
use Rattle.cept_codes.specs.declared.look.Look.{Look}
use Rattle.cept_codes.specs.declared.look.Part.{Part}
use Rattle.cept_codes.specs.Cell.{IsValidWhat}
use Rattle.cept_codes.specs.Look.{IsValidLook, blank_look}
use Rattle.cept_codes.specs.Table.{HasMadeEntries, entry, row_of}
use Rattle.cept_codes.proofs.Laws.{entry_from}
use Rattle.cept_profile.specs.Definitions.{Definitions}
use Rattle.cept_profile.specs.Look.{look_in_row, part_of, size_in_row}
use Rattle.cept_profile.specs.RowsFromAbove.{look_with_part}
use Rattle.cept_profile.specs.RowsFromAbove.{look_by, look_from, row_from_above}
use Rattle.cept_profile.specs.Serial.{own_attributes, own_attributes_of, row_in, serial_attributes}
use Rattle.cept_profile.specs.Tiling.{column_entry, covers_below, covers_right, is_covered_from_left, is_high, is_wide}
use Rattle.cept_profile.specs.Tiling.{origin_part, single_part}
use Rattle.cept_profile.specs.Valid.{AreValidDefinitions}
use Rattle.cept_profile.proofs.Laws.{IsValidLook-look_in_row, IsValidLook-row_from_above}
use Rattle.cept_profile.proofs.Laws.{look_in_row-alike, size_in_row-alike}
use Rattle.cept_rows.specs.RowsByCell.{FollowsToTheRight, IsCoveredAlike}
use Rattle.cept_rows.proofs.Columns.{column_entry-at, column_entry-row_of, made_all}

-- ---- the recursion, by a column and its neighbours

pub look_from-0 : (above own : ℕ → Look) (wanted : ℕ → Size) (last : Bool) → look_from above own wanted last 0
    ≡ blank_look
unfolding look_from
look_from-0 above own wanted last = refl

look_from-at : (above own : ℕ → Look) (wanted : ℕ → Size) (last : Bool) (c : ℕ) → 1 ≤ c
    → look_from above own wanted last c
    ≡ look_by (above c) (above (c - 1)) (above (c + 1)) (look_from above own wanted last (c - 1)) (own c)
    (wanted c) last c
unfolding look_from
look_from-at above own wanted last zero low = absurd (omega arith)
look_from-at above own wanted last (suc c) low =
    let e : suc c - 1 ≡ c = omega arith in
    let f : suc c + 1 ≡ suc (suc c) = omega arith in rw (e, f) refl

-- ---- the look of a place

-- beneath one that covers it
pub look_from-below : (above own : ℕ → Look) (wanted : ℕ → Size) (last : Bool) (c : ℕ) → 1 ≤ c
    → covers_below (part_of (above c)) ≡ true
    → look_with_part (record (part_of (above c)) { dy = 1 }) (above c) ≡ look_from above own wanted last c
look_from-below above own wanted last c low covered =
    sym (look_from-at above own wanted last c low ∙ cond-true _ _ _ covered)

-- to the right of one that covers it
pub look_from-right : (above own : ℕ → Look) (wanted : ℕ → Size) (last : Bool) (c : ℕ) (left : Look) → 1 ≤ c
    → covers_below (part_of (above c)) ≡ false → left ≡ look_from above own wanted last (c - 1)
    → is_covered_from_left (part_of (above (c - 1))) (part_of (look_from above own wanted last (c - 1))) ≡ true
    → look_with_part (record (part_of left) { dy = 0; dx = 1 }) left ≡ look_from above own wanted last c
look_from-right above own wanted last c left low uncovered is covered =
    ap (λ l. look_with_part (record (part_of l) { dy = 0; dx = 1 }) l) is
    ∙ sym (look_from-at above own wanted last c low ∙ cond-false _ _ _ uncovered ∙ cond-true _ _ _ covered)

-- what nothing covers
pub look_from-origin : (above own : ℕ → Look) (wanted : ℕ → Size) (last : Bool) (c : ℕ) (p : Part) → 1 ≤ c
    → covers_below (part_of (above c)) ≡ false
    → is_covered_from_left (part_of (above (c - 1))) (part_of (look_from above own wanted last (c - 1))) ≡ false
    → p
    ≡ origin_part (is_wide (wanted c) && ltb c 40 && not (covers_below (part_of (above (c + 1)))))
    (is_high (wanted c) && not last)
    → look_with_part p (own c) ≡ look_from above own wanted last c
look_from-origin above own wanted last c p low uncovered alone is =
    ap (λ q. look_with_part q (own c)) is
    ∙ sym (look_from-at above own wanted last c low ∙ cond-false _ _ _ uncovered ∙ cond-false _ _ _ alone)

-- of single size
single_origin : (size : Size) (x y z : Bool) → (not (is_high size) && not (is_wide size)) ≡ true
    → single_part ≡ origin_part (is_wide size && x && y) (is_high size && z)
single_origin sizes.Normal x y z single = refl
single_origin sizes.High x y z single = cc
single_origin sizes.Wide x y z single = cc
single_origin sizes.Both x y z single = cc

pub look_from-single : (above own : ℕ → Look) (wanted : ℕ → Size) (last : Bool) (c : ℕ) → 1 ≤ c
    → covers_below (part_of (above c)) ≡ false
    → is_covered_from_left (part_of (above (c - 1))) (part_of (look_from above own wanted last (c - 1))) ≡ false
    → (not (is_high (wanted c)) && not (is_wide (wanted c))) ≡ true → part_of (own c) ≡ single_part
    → own c ≡ look_from above own wanted last c
look_from-single above own wanted last c low uncovered alone single is =
    ap (λ p. look_with_part p (own c)) is
    ∙ look_from-origin above own wanted last c single_part low uncovered alone
    (single_origin (wanted c) (ltb c 40) (not (covers_below (part_of (above (c + 1))))) (not last) single)

-- rows that agree up to a column show the same there, beneath looks that agree up to the next one
pub look_from-alike : (defined : Definitions) (above beside : ℕ → Look) (f g : ℕ → What) (pen screen : Pen) (last : Bool)
    (c : ℕ) → ((d : ℕ) → d ≤ c + 1 → above d ≡ beside d) → ((d : ℕ) → 1 ≤ d → d ≤ c → f d ≡ g d)
    → look_from above (look_in_row defined f pen screen) (size_in_row f pen screen) last c
    ≡ look_from beside (look_in_row defined g pen screen) (size_in_row g pen screen) last c
look_from-alike defined above beside f g pen screen last zero over alike =
    look_from-0 above (look_in_row defined f pen screen) (size_in_row f pen screen) last
    ∙ sym (look_from-0 beside (look_in_row defined g pen screen) (size_in_row g pen screen) last)
look_from-alike defined above beside f g pen screen last (suc c) over alike =
    let back : suc c - 1 ≡ c = omega arith in
    let left : look_from above (look_in_row defined f pen screen) (size_in_row f pen screen) last (suc c - 1)
    ≡ look_from beside (look_in_row defined g pen screen) (size_in_row g pen screen) last (suc c - 1) =
    rw back (look_from-alike defined above beside f g pen screen last c (λ d high. over d (omega (arith, high)))
    (λ d low high. alike d low (omega (arith, high)))) in
    look_from-at above (look_in_row defined f pen screen) (size_in_row f pen screen) last (suc c) (omega arith)
    ∙ (λ i. look_by (over (suc c) (omega arith) i) (over (suc c - 1) (omega arith) i) (over (suc c + 1) (omega arith) i)
    (left i) (look_in_row-alike defined f g pen screen (suc c) (omega arith) alike i)
    (size_in_row-alike f g pen screen (suc c) (omega arith) alike i) last (suc c))
    ∙ sym (look_from-at beside (look_in_row defined g pen screen) (size_in_row g pen screen) last (suc c) (omega arith))

-- what a place shows, where the one to its left doesn't cover it
uncovered_from_left : (above above_left above_right left own : Look) (size : Size) (last : Bool) (c : ℕ)
    → covers_right (part_of left) ≡ false
    → look_by above above_left above_right left own size last c
    ≡ cond (covers_below (part_of above)) (look_with_part (record (part_of above) { dy = 1 }) above)
    (look_with_part (origin_part (is_wide size && ltb c 40 && not (covers_below (part_of above_right)))
    (is_high size && not last)) own)
uncovered_from_left above above_left above_right left own size last c none =
    ap (λ b. cond (covers_below (part_of above)) (look_with_part (record (part_of above) { dy = 1 }) above)
    (cond b (look_with_part (record (part_of left) { dy = 0; dx = 1 }) left)
    (look_with_part (origin_part (is_wide size && ltb c 40 && not (covers_below (part_of above_right)))
    (is_high size && not last)) own)))
    (and_right (not (covers_below (part_of above_left))) (covers_right (part_of left)) none)

-- places that are the same by themselves show the same, where the looks beside them are
pub look_from-beside : (above over own other : ℕ → Look) (wanted asked : ℕ → Size) (last : Bool) (c : ℕ) → 1 ≤ c
    → ((d : ℕ) → c ≤ d + 1 → d ≤ c + 1 → above d ≡ over d) → own c ≡ other c → wanted c ≡ asked c
    → IsCoveredAlike (look_from above own wanted last (c - 1)) (look_from over other asked last (c - 1))
    → look_from above own wanted last c ≡ look_from over other asked last c
look_from-beside above over own other wanted asked last c low near eo ew covered =
    let left : Look = look_from above own wanted last (c - 1) in
    let beside : Look = look_from over other asked last (c - 1) in
    let here : above c ≡ over c = near c (omega arith) (omega arith) in
    let before : above (c - 1) ≡ over (c - 1) = near (c - 1) (omega (arith, low)) (omega arith) in
    let next : above (c + 1) ≡ over (c + 1) = near (c + 1) (omega arith) (omega arith) in
    look_from-at above own wanted last c low
    ∙ elim covered [
      | inl same ↦
          λ i. look_by (here i) (before i) (next i) (same i) (eo i) (ew i) last c
      | inr none ↦
          uncovered_from_left (above c) (above (c - 1)) (above (c + 1)) left (own c) (wanted c) last c none.0
          ∙ (λ i. cond (covers_below (part_of (here i))) (look_with_part (record (part_of (here i)) { dy = 1 }) (here i))
          (look_with_part (origin_part (is_wide (ew i) && ltb c 40 && not (covers_below (part_of (next i))))
          (is_high (ew i) && not last)) (eo i)))
          ∙ sym (uncovered_from_left (over c) (over (c - 1)) (over (c + 1)) beside (other c) (asked c) last c none.1)
    ]
    ∙ sym (look_from-at over other asked last c low)

-- ---- what covers the place to the right

-- beneath what covers a place nothing does
pub covered-below : (a l : Look) → covers_below (part_of a) ≡ true → false
    ≡ is_covered_from_left (part_of a) (part_of l)
covered-below a l covered = sym (ap (λ b. not b && covers_right (part_of l)) covered)

-- and elsewhere the part decides
pub covered-elsewhere : (a l : Look) (p : Part) → covers_below (part_of a) ≡ false → part_of l ≡ p
    → covers_right p ≡ is_covered_from_left (part_of a) (part_of l)
covered-elsewhere a l p uncovered is = sym (λ i. not (uncovered i) && covers_right (is i))

-- ---- validity

-- looks are valid by the laws of rows, outside the row too
pub IsValidLook-look_from : (above : List Look) (own : ℕ → Look) (wanted : ℕ → Size) (last : Bool)
    → ((c : ℕ) → 1 ≤ c → c ≤ 40 → IsValidLook (column_entry blank_look above c))
    → ((c : ℕ) → 1 ≤ c → c ≤ 40 → IsValidLook (own c)) → (c : ℕ) → 1 ≤ c → c ≤ 40
    → IsValidLook (look_from (column_entry blank_look above) own wanted last c)
unfolding row_from_above
IsValidLook-look_from above own wanted last is_above is_own c low high =
    subst IsValidLook
    (column_entry-row_of blank_look (look_from (column_entry blank_look above) own wanted last) c low high)
    (IsValidLook-row_from_above above own wanted last is_above is_own c low high)

-- a row of valid cells
pub IsValidLook-cell : (defined : Definitions) (row : ℕ → What) (pen screen : Pen) → AreValidDefinitions defined
    → ((d : ℕ) → 1 ≤ d → d ≤ 40 → IsValidWhat (row d)) → (c : ℕ) → 1 ≤ c → c ≤ 40
    → IsValidLook (look_in_row defined row pen screen c)
IsValidLook-cell defined row pen screen are valid c low high =
    IsValidLook-look_in_row defined row pen screen c low are (λ d from to. valid d from (omega arith))

-- ---- a row that is made up to a place

-- a row whose columns before one are so
pub made_before : (f : ℕ → Look) (looks : List Look) (n : ℕ) → 1 ≤ n → length looks ≡ 40
    → ((c : ℕ) → 1 ≤ c → c < n → column_entry blank_look looks c ≡ f c)
    → HasMadeEntries blank_look 1 40 f (entry blank_look 1 looks) looks (n - 1)
made_before f looks n first long so = record {
  long = long;
  made = λ k low high below. entry_from blank_look 1 looks k low ∙ sym (column_entry-at blank_look looks k low)
      ∙ so k low (omega arith);
  left = λ k low high past. refl;
}

-- and the other way round
pub made_columns : (f g : ℕ → Look) (looks : List Look) (n : ℕ) → n ≤ 41 → HasMadeEntries blank_look 1 40 f g looks (n - 1)
    → (c : ℕ) → 1 ≤ c → c < n → column_entry blank_look looks c ≡ f c
made_columns f g looks n high made c low below =
    column_entry-at blank_look looks c low ∙ sym (entry_from blank_look 1 looks c low)
    ∙ made.made c low (omega arith) (omega arith)

-- the look to the left, where the row is made up to there
pub left_made : (f g : ℕ → Look) (looks : List Look) (c : ℕ) → HasMadeEntries blank_look 1 40 f g looks (c - 1)
    → f 0 ≡ blank_look → 1 ≤ c → c ≤ 41 → column_entry blank_look looks (c - 1) ≡ f (c - 1)
left_made f g looks c made first low high =
    elim (cases_lt 0 (c - 1)) [
      | inl some ↦
          column_entry-at blank_look looks (c - 1) some ∙ sym (entry_from blank_look 1 looks (c - 1) some)
          ∙ made.made (c - 1) some (omega arith) (omega arith)
      | inr none ↦
          let e : c - 1 ≡ 0 = omega (arith, none) in
          ap (λ n. column_entry blank_look looks n) e ∙ sym first ∙ ap f (sym e)
    ]

-- the places to the right of one, where neither look of it covers the next
followed : (until : ℕ) (f g : ℕ → Look) → FollowsToTheRight until f g → (n : ℕ) → until ≤ n
    → IsCoveredAlike (f n) (g n) → (k : ℕ) → n + suc k ≤ 40 → f (n + suc k) ≡ g (n + suc k)
followed until f g follows n past here zero high =
    let back : n ≡ n + 1 - 1 = omega arith in
    follows (n + 1) (omega (arith, past)) high (subst (λ m. IsCoveredAlike (f m) (g m)) back here)
followed until f g follows n past here (suc k) high =
    let back : n + suc k ≡ n + suc (suc k) - 1 = omega arith in
    follows (n + suc (suc k)) (omega (arith, past)) high
    (subst (λ m. IsCoveredAlike (f m) (g m)) back (inl (followed until f g follows n past here k (omega (arith, high)))))

pub follows_all : (until : ℕ) (f g : ℕ → Look) → FollowsToTheRight until f g → (n : ℕ) → until ≤ n
    → IsCoveredAlike (f n) (g n) → (c : ℕ) → n < c → c ≤ 40 → f c ≡ g c
follows_all until f g follows n past here c right high =
    let e : n + suc (c - n - 1) ≡ c = omega (arith, right) in
    subst (λ m. f m ≡ g m) e (followed until f g follows n past here (c - n - 1) (omega (arith, e, high)))

-- a row that is made up to a column, and beyond it is so already
pub made_rest : (f : ℕ → Look) (was looks : List Look) (n : ℕ)
    → HasMadeEntries blank_look 1 40 f (entry blank_look 1 was) looks n
    → ((c : ℕ) → n < c → c ≤ 40 → column_entry blank_look was c ≡ f c) → looks ≡ row_of f
made_rest f was looks n made rest =
    made_all blank_look f (entry blank_look 1 was) looks 41 (record {
      long = made.long;
      made = λ k low high below. elim (cases_lt n k) [
        | inl past ↦
            made.left k low high (omega (arith, past)) ∙ entry_from blank_look 1 was k low
            ∙ sym (column_entry-at blank_look was k low) ∙ rest k past (omega arith)
        | inr within ↦ made.made k low high (omega (arith, within))
      ];
      left = λ k low high past. absurd (omega (arith, high, past));
    }) (omega arith)

-- what is left beyond it stays
pub made_stays : (f : ℕ → Look) (was looks : List Look) (n : ℕ)
    → HasMadeEntries blank_look 1 40 f (entry blank_look 1 was) looks n
    → (c : ℕ) → n < c → c ≤ 40 → column_entry blank_look looks c ≡ column_entry blank_look was c
made_stays f was looks n made c past high =
    column_entry-at blank_look looks c (omega (arith, past))
    ∙ sym (entry_from blank_look 1 looks c (omega (arith, past)))
    ∙ made.left c (omega (arith, past)) (omega (arith, high)) (omega (arith, past))
    ∙ entry_from blank_look 1 was c (omega (arith, past)) ∙ sym (column_entry-at blank_look was c (omega (arith, past)))

-- so a row is whole where the last look that was made covers nothing to its right before and after
pub made_end : (until : ℕ) (f : ℕ → Look) (was mid looks : List Look) (n : ℕ)
    → HasMadeEntries blank_look 1 40 f (entry blank_look 1 was) mid (n - 1)
    → HasMadeEntries blank_look 1 40 f (entry blank_look 1 was) looks n → 1 ≤ n → n ≤ 40 → until ≤ n
    → FollowsToTheRight until (column_entry blank_look was) f
    → covers_right (part_of (column_entry blank_look mid n)) ≡ false
    → covers_right (part_of (column_entry blank_look looks n)) ≡ false → looks ≡ row_of f
made_end until f was mid looks n before made low high past follows was_free free =
    let stood : column_entry blank_look mid n ≡ column_entry blank_look was n =
    made_stays f was mid (n - 1) before n (omega (arith, low)) high in
    let here : column_entry blank_look looks n ≡ f n =
    column_entry-at blank_look looks n low ∙ sym (entry_from blank_look 1 looks n low)
    ∙ made.made n low (omega (arith, high)) (omega arith) in
    made_rest f was looks n made (follows_all until (column_entry blank_look was) f follows n past (inr
    (ap (λ (l : Look). covers_right (part_of l)) (sym stood) ∙ was_free, ap (λ (l : Look). covers_right (part_of l)) (sym here) ∙ free)))

-- ---- attributes

-- the attributes of a cell, by those that were found in force there
pub own_at : (cells : List Cell) (row screen : Pen) (fulls : List Full) (c : ℕ) (d made : Full) → 1 ≤ c → c ≤ 40
    → ((c : ℕ) (d : Full) → 1 ≤ c → c ≤ 40 → get_or fulls (c - 1) d ≡ serial_attributes (row_in cells) row screen c)
    → made ≡ own_attributes_of (row_in cells c) row screen (get_or fulls (c - 1) d)
    → made ≡ own_attributes (row_in cells) row screen c
own_at cells row screen fulls c d made low high serial e =
    e ∙ ap (λ f. own_attributes_of (row_in cells c) row screen f) (serial c d low high)
