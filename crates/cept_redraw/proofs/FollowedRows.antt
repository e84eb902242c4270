-- Rows followed back through strokes, stroke by stroke.
use Rattle.std.proofs.Common.{◌≡◌, ℕ, ◌+◌, ◌-◌, ◌<◌, ◌≤◌, ◌&&◌, ◌||◌, eqb, leb, Bool, true, false, cond, List, []}
use Rattle.std.proofs.Common.{◌∷◌, ◌++◌, ◌⊎◌, inl, inr, Option, Some, None, get_or, take, length, refl, sym, ap, ◌∙◌, arith}
use Rattle.std.specs.Prelude.{IfSome, option_and_then}
use Rattle.std.specs.List.{AllByRecursion}
use Rattle.std.specs.Option.{option_map_or}
use Rattle.std.proofs.lemmas.List.{take_all, take_more}
use Rattle.cept_codes.specs.declared.command.Up.{Up}
use Rattle.cept_codes.specs.declared.command.Up.TheVariants as ways
use Rattle.cept_codes.specs.declared.cell.Cell.{Cell}
use Rattle.cept_codes.specs.declared.stroke.Stroke.{Stroke}
use Rattle.cept_codes.specs.declared.stroke.Stroke.TheVariants as strokes
use Rattle.cept_codes.specs.Place.{Place}
use Rattle.cept_codes.specs.Stroke.{IsRow, IsValidStroke}
use Rattle.cept_codes.specs.Table.{entry, list_by_index}
use Rattle.cept_codes.proofs.Laws.{entry-list_by_index, list_by_index-entry, length-list_by_index, same_indexed}
use Rattle.cept_profile.specs.Cells.{shifted}
use Rattle.cept_profile.specs.MovedRows.{MovedRows, moved_rows, row_before, row_before_move}
use Rattle.cept_profile.specs.Reach.{is_written, writes, writes_where}
use Rattle.cept_profile.proofs.Laws.{row_before-on}
use Rattle.cept_redraw.specs.declared.followed_rows.Followed.{Followed}
use Rattle.cept_redraw.specs.inside.Due.{followed, followed_after, freed, row_from, written_if}

-- ---- one stroke more

-- what a function gives where there is something, else the default
abbrev pub picked : {X : Type 0} → X → (ℕ → X) → Option ℕ → X
picked d f None = d
picked d f (Some q) = f q

picked-cond : {X : Type 0} (d : X) (f : ℕ → X) (b e : Bool) (x y : ℕ)
    → cond b (cond e d (f x)) (f y) ≡ picked d f (cond b (cond e None (Some x)) (Some y))
picked-cond d f true true x y = refl
picked-cond d f true false x y = refl
picked-cond d f false e x y = refl

shifted-picked : {X : Type 0} (way : Up) (first last : ℕ) (d : X) (f : ℕ → X) (r : ℕ)
    → shifted way first last d f r
    ≡ picked d f (row_before_move (Some (record { first = first; last = last; way = way })) r)
shifted-picked ways.Up first last d f r = picked-cond d f (leb first r && leb r last) (eqb r last) (r + 1) r
shifted-picked ways.Down first last d f r = picked-cond d f (leb first r && leb r last) (eqb r first) (r - 1) r

-- what moved rows bring is what stood in the row of which this one came
pub moved-picked : {X : Type 0} (moved : Option MovedRows) (d : X) (f : ℕ → X) (r : ℕ)
    → option_map_or (λ (m : MovedRows). shifted m.way m.first m.last d f r) moved (f r)
    ≡ picked d f (row_before_move moved r)
moved-picked None d f r = refl
moved-picked (Some moved) d f r = shifted-picked moved.way moved.first moved.last d f r

-- whether strokes write in a row where it stood before one stroke more
abbrev written_where : List Stroke → Option ℕ → Bool
written_where xs None = false
written_where xs (Some q) = is_written xs q

any_row : (found : Option ℕ) → found ≡ option_and_then (λ q. Some q) found
any_row None = refl
any_row (Some q) = refl

pub row_before-snoc : (xs : List Stroke) (x : Stroke) (r : ℕ)
    → row_before (xs ++ x ∷ []) r ≡ option_and_then (row_before xs) (row_before_move (moved_rows x) r)
unfolding row_before
row_before-snoc [] x r = any_row (row_before_move (moved_rows x) r)
row_before-snoc (y ∷ xs) x r =
    ap (option_and_then (row_before_move (moved_rows y))) (row_before-snoc xs x r)
    ∙ through (row_before_move (moved_rows x) r)
  where
    through : (found : Option ℕ)
        → option_and_then (row_before_move (moved_rows y)) (option_and_then (row_before xs) found)
        ≡ option_and_then (row_before (y ∷ xs)) found
    through None = refl
    through (Some p) = refl

or_swap : (a b c : Bool) → (a || (b || c)) ≡ (b || (a || c))
or_swap true true c = refl
or_swap true false c = refl
or_swap false b c = refl

none_written : (found : Option ℕ) → written_where [] found ≡ false
unfolding is_written
none_written None = refl
none_written (Some q) = refl

is_written-snoc : (xs : List Stroke) (x : Stroke) (r : ℕ)
    → is_written (xs ++ x ∷ []) r ≡ (writes x r || written_where xs (row_before_move (moved_rows x) r))
unfolding row_before is_written
is_written-snoc [] x r = ap (λ b. writes x r || b) (sym (none_written (row_before_move (moved_rows x) r)))
is_written-snoc (y ∷ xs) x r =
    let found : Option ℕ = row_before_move (moved_rows x) r in
    (λ i. writes_where y (row_before-snoc xs x r i) || is_written-snoc xs x r i)
    ∙ or_swap (writes_where y (option_and_then (row_before xs) found)) (writes x r) (written_where xs found)
    ∙ ap (λ b. writes x r || b) (before found)
  where
    before : (found : Option ℕ)
        → (writes_where y (option_and_then (row_before xs) found) || written_where xs found)
        ≡ written_where (y ∷ xs) found
    before None = refl
    before (Some p) = refl

followed-picked : (xs : List Stroke) (found : Option ℕ)
    → (let row : Followed = record { from = option_and_then (row_before xs) found; written = written_where xs found } in row)
    ≡ picked freed (followed xs) found
followed-picked xs None = refl
followed-picked xs (Some p) = refl

pub followed-snoc : (xs : List Stroke) (x : Stroke) (r : ℕ)
    → followed (xs ++ x ∷ []) r ≡ followed_after x (followed xs) r
followed-snoc xs x r =
    let found : Option ℕ = row_before_move (moved_rows x) r in
    (λ i. record { from = row_before-snoc xs x r i; written = is_written-snoc xs x r i })
    ∙ ap (written_if (writes x r))
    (followed-picked xs found ∙ sym (moved-picked (moved_rows x) freed (followed xs) r))

-- ---- the rows that the first n strokes lead to

pub record FollowedSoFar (xs : List Stroke) (rows : List Followed) (n : ℕ) : Type 0 where
  pub long : length rows ≡ 24
  pub followed : (r : ℕ) → 1 ≤ r → r ≤ 24 → entry freed 1 rows r ≡ followed (take n xs) r

pub FollowedSoFar-none : (xs : List Stroke) (rows : List Followed) → rows ≡ list_by_index 1 24 (followed [])
    → FollowedSoFar xs rows 0
FollowedSoFar-none xs rows e = record {
  long = ap length e ∙ length-list_by_index 1 24 (followed []);
  followed = λ r low high.
      ap (λ (l : List Followed). entry freed 1 l r) e ∙ entry-list_by_index freed 1 24 (followed []) r low (omega (arith, high));
}

-- a stroke gives the same of rows that are the same on the screen
after-same : (x : Stroke) (f g : ℕ → Followed) (r : ℕ) → IsValidStroke x → 1 ≤ r → r ≤ 24
    → ((q : ℕ) → 1 ≤ q → q ≤ 24 → f q ≡ g q) → followed_after x f r ≡ followed_after x g r
unfolding row_before
after-same x f g r valid low high same =
    ap (written_if (writes x r)) (moved-picked (moved_rows x) freed f r
    ∙ picks (row_before_move (moved_rows x) r) refl ∙ sym (moved-picked (moved_rows x) freed g r))
  where
    picks : (found : Option ℕ) → row_before_move (moved_rows x) r ≡ found → picked freed f found ≡ picked freed g found
    picks None e = refl
    picks (Some q) e = let on : IsRow q = row_before-on (x ∷ []) r q (valid, tt) low high e in same q on.0 on.1

pub FollowedSoFar-more : {xs : List Stroke} {rows : List Followed} {n : ℕ} → FollowedSoFar xs rows n
    → (x : Stroke) (next : List Followed) → n < length xs → x ≡ get_or xs n x → IsValidStroke x → length next ≡ 24
    → ((r : ℕ) → 1 ≤ r → r ≤ 24 → entry freed 1 next r ≡ followed_after x (entry freed 1 rows) r)
    → FollowedSoFar xs next (n + 1)
FollowedSoFar-more {xs} {rows} {n} m x next below item valid long each = record {
  long = long;
  followed = λ r low high.
      each r low high
      ∙ after-same x (entry freed 1 rows) (followed (take n xs)) r valid low high m.followed
      ∙ sym (followed-snoc (take n xs) x r)
      ∙ ap (λ (l : List Stroke). followed l r) (ap (λ (s : Stroke). take n xs ++ s ∷ []) item ∙ sym (take_more xs n x below));
}

pub FollowedSoFar-all : {xs : List Stroke} {rows : List Followed} {n : ℕ} → FollowedSoFar xs rows n → length xs ≤ n
    → rows ≡ list_by_index 1 24 (followed xs)
FollowedSoFar-all {xs} {rows} {n} m past =
    sym (list_by_index-entry freed 1 24 rows m.long)
    ∙ same_indexed 1 24 (entry freed 1 rows) (followed xs) (λ r low high.
    m.followed r low (omega arith) ∙ ap (λ (l : List Stroke). followed l r) (take_all n xs past))

-- ---- of which row one came

pub row_from-followed : (rows : List Followed) (xs : List Stroke) → rows ≡ list_by_index 1 24 (followed xs) → (r : ℕ)
    → 1 ≤ r → r ≤ 24 → row_from rows r ≡ row_before xs r
row_from-followed rows xs e r low high =
    ap (λ (l : List Followed). row_from l r) e
    ∙ ap (λ (f : Followed). f.from) (entry-list_by_index freed 1 24 (followed xs) r low (omega (arith, high)))

came_of : (xs : List Stroke) (r : ℕ) → AllByRecursion IsValidStroke xs → 1 ≤ r → r ≤ 24 → (found : Option ℕ)
    → row_before xs r ≡ found → IfSome found IsRow
came_of xs r valid low high None e = tt
came_of xs r valid low high (Some q) e = row_before-on xs r q valid low high e

-- it is on the screen
pub came-followed : (rows : List Followed) (xs : List Stroke) → rows ≡ list_by_index 1 24 (followed xs)
    → AllByRecursion IsValidStroke xs → (r : ℕ) → 1 ≤ r → r ≤ 24 → IfSome (row_from rows r) IsRow
came-followed rows xs e valid r low high =
    came_of xs r valid low high (row_from rows r) (sym (row_from-followed rows xs e r low high))

-- a cell that is put moves no row
pub still-put : (rows : List Followed) (xs : List Stroke) (place : Place) (cell : Cell)
    → rows ≡ list_by_index 1 24 (followed xs) → xs ≡ strokes.Put place cell ∷ [] → (r q : ℕ) → 1 ≤ r → r ≤ 24
    → row_from rows r ≡ Some q → q ≡ r
unfolding row_before
still-put rows xs place cell e only r q low high is =
    let same : Some r ≡ Some q =
    sym (row_from-followed rows xs e r low high ∙ ap (λ (l : List Stroke). row_before l r) only) ∙ is in
    cc

-- before any stroke each row is where it is
pub followed-rest : (r : ℕ) → followed [] r ≡ (let row : Followed = record { from = Some r; written = false } in row)
unfolding row_before is_written
followed-rest r = refl

-- rows that move bring what they were, whether they are shifted or carried
pub moved-followed : (stroke : Stroke) (first last : ℕ) (way : Up)
    → (stroke ≡ strokes.Shift first last way) ⊎ (stroke ≡ strokes.Carry first last way) → (f : ℕ → Followed) (r : ℕ)
    → shifted way first last freed f r ≡ followed_after stroke f r
moved-followed stroke first last way (inl shift) f r = ap (λ (s : Stroke). followed_after s f r) (sym shift)
moved-followed stroke first last way (inr carry) f r = ap (λ (s : Stroke). followed_after s f r) (sym carry)
