-- The look of a place through its origin is the look by its neighbours.
use Rattle.std.proofs.Common.{◌≡◌, ℕ, ◌+◌, ◌-◌, ◌≤◌, ◌==◌, ◌&&◌, zero, suc, Bool, true, false, not, cond, Option, Some}
use Rattle.std.proofs.Common.{None, refl, sym, ap, ◌∙◌, subst, arith}
use Rattle.std.specs.Prelude.{nat_lt}
use Rattle.std.proofs.lemmas.Bool.{and_parts, and_right, cond-false, cond_both, eqb-true, not-true}
use Rattle.std.proofs.lemmas.Bool.{true≢false}
use Rattle.cept_codes.specs.declared.attribute.Size.{Size}
use Rattle.cept_codes.specs.declared.attribute.Size.TheVariants as sizes
use Rattle.cept_codes.specs.declared.look.Look.{Look}
use Rattle.cept_codes.specs.declared.look.Part.{Part}
use Rattle.cept_profile.specs.Look.{part_of}
use Rattle.cept_profile.specs.RowsFromAbove.{covering, look_by, look_from, look_of_origin, look_with_part}
use Rattle.cept_profile.specs.Tiling.{covers_below, covers_right, is_covered_from_left, is_high, is_wide}
use Rattle.cept_profile.specs.Tiling.{origin_part, part_by, single_part}

-- ---- one of three, by two tests

changed_by_two : {X Y : Type 0} (f : X → Y) (b d : Bool) (x y z : X) (x' y' z' : Y) → (b ≡ true → f x ≡ x')
    → (b ≡ false → d ≡ true → f y ≡ y') → (b ≡ false → d ≡ false → f z ≡ z')
    → f (cond b x (cond d y z)) ≡ cond b x' (cond d y' z')
changed_by_two f true d x y z x' y' z' first second third = first refl
changed_by_two f false true x y z x' y' z' first second third = second refl refl
changed_by_two f false false x y z x' y' z' first second third = third refl refl

-- ---- parts by their neighbours

-- what isn't covered from above is no lower part
pub upper_part : (u ul ur l : Part) (size : Size) (last : Bool) (c : ℕ) → covers_below u ≡ false
    → (part_by u ul ur l size last c).dy ≡ 0
upper_part u ul ur l size last c free =
    cond_both (covers_below u) (record u { dy = 1 })
    (cond (is_covered_from_left ul l) (record l { dy = 0; dx = 1 })
    (origin_part (is_wide size && nat_lt c 40 && not (covers_below ur)) (is_high size && not last)))
    (λ p. p.dy ≡ 0)
    (λ covered. absurd (true≢false (sym covered ∙ free)))
    (λ _. cond_both (is_covered_from_left ul l) (record l { dy = 0; dx = 1 })
    (origin_part (is_wide size && nat_lt c 40 && not (covers_below ur)) (is_high size && not last))
    (λ p. p.dy ≡ 0) (λ _. refl) (λ _. refl))

-- a part of single size covers nothing below it, where the part left of it doesn't
pub covers_nothing-by : (p u ul ur l : Part) (size : Size) (last : Bool) (c : ℕ)
    → p ≡ part_by u ul ur l size last c → size ≡ sizes.Normal → covers_below l ≡ false
    → (covers_below ul ≡ false → l.dy ≡ 0) → covers_below p ≡ false
covers_nothing-by p u ul ur l size last c same single free upper =
    let wide : Bool = is_wide size && nat_lt c 40 && not (covers_below ur) in
    let origin : Part = origin_part wide (is_high size && not last) in
    ap (λ q. covers_below q) same
    ∙ cond_both (covers_below u) (record u { dy = 1 })
    (cond (is_covered_from_left ul l) (record l { dy = 0; dx = 1 }) origin)
    (λ q. covers_below q ≡ false) (λ _. refl)
    (λ _. cond_both (is_covered_from_left ul l) (record l { dy = 0; dx = 1 }) origin (λ q. covers_below q ≡ false)
    (λ covered. subst (λ (dy : ℕ). (dy == 0 && l.h == 2) ≡ false)
    (upper (not-true (covers_below ul) (and_parts (not (covers_below ul)) (covers_right l) covered).0)) free)
    (λ _. ap (λ s. covers_below (origin_part wide (is_high s && not last))) single))

-- and it is a whole sign, where nothing covers it
pub single_by : (p u ul ur l : Part) (size : Size) (last : Bool) (c : ℕ) → p ≡ part_by u ul ur l size last c
    → size ≡ sizes.Normal → covers_below u ≡ false → l ≡ single_part → p ≡ single_part
single_by p u ul ur l size last c same single free left =
    let no_right : covers_right l ≡ false = ap (λ q. covers_right q) left in
    let wide : Bool = is_wide size && nat_lt c 40 && not (covers_below ur) in
    let origin : Part = origin_part wide (is_high size && not last) in
    same
    ∙ cond-false (covers_below u) (record u { dy = 1 })
    (cond (is_covered_from_left ul l) (record l { dy = 0; dx = 1 }) origin) free
    ∙ cond-false (is_covered_from_left ul l) (record l { dy = 0; dx = 1 }) origin
    (and_right (not (covers_below ul)) (covers_right l) no_right)
    ∙ ap (λ s. origin_part (is_wide s && nat_lt c 40 && not (covers_below ur)) (is_high s && not last)) single

-- ---- looks by their neighbours

below-origin : (own : ℕ → ℕ → Look) (u : Part) (r c : ℕ) → u.dy ≡ 0
    → look_of_origin own r c (record u { dy = 1 }) ≡ look_with_part (record u { dy = 1 }) (look_of_origin own (r - 1) c u)
below-origin own u r c upper =
    let same : r - 1 ≡ r - 1 - u.dy = omega (arith, upper) in
    ap (λ (q : ℕ). look_with_part (record u { dy = 1 }) (own q (c - u.dx))) same

right-origin : (own : ℕ → ℕ → Look) (l : Part) (r c : ℕ) → l.dy ≡ 0 → l.dx ≡ 0
    → look_of_origin own r c (record l { dy = 0; dx = 1 })
    ≡ look_with_part (record l { dy = 0; dx = 1 }) (look_of_origin own r (c - 1) l)
right-origin own l r c upper left =
    let same_row : r - 0 ≡ r - l.dy = omega (arith, upper) in
    let same_column : c - 1 ≡ c - 1 - l.dx = omega (arith, left) in
    ap (λ (q : ℕ). look_with_part (record l { dy = 0; dx = 1 }) (own q (c - 1))) same_row
    ∙ ap (λ (d : ℕ). look_with_part (record l { dy = 0; dx = 1 }) (own (r - l.dy) d)) same_column

pub origin-itself : (own : ℕ → ℕ → Look) (wide high : Bool) (r c : ℕ)
    → look_of_origin own r c (origin_part wide high) ≡ look_with_part (origin_part wide high) (own r c)
origin-itself own wide high r c =
    let same_row : r - 0 ≡ r = omega arith in
    let same_column : c - 0 ≡ c = omega arith in
    ap (λ (q : ℕ). look_with_part (origin_part wide high) (own q (c - 0))) same_row
    ∙ ap (λ (d : ℕ). look_with_part (origin_part wide high) (own r d)) same_column

-- the look through the origin of a part that is by its neighbours is the look by the looks through theirs, if the part
-- left is an upper one where nothing covers it from above
pub look_of_origin-by : (own : ℕ → ℕ → Look) (u ul ur l p : Part) (size : Size) (last : Bool) (r c : ℕ)
    → p ≡ part_by u ul ur l size last c → (covers_below ul ≡ false → l.dy ≡ 0)
    → look_of_origin own r c p
    ≡ look_by (look_of_origin own (r - 1) c u) (look_of_origin own (r - 1) (c - 1) ul)
    (look_of_origin own (r - 1) (c + 1) ur) (look_of_origin own r (c - 1) l) (own r c) size last c
look_of_origin-by own u ul ur l p size last r c same upper =
    let wide : Bool = is_wide size && nat_lt c 40 && not (covers_below ur) in
    let high : Bool = is_high size && not last in
    ap (look_of_origin own r c) same
    ∙ changed_by_two (look_of_origin own r c) (covers_below u) (is_covered_from_left ul l)
    (record u { dy = 1 }) (record l { dy = 0; dx = 1 }) (origin_part wide high)
    (look_with_part (record u { dy = 1 }) (look_of_origin own (r - 1) c u))
    (look_with_part (record l { dy = 0; dx = 1 }) (look_of_origin own r (c - 1) l))
    (look_with_part (origin_part wide high) (own r c))
    (λ covers. below-origin own u r c (eqb-true u.dy 0 (and_parts (u.dy == 0) (u.h == 2) covers).0))
    (λ free covers.
    let both = and_parts (not (covers_below ul)) (covers_right l) covers in
    right-origin own l r c (upper (not-true (covers_below ul) both.0))
    (eqb-true l.dx 0 (and_parts (l.dx == 0) (l.w == 2) both.1).0))
    (λ free whole. origin-itself own wide high r c)

-- ---- of what covers a place

-- the look, where it covers the place right of it
abbrev pub leaning : Look → Option Look
leaning l = cond (covers_right (part_of l)) (Some l) None

-- nothing covers
abbrev is_free : Option Look → Bool
is_free None = true
is_free (Some l) = false

-- the look of a place by what covers the places below the looks above it, and by what covers it from the left
abbrev by_what_covers : Option Look → Option Look → Option Look → Option Look → Look → Size → Bool → ℕ → Look
by_what_covers (Some a) al ar l own size last c = look_with_part (record (part_of a) { dy = 1 }) a
by_what_covers None None ar (Some l) own size last c = look_with_part (record (part_of l) { dy = 0; dx = 1 }) l
by_what_covers None _ ar _ own size last c =
    look_with_part (origin_part (is_wide size && nat_lt c 40 && is_free ar) (is_high size && not last)) own

by_tests : (ba bal bar bl : Bool) (a al ar l own : Look) (size : Size) (last : Bool) (c : ℕ)
    → cond ba (look_with_part (record (part_of a) { dy = 1 }) a)
    (cond (not bal && bl) (look_with_part (record (part_of l) { dy = 0; dx = 1 }) l)
    (look_with_part (origin_part (is_wide size && nat_lt c 40 && not bar) (is_high size && not last)) own))
    ≡ by_what_covers (cond ba (Some a) None) (cond bal (Some al) None) (cond bar (Some ar) None) (cond bl (Some l) None)
    own size last c
by_tests true bal bar bl a al ar l own size last c = refl
by_tests false true true true a al ar l own size last c = refl
by_tests false true true false a al ar l own size last c = refl
by_tests false true false true a al ar l own size last c = refl
by_tests false true false false a al ar l own size last c = refl
by_tests false false true true a al ar l own size last c = refl
by_tests false false true false a al ar l own size last c = refl
by_tests false false false true a al ar l own size last c = refl
by_tests false false false false a al ar l own size last c = refl

look_by-covers : (a al ar l own : Look) (size : Size) (last : Bool) (c : ℕ)
    → look_by a al ar l own size last c
    ≡ by_what_covers (covering a) (covering al) (covering ar) (leaning l) own size last c
look_by-covers a al ar l own size last c =
    by_tests (covers_below (part_of a)) (covers_below (part_of al)) (covers_below (part_of ar))
    (covers_right (part_of l)) a al ar l own size last c

-- looks around that cover alike give the same look
pub look_by-same : (a al ar l own a' al' ar' l' own' : Look) (size size' : Size) (last : Bool) (c : ℕ)
    → covering a ≡ covering a' → covering al ≡ covering al' → covering ar ≡ covering ar' → leaning l ≡ leaning l'
    → own ≡ own' → size ≡ size'
    → look_by a al ar l own size last c ≡ look_by a' al' ar' l' own' size' last c
look_by-same a al ar l own a' al' ar' l' own' size size' last c above beside over before here wanted =
    look_by-covers a al ar l own size last c
    ∙ (λ i. by_what_covers (above i) (beside i) (over i) (before i) (here i) (wanted i) last c)
    ∙ sym (look_by-covers a' al' ar' l' own' size' last c)

-- ---- the three cases of a look

pub look_by-above : (a al ar l own : Look) (size : Size) (last : Bool) (c : ℕ) → covers_below (part_of a) ≡ true
    → look_by a al ar l own size last c ≡ look_with_part (record (part_of a) { dy = 1 }) a
look_by-above a al ar l own size last c covered =
    ap (λ b. cond b (look_with_part (record (part_of a) { dy = 1 }) a)
    (cond (is_covered_from_left (part_of al) (part_of l)) (look_with_part (record (part_of l) { dy = 0; dx = 1 }) l)
    (look_with_part (origin_part (is_wide size && nat_lt c 40 && not (covers_below (part_of ar)))
    (is_high size && not last)) own))) covered

pub look_by-left : (a al ar l own : Look) (size : Size) (last : Bool) (c : ℕ) → covers_below (part_of a) ≡ false
    → is_covered_from_left (part_of al) (part_of l) ≡ true
    → look_by a al ar l own size last c ≡ look_with_part (record (part_of l) { dy = 0; dx = 1 }) l
look_by-left a al ar l own size last c free covered i =
    cond (free i) (look_with_part (record (part_of a) { dy = 1 }) a)
    (cond (covered i) (look_with_part (record (part_of l) { dy = 0; dx = 1 }) l)
    (look_with_part (origin_part (is_wide size && nat_lt c 40 && not (covers_below (part_of ar)))
    (is_high size && not last)) own))

-- a look that is neither, and its part
pub look_by-itself : (a al ar l own seen : Look) (p : Part) (size : Size) (last : Bool) (c : ℕ)
    → seen ≡ look_by a al ar l own size last c → part_of seen ≡ p → covers_below (part_of a) ≡ false
    → is_covered_from_left (part_of al) (part_of l) ≡ false → seen ≡ look_with_part p own
look_by-itself a al ar l own seen p size last c same part free whole =
    let origin : Part =
    origin_part (is_wide size && nat_lt c 40 && not (covers_below (part_of ar))) (is_high size && not last) in
    let here : seen ≡ look_with_part origin own =
    same ∙ (λ i. cond (free i) (look_with_part (record (part_of a) { dy = 1 }) a)
    (cond (whole i) (look_with_part (record (part_of l) { dy = 0; dx = 1 }) l) (look_with_part origin own))) in
    here ∙ ap (λ q. look_with_part q own) (sym (ap (λ m. part_of m) here) ∙ part)

-- ---- a row

pub look_from-at : (above own : ℕ → Look) (wanted : ℕ → Size) (last : Bool) (c : ℕ) → 1 ≤ c
    → look_from above own wanted last c
    ≡ look_by (above c) (above (c - 1)) (above (c + 1)) (look_from above own wanted last (c - 1)) (own c) (wanted c)
    last c
unfolding look_from
look_from-at above own wanted last zero low = absurd (omega arith)
look_from-at above own wanted last (suc k) low =
    let back : suc k - 1 ≡ k = omega arith in
    let next : suc k + 1 ≡ suc (suc k) = omega arith in
    rw (back, next) refl

pub look_from-same : (above above' own own' : ℕ → Look) (wanted wanted' : ℕ → Size) (last : Bool)
    → ((c : ℕ) → covering (above c) ≡ covering (above' c)) → ((c : ℕ) → 1 ≤ c → c ≤ 40 → own c ≡ own' c)
    → ((c : ℕ) → 1 ≤ c → c ≤ 40 → wanted c ≡ wanted' c) → (c : ℕ) → c ≤ 40
    → look_from above own wanted last c ≡ look_from above' own' wanted' last c
unfolding look_from
look_from-same above above' own own' wanted wanted' last covers here sizes zero high = refl
look_from-same above above' own own' wanted wanted' last covers here sizes (suc k) high =
    look_by-same (above (suc k)) (above k) (above (suc (suc k))) (look_from above own wanted last k) (own (suc k))
    (above' (suc k)) (above' k) (above' (suc (suc k))) (look_from above' own' wanted' last k) (own' (suc k))
    (wanted (suc k)) (wanted' (suc k)) last (suc k) (covers (suc k)) (covers k) (covers (suc (suc k)))
    (ap (λ l. leaning l)
    (look_from-same above above' own own' wanted wanted' last covers here sizes k (omega arith)))
    (here (suc k) (omega arith) high) (sizes (suc k) (omega arith) high)
