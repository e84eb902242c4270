-- What a row names, by its names and its looks as they are kept.
use Rattle.std.proofs.Common.{◌≡◌, ℕ, ◌≤◌, ◌==◌, ◌&&◌, ◌||◌, cond, Bool, true, false, List, [], ◌∷◌, map, Option, Some, None}
use Rattle.std.proofs.Common.{◌⊎◌, inl, inr, refl, sym, ap, subst, ◌∙◌, arith}
use Rattle.std.specs.Prelude.{IsTrue, is_some, nat_le, nat_lt}
use Rattle.std.specs.List.{list_any, range_with_len}
use Rattle.std.proofs.lemmas.Bool.{eqb-true, or_cases}
use Rattle.cept_codes.specs.declared.look.Look.{Look}
use Rattle.cept_codes.specs.declared.look.Pattern.{Pattern}
use Rattle.cept_codes.specs.declared.look.Shape.{Shape}
use Rattle.cept_codes.specs.declared.look.Shape.TheVariants as shapes
use Rattle.cept_codes.specs.Look.{IsValidShape, blank_look, is_plane_count}
use Rattle.cept_codes.specs.Place.{OnScreen}
use Rattle.cept_codes.specs.Table.{list_by_index}
use Rattle.cept_codes.proofs.Laws.{IsTable-table, same_indexed, value_at-table}
use Rattle.cept_profile.specs.Definitions.{Definitions}
use Rattle.cept_profile.specs.Look.{look, looks_of}
use Rattle.cept_profile.specs.Names.{Names, is_code, names_at, names_dclut, names_entry, names_pattern, names_some_pattern}
use Rattle.cept_profile.specs.Names.{pattern_shown, place_names_entry, shows_ink_of, shows_two_planes, some_place}
use Rattle.cept_profile.specs.State.{Core, definitions_of}
use Rattle.cept_profile.specs.Tiling.{column_entry}
use Rattle.cept_profile.proofs.Laws.{IsValidGrid-looks_of}
use Rattle.cept_redraw.specs.inside.Redefined.{IsNamedRow, is_ink_in}
use Rattle.cept_redraw.proofs.RowsOfLooks.{look_seen-at}
use Rattle.cept_rows.specs.declared.naming.RowNames.{RowNames}
use Rattle.cept_rows.specs.KeptNames.{names_kept}
use Rattle.cept_rows.specs.Planes.{has_planes}

-- ---- some place of a row

any-map : {X : Type 0} (f : X → Bool) (xs : List X) → list_any (λ b. b) (map f xs) ≡ list_any f xs
any-map f [] = refl
any-map f (x ∷ xs) = ap (λ b. f x || b) (any-map f xs)

any-index : (f : ℕ → Bool) → list_any (λ b. b) (list_by_index 1 40 f) ≡ some_place f
unfolding list_by_index
any-index f = any-map f (range_with_len 1 40)

some_same : (f g : ℕ → Bool) → ((c : ℕ) → 1 ≤ c → c ≤ 40 → f c ≡ g c) → some_place f ≡ some_place g
some_same f g so =
    sym (any-index f)
    ∙ ap (list_any (λ b. b)) (same_indexed 1 40 f g (λ c low high. so c low (omega (arith, high))))
    ∙ any-index g

shuffled : (a b c d : Bool) → ((a || b) || (c || d)) ≡ ((a || c) || (b || d))
shuffled true b c d = refl
shuffled false true true d = refl
shuffled false true false d = refl
shuffled false false c d = refl

any_or : (f g : ℕ → Bool) (xs : List ℕ) → list_any (λ x. f x || g x) xs ≡ (list_any f xs || list_any g xs)
any_or f g [] = refl
any_or f g (x ∷ xs) =
    ap (λ b. (f x || g x) || b) (any_or f g xs) ∙ shuffled (f x) (g x) (list_any f xs) (list_any g xs)

joined : (a b y : Bool) → ((a && y) || (b && y)) ≡ ((a || b) && y)
joined true b true = refl
joined true true false = refl
joined true false false = refl
joined false b y = refl

any_and : (f : ℕ → Bool) (y : Bool) (xs : List ℕ) → list_any (λ x. f x && y) xs ≡ (list_any f xs && y)
any_and f y [] = refl
any_and f y (x ∷ xs) = ap (λ b. (f x && y) || b) (any_and f y xs) ∙ joined (f x) (list_any f xs) y

-- ---- inks

left_alone : (b : Bool) → b ≡ (b || false)
left_alone true = refl
left_alone false = refl

planes_ink : (n : ℕ) (two four : Bool) → (n ≡ 1) ⊎ ((n ≡ 2) ⊎ (n ≡ 4))
    → cond (n == 1) false (cond (n == 2) two four) ≡ (((n == 2) && two) || ((n == 4) && four))
planes_ink n two four (inl e) =
    subst (λ m. cond (m == 1) false (cond (m == 2) two four) ≡ (((m == 2) && two) || ((m == 4) && four))) (sym e) refl
planes_ink n two four (inr (inl e)) =
    subst (λ m. cond (m == 1) false (cond (m == 2) two four) ≡ (((m == 2) && two) || ((m == 4) && four))) (sym e)
    (left_alone two)
planes_ink n two four (inr (inr e)) =
    subst (λ m. cond (m == 1) false (cond (m == 2) two four) ≡ (((m == 2) && two) || ((m == 4) && four))) (sym e) refl

counted : (n : ℕ) → IsTrue (is_plane_count n) → (n ≡ 1) ⊎ ((n ≡ 2) ⊎ (n ≡ 4))
counted n is =
    elim (or_cases ((n == 1) || (n == 2)) (n == 4) is) [
      | inl first ↦ elim (or_cases (n == 1) (n == 2) first) [
        | inl one ↦ inl (eqb-true n 1 one)
        | inr two ↦ inr (inl (eqb-true n 2 two))
      ]
      | inr four ↦ inr (inr (eqb-true n 4 four))
    ]

ink_shown : (defined : Definitions) (shape : Shape) (i : ℕ) → IsValidShape shape
    → shows_ink_of defined (pattern_shown shape) i
    ≡ ((has_planes 2 (pattern_shown shape) && is_ink_in defined.dclut i)
    || (has_planes 4 (pattern_shown shape) && (nat_le 16 i && nat_lt i 32)))
ink_shown defined shapes.Space i valid = refl
ink_shown defined (shapes.Char g) i valid = refl
ink_shown defined (shapes.Drcs pattern inks) i valid =
    planes_ink pattern.planes (is_ink_in defined.dclut i) (nat_le 16 i && nat_lt i 32)
    (counted pattern.planes valid.0.planes)

-- ---- the row

seen_in : (k : Core) (r : ℕ) (names : RowNames) (looks : List Look) (dclut : List ℕ) → IsNamedRow k r names looks dclut
    → (c : ℕ) → OnScreen r c → column_entry blank_look looks c ≡ look k r c
seen_in k r names looks dclut is c on =
    ap (λ (l : List Look). column_entry blank_look l c) is.seen
    ∙ look_seen-at (looks_of k) r c (IsTable-table (look k)) on ∙ value_at-table (look k) blank_look r c on

on_row : {k : Core} {r : ℕ} {names : RowNames} {looks : List Look} {dclut : List ℕ} → IsNamedRow k r names looks dclut
    → (c : ℕ) → 1 ≤ c → c ≤ 40 → OnScreen r c
on_row is c low high =
    record { from_top = is.from_top; to_bottom = is.to_bottom; from_left = low; to_right = high }

valid_shape : (k : Core) (r : ℕ) (names : RowNames) (looks : List Look) (dclut : List ℕ)
    → IsNamedRow k r names looks dclut → (c : ℕ) → OnScreen r c → IsValidShape (look k r c).shape
valid_shape k r names looks dclut is c on =
    subst (λ (l : Look). IsValidShape l.shape) (value_at-table (look k) blank_look r c on)
    ((IsValidGrid-looks_of k is.valid).looks r c on).shape

pub entry_named : (k : Core) (r : ℕ) (names : RowNames) (looks : List Look) (dclut : List ℕ)
    → IsNamedRow k r names looks dclut → (i : ℕ)
    → ((some_place (λ c. (names_kept names c).fore == i || (names_kept names c).back == i)
    || (some_place (λ c. has_planes 2 (pattern_shown (column_entry blank_look looks c).shape)) && is_ink_in dclut i))
    || (some_place (λ c. has_planes 4 (pattern_shown (column_entry blank_look looks c).shape))
    && (nat_le 16 i && nat_lt i 32)))
    ≡ names_entry k r i
unfolding names_entry
entry_named k r names looks dclut is i =
    let named : ℕ → Bool = λ c. (names_kept names c).fore == i || (names_kept names c).back == i in
    let two : ℕ → Bool = λ c. has_planes 2 (pattern_shown (column_entry blank_look looks c).shape) in
    let four : ℕ → Bool = λ c. has_planes 4 (pattern_shown (column_entry blank_look looks c).shape) in
    let ink : Bool = is_ink_in dclut i in
    let high : Bool = nat_le 16 i && nat_lt i 32 in
    let row : List ℕ = range_with_len 1 40 in
    let each : (c : ℕ) → 1 ≤ c → c ≤ 40
    → ((named c || (two c && ink)) || (four c && high)) ≡ place_names_entry k r i c =
    λ c low most.
    let on : OnScreen r c = on_row is c low most in
    let look_is : column_entry blank_look looks c ≡ look k r c = seen_in k r names looks dclut is c on in
    let names_are : names_kept names c ≡ names_at k r c = is.named c on in
    (λ j. ((((names_are j).fore == i || (names_are j).back == i)
    || (has_planes 2 (pattern_shown (look_is j).shape) && is_ink_in (is.inks j) i))
    || (has_planes 4 (pattern_shown (look_is j).shape) && high)))
    ∙ regrouped ((names_at k r c).fore == i || (names_at k r c).back == i) _ _
    ∙ ap (λ b. ((names_at k r c).fore == i || (names_at k r c).back == i) || b)
    (sym (ink_shown (definitions_of k.page) (look k r c).shape i (valid_shape k r names looks dclut is c on))) in
    sym (any_or (λ c. named c || (two c && ink)) (λ c. four c && high) row
    ∙ (λ j. any_or named (λ c. two c && ink) row j || any_and four high row j)
    ∙ ap (λ b. (list_any named row || b) || (list_any four row && high)) (any_and two ink row))
    ∙ some_same (λ c. (named c || (two c && ink)) || (four c && high)) (place_names_entry k r i) each
  where
    regrouped : (a b c : Bool) → ((a || b) || c) ≡ (a || (b || c))
    regrouped true b c = refl
    regrouped false b c = refl

pub grouped : (a b d : Bool) → ((a && b) && d) ≡ (a && (b && d))
grouped true b d = refl
grouped false b d = refl

-- one that is named as foreground or background is named
pub named_plainly : (a b f : Bool) → a ≡ true → true ≡ ((a || b) || f)
named_plainly true b f named = refl
named_plainly false b f named = cc

-- of any other it is asked whether it is an ink of the DCLUT where a pattern has two planes
pub inks_asked : (a b i f : Bool) → a ≡ false → b ≡ true → (i || f) ≡ ((a || (b && i)) || f)
inks_asked true b i f none two = cc
inks_asked false false i f none two = cc
inks_asked false true i f none two = refl

-- and where none has, not
pub inks_unasked : (a b i f : Bool) → a ≡ false → b ≡ false → f ≡ ((a || (b && i)) || f)
inks_unasked true b i f none other = cc
inks_unasked false true i f none other = cc
inks_unasked false false i f none other = refl

two_planes : (o : Option Pattern) → has_planes 2 o ≡ shows_two_planes o
two_planes None = refl
two_planes (Some pattern) = refl

pub dclut_named : (k : Core) (r : ℕ) (names : RowNames) (looks : List Look) (dclut : List ℕ)
    → IsNamedRow k r names looks dclut → (j : ℕ)
    → (nat_lt j 4 && some_place (λ c. has_planes 2 (pattern_shown (column_entry blank_look looks c).shape)))
    ≡ names_dclut k r j
unfolding names_dclut
dclut_named k r names looks dclut is j =
    ap (λ b. nat_lt j 4 && b)
    (some_same (λ c. has_planes 2 (pattern_shown (column_entry blank_look looks c).shape))
    (λ c. shows_two_planes (pattern_shown (look k r c).shape)) (λ c low high.
    ap (λ (l : Look). has_planes 2 (pattern_shown l.shape)) (seen_in k r names looks dclut is c (on_row is c low high))
    ∙ two_planes (pattern_shown (look k r c).shape)))

pub pattern_named : (k : Core) (r : ℕ) (names : RowNames) (looks : List Look) (dclut : List ℕ)
    → IsNamedRow k r names looks dclut → (d : ℕ)
    → some_place (λ c. is_code (names_kept names c).code d) ≡ names_pattern k r d
unfolding names_pattern
pattern_named k r names looks dclut is d =
    some_same (λ c. is_code (names_kept names c).code d) (λ c. is_code (names_at k r c).code d) (λ c low high.
    ap (λ (n : Names). is_code n.code d) (is.named c (on_row is c low high)))

pub some_pattern_named : (k : Core) (r : ℕ) (names : RowNames) (looks : List Look) (dclut : List ℕ)
    → IsNamedRow k r names looks dclut
    → some_place (λ c. is_some (names_kept names c).code) ≡ names_some_pattern k r
unfolding names_some_pattern
some_pattern_named k r names looks dclut is =
    some_same (λ c. is_some (names_kept names c).code) (λ c. is_some (names_at k r c).code) (λ c low high.
    ap (λ (n : Names). is_some n.code) (is.named c (on_row is c low high)))
