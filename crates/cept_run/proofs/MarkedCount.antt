-- How many places are marked.
use Rattle.std.proofs.Common.{◌≡◌, ℕ, suc, ◌+◌, ◌<◌, Bool, false, not, cond, List, [], ◌∷◌, length, map, get_or, refl, sym, ◌∙◌, ap, arith}
use Rattle.std.proofs.Common.{zero-add}
use Rattle.std.proofs.lemmas.List.{length-map}
use Rattle.std.proofs.lemmas.List.Sums.{length-filter, sum_by-cons}
use Rattle.std.specs.List.{count_by, filter, range_with_len}
use Rattle.std.specs.Prelude.{slice_index_or}
use Rattle.std.proofs.lemmas.List.FromFn.{length-map-range_with_len}
use Rattle.cept_codes.specs.declared.look.Look.{Look}
use Rattle.cept_codes.specs.Place.{place_of}
use Rattle.cept_codes.specs.Same.{same_look}
use Rattle.cept_profile.specs.Changes.{changes_between, differences, marked_looks, look_at}

counted_from : (g : ℕ → Bool) (marks : List Bool) (a : ℕ) → ((i j : ℕ) → i < length marks → a + i ≡ j
    → g j ≡ get_or marks i false)
    → count_by g (range_with_len a (length marks)) ≡ count_by (λ b. b) marks
counted_from g [] a same = refl
counted_from g (b ∷ marks) a same =
    let one : Bool → ℕ = λ c. cond c 1 0 in
    let here : g a ≡ b = same 0 a (omega arith) (omega arith) in
    let rest = counted_from g marks (a + 1) (λ i j inside is. same (suc i) j (omega (arith, inside)) (omega (arith, is))) in
    sum_by-cons (λ n. one (g n)) a (range_with_len (a + 1) (length marks))
    ∙ omega (arith, ap one here, rest) ∙ sym (sum_by-cons one b marks)

marked_count : {X : Type 0} (f : ℕ → X) (marks : List Bool) (n : ℕ) → length marks ≡ n
    → length (map f (filter (λ k. slice_index_or marks k false) (range_with_len 0 n))) ≡ count_by (λ b. b) marks
marked_count f marks n is =
    length-map (filter (λ k. slice_index_or marks k false) (range_with_len 0 n)) f
    ∙ length-filter (λ k. slice_index_or marks k false) (range_with_len 0 n)
    ∙ ap (λ k. count_by (λ j. slice_index_or marks j false) (range_with_len 0 k)) (sym is)
    ∙ counted_from (λ k. slice_index_or marks k false) marks 0 (λ i j inside is. ap (λ k. get_or marks k false) (sym is ∙ zero-add i))

marked_places : (marks : List Bool) (g : List (List Look)) → length marks ≡ 960
    → length (marked_looks marks g) ≡ count_by (λ b. b) marks
unfolding marked_looks
marked_places marks g is = marked_count (λ n. (place_of n, look_at g (place_of n))) marks 960 is

differences_length : (g h : List (List Look)) → length (differences g h) ≡ 960
unfolding differences
differences_length g h =
    length-map-range_with_len (λ n. not (same_look (look_at g (place_of n)) (look_at h (place_of n)))) 0 960

-- so many places change as are marked
pub changes_counted : (g h : List (List Look)) → count_by (λ b. b) (differences g h) ≡ length (changes_between g h)
changes_counted g h = sym (marked_places (differences g h) h (differences_length g h))
