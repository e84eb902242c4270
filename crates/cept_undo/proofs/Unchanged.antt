-- A screen that stays has no differences: nothing is marked, nothing painted, and no row renewed.
use Rattle.std.proofs.Common.{◌≡◌, ℕ, Bool, true, false, not, List, [], Option}
use Rattle.std.proofs.Common.{map, replicate, refl, sym, ap, subst, ◌∙◌}
use Rattle.std.proofs.lemmas.List.{append-nil, length-replicate, get_or-replicate}
use Rattle.std.specs.List.{count_by, list_any, range_with_len}
use Rattle.std.proofs.lemmas.List.FromFn.{fill_by_all}
use Rattle.cept_codes.specs.declared.look.Look.{Look}
use Rattle.cept_codes.specs.Look.{blank_look}
use Rattle.cept_codes.specs.Place.{Place, place_of}
use Rattle.cept_codes.specs.Same.{same_look}
use Rattle.cept_codes.specs.Table.{value_at}
use Rattle.cept_codes.proofs.Laws.{look_decides}
use Rattle.cept_profile.specs.Changes.{changes_between, differences, grid_with_paints, look_at}
use Rattle.cept_profile.specs.MovedRows.{row_before}
use Rattle.cept_profile.proofs.Laws.{changes_between-same}
use Rattle.cept_redraw.specs.Marks.{no_marks}
use Rattle.cept_redraw.specs.Renewed.{look_otherwise, rows_renewed}
use Rattle.cept_repaint.specs.GlassState.{Lists}

unmarked : (f : ℕ → Bool) (n : ℕ) → ((k : ℕ) → f k ≡ false) → replicate n false ≡ map f (range_with_len 0 n)
unmarked f n none =
    fill_by_all f (replicate n false) n false (length-replicate n false)
    (λ k below. get_or-replicate n k false false below ∙ sym (none k))

pub differences-same : (g : List (List Look)) → no_marks ≡ differences g g
unfolding no_marks differences
differences-same g =
    unmarked (λ n. not (same_look (look_at g (place_of n)) (look_at g (place_of n)))) 960
    (λ k. ap not ((look_decides (look_at g (place_of k)) (look_at g (place_of k))).1 refl))

no_paints : (g : List (List Look)) → g ≡ grid_with_paints g []
unfolding grid_with_paints
no_paints g = refl

pub shown-same : (shown g : List (List Look)) → shown ≡ grid_with_paints shown (changes_between g g)
shown-same shown g =
    no_paints shown ∙ ap (λ (l : List (Place × Look)). grid_with_paints shown l) (sym (changes_between-same g))

none_listed : (told : Option (List (Place × Look))) → Lists told [] told
none_listed told = record { told = λ now e. (now, e, sym (append-nil now)) }

pub told-same : (told : Option (List (Place × Look))) (g : List (List Look)) → Lists told (changes_between g g) told
told-same told g =
    subst (λ (l : List (Place × Look)). Lists told l told) (sym (changes_between-same g)) (none_listed told)

looks_alike : (g : List (List Look)) (r : ℕ) → look_otherwise g r g r ≡ false
looks_alike g r =
    let same : (l : Look) → same_look l l ≡ true = λ l. (look_decides l l).1 refl in
    λ i. list_any (λ c. not (same (value_at blank_look g r c) i)) (range_with_len 1 40)

pub rows_renewed-same : (g : List (List Look)) → rows_renewed [] g g ≡ 0
unfolding rows_renewed row_before
rows_renewed-same g = λ i. count_by (λ r. looks_alike g r i) (range_with_len 1 24)
