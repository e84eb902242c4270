-- The looks of a screen painted one after the other, in reading order.
use Rattle.std.proofs.Common.{◌≡◌, ℕ, ◌+◌, ◌<◌, ◌≤◌, ◌==◌, Bool, true, false, if◌then◌else◌, List, refl, sym, ap, ◌∙◌, inl, inr, arith}
use Rattle.std.proofs.lemmas.Bool.{cases_eq, and_parts, eqb-true, true≢false}
use Rattle.std.proofs.lemmas.Bool.Decides.{nat_tests}
use Rattle.cept_codes.specs.declared.look.Look.{Look}
use Rattle.cept_codes.specs.Look.{blank_look}
use Rattle.cept_codes.specs.Place.{Place, OnScreen, number, place_of}
use Rattle.cept_codes.specs.Table.{IsTable, value_at}
use Rattle.cept_codes.proofs.Laws.{OnScreen-place_of, number-lt, place_of-number, same_tables, value_at-table}
use Rattle.cept_profile.specs.Cells.{is_at}
use Rattle.cept_profile.specs.Changes.{grid_with_paint, look_at}

-- the looks of the places with numbers below n are these
abbrev pub AreKeptBelow : List (List Look) → List (List Look) → ℕ → Type 0
AreKeptBelow looks kept n = (m : ℕ) → m < n → look_at kept (place_of m) ≡ look_at looks (place_of m)

at_itself : (r c : ℕ) → is_at (record { row = r; column = c }) r c ≡ true
at_itself r c = grind (arith, nat_tests)

pub AreKeptBelow-more : (looks kept now : List (List Look)) (p : Place) (n : ℕ) → n < 960 → p ≡ place_of n
    → AreKeptBelow looks kept n → now ≡ grid_with_paint kept p (look_at looks p) → AreKeptBelow looks now (n + 1)
AreKeptBelow-more looks kept now p n below here each e m up =
    let on : OnScreen (place_of m).row (place_of m).column = OnScreen-place_of m (omega (arith, below, up)) in
    let painted : look_at now (place_of m)
    ≡ (if is_at p (place_of m).row (place_of m).column then look_at looks p else look_at kept (place_of m)) =
    ap (λ (g : List (List Look)). look_at g (place_of m)) e
    ∙ value_at-table (λ r c. if is_at p r c then look_at looks p else value_at blank_look kept r c) blank_look
    (place_of m).row (place_of m).column on in
    painted ∙ by_test (is_at p (place_of m).row (place_of m).column) refl
  where
    by_test : (x : Bool) → is_at p (place_of m).row (place_of m).column ≡ x
        → (if x then look_at looks p else look_at kept (place_of m)) ≡ look_at looks (place_of m)
    by_test true t =
        let parts = and_parts (p.row == (place_of m).row) (p.column == (place_of m).column) t in
        let er : p.row ≡ (place_of m).row = eqb-true p.row (place_of m).row parts.0 in
        let ec : p.column ≡ (place_of m).column = eqb-true p.column (place_of m).column parts.1 in
        (λ i. look_at looks (record { row = er i; column = ec i }))
    by_test false t =
        elim (cases_eq m n) [
          | inl same ↦ absurd (true≢false (sym (at_itself (place_of m).row (place_of m).column) ∙ ap (λ (q : Place). is_at q (place_of m).row (place_of m).column) (ap place_of same ∙ sym here) ∙ t))
          | inr apart ↦ each m (omega (arith, up, apart))
        ]

pub AreKeptBelow-all : (looks kept : List (List Look)) (n : ℕ) → 960 ≤ n → IsTable kept → IsTable looks
    → AreKeptBelow looks kept n → kept ≡ looks
AreKeptBelow-all looks kept n high tk tl each =
    same_tables kept looks blank_look tk tl (λ r c on.
    let at : place_of (number r c) ≡ (let p : Place = record { row = r; column = c } in p) =
    place_of-number (record { row = r; column = c }) on in
    ap (look_at kept) (sym at) ∙ each (number r c) (omega (arith, number-lt r c on, high)) ∙ ap (look_at looks) at)
