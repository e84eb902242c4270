-- The flashing places found one after the other, in reading order.
use Rattle.std.proofs.Common.{◌≡◌, ℕ, ◌+◌, ◌-◌, ◌<◌, true, false, List, [], ◌∷◌, ◌++◌, length, slice_index_or, refl, sym, ap, subst, ◌∙◌}
use Rattle.std.proofs.Common.{inl, inr, arith}
use Rattle.std.proofs.lemmas.Bool.{cases_eq, cases_lt, true≢false}
use Rattle.std.proofs.lemmas.List.{get_or-append_right, get_or_append_left, length-append}
use Rattle.cept_codes.specs.declared.look.Look.{Look}
use Rattle.cept_codes.specs.Look.{blank_look}
use Rattle.cept_codes.specs.Place.{OnScreen, Place, place_of}
use Rattle.cept_codes.specs.Table.{table}
use Rattle.cept_codes.proofs.Laws.{OnScreen-place_of}
use Rattle.cept_flash.specs.declared.blink.Flashing.{Flashing}
use Rattle.cept_flash.specs.Flashing.{AreFlashing, IsFlashing, IsKept, flashing_at}
use Rattle.cept_flash.specs.SeenFlashing.{flashes_seen}
use Rattle.cept_flash.proofs.ShownPlaces.{look_at-blank}
use Rattle.cept_profile.specs.Changes.{look_at}

pub AreFlashing-more : {looks : List (List Look)} {list : List Flashing} (now : List Flashing) (p : Place) (n : ℕ)
    → AreFlashing looks list n → n < 960 → p ≡ place_of n → flashes_seen (look_at looks p) ≡ true
    → now ≡ list ++ flashing_at looks p ∷ [] → AreFlashing looks now (n + 1)
AreFlashing-more {looks} {list} now p n was below here seen e =
    let f : Flashing = flashing_at looks p in
    let long : length now ≡ length list + 1 =
    ap (λ (l : List Flashing). length l) e ∙ length-append list (f ∷ []) in
    let front : (i : ℕ) (d : Flashing) → i < length list → slice_index_or now i d ≡ slice_index_or list i d =
    λ i d up. ap (λ (l : List Flashing). slice_index_or l i d) e ∙ get_or_append_left list (f ∷ []) d i up in
    let last : (i : ℕ) (d : Flashing) → i ≡ length list → slice_index_or now i d ≡ f =
    λ i d same. ap (λ (l : List Flashing). slice_index_or l i d) e
    ∙ get_or-append_right list (f ∷ []) (length list) i d refl (omega (arith, same))
    ∙ ap (λ k. slice_index_or (f ∷ []) k d) (let zero : i - length list ≡ 0 = omega (arith, same) in zero) in
    let is : IsFlashing looks f = record {
      on_screen = subst (λ (q : Place). OnScreen q.row q.column) (sym here) (OnScreen-place_of n below);
      flash = refl;
      seen = seen;
    } in
    record {
      few = omega (arith, long, was.few);
      only = λ i d within. elim (cases_lt i (length list)) [
        | inl up ↦ subst (λ (g : Flashing). IsFlashing looks g) (sym (front i d up)) (was.only i d up)
        | inr past ↦ subst (λ (g : Flashing). IsFlashing looks g)
            (sym (last i d (let same : i ≡ length list = omega (arith, past, within, long) in same))) is
      ];
      each = λ m up flashes. elim (cases_eq m n) [
        | inl same ↦ (
          length list,
          omega (arith, long),
          λ d. last (length list) d refl
              ∙ ap (flashing_at looks) (here ∙ sym (ap place_of same)),
        )
        | inr apart ↦
            let found = was.each m (omega (arith, up, apart)) flashes in
            (found.0, omega (arith, long, found.1), λ d. front found.0 d found.1 ∙ found.2 d)
      ];
    }

pub AreFlashing-left : {looks : List (List Look)} {list : List Flashing} (p : Place) (n : ℕ) → AreFlashing looks list n
    → p ≡ place_of n → flashes_seen (look_at looks p) ≡ false → AreFlashing looks list (n + 1)
AreFlashing-left {looks} {list} p n was here unseen = record {
  few = omega (arith, was.few);
  only = was.only;
  each = λ m up flashes. elim (cases_eq m n) [
    | inl same ↦
        absurd (true≢false (sym flashes
        ∙ ap (λ (q : Place). flashes_seen (look_at looks q)) (ap place_of same ∙ sym here) ∙ unseen))
    | inr apart ↦ was.each m (omega (arith, up, apart)) flashes
  ];
}

-- blank looks don't flash
pub IsKept-blank : (looks : List (List Look)) (list : List Flashing) → looks ≡ table (λ _ _. blank_look) → list ≡ []
    → IsKept looks 0 list
IsKept-blank looks list blank e = record {
  valid = omega arith;
  all = record {
    few = omega (arith, ap (λ (l : List Flashing). length l) e);
    only = λ i d within. absurd (omega (arith, within, ap (λ (l : List Flashing). length l) e));
    each = λ m up seen.
        absurd (true≢false (sym seen
        ∙ ap (λ (l : Look). flashes_seen l)
        (ap (λ (g : List (List Look)). look_at g (place_of m)) blank ∙ look_at-blank m up)));
  };
}
