-- Marks with a range outside of which no place is marked: made, widened, emptied and counted.
use Rattle.std.proofs.Common.{◌≡◌, ◌≢◌, ℕ, ◌+◌, ◌-◌, ◌<◌, ◌≤◌, ◌||◌, suc, Bool, true, false, cond, List, [], ◌∷◌, ◌++◌, set}
use Rattle.std.proofs.Common.{get_or, take, drop, length, refl, sym, ap, ◌∙◌, inl, inr, arith}
use Rattle.std.specs.List.{count_by}
use Rattle.std.proofs.lemmas.Bool.{cases_eq, cases_lt}
use Rattle.std.proofs.lemmas.List.{ext_get_or, length-append, length-set, length-take, length-drop}
use Rattle.std.proofs.lemmas.List.{get_or-set_other, get_or-set_same}
use Rattle.std.proofs.lemmas.List.{get_or_append_left, get_or-take, get_or-drop}
use Rattle.std.proofs.lemmas.List.Sums.{sum_by-cons, sum_by-take-drop}
use Rattle.std.proofs.Math.Seq.{get_or-append_right}
use Rattle.cept_codes.specs.Table.{entry}
use Rattle.cept_codes.proofs.Laws.{entry_from}
use Rattle.cept_redraw.specs.Marks.{is_marked, no_marks, AreWithin}
use Rattle.cept_redraw.specs.inside.Marks.{HasFlags}
use Rattle.cept_redraw.proofs.Unmarked.{length-no_marks, is_marked-no_marks}

pub AreWithin-none : AreWithin no_marks 0 0
AreWithin-none = record {
  in_order = omega arith;
  places = omega arith;
  before = λ n _. is_marked-no_marks n;
  after = λ n _. is_marked-no_marks n;
}

-- flags of which none is set
pub unmarked_is : (flags : List Bool) → length flags ≡ 960
    → ((n : ℕ) → n < 960 → is_marked flags n ≡ false) → flags ≡ no_marks
unmarked_is flags places none =
    ext_get_or false flags no_marks (places ∙ sym length-no_marks)
    (λ n below. none n (omega (arith, places)) ∙ sym (is_marked-no_marks n))

-- the range ends before the first place
pub none_within : {flags : List Bool} {first end : ℕ} → AreWithin flags first end → length flags ≡ 960 → end ≡ 0
    → flags ≡ no_marks
none_within {flags} {first} {end} w places none = unmarked_is flags places (λ n below. w.after n (omega (arith, none)))

-- the only place of the range unset
pub cleared_one : {flags : List Bool} {first end : ℕ} → AreWithin flags first end → length flags ≡ 960
    → first + 1 ≡ end → set flags first false ≡ no_marks
cleared_one {flags} {first} {end} w places one =
    unmarked_is (set flags first false) (length-set flags first false ∙ places) (λ n below.
    elim (cases_eq n first) [
      | inl here ↦
          ap (is_marked (set flags first false)) here
          ∙ get_or-set_same flags first false false (omega (arith, places, w.places))
      | inr apart ↦
          get_or-set_other flags first n false false apart
          ∙ elim (cases_lt n first) [ inl up ↦ w.before n up | inr not_up ↦ w.after n (omega arith) ]
    ])

-- the range unset
pub cleared : {flags : List Bool} {first end : ℕ} → AreWithin flags first end → length flags ≡ 960 → (mid : List Bool)
    → length mid ≡ end - first → ((n : ℕ) → is_marked mid n ≡ false) → take first flags
    ++ (mid ++ drop (end - first) (drop first flags)) ≡ no_marks
cleared {flags} {first} {end} w places mid long none =
    let rest : List Bool = drop (end - first) (drop first flags) in
    let front : length (take first flags)
    ≡ first = omega (arith, length-take first flags, w.in_order, w.places, places) in
    let back : length rest ≡ 960 - end = omega
    (arith, length-drop (end - first) (drop first flags), length-drop first flags, w.in_order, places) in
    unmarked_is (take first flags ++ (mid ++ rest))
    (omega (
      arith,
      front,
      back,
      length-append (take first flags) (mid ++ rest),
      length-append mid rest,
      long,
      w.in_order,
      w.places,
    )) (λ n below.
    elim (cases_lt n first) [
      | inl up ↦ get_or_append_left (take first flags) (mid ++ rest) false n (omega (arith, front))
          ∙ get_or-take first flags n false up ∙ w.before n up
      | inr not_up ↦ get_or-append_right (take first flags) (mid ++ rest) n false (omega (arith, front))
          ∙ after_front (n - length (take first flags))
    ])
  where
    after_front : (k : ℕ) → get_or (mid ++ drop (end - first) (drop first flags)) k false ≡ false
    after_front k = elim (cases_lt k (length mid)) [
      | inl inside ↦ get_or_append_left mid (drop (end - first) (drop first flags)) false k inside ∙ none k
      | inr past ↦ get_or-append_right mid (drop (end - first) (drop first flags)) k false (omega arith)
          ∙ get_or-drop (end - first) (drop first flags) (k - length mid) false
          ∙ get_or-drop first flags (end - first + (k - length mid)) false
          ∙ w.after (first + (end - first + (k - length mid))) (omega (arith, w.in_order))
    ]

-- flags of which none is set count nothing
count_none : (flags : List Bool) → ((n : ℕ) → n < length flags → is_marked flags n ≡ false)
    → count_by (λ marked. marked) flags ≡ 0
count_none [] none = refl
count_none (x ∷ xs) none =
    let head : cond {A = ℕ} x 1 0 ≡ 0 = ap (λ b. cond b 1 0) (none 0 (omega arith)) in
    let tail : count_by (λ marked. marked) xs ≡ 0 = count_none xs (λ n below. none (suc n) (omega arith)) in
    omega (arith, sum_by-cons (λ marked. cond marked 1 0) x xs, head, tail)

-- as many are marked as are in the range
pub count_within : {flags : List Bool} {first end : ℕ} → AreWithin flags first end
    → count_by (λ marked. marked) (take (end - first) (drop first flags)) ≡ count_by (λ marked. marked) flags
count_within {flags} {first} {end} w =
    let rest : List Bool = drop first flags in
    let front : count_by (λ marked. marked) (take first flags) ≡ 0 = count_none (take first flags) (λ n below.
    let up : n < first = omega (arith, below, length-take first flags) in
    get_or-take first flags n false up ∙ w.before n up) in
    let back : count_by (λ marked. marked) (drop (end - first) rest)
    ≡ 0 = count_none (drop (end - first) rest)
    (λ n below. get_or-drop (end - first) rest n false ∙ get_or-drop first flags (end - first + n) false
    ∙ w.after (first + (end - first + n)) (omega (arith, w.in_order))) in
    omega (
      arith,
      front,
      back,
      sum_by-take-drop (λ marked. cond marked 1 0) flags first,
      sum_by-take-drop
          (λ marked. cond marked 1 0) rest (end - first),
    )

-- ---- the places of a row

or_false : (b : Bool) → (b || false) ≡ b
or_false true = refl
or_false false = refl

-- the first places of the row are marked besides that are flagged
pub record HasFlagsBelow (flags : List Bool) (first : ℕ) (before marks : List Bool) (end : ℕ) : Type 0 where
  pub places : length marks ≡ 960
  pub row : (i : ℕ) → i < end → is_marked marks (first + i) ≡ (is_marked before (first + i) || get_or flags i false)
  pub above : (n : ℕ) → n < first → is_marked marks n ≡ is_marked before n
  pub below : (n : ℕ) → first + end ≤ n → is_marked marks n ≡ is_marked before n

pub HasFlagsBelow-none : (flags : List Bool) (first : ℕ) (marks : List Bool) → length marks ≡ 960
    → HasFlagsBelow flags first marks marks 0
HasFlagsBelow-none flags first marks places = record {
  places = places;
  row = λ i none. absurd (omega arith);
  above = λ n up. refl;
  below = λ n down. refl;
}

pub HasFlagsBelow-more : {flags : List Bool} {first : ℕ} {before mid : List Bool} {end : ℕ}
    → HasFlagsBelow flags first before mid end → first + 40 ≤ 960 → end < 40 → (at : ℕ) → at ≡ first + end
    → (flag : Bool) → flag ≡ (get_or mid at false || get_or flags end false)
    → HasFlagsBelow flags first before (set mid at flag) (end + 1)
HasFlagsBelow-more {flags} {first} {before} {mid} {end} has within below at e flag ef =
    let elsewhere : (n : ℕ) → n ≢ at → is_marked (set mid at flag) n ≡ is_marked mid n =
    λ n apart. get_or-set_other mid at n flag false apart in
    record {
      places = length-set mid at flag ∙ has.places;
      row = λ i low. elim (cases_eq i end) [
        | inl here ↦
            let same : first + i ≡ at = omega (arith, e, here) in
            ap (is_marked (set mid at flag)) same
            ∙ get_or-set_same mid at flag false (omega (arith, e, within, below, has.places))
            ∙ ef ∙ ap (λ b. b || get_or flags end false) (has.below at (omega (arith, e)))
            ∙ (λ k. is_marked before (sym same k) || get_or flags (sym here k) false)
        | inr apart ↦
            elsewhere (first + i) (λ same. apart (omega (arith, e, same))) ∙ has.row i (omega (arith, low, apart))
      ];
      above = λ n up. elsewhere n (λ same. omega (arith, e, same, up)) ∙ has.above n up;
      below = λ n down. elsewhere n (λ same. omega (arith, e, same, down)) ∙ has.below n (omega (arith, down));
    }

pub HasFlagsBelow-all : {flags : List Bool} {first : ℕ} {before marks : List Bool} {end : ℕ}
    → HasFlagsBelow flags first before marks end → end ≡ 40 → HasFlags flags first before marks
HasFlagsBelow-all {flags} {first} {before} {marks} {end} has all = record {
  places = has.places;
  row = λ i low. has.row i (omega (arith, low, all));
  above = has.above;
  below = λ n down. has.below n (omega (arith, down, all));
}

-- no flag is set
pub HasFlags-none : (flags : List Bool) (first : ℕ) (marks : List Bool) → length marks ≡ 960
    → ((c : ℕ) → 1 ≤ c → c ≤ 40 → entry false 1 flags c ≡ false) → HasFlags flags first marks marks
HasFlags-none flags first marks places none = record {
  places = places;
  row = λ i low.
      let unset : get_or flags i false ≡ false =
      ap (λ k. get_or flags k false) (let back : i ≡ i + 1 - 1 = omega arith in back)
      ∙ sym (entry_from false 1 flags (i + 1) (omega arith)) ∙ none (i + 1) (omega arith) (omega (arith, low)) in
      sym (or_false (is_marked marks (first + i))) ∙ ap (λ b. is_marked marks (first + i) || b) (sym unset);
  above = λ n up. refl;
  below = λ n down. refl;
}

-- no place of a row is marked
pub row_unmarked : (flags : List Bool) (a d : ℕ) → d ≡ 40
    → ((c : ℕ) → 1 ≤ c → c ≤ 40 → entry false 1 (take d (drop a flags)) c ≡ false) → (n : ℕ) → a ≤ n → n < a + 40
    → is_marked flags n ≡ false
row_unmarked flags a d e none n low high =
    let at : n ≡ a + (n - a) = omega arith in
    let back : n - a ≡ n - a + 1 - 1 = omega arith in
    ap (is_marked flags) at ∙ sym (get_or-drop a flags (n - a) false)
    ∙ sym (get_or-take d (drop a flags) (n - a) false (omega (arith, e, low, high)))
    ∙ ap (λ i. get_or (take d (drop a flags)) i false) back
    ∙ sym (entry_from false 1 (take d (drop a flags)) (n - a + 1) (omega arith))
    ∙ none (n - a + 1) (omega arith) (omega (arith, low, high))
