-- Places marked one after the other, in reading order.
use Rattle.std.proofs.Common.{◌≡◌, ◌≢◌, ℕ, ◌+◌, ◌<◌, ◌≤◌, Bool, true, false, List, length, set, sym, ap, ◌∙◌}
use Rattle.std.proofs.Common.{inl, inr, arith}
use Rattle.std.proofs.lemmas.Bool.{cases_eq, cases_lt}
use Rattle.std.proofs.lemmas.List.{get_or_past, get_or-replicate, get_or-set_other, get_or-set_same, length-replicate, length-set}
use Rattle.cept_redraw.specs.Marks.{is_marked, no_marks}

-- of the places with numbers below n those are marked of which the test holds, and no others
pub record AreMarkedBelow (test : ℕ → Bool) (marks : List Bool) (n : ℕ) : Type 0 where
  pub places : length marks ≡ 960
  pub made : (m : ℕ) → m < n → m < 960 → is_marked marks m ≡ test m
  pub left : (m : ℕ) → n ≤ m → is_marked marks m ≡ false

pub length-no_marks : length no_marks ≡ 960
unfolding no_marks
length-no_marks = length-replicate 960 false

pub is_marked-no_marks : (m : ℕ) → is_marked no_marks m ≡ false
unfolding no_marks
is_marked-no_marks m =
    elim (cases_lt m 960) [
      | inl below ↦ get_or-replicate 960 m false false below
      | inr past ↦ get_or_past no_marks m false (omega (arith, length-no_marks, past))
    ]

pub AreMarkedBelow-none : (test : ℕ → Bool) (marks : List Bool) → marks ≡ no_marks → AreMarkedBelow test marks 0
AreMarkedBelow-none test marks e = record {
  places = ap (λ (l : List Bool). length l) e ∙ length-no_marks;
  made = λ m up _. absurd (omega arith);
  left = λ m _. ap (λ (l : List Bool). is_marked l m) e ∙ is_marked-no_marks m;
}

pub AreMarkedBelow-marked : {test : ℕ → Bool} {marks : List Bool} (now : List Bool) (n k : ℕ)
    → AreMarkedBelow test marks n → k ≡ n → n < 960 → now ≡ set marks k true → test n ≡ true
    → AreMarkedBelow test now (n + 1)
AreMarkedBelow-marked {test} {marks} now n k was here below e holds =
    let marked : now ≡ set marks n true = e ∙ ap (λ j. set marks j true) here in
    let at : (m : ℕ) → is_marked now m ≡ is_marked (set marks n true) m =
    λ m. ap (λ (l : List Bool). is_marked l m) marked in
    record {
      places = ap (λ (l : List Bool). length l) marked ∙ length-set marks n true ∙ was.places;
      made = λ m up within. elim (cases_eq m n) [
        | inl same ↦
            ap (is_marked now) same ∙ at n ∙ get_or-set_same marks n true false (omega (arith, was.places, below))
            ∙ sym (ap test same ∙ holds)
        | inr apart ↦ at m ∙ get_or-set_other marks n m true false apart ∙ was.made m (omega (arith, up, apart)) within
      ];
      left = λ m high.
          let apart : m ≢ n = λ same. omega (arith, same, high) in
          at m ∙ get_or-set_other marks n m true false apart ∙ was.left m (omega (arith, high));
    }

pub AreMarkedBelow-left : {test : ℕ → Bool} {marks : List Bool} (n : ℕ) → AreMarkedBelow test marks n
    → test n ≡ false → AreMarkedBelow test marks (n + 1)
AreMarkedBelow-left {test} {marks} n was fails = record {
  places = was.places;
  made = λ m up within. elim (cases_eq m n) [
    | inl same ↦ was.left m (omega (arith, same)) ∙ sym (ap test same ∙ fails)
    | inr apart ↦ was.made m (omega (arith, up, apart)) within
  ];
  left = λ m high. was.left m (omega (arith, high));
}
