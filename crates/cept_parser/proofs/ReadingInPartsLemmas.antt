-- Reading goes on from what is pending.
use Rattle.std.proofs.Common.{◌≡◌, ℕ, zero, suc, ◌+◌, ◌≤◌, List, [], ◌∷◌, ◌++◌, length, drop, Option, Some, None, refl}
use Rattle.std.proofs.Common.{sym, ap, ◌∙◌, subst, arith, ◌⊎◌, inl, inr}
use Rattle.std.proofs.lemmas.List.{length-drop, drop-append-le}
use Rattle.cept_parser.specs.declared.context.Context.{Context}
use Rattle.cept_parser.specs.Items.{Front, front, Reading, reading_with_items, waiting_reading, reading_by}
use Rattle.cept_parser.specs.Items.{reading_within, reading_at}
use Rattle.cept_parser.proofs.LongestBeginningLemmas.{front_append_more, front_none, front_within}

-- a reading after this first item
abbrev pub after_first : ℕ → Front → Reading → Reading
after_first at f r = reading_with_items (record { at = at; len = f.size; what = f.said } ∷ []) r

-- bytes that wait are pending
pub read_none : (n : ℕ) (x : Context) (at : ℕ) (b : List ℕ) → front x b ≡ None
    → reading_within n x at b ≡ waiting_reading x at b
unfolding reading_within reading_by
read_none zero x at b e = refl
read_none (suc n) x at b e = rw e refl

read_some : (n : ℕ) (x : Context) (at : ℕ) (b : List ℕ) (f : Front) → front x b ≡ Some f
    → reading_within (suc n) x at b
    ≡ after_first at f (reading_within n f.next (at + f.size) (drop f.size b))
unfolding reading_within reading_by
read_some n x at b f e = rw e refl

-- what is left after the first item
pub rest_within : (x : Context) (b : List ℕ) (f : Front) (n : ℕ) → front x b ≡ Some f → length b ≤ suc n
    → length (drop f.size b) ≤ n
rest_within x b f n e l =
    let w = front_within x b f e in
    omega (arith, length-drop f.size b)

-- a bytes' first item, none or some
pub cases_front : (o : Option Front) → (o ≡ None) ⊎ ((f : Front) × (o ≡ Some f))
cases_front None = inl refl
cases_front (Some f) = inr (f, refl)

-- reading up to more items than there are bytes finds no more
pub read_enough : (n m : ℕ) (x : Context) (at : ℕ) (b : List ℕ) → length b ≤ n → length b ≤ m
    → reading_within n x at b ≡ reading_within m x at b
read_enough zero m x at b k l =
    let e : front x b ≡ None = front_none x b k in
    read_none zero x at b e ∙ sym (read_none m x at b e)
read_enough (suc n) zero x at b k l =
    let e : front x b ≡ None = front_none x b l in
    read_none (suc n) x at b e ∙ sym (read_none zero x at b e)
read_enough (suc n) (suc m) x at b k l =
    let none : front x b ≡ None → reading_within (suc n) x at b ≡ reading_within (suc m) x at b = λ e.
    read_none (suc n) x at b e ∙ sym (read_none (suc m) x at b e) in
    let some : (f : Front) → front x b ≡ Some f → reading_within (suc n) x at b ≡ reading_within (suc m) x at b = λ f e.
    read_some n x at b f e
    ∙ ap (after_first at f)
    (read_enough n m f.next (at + f.size) (drop f.size b) (rest_within x b f n e k) (rest_within x b f m e l))
    ∙ sym (read_some m x at b f e) in
    elim (cases_front (front x b)) [ inl e ↦ none e | inr p ↦ some p.0 p.1 ]

-- the first item, and then the reading of the rest
pub read_step : (x : Context) (at : ℕ) (b : List ℕ) (f : Front) → front x b ≡ Some f
    → reading_at x at b ≡ after_first at f (reading_at f.next (at + f.size) (drop f.size b))
read_step x at b f e =
    read_enough (length b) (suc (length b)) x at b (omega arith) (omega arith) ∙ read_some (length b) x at b f e
    ∙ ap (after_first at f)
    (read_enough (length b) (length (drop f.size b)) f.next (at + f.size) (drop f.size b) (omega (
      arith,
      length-drop f.size b,
    )) (omega arith))

-- reading two parts is reading the first, and then what it left pending with the second
abbrev GoesOn : Context → ℕ → List ℕ → List ℕ → Reading → Type 0
GoesOn x at b s r = reading_at x at (b ++ s) ≡ reading_with_items r.items (reading_at r.context r.at (r.pending ++ s))

goes_on_none : (x : Context) (at : ℕ) (b s : List ℕ) → front x b ≡ None → GoesOn x at b s (reading_at x at b)
goes_on_none x at b s e = subst (GoesOn x at b s) (sym (read_none (length b) x at b e)) refl

goes_on : (n : ℕ) (x : Context) (at : ℕ) (b s : List ℕ) → length b ≤ n → GoesOn x at b s (reading_at x at b)
goes_on zero x at b s l = goes_on_none x at b s (front_none x b l)
goes_on (suc n) x at b s l =
    let some : (f : Front) → front x b ≡ Some f → GoesOn x at b s (reading_at x at b) = λ f e.
    let w = front_within x b f e in
    let tail : drop f.size (b ++ s) ≡ drop f.size b ++ s = drop-append-le f.size b s w.1 in
    let later : GoesOn f.next (at + f.size) (drop f.size b) s (reading_at f.next (at + f.size) (drop f.size b)) =
    goes_on n f.next (at + f.size) (drop f.size b) s (rest_within x b f n e l) in
    let whole : reading_at x at (b ++ s)
    ≡ after_first at f (reading_at f.next (at + f.size) (drop f.size b ++ s)) =
    read_step x at (b ++ s) f (front_append_more x b s f e)
    ∙ ap (λ (u : List ℕ). after_first at f (reading_at f.next (at + f.size) u)) tail in
    subst (GoesOn x at b s) (sym (read_step x at b f e)) (whole ∙ ap (after_first at f) later) in
    elim (cases_front (front x b)) [ inl e ↦ goes_on_none x at b s e | inr p ↦ some p.0 p.1 ]

pub read_append : (x : Context) (at : ℕ) (b s : List ℕ) → let r = reading_at x at b in
    reading_at x at (b ++ s) ≡ reading_with_items r.items (reading_at r.context r.at (r.pending ++ s))
read_append x at b s = goes_on (length b) x at b s (omega arith)

-- the pending bytes stand after the items
abbrev Ends : ℕ → List ℕ → Reading → Type 0
Ends at b r = (r.at + length r.pending ≡ at + length b) × (front r.context r.pending ≡ None)

ends_none : (x : Context) (at : ℕ) (b : List ℕ) → front x b ≡ None → Ends at b (reading_at x at b)
ends_none x at b e = subst (Ends at b) (sym (read_none (length b) x at b e)) (refl, e)

ends : (n : ℕ) (x : Context) (at : ℕ) (b : List ℕ) → length b ≤ n → Ends at b (reading_at x at b)
ends zero x at b l = ends_none x at b (front_none x b l)
ends (suc n) x at b l =
    let some : (f : Front) → front x b ≡ Some f → Ends at b (reading_at x at b) = λ f e.
    let w = front_within x b f e in
    let later : Ends (at + f.size) (drop f.size b) (reading_at f.next (at + f.size) (drop f.size b)) =
    ends n f.next (at + f.size) (drop f.size b) (rest_within x b f n e l) in
    subst (Ends at b) (sym (read_step x at b f e)) (omega (arith, length-drop f.size b), later.1) in
    elim (cases_front (front x b)) [ inl e ↦ ends_none x at b e | inr p ↦ some p.0 p.1 ]

pub read_place : (x : Context) (at : ℕ) (b : List ℕ) → let r = reading_at x at b in
    r.at + length r.pending ≡ at + length b
read_place x at b = (ends (length b) x at b (omega arith)).0

pub read_waits : (x : Context) (at : ℕ) (b : List ℕ) → let r = reading_at x at b in front r.context r.pending ≡ None
read_waits x at b = (ends (length b) x at b (omega arith)).1
