-- The longest beginning that fits, and the first item.
use Rattle.std.proofs.Common.{◌≡◌, ℕ, zero, suc, ◌+◌, ◌<◌, ◌≤◌, zero-le, Bool, true, false, not, ◌&&◌, ◌||◌, cond, eqb}
use Rattle.std.proofs.Common.{List, [], ◌∷◌, ◌++◌, length, get_or, take, Option, Some, None, refl, sym, ap, ◌∙◌, subst}
use Rattle.std.proofs.Common.{arith, inl, inr}
use Rattle.std.proofs.Math.Seq.{take-suc}
use Rattle.std.proofs.Math.Nat.{le_of_suc-le}
use Rattle.std.proofs.lemmas.List.{take-append-le, take_all, length-append, append_assoc, append-nil}
use Rattle.std.proofs.lemmas.Bool.{cases_lt, cond_both, eq-eqb, ne_eqb, eqb-true, both_ways, false_from_ne_true}
use Rattle.cept_parser.specs.declared.context.Context.{Context}
use Rattle.cept_codes.specs.declared.item.Item.{Item}
use Rattle.cept_codes.specs.declared.item.Reason.TheVariants.{Interrupted, Truncated}
use Rattle.cept_codes.specs.declared.item.Said.{Said}
use Rattle.cept_codes.specs.declared.item.Said.TheVariants.{Refused}
use Rattle.cept_parser.specs.declared.context.Mode.TheVariants.{Text}
use Rattle.cept_parser.specs.declared.context.Outcome.{Outcome}
use Rattle.cept_parser.specs.declared.fit.Fit.{Fit}
use Rattle.cept_parser.specs.declared.fit.Fit.TheVariants.{Misfit, Open, Whole, Longer}
use Rattle.cept_parser.specs.Bytes.{outcome, is_empty, is_whole, is_longer}
use Rattle.cept_parser.specs.Context.{with_mode}
use Rattle.cept_parser.specs.Grammar.{standing, unit, fits, grows}
use Rattle.cept_parser.specs.Items.{longest_beginning_within, Front, is_refusal, front, Reading, closing_items}
use Rattle.cept_parser.specs.inside.Waits.{said_at_end}
use Rattle.cept_parser.proofs.GrammarLemmas.{fits_front, fits_none, unit_none, fits_one, whole_ends, refused_ends}

-- the length of the longest beginning that fits
unfoldable pub longest_beginning : Context → List ℕ → ℕ
longest_beginning x b = longest_beginning_within x b (length b)

-- the first item, where the longest beginning that fits has this length, is all of the bytes or not, grows or not,
-- and wholly is this
unfoldable pub front_of : Context → ℕ → Bool → Bool → Option Outcome → Option Front
front_of x size all more (Some c) =
    cond (is_refusal c.said || not (all && more)) (Some (record { said = c.said; size = size; next = c.next })) None
front_of x size all more None =
    cond all None (Some (record { said = Refused Interrupted; size = size; next = with_mode x Text }))

-- n is the length of the longest beginning of b that fits
pub record IsLongest (x : Context) (b : List ℕ) (n : ℕ) : Type 0 where
  pub within : n ≤ length b
  pub fit : fits x (take n b) ≡ true
  pub end : n < length b → fits x (take (suc n) b) ≡ false

-- a beginning of what fits, fits
pub take_fits : (x : Context) (b : List ℕ) (n m : ℕ) → n ≤ m → m ≤ length b → fits x (take m b) ≡ true
    → fits x (take n b) ≡ true
take_fits x b n zero l w h =
    let e : n ≡ 0 = omega arith in
    subst (λ (k : ℕ). fits x (take k b) ≡ true) (sym e) (fits_none x)
take_fits x b n (suc m) l w h =
    let shorter : n ≤ m → fits x (take n b) ≡ true =
    λ s. take_fits x b n m s (le_of_suc-le w) (fits_front x (take m b) (get_or b m 0) (rw (take-suc b m 0 w) at h)) in
    let same : n ≡ suc m → fits x (take n b) ≡ true = λ e. subst (λ (k : ℕ). fits x (take k b) ≡ true) (sym e) h in
    elim (cases_lt m n) [ inl s ↦ same (omega arith) | inr s ↦ shorter s ]

longest_within_is : (x : Context) (b : List ℕ) (n : ℕ) → n ≤ length b
    → (n < length b → fits x (take (suc n) b) ≡ false) → IsLongest x b (longest_beginning_within x b n)
unfolding longest_beginning_within fits
longest_within_is x b zero w e = record { within = zero-le; fit = fits_none x; end = e }
longest_within_is x b (suc n) w e =
    cond_both (fits x (take (suc n) b)) (suc n) (longest_beginning_within x b n) (λ k. IsLongest x b k)
    (λ t. record { within = w; fit = t; end = e }) (λ f. longest_within_is x b n (le_of_suc-le w) (λ _. f))

pub longest_is : (x : Context) (b : List ℕ) → IsLongest x b (longest_beginning x b)
unfolding longest_beginning
longest_is x b = longest_within_is x b (length b) (omega arith) (λ l. absurd (omega arith))

-- no beginning that fits is longer than a longest one
not_longer : (x : Context) (b : List ℕ) (n m : ℕ) → IsLongest x b n → IsLongest x b m → m ≤ n
not_longer x b n m p q =
    let longer : n < m → ⊥ = λ l.
    both_ways (fits x (take (suc n) b)) (p.end (omega arith)) (take_fits x b (suc n) m l q.within q.fit) in
    elim (cases_lt n m) [ inl l ↦ absurd (longer l) | inr l ↦ l ]

-- there is one longest beginning
pub longest_unique : (x : Context) (b : List ℕ) (n m : ℕ) → IsLongest x b n → IsLongest x b m → n ≡ m
longest_unique x b n m p q =
    let one : m ≤ n = not_longer x b n m p q in
    let other : n ≤ m = not_longer x b m n q p in
    omega arith

or_true : (b : Bool) → (b || true) ≡ true
or_true true = refl
or_true false = refl

-- by the word for how bytes stand: what grows is no refusal
front_by : (x : Context) (n : ℕ) (all : Bool) (w : Fit) (o : Outcome)
    → (is_longer w ≡ true → is_refusal o.said ≡ false) → (let p = cond (is_whole w) o (outcome x Text (Refused Interrupted)) in
    cond (all && (not (is_whole w) || is_longer w)) None (Some (record { said = p.said; size = n; next = p.next }))
    ≡ front_of x n all (is_longer w) (cond (is_whole w) (Some o) None))
unfolding front_of
front_by x n true Misfit o h = refl
front_by x n false Misfit o h = refl
front_by x n true Open o h = refl
front_by x n false Open o h = refl
front_by x n true Whole o h = rw (or_true (is_refusal o.said)) refl
front_by x n false Whole o h = rw (or_true (is_refusal o.said)) refl
front_by x n true Longer o h = rw (h refl) refl
front_by x n false Longer o h = rw (or_true (is_refusal o.said)) refl

longer_whole : (w : Fit) → is_longer w ≡ true → is_whole w ≡ true
longer_whole Misfit h = absurd cc
longer_whole Open h = absurd cc
longer_whole Whole h = absurd cc
longer_whole Longer h = refl

longer_unit : (x : Context) (u : List ℕ) → is_longer (standing x u).fit ≡ true → unit x u ≡ Some (standing x u).outcome
unfolding unit
longer_unit x u l = rw (longer_whole (standing x u).fit l) refl

longer_grows : (x : Context) (u : List ℕ) → is_longer (standing x u).fit ≡ grows x u
unfolding grows
longer_grows x u = refl

longer_says : (x : Context) (u : List ℕ) → is_longer (standing x u).fit ≡ true
    → is_refusal (standing x u).outcome.said ≡ false
longer_says x u l =
    false_from_ne_true _ (λ r.
    both_ways _ (refused_ends x u (standing x u).outcome (longer_unit x u l) r) (sym (longer_grows x u) ∙ l))

-- the first item by the longest beginning
pub front_is : (x : Context) (b : List ℕ) (n : ℕ) (u : List ℕ) (all : Bool) → IsLongest x b n → take n b ≡ u
    → eqb n (length b) ≡ all → front x b ≡ front_of x n all (grows x u) (unit x u)
unfolding front longest_beginning unit grows
front_is x b n u all p t a =
    let e : longest_beginning_within x b (length b) ≡ n = longest_unique x b _ n (longest_is x b) p in
    rw (e, t, a) (front_by x n all (standing x u).fit (standing x u).outcome (longer_says x u))

-- what is all of the bytes and closes, doesn't grow, and closes also where more bytes come
closes_go : (refused more : Bool) (g f : Front) → (refused ≡ true → more ≡ false)
    → cond (refused || not (true && more)) (Some g) None ≡ Some f
    → (more ≡ false) × (cond (refused || not (false && more)) (Some g) None ≡ Some f)
closes_go true true g f r e = absurd (both_ways true (r refl) refl)
closes_go true false g f r e = (refl, e)
closes_go false true g f r e = absurd cc
closes_go false false g f r e = (refl, e)

closes_all : (x : Context) (n : ℕ) (more : Bool) (w : Option Outcome) (f : Front)
    → ((o : Outcome) → w ≡ Some o → is_refusal o.said ≡ true → more ≡ false) → front_of x n true more w ≡ Some f
    → (more ≡ false) × (front_of x n false more w ≡ Some f)
unfolding front_of
closes_all x n more None f r e = absurd cc
closes_all x n more (Some o) f r e = closes_go (is_refusal o.said) more _ f (r o refl) e

-- if all bytes don't wait, they are whole
whole_all : (x : Context) (n : ℕ) (more : Bool) (w : Option Outcome) (f : Front) → front_of x n true more w ≡ Some f
    → (o : Outcome) × (w ≡ Some o)
unfolding front_of
whole_all x n more None f e = absurd cc
whole_all x n more (Some o) f e = (o, refl)

length_more : (b : List ℕ) (c : ℕ) → length (b ++ c ∷ []) ≡ length b + 1
length_more b c = length-append b (c ∷ [])

-- the longest beginning of bytes that it doesn't exhaust stays the longest where a byte comes after
longest_stays : (x : Context) (b : List ℕ) (c n : ℕ) → IsLongest x b n → n < length b → IsLongest x (b ++ c ∷ []) n
longest_stays x b c n p l =
    let more : length (b ++ c ∷ []) ≡ length b + 1 = length_more b c in
    record {
      within = omega arith;
      fit = subst (λ (u : List ℕ). fits x u ≡ true) (sym (take-append-le n b (c ∷ []) p.within)) p.fit;
      end = λ _. subst (λ (u : List ℕ). fits x u ≡ false) (sym (take-append-le (suc n) b (c ∷ []) l)) (p.end l);
    }

-- bytes after which one doesn't fit are the longest beginning
pub longest_ends : (x : Context) (b : List ℕ) (c : ℕ) → fits x b ≡ true → fits x (b ++ c ∷ []) ≡ false
    → IsLongest x (b ++ c ∷ []) (length b)
longest_ends x b c h e =
    let more : length (b ++ c ∷ []) ≡ length b + 1 = length_more b c in
    record {
      within = omega arith;
      fit = subst (λ (u : List ℕ). fits x u
          ≡ true) (sym (take-append-le (length b) b (c ∷ []) (omega arith) ∙ take_all (length b) b (omega arith))) h;
      end = λ _. subst (λ (u : List ℕ). fits x u
          ≡ false) (sym (take_all (suc (length b)) (b ++ c ∷ []) (omega arith))) e;
    }

-- bytes that fit are their longest beginning
pub longest_all : (x : Context) (b : List ℕ) → fits x b ≡ true → IsLongest x b (length b)
longest_all x b h =
    record {
      within = omega arith;
      fit = subst (λ (u : List ℕ). fits x u ≡ true) (sym (take_all (length b) b (omega arith))) h;
      end = λ l. absurd (omega arith);
    }

-- the first item of bytes that fit
pub front_fitting : (x : Context) (b : List ℕ) → fits x b ≡ true
    → front x b ≡ front_of x (length b) true (grows x b) (unit x b)
front_fitting x b h =
    front_is x b (length b) b true (longest_all x b h) (take_all (length b) b (omega arith))
    (eq-eqb (length b) (length b) refl)

-- the first item of bytes that fit, where a byte comes that doesn't fit after them
pub front_ended : (x : Context) (b : List ℕ) (c : ℕ) → fits x b ≡ true → fits x (b ++ c ∷ []) ≡ false
    → front x (b ++ c ∷ []) ≡ front_of x (length b) false (grows x b) (unit x b)
front_ended x b c h e =
    let more : length (b ++ c ∷ []) ≡ length b + 1 = length_more b c in
    let front_part : take (length b) (b ++ c ∷ []) ≡ b =
    take-append-le (length b) b (c ∷ []) (omega arith) ∙ take_all (length b) b (omega arith) in
    front_is x (b ++ c ∷ []) (length b) b false (longest_ends x b c h e) front_part (ne_eqb _ _ (λ q. omega arith))

front_append_all : (x : Context) (b : List ℕ) (c : ℕ) (f : Front) → fits x b ≡ true → front x b ≡ Some f
    → front x (b ++ c ∷ []) ≡ Some f
front_append_all x b c f h e =
    let all : front_of x (length b) true (grows x b) (unit x b) ≡ Some f = sym (front_fitting x b h) ∙ e in
    let whole = whole_all x (length b) (grows x b) (unit x b) f all in
    let closes = closes_all x (length b) (grows x b) (unit x b) f (λ o. refused_ends x b o) all in
    front_ended x b c h (whole_ends x b whole.0 c whole.1 closes.0) ∙ closes.1

front_append_part : (x : Context) (b : List ℕ) (c n : ℕ) (f : Front) → IsLongest x b n → n < length b
    → front x b ≡ Some f → front x (b ++ c ∷ []) ≡ Some f
front_append_part x b c n f p l e =
    let more : length (b ++ c ∷ []) ≡ length b + 1 = length_more b c in
    let here : front x b ≡ front_of x n false (grows x (take n b)) (unit x (take n b)) =
    front_is x b n (take n b) false p refl (ne_eqb _ _ (λ q. omega arith)) in
    let there : front x (b ++ c ∷ []) ≡ front_of x n false (grows x (take n b)) (unit x (take n b)) =
    front_is x (b ++ c ∷ []) n (take n b) false (longest_stays x b c n p l) (take-append-le n b (c ∷ []) p.within)
    (ne_eqb _ _ (λ q. omega arith)) in
    there ∙ sym here ∙ e

-- bytes fit where they are their longest beginning
pub longest_fits : (x : Context) (b : List ℕ) (n : ℕ) → IsLongest x b n → length b ≤ n → fits x b ≡ true
longest_fits x b n p l = subst (λ (u : List ℕ). fits x u ≡ true) (take_all n b l) p.fit

-- a byte more never changes the first item
pub front_append : (x : Context) (b : List ℕ) (c : ℕ) (f : Front) → front x b ≡ Some f → front x (b ++ c ∷ []) ≡ Some f
front_append x b c f e =
    let p = longest_is x b in
    elim (cases_lt (longest_beginning x b) (length b)) [
      | inl l ↦ front_append_part x b c (longest_beginning x b) f p l e
      | inr l ↦ front_append_all x b c f (longest_fits x b _ p l) e
    ]

-- nor do more bytes
pub front_append_more : (x : Context) (b s : List ℕ) (f : Front) → front x b ≡ Some f → front x (b ++ s) ≡ Some f
front_append_more x b [] f e = subst (λ (u : List ℕ). front x u ≡ Some f) (sym (append-nil b)) e
front_append_more x b (c ∷ s) f e =
    subst (λ (u : List ℕ). front x u
    ≡ Some f) (append_assoc b (c ∷ []) s) (front_append_more x (b ++ c ∷ []) s f (front_append x b c f e))

-- no bytes have no first item
pub front_none : (x : Context) (b : List ℕ) → length b ≤ 0 → front x b ≡ None
unfolding front_of
front_none x [] l = rw (front_fitting x [] (fits_none x), unit_none x) refl
front_none x (a ∷ b) l = absurd (omega arith)

front_size : (x : Context) (n : ℕ) (all more : Bool) (w : Option Outcome) (f : Front)
    → front_of x n all more w ≡ Some f → f.size ≡ n
unfolding front_of
front_size x n true more None f e = absurd cc
front_size x n false more None f e = cc
front_size x n all more (Some o) f e = front_size_go (is_refusal o.said || not (all && more)) _ f e
  where
    front_size_go : (b : Bool) (g f : Front) → cond b (Some g) None ≡ Some f → f.size ≡ g.size
    front_size_go true g f e = cc
    front_size_go false g f e = absurd cc

-- the first item is as long as the longest beginning
pub front_longest : (x : Context) (b : List ℕ) (f : Front) → front x b ≡ Some f → f.size ≡ longest_beginning x b
front_longest x b f e =
    front_size x (longest_beginning x b) (eqb (longest_beginning x b) (length b))
    (grows x (take (longest_beginning x b) b)) (unit x (take (longest_beginning x b) b)) f
    (sym (front_is x b (longest_beginning x b) _ _ (longest_is x b) refl refl) ∙ e)

longest_above : (x : Context) (a : ℕ) (b : List ℕ) (n : ℕ) → IsLongest x (a ∷ b) n → 1 ≤ n
longest_above x a b zero p = absurd (both_ways (fits x (a ∷ [])) (p.end (omega arith)) (fits_one x a))
longest_above x a b (suc n) p = omega arith

-- the first item has at least one byte, and at most all
pub front_within : (x : Context) (b : List ℕ) (f : Front) → front x b ≡ Some f → (1 ≤ f.size) × (f.size ≤ length b)
front_within x [] f e = let n : front x [] ≡ None = front_none x [] (omega arith) in absurd cc
front_within x (a ∷ b) f e =
    let s : f.size ≡ longest_beginning x (a ∷ b) = front_longest x (a ∷ b) f e in
    let p = longest_is x (a ∷ b) in
    let l : 1 ≤ longest_beginning x (a ∷ b) = longest_above x a b _ p in
    let w : longest_beginning x (a ∷ b) ≤ length (a ∷ b) = p.within in
    (omega arith, omega arith)

waits_all : (x : Context) (n : ℕ) (all more : Bool) (w : Option Outcome) → front_of x n all more w ≡ None → all ≡ true
unfolding front_of
waits_all x n true more w e = refl
waits_all x n false more None e = absurd cc
waits_all x n false true (Some o) e = absurd (waits_go (is_refusal o.said) _ e)
  where
    waits_go : (r : Bool) (f : Front) → cond (r || true) (Some f) None ≡ None → ⊥
    waits_go true f e = cc
    waits_go false f e = cc
waits_all x n false false (Some o) e = absurd (waits_go (is_refusal o.said) _ e)
  where
    waits_go : (r : Bool) (f : Front) → cond (r || true) (Some f) None ≡ None → ⊥
    waits_go true f e = cc
    waits_go false f e = cc

-- bytes that wait fit
pub waits_fits : (x : Context) (b : List ℕ) → front x b ≡ None → fits x b ≡ true
waits_fits x b e =
    let n = longest_beginning x b in
    let p = longest_is x b in
    let all : eqb n (length b) ≡ true =
    waits_all x n (eqb n (length b)) (grows x (take n b)) (unit x (take n b)) (sym (front_is x b n _ _ p refl refl)
    ∙ e) in
    let same : n ≡ length b = eqb-true n (length b) all in
    longest_fits x b n p (omega arith)

empty_is : (u : List ℕ) → eqb (length u) 0 ≡ is_empty u
empty_is [] = refl
empty_is (a ∷ u) = ne_eqb _ _ (λ e. omega arith)

-- what pending bytes say at the end by what they wholly are
end_is : (w : Fit) (o : Outcome) → cond (is_whole w) o.said (Refused Truncated) ≡ said_at_end (cond (is_whole w) (Some o) None)
unfolding said_at_end
end_is Misfit o = refl
end_is Open o = refl
end_is Whole o = refl
end_is Longer o = refl

pub closing_is : (r : Reading) → closing_items r
    ≡ cond (is_empty r.pending) [] (record { at = r.at; len = length r.pending; what = said_at_end (unit r.context r.pending) } ∷ [])
unfolding closing_items unit
closing_is r =
    let s = standing r.context r.pending in
    let by : Bool → Said → List Item = λ b said. cond b [] (record { at = r.at; len = length r.pending; what = said } ∷ []) in
    ap (λ b. by b (cond (is_whole s.fit) s.outcome.said (Refused Truncated))) (empty_is r.pending)
    ∙ ap (by (is_empty r.pending)) (end_is s.fit s.outcome)
