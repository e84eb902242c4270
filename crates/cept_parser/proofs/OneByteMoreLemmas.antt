-- What one byte more does to bytes that wait.
use Rattle.std.proofs.Common.{◌≡◌, ℕ, ◌+◌, Bool, true, false, ◌||◌, cond, List, [], ◌∷◌, ◌++◌, length, Option, Some}
use Rattle.std.proofs.Common.{None, refl, sym, ap, ◌∙◌, arith}
use Rattle.std.proofs.lemmas.List.{drop_all, drop_at}
use Rattle.cept_codes.specs.declared.item.Reason.TheVariants.{Interrupted, Truncated}
use Rattle.cept_codes.specs.declared.item.Item.{Item}
use Rattle.cept_codes.specs.declared.item.Said.{Said}
use Rattle.cept_codes.specs.declared.item.Said.TheVariants.{Refused}
use Rattle.cept_parser.specs.declared.context.Mode.TheVariants.{Text}
use Rattle.cept_parser.specs.Context.{with_mode}
use Rattle.cept_parser.specs.declared.context.Context.{Context}
use Rattle.cept_parser.specs.declared.context.Outcome.{Outcome}
use Rattle.cept_parser.specs.declared.fit.Fit.TheVariants.{Misfit, Open, Whole, Longer}
use Rattle.cept_parser.specs.declared.fit.Fit.{Fit}
use Rattle.cept_parser.specs.Bytes.{is_fit, is_whole, is_longer, Standing}
use Rattle.cept_parser.specs.Grammar.{standing, unit, fits, grows}
use Rattle.cept_parser.specs.Items.{Reading, Front, is_refusal, front, reading_with_items, waiting_reading, reading_at}
use Rattle.cept_parser.proofs.LongestBeginningLemmas.{front_of}
use Rattle.cept_parser.specs.inside.Waits.{said_at_end}
use Rattle.cept_parser.specs.Fit.{fit, fit_by, closes, Answer, answer}
use Rattle.cept_parser.specs.inside.Fit.{word}
use Rattle.cept_parser.specs.inside.Waits.{outcome_at_misfit, cut_item}
use Rattle.cept_parser.proofs.GrammarLemmas.{refused_ends}
use Rattle.cept_parser.proofs.LongestBeginningLemmas.{front_fitting, front_ended, front_none, waits_fits}
use Rattle.cept_parser.proofs.LongestBeginningLemmas.{front_append_more}
use Rattle.cept_parser.proofs.ReadingInPartsLemmas.{read_none, read_step}

-- no bytes wait
pub read_nil : (x : Context) (at : ℕ) → reading_at x at [] ≡ waiting_reading x at []
read_nil x at = read_none 0 x at [] (front_none x [] (omega arith))

-- the reading that begins with an item of this length that says this, and goes on with these bytes
abbrev after_item : ℕ → ℕ → Outcome → List ℕ → Reading
after_item at n o v =
    reading_with_items (record { at = at; len = n; what = o.said } ∷ []) (reading_at o.next (at + n) v)

-- the first item of a front that closes all of the bytes
read_whole : (x : Context) (at : ℕ) (u : List ℕ) (o : Outcome)
    → front x u ≡ Some (record { said = o.said; size = length u; next = o.next })
    → reading_at x at u
    ≡ record {
      items = record { at = at; len = length u; what = o.said } ∷ [];
      context = o.next;
      at = at + length u;
      pending = [];
    }
read_whole x at u o e =
    read_step x at u _ e ∙ ap (after_item at (length u) o) (drop_all (length u) u (omega arith))
    ∙ ap (reading_with_items (record { at = at; len = length u; what = o.said } ∷ [])) (read_nil o.next (at + length u))

-- a command or a refusal that nothing continues is an item at once
pub closes_now : (x : Context) (n : ℕ) (all : Bool) (o : Outcome)
    → front_of x n all false (Some o) ≡ Some (record { said = o.said; size = n; next = o.next })
unfolding front_of
closes_now x n true o = closes_go (is_refusal o.said) _
  where
    closes_go : (r : Bool) (f : Front) → cond (r || true) (Some f) None ≡ Some f
    closes_go true f = refl
    closes_go false f = refl
closes_now x n false o = closes_go (is_refusal o.said) _
  where
    closes_go : (r : Bool) (f : Front) → cond (r || true) (Some f) None ≡ Some f
    closes_go true f = refl
    closes_go false f = refl

-- a command that may grow waits
waits_longer : (x : Context) (n : ℕ) (o : Outcome) → is_refusal o.said ≡ false → front_of x n true true (Some o) ≡ None
unfolding front_of
waits_longer x n o e = rw e refl

-- bytes before one that doesn't fit are an item
cuts_now : (x : Context) (n : ℕ) (more : Bool) (w : Option Outcome)
    → front_of x n false more w ≡ Some (record {
      said = (outcome_at_misfit x w).said;
      size = n;
      next =
          (outcome_at_misfit x w).next;
    })
unfolding front_of
cuts_now x n more None = refl
cuts_now x n more (Some o) = cuts_go (is_refusal o.said) _
  where
    cuts_go : (r : Bool) (f : Front) → cond (r || true) (Some f) None ≡ Some f
    cuts_go true f = refl
    cuts_go false f = refl

-- ---- what the word for bytes tells

pub whole_told : (x : Context) (u : List ℕ) → Whole ≡ word x u
    → (fits x u ≡ true) × (grows x u ≡ false) × (unit x u ≡ Some (standing x u).outcome)
unfolding fits grows unit
whole_told x u e = (ap is_fit (sym e), ap is_longer (sym e), rw (← e) refl)

pub longer_told : (x : Context) (u : List ℕ) → Longer ≡ word x u
    → (fits x u ≡ true) × (grows x u ≡ true) × (unit x u ≡ Some (standing x u).outcome)
unfolding fits grows unit
longer_told x u e = (ap is_fit (sym e), ap is_longer (sym e), rw (← e) refl)

pub open_told : (x : Context) (u : List ℕ) → Open ≡ word x u → (fits x u ≡ true) × (unit x u ≡ None)
unfolding fits unit
open_told x u e = (ap is_fit (sym e), rw (← e) refl)

pub misfit_told : (x : Context) (u : List ℕ) → Misfit ≡ word x u → fits x u ≡ false
unfolding fits
misfit_told x u e = ap is_fit (sym e)

-- at the end bytes are closed that are whole
closed_whole : (w : Fit) → closes w true ≡ is_whole w
closed_whole Misfit = refl
closed_whole Open = refl
closed_whole Whole = refl
closed_whole Longer = refl

-- what is answered where bytes are closed, and where they aren't
pub closed_answer : (s : Standing) (ended : Bool) (before : Said) (x : Context) (a : Answer)
    → a ≡ answer s ended before x → closes a.fit ended ≡ true → (a.said ≡ s.outcome.said) × (a.context ≡ s.outcome.next)
closed_answer s ended before x a e c =
    let f : closes s.fit ended ≡ true = ap (λ (b : Answer). closes b.fit ended) (sym e) ∙ c in
    (ap (λ (b : Answer). b.said) e ∙ rw f refl, ap (λ (b : Answer). b.context) e ∙ rw f refl)

pub kept_answer : (s : Standing) (ended : Bool) (before : Said) (x : Context) (a : Answer)
    → a ≡ answer s ended before x → closes a.fit ended ≡ false → (a.said ≡ before) × (a.context ≡ x)
kept_answer s ended before x a e c =
    let f : closes s.fit ended ≡ false = ap (λ (b : Answer). closes b.fit ended) (sym e) ∙ c in
    (ap (λ (b : Answer). b.said) e ∙ rw f refl, ap (λ (b : Answer). b.context) e ∙ rw f refl)

-- ---- reading

-- whole bytes that nothing continues are an item that says this
pub read_as_whole : (x : Context) (at : ℕ) (u : List ℕ) → Whole ≡ word x u → let o = (standing x u).outcome in
    reading_at x at u
    ≡ record {
      items = record { at = at; len = length u; what = o.said } ∷ [];
      context = o.next;
      at = at + length u;
      pending = [];
    }
read_as_whole x at u f =
    let t = whole_told x u f in
    read_whole x at u (standing x u).outcome (front_fitting x u t.0
    ∙ ap (λ (b : Bool). front_of x (length u) true b (unit x u)) t.1
    ∙ ap (front_of x (length u) true false) t.2 ∙ closes_now x (length u) true _)

-- such bytes are closed as where they are cut
pub read_closed : (x : Context) (at : ℕ) (u : List ℕ) → Whole ≡ word x u → reading_at x at u
    ≡ record {
      items = cut_item x at u ∷ [];
      context = (outcome_at_misfit x (unit x u)).next;
      at = at + length u;
      pending = [];
    }
read_closed x at u f = rw (whole_told x u f).2 (read_as_whole x at u f)

-- an item by its parts
item_is : (i : Item) (at n : ℕ) (s : Said) → i.at ≡ at → i.len ≡ n → i.what ≡ s
    → i ≡ record { at = at; len = n; what = s }
item_is i at n s e f g = rw (← e, ← f, ← g) refl

-- whole bytes are the item that is answered
pub read_item : (x : Context) (at : ℕ) (u : List ℕ) (before : Said) (i : Item) (next : Context) → i.at ≡ at
    → i.len ≡ length u → record { fit = Whole; said = i.what; context = next } ≡ answer (standing x u) false before x
    → reading_at x at u ≡ record { items = i ∷ []; context = next; at = at + length u; pending = [] }
read_item x at u before i next p l e =
    let t = closed_answer (standing x u) false before x _ e refl in
    rw (item_is i at (length u) _ p l t.0, t.1) (read_as_whole x at u (ap (λ (a : Answer). a.fit) e))

-- whole bytes that may grow wait
pub read_as_longer : (x : Context) (at : ℕ) (u : List ℕ) → Longer ≡ word x u
    → reading_at x at u ≡ waiting_reading x at u
read_as_longer x at u f =
    let t = longer_told x u f in
    let o = (standing x u).outcome in
    let command : is_refusal o.said ≡ false =
    not_refused (is_refusal o.said) (λ r. sym t.1 ∙ refused_ends x u o t.2 r) in
    read_none (length u) x at u (front_fitting x u t.0
    ∙ ap (λ (b : Bool). front_of x (length u) true b (unit x u)) t.1 ∙ ap (front_of x (length u) true true) t.2
    ∙ waits_longer x (length u) o command)
  where
    not_refused : (b : Bool) → (b ≡ true → true ≡ false) → b ≡ false
    not_refused true r = r refl
    not_refused false r = refl

waits_open : (x : Context) (n : ℕ) (more : Bool) → front_of x n true more None ≡ None
unfolding front_of
waits_open x n more = refl

-- bytes that are not whole wait
read_waiting : (x : Context) (at : ℕ) (u : List ℕ) → fits x u ≡ true → unit x u ≡ None
    → reading_at x at u ≡ waiting_reading x at u
read_waiting x at u h e =
    read_none (length u) x at u (front_fitting x u h ∙ ap (front_of x (length u) true (grows x u)) e
    ∙ waits_open x (length u) (grows x u))

pub read_open : (x : Context) (at : ℕ) (u : List ℕ) → Open ≡ word x u → reading_at x at u ≡ waiting_reading x at u
read_open x at u f = let t = open_told x u f in read_waiting x at u t.0 t.1

open_by : (b g : Bool) (w : Option Outcome) → Open ≡ fit_by b g w → (b ≡ true) × (w ≡ None)
open_by false g w e = absurd cc
open_by true g None e = (refl, refl)
open_by true true (Some o) e = absurd cc
open_by true false (Some o) e = absurd cc

pub read_as_open : (x : Context) (at : ℕ) (u : List ℕ) → Open ≡ fit x u
    → reading_at x at u ≡ waiting_reading x at u
read_as_open x at u f = let t = open_by (fits x u) (grows x u) (unit x u) f in read_waiting x at u t.0 t.1

-- the reading of bytes that wait and one that doesn't fit after them
pub read_cut : (x : Context) (at : ℕ) (p : List ℕ) (c : ℕ) → front x p ≡ None → fits x (p ++ c ∷ []) ≡ false → let o =
    outcome_at_misfit x (unit x p) in reading_at x at (p ++ c ∷ [])
    ≡ reading_with_items (record { at = at; len = length p; what = o.said } ∷ []) (reading_at o.next (at + length p) (c ∷ []))
read_cut x at p c w m =
    let o : Outcome = outcome_at_misfit x (unit x p) in
    read_step x at (p ++ c ∷ []) _ (front_ended x p c (waits_fits x p w) m
    ∙ cuts_now x (length p) (grows x p) (unit x p))
    ∙ ap (after_item at (length p) o) (drop_at p (c ∷ []) (length p) refl)

-- a whole unit that nothing continues, followed by anything, reads as that unit and then the rest
pub read_unit : (x : Context) (at : ℕ) (u s : List ℕ) (o : Outcome) → unit x u ≡ Some o → fits x u ≡ true
    → grows x u ≡ false → reading_at x at (u ++ s)
    ≡ reading_with_items (record { at = at; len = length u; what = o.said } ∷ []) (reading_at o.next (at + length u) s)
read_unit x at u s o e h g =
    let front_u : front x u ≡ Some (record { said = o.said; size = length u; next = o.next }) =
    front_fitting x u h ∙ ap (λ (b : Bool). front_of x (length u) true b (unit x u)) g
    ∙ ap (front_of x (length u) true false) e ∙ closes_now x (length u) true o in
    read_step x at (u ++ s) _ (front_append_more x u s _ front_u)
    ∙ ap (after_item at (length u) o) (drop_at u s (length u) refl)

-- the reading of bytes that wait and one that doesn't fit after them, by the names of its parts
pub read_cut_by : (x : Context) (at : ℕ) (p : List ℕ) (c : ℕ) (o : Outcome) (next : Context) (from : ℕ) (rest : List ℕ)
    → front x p ≡ None → fits x (p ++ c ∷ []) ≡ false → o ≡ outcome_at_misfit x (unit x p) → next ≡ o.next
    → from ≡ at + length p → rest ≡ c ∷ [] → reading_at x at (p ++ c ∷ [])
    ≡ reading_with_items (record { at = at; len = length p; what = o.said } ∷ []) (reading_at next from rest)
read_cut_by x at p c o next from rest w m e n f r = rw (n, f, r, e) (read_cut x at p c w m)

-- bytes that are cut are the item that is answered, where they are closed
pub cut_closed : (x : Context) (at : ℕ) (u : List ℕ) (w : Fit) (i : Item) (next : Context) → i.at ≡ at
    → i.len ≡ length u → record { fit = w; said = i.what; context = next }
    ≡ answer (standing x u) true (Refused Interrupted) x → closes w true ≡ true
    → (i ≡ cut_item x at u) × (next ≡ (outcome_at_misfit x (unit x u)).next)
unfolding unit
cut_closed x at u w i next p l e c =
    let t = closed_answer (standing x u) true (Refused Interrupted) x _ e c in
    let h : is_whole (word x u) ≡ true =
    sym (closed_whole (word x u)) ∙ ap (λ (a : Answer). closes a.fit true) (sym e) ∙ c in
    (item_is i at (length u) _ p l (rw h t.0), rw h t.1)

-- else interrupted
pub cut_open : (x : Context) (at : ℕ) (u : List ℕ) (w : Fit) (i : Item) (next : Context) → i.at ≡ at
    → i.len ≡ length u → record { fit = w; said = i.what; context = next }
    ≡ answer (standing x u) true (Refused Interrupted) x → closes w true ≡ false
    → (i ≡ cut_item x at u) × (with_mode next Text ≡ (outcome_at_misfit x (unit x u)).next)
unfolding unit
cut_open x at u w i next p l e c =
    let t = kept_answer (standing x u) true (Refused Interrupted) x _ e c in
    let h : is_whole (word x u) ≡ false =
    sym (closed_whole (word x u)) ∙ ap (λ (a : Answer). closes a.fit true) (sym e) ∙ c in
    (item_is i at (length u) _ p l (rw h t.0), rw (h, t.1) refl)

-- what they say at the end of the input
pub end_answer : (x : Context) (u : List ℕ) → (answer (standing x u) true (Refused Truncated) x).said
    ≡ said_at_end (unit x u)
unfolding unit said_at_end
end_answer x u = rw (closed_whole (word x u)) (end_go (is_whole (word x u)))
  where
    end_go : (b : Bool) → let o = (standing x u).outcome in
        cond b o.said (Refused Truncated) ≡ said_at_end (cond b (Some o) None)
    end_go true = refl
    end_go false = refl

-- the bytes that are left pending
pub whole_left : (x : Context) (at : ℕ) (u : List ℕ) → Whole ≡ word x u → [] ≡ (reading_at x at u).pending
whole_left x at u f = ap (λ (r : Reading). r.pending) (sym (read_as_whole x at u f))

pub longer_left : (x : Context) (at : ℕ) (u : List ℕ) → Longer ≡ word x u → u ≡ (reading_at x at u).pending
longer_left x at u f = ap (λ (r : Reading). r.pending) (sym (read_as_longer x at u f))

pub open_left : (x : Context) (at : ℕ) (u : List ℕ) → Open ≡ word x u → u ≡ (reading_at x at u).pending
open_left x at u f = ap (λ (r : Reading). r.pending) (sym (read_open x at u f))
