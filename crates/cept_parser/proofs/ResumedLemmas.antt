-- States that bytes lead to are valid ones, and their pending bytes wait again where they are read one by one.
use Rattle.std.proofs.Common.{◌≡◌, ℕ, zero, suc, ◌+◌, ◌<◌, ◌≤◌, true, false, eqb, List, [], ◌∷◌, ◌++◌, length, get_or}
use Rattle.std.proofs.Common.{take, drop, Option, Some, None, refl, sym, ap, ◌∙◌, subst, arith, inl, inr}
use Rattle.std.proofs.lemmas.List.{take-append-drop}
use Rattle.std.proofs.Math.Seq.{take-suc}
use Rattle.std.proofs.lemmas.Bool.{both_ways, eqb-true}
use Rattle.cept_codes.specs.declared.item.Item.{Item}
use Rattle.cept_parser.specs.declared.context.Context.{Context}
use Rattle.cept_parser.specs.declared.context.Outcome.{Outcome}
use Rattle.cept_parser.specs.declared.reader.Reader.{Reader}
use Rattle.cept_parser.specs.Context.{start_context}
use Rattle.cept_parser.specs.Grammar.{unit, grows}
use Rattle.cept_parser.specs.Items.{Front, front, Reading, reading_at, reading, waiting_reading}
use Rattle.cept_parser.proofs.LongestBeginningLemmas.{longest_beginning}
use Rattle.cept_parser.specs.State.{ParserState, Leads}
use Rattle.cept_parser.specs.Valid.{IsValidContext, AreBytes}
use Rattle.cept_parser.specs.Waits.{IsWaiting, HasLeft}
use Rattle.cept_parser.specs.inside.Waits.{outcome_at_misfit}
use Rattle.cept_parser.proofs.ValidOutcomeLemmas.{start_valid, text_valid, unit_leads}
use Rattle.cept_parser.proofs.ValidItemLemmas.{cases_outcome, front_cut}
use Rattle.cept_parser.proofs.LongestBeginningLemmas.{longest_is, front_is, front_none, front_append_more}
use Rattle.cept_parser.proofs.ReaderLemmas.{nothing_beside}
use Rattle.cept_parser.proofs.ReadingInPartsLemmas.{read_none, read_step, read_place, read_waits, cases_front}
use Rattle.cept_parser.proofs.ReadingInPartsLemmas.{rest_within}

-- the context after bytes that are closed is valid
cut_leads : (x : Context) (u : List ℕ) → IsValidContext x → IsValidContext (outcome_at_misfit x (unit x u)).next
cut_leads x u v =
    let P : Option Outcome → Type 0 = λ w. IsValidContext (outcome_at_misfit x w).next in
    elim (cases_outcome (unit x u)) [
      | inl e ↦ subst P (sym e) (text_valid x v)
      | inr p ↦ subst P (sym p.1) (unit_leads x u p.0 v p.1)
    ]

front_leads : (x : Context) (b : List ℕ) (f : Front) → IsValidContext x → front x b ≡ Some f → IsValidContext f.next
front_leads x b f v e =
    let n = longest_beginning x b in
    let p = longest_is x b in
    let same =
    front_cut x n (eqb n (length b)) (grows x (take n b)) (unit x (take n b)) f (sym (front_is x b n _ _ p refl refl)
    ∙ e) in
    subst (λ (f : Front). IsValidContext f.next) same (cut_leads x (take n b) v)

context_none : (x : Context) (at : ℕ) (b : List ℕ) → IsValidContext x → front x b ≡ None
    → IsValidContext (reading_at x at b).context
context_none x at b v e = subst (λ (r : Reading). IsValidContext r.context) (sym (read_none (length b) x at b e)) v

context_within : (n : ℕ) (x : Context) (at : ℕ) (b : List ℕ) → length b ≤ n → IsValidContext x
    → IsValidContext (reading_at x at b).context
context_within zero x at b l v = context_none x at b v (front_none x b l)
context_within (suc n) x at b l v =
    let some : (f : Front) → front x b ≡ Some f → IsValidContext (reading_at x at b).context = λ f e.
    subst (λ (r : Reading). IsValidContext r.context) (sym (read_step x at b f e))
    (context_within n f.next (at + f.size) (drop f.size b) (rest_within x b f n e l) (front_leads x b f v e)) in
    elim (cases_front (front x b)) [ inl e ↦ context_none x at b v e | inr p ↦ some p.0 p.1 ]

-- whatever numbers lead to a state, its context is valid
pub leads_valid : (b : List ℕ) (s : ParserState) → Leads b s → IsValidContext s.context
leads_valid b s l =
    subst IsValidContext (sym l.context) (context_within (length b) start_context 0 b (omega arith) start_valid)

-- its pending bytes wait
pub leads_waits : (b : List ℕ) (s : ParserState) → Leads b s → front s.context s.pending ≡ None
leads_waits b s l = rw (l.context, l.pending) (read_waits start_context 0 b)

-- and they are no more than were pushed
pub leads_counted : (b : List ℕ) (s : ParserState) → Leads b s → length s.pending ≤ s.place
leads_counted b s l =
    let q : (reading b).at + length (reading b).pending ≡ 0 + length b = read_place start_context 0 b in
    omega (arith, l.place, ap length l.pending)

-- bytes without an item wait
no_item : (x : Context) (at : ℕ) (b : List ℕ) → (reading_at x at b).items ≡ [] → front x b ≡ None
no_item x at b e =
    let never : (f : Front) → front x b ≡ Some f → front x b ≡ None = λ f k.
    let s = ap (λ (r : Reading). r.items) (read_step x at b f k) in
    absurd cc in
    elim (cases_front (front x b)) [ inl k ↦ k | inr p ↦ never p.0 p.1 ]

-- bytes that wait have no item
pub waits_no_item : (x : Context) (at : ℕ) (b : List ℕ) → front x b ≡ None → (reading_at x at b).items ≡ []
waits_no_item x at b e = ap (λ (r : Reading). r.items) (read_none (length b) x at b e)

-- and are what is left
left_waiting : (x : Context) (at : ℕ) (b : List ℕ) → (reading_at x at b).items ≡ []
    → reading_at x at b ≡ waiting_reading x at b
left_waiting x at b e = read_none (length b) x at b (no_item x at b e)

-- every beginning of bytes that wait waits
beginning_waits : (x : Context) (u s : List ℕ) → front x (u ++ s) ≡ None → front x u ≡ None
beginning_waits x u s e =
    let never : (f : Front) → front x u ≡ Some f → front x u ≡ None = λ f k.
    let q = front_append_more x u s f k in
    absurd cc in
    elim (cases_front (front x u)) [ inl k ↦ k | inr p ↦ never p.0 p.1 ]

-- a list is empty exactly where its length is 0
pub none_closed : (is : List Item) → eqb (length is) 0 ≡ true → is ≡ []
none_closed [] e = refl
none_closed (i ∷ is) e = let n = eqb-true (length (i ∷ is)) 0 e in absurd (omega arith)

pub some_closed : (is : List Item) → eqb (length is) 0 ≡ false → is ≡ [] → ⊥
some_closed is e h = both_ways _ e (rw h refl)

-- a reader that read bytes without an item has all of them pending, and waits
pub record HasAll (x : Context) (u : List ℕ) (s : Reader) : Type 0 where
  pub context : s.context ≡ x
  pub pending : s.bytes ≡ u
  pub waits : IsWaiting s (length s.bytes)

pub has_all : (x : Context) (at : ℕ) (u : List ℕ) (s : Reader) → IsValidContext x → AreBytes u
    → HasLeft (reading_at x at u) s → (reading_at x at u).items ≡ [] → HasAll x u s
has_all x at u s v b l e =
    let w = left_waiting x at u e in
    let context : s.context ≡ x = l.context ∙ ap (λ (r : Reading). r.context) w in
    let pending : s.bytes ≡ u = l.pending ∙ ap (λ (r : Reading). r.pending) w in
    record {
      context = context;
      pending = pending;
      waits = record {
        waits = record {
          waits = rw (context, pending) (no_item x at u e);
          counted = omega arith;
          context = rw context v;
          bytes = rw pending b;
        };
        beside = l.beside;
      };
    }

-- a reader with nothing pending waits
pub idle_waits : (x : Context) (s : Reader) → IsValidContext x → s.context ≡ x → s.bytes ≡ [] → s.loading ≡ false
    → IsWaiting s (length s.bytes)
idle_waits x s v context pending free =
    record {
      waits = record {
        waits = rw pending (front_none s.context [] (omega arith));
        counted = omega arith;
        context = rw context v;
        bytes = rw pending tt;
      };
      beside = nothing_beside _ _ _ _ pending free;
    }

-- of bytes that wait, those up to the next one wait
pub next_waits : (x : Context) (b : List ℕ) (i : ℕ) (y : Context) (p : List ℕ) → front x b ≡ None → i < length b
    → y ≡ x → p ≡ take i b → front y (p ++ get_or b i 0 ∷ []) ≡ None
next_waits x b i y p w l e h =
    let u : p ++ get_or b i 0 ∷ [] ≡ take (suc i) b =
    ap (λ (q : List ℕ). q ++ get_or b i 0 ∷ []) h ∙ sym (take-suc b i 0 l) in
    let k : front x (take (suc i) b) ≡ None =
    beginning_waits x (take (suc i) b) (drop (suc i) b) (rw (take-append-drop (suc i) b) w) in
    rw (e, u) k
