-- What a reader keeps beside the bytes that are pending.
use Rattle.std.proofs.Common.{◌≡◌, ℕ, ◌+◌, ◌-◌, ◌<◌, ◌≤◌, ◌^◌, Bool, true, false, not, cond, List, [], ◌∷◌, ◌++◌, length, Option, Some, None}
use Rattle.std.proofs.Common.{refl, sym, ap, ◌∙◌, arith, subst, inl, inr}
use Rattle.std.proofs.lemmas.Bool.{both_ways, cases_Bool, not-true, not-false}
use Rattle.std.proofs.lemmas.List.{length-append}
use Rattle.cept_drcs.specs.Loading.{Loading, Leads}
use Rattle.cept_codes.specs.declared.command.Command.TheVariants as command
use Rattle.cept_codes.specs.declared.item.Item.{Item}
use Rattle.cept_codes.specs.declared.item.Said.TheVariants.{Command as Says}
use Rattle.cept_codes.specs.declared.command.Form.{Form}
use Rattle.cept_drcs.specs.Unit.{is_pattern, pattern, pattern_grows as unit_grows}
use Rattle.cept_drcs.proofs.Laws.{unit_loads, some_plane}
use Rattle.cept_parser.specs.declared.context.Context.{Context}
use Rattle.cept_parser.specs.declared.context.Outcome.{Outcome}
use Rattle.cept_parser.specs.declared.reader.Reader.{Reader}
use Rattle.cept_parser.specs.declared.fit.Fit.TheVariants.{Misfit, Open, Whole, Longer}
use Rattle.cept_parser.specs.Bytes.{is_whole, is_longer, Standing}
use Rattle.cept_parser.specs.Grammar.{standing, unit, fits}
use Rattle.cept_parser.specs.Items.{Reading, reading_at, reading_with_items}
use Rattle.cept_parser.specs.inside.Waits.{said_at_end}
use Rattle.cept_parser.specs.inside.Fit.{word}
use Rattle.cept_parser.specs.declared.context.Mode.TheVariants.{DrcsRun}
use Rattle.cept_parser.specs.Context.{with_mode}
use Rattle.cept_parser.specs.Runs.{with_pattern}
use Rattle.cept_parser.specs.Waits.{in_pattern, IsBeside, IsWaiting, MayRead, HasLeft}
use Rattle.cept_parser.specs.inside.Waits.{outcome_at_misfit, cut_item}
use Rattle.cept_parser.proofs.OneByteMoreLemmas.{read_open, read_as_longer}
use Rattle.cept_parser.proofs.PatternLemmas.{pattern_run, pattern_more, alone_ends}
use Rattle.cept_parser.proofs.UnitLemmas.{never_open}

-- bytes that are no pattern need no loader
pub free_beside : (x : Context) (u : List ℕ) (b : Bool) (l : Loading) → in_pattern x u ≡ false → b ≡ false
    → IsBeside x u b l
free_beside x u b l h f = record { pattern = f ∙ sym h; leads = λ t. absurd (both_ways b f t) }

pub nothing_beside : (x : Context) (u : List ℕ) (b : Bool) (l : Loading) → u ≡ [] → b ≡ false → IsBeside x u b l
nothing_beside x u b l e f = free_beside x u b l (rw e refl) f

-- where nothing is pending, nothing is loaded
pub idle_free : (x : Context) (u : List ℕ) (b : Bool) (l : Loading) → IsBeside x u b l → u ≡ [] → b ≡ false
idle_free x u b l h e = h.pattern ∙ ap (in_pattern x) e

-- where what is pending is a pattern
pub beside_free : (x : Context) (u : List ℕ) (b : Bool) (l : Loading) → IsBeside x u b l → b ≡ false
    → in_pattern x u ≡ false
beside_free x u b l h f = sym h.pattern ∙ f

pub beside_loading : (x : Context) (u : List ℕ) (b : Bool) (l : Loading) → IsBeside x u b l → b ≡ true
    → in_pattern x u ≡ true
beside_loading x u b l h f = sym h.pattern ∙ f

-- a byte alone that isn't whole begins no pattern, and one that grows begins one
open_free : (x : Context) (a : ℕ) → Open ≡ word x (a ∷ []) → in_pattern x (a ∷ []) ≡ false
open_free x a f =
    let never : in_pattern x (a ∷ []) ≡ true → in_pattern x (a ∷ []) ≡ false = λ h.
    absurd (never_open _ _ (sym (f ∙ ap (λ (s : Standing). s.fit) (pattern_run x (a ∷ []) h).stands))) in
    elim (cases_Bool (in_pattern x (a ∷ []))) [ inl h ↦ never h | inr h ↦ h ]

pub longer_pattern : (x : Context) (a : ℕ) → Longer ≡ word x (a ∷ []) → in_pattern x (a ∷ []) ≡ true
longer_pattern x a f =
    elim (cases_Bool (in_pattern x (a ∷ []))) [
      | inl h ↦ h
      | inr h ↦ absurd (both_ways _ (alone_ends x a h) (ap is_longer (sym f)))
    ]

-- the context stays where bytes wait
pub open_context : (x : Context) (at : ℕ) (u : List ℕ) → Open ≡ word x u → (reading_at x at u).context ≡ x
open_context x at u f = ap (λ (r : Reading). r.context) (read_open x at u f)

pub longer_context : (x : Context) (at : ℕ) (u : List ℕ) → Longer ≡ word x u → (reading_at x at u).context ≡ x
longer_context x at u f = ap (λ (r : Reading). r.context) (read_as_longer x at u f)

pub open_beside : (x y : Context) (a : ℕ) (u : List ℕ) (b : Bool) (l : Loading) → Open ≡ word x (a ∷ []) → y ≡ x
    → u ≡ a ∷ [] → b ≡ false → IsBeside y u b l
open_beside x y a u b l f e q h = free_beside y u b l (rw (e, q) (open_free x a f)) h

-- more bytes are no pattern where the first ones are none
pub more_beside : (x y : Context) (p : List ℕ) (c : ℕ) (u : List ℕ) (b : Bool) (l m : Loading) → IsBeside x p b m
    → b ≡ false → 1 ≤ length p → y ≡ x → u ≡ p ++ c ∷ [] → IsBeside y u b l
more_beside x y p c u b l m k f n e q =
    free_beside y u b l (rw (e, q) (pattern_more x p c n ∙ beside_free x p b m k f)) f

-- what fits is no misfit
pub whole_fit : Whole ≡ Misfit → ⊥
whole_fit e = cc

pub open_fit : Open ≡ Misfit → ⊥
open_fit e = cc

pub longer_fit : Longer ≡ Misfit → ⊥
longer_fit e = cc

-- a pattern that is read, and what it says where it is closed
pub record IsLoaded (x : Context) (u : List ℕ) : Type 0 where
  pub code : ℕ
  pub mode : x.mode ≡ DrcsRun code
  pub small : code < 0x7F
  pub whole : is_pattern x.form u ≡ true
  pub unit : unit x u ≡ Some (with_pattern x code u).outcome

unit_is : (x : Context) (u : List ℕ) (c : ℕ) → standing x u ≡ with_pattern x c u → is_pattern x.form u ≡ true
    → unit x u ≡ Some (with_pattern x c u).outcome
unfolding unit
unit_is x u c e h = rw (e, h) (whole_either (unit_grows x.form u) (with_pattern x c u).outcome)
  where
    whole_either : (g : Bool) (o : Outcome) → cond (is_whole (cond g Longer Whole)) (Some o) None ≡ Some o
    whole_either true o = refl
    whole_either false o = refl

pub loaded : (x : Context) (u : List ℕ) (b : Bool) (l : Loading) → IsBeside x u b l → b ≡ true → IsLoaded x u
loaded x [] b l h t = absurd (both_ways b h.pattern t)
loaded x (a ∷ u) b l h t =
    let p = pattern_run x (a ∷ u) (beside_loading x (a ∷ u) b l h t) in
    let k = h.leads t in
    let w : is_pattern x.form (a ∷ u) ≡ true = unit_loads x.form a u (some_plane x.form k.form) ∙ k.continue in
    record {
      code = p.code;
      mode = p.mode;
      small = p.small;
      whole = w;
      unit = unit_is x (a ∷ u) p.code p.stands w;
    }

-- the item of such a pattern
pub loaded_item : (x : Context) (at : ℕ) (u : List ℕ) (k : IsLoaded x u) → cut_item x at u
    ≡ record { at = at; len = length u; what = Says (command.DrcsPattern k.code (pattern x.form u)) }
loaded_item x at u k =
    ap (λ (w : Option Outcome). record { at = at; len = length u; what = (outcome_at_misfit x w).said }) k.unit

pub loaded_next : (x : Context) (u : List ℕ) (k : IsLoaded x u)
    → with_mode x (DrcsRun (k.code + 1)) ≡ (outcome_at_misfit x (unit x u)).next
loaded_next x u k = ap (λ (w : Option Outcome). (outcome_at_misfit x w).next) (sym k.unit)

-- such a pattern at the end of the input
pub loaded_end : (x : Context) (u : List ℕ) (k : IsLoaded x u)
    → Says (command.DrcsPattern k.code (pattern x.form u)) ≡ said_at_end (unit x u)
unfolding said_at_end
loaded_end x u k = ap said_at_end (sym k.unit)

-- a reading with items before it leaves the same
pub left_after : (is : List Item) (r : Reading) (s : Reader) → HasLeft r s → HasLeft (reading_with_items is r) s
left_after is r s h = record { context = h.context; pending = h.pending; beside = h.beside }

-- a pattern with one byte more that its loader took
pub loaded_beside : (x : Context) (p : List ℕ) (c : ℕ) (u : List ℕ) (b : Bool) (l m : Loading) → IsBeside x p b l
    → b ≡ true → 1 ≤ length p → u ≡ p ++ c ∷ [] → Leads x.form (p ++ c ∷ []) m → IsBeside x u b m
loaded_beside x p c u b l m h t n e k =
    record {
      pattern = h.pattern ∙ sym (rw e (pattern_more x p c n));
      leads = λ _. rw e k;
    }

pub some_loaded : (x : Context) (u : List ℕ) (b : Bool) (l : Loading) → IsBeside x u b l → b ≡ true → 1 ≤ length u
some_loaded x u b l h t = (pattern_run x u (beside_loading x u b l h t)).some

-- the loader says whether its bytes grow
pub full_says : (f : Form) (p : List ℕ) (c : ℕ) (l : Loading) (r : Bool)
    → ((g : Form) (a : ℕ) (u : List ℕ) → Leads g (a ∷ u) l → r ≡ not (unit_grows g (a ∷ u)))
    → Leads f (p ++ c ∷ []) l → r ≡ not (unit_grows f (p ++ c ∷ []))
full_says f [] c l r h k = h f c [] k
full_says f (a ∷ p) c l r h k = h f a (p ++ c ∷ []) k

-- how the bytes of a pattern stand to the grammar
pub full_fit : (x : Context) (u : List ℕ) (b : Bool) (l : Loading) → IsBeside x u b l → b ≡ true
    → true ≡ not (unit_grows x.form u) → Whole ≡ word x u
full_fit x u b l h t n =
    let k = loaded x u b l h t in
    let e : (with_pattern x k.code u).fit ≡ Whole = rw (k.whole, not-true (unit_grows x.form u) (sym n)) refl in
    sym (ap (λ (s : Standing). s.fit) (pattern_run x u (beside_loading x u b l h t)).stands ∙ e)

pub grow_fit : (x : Context) (u : List ℕ) (b : Bool) (l : Loading) → IsBeside x u b l → b ≡ true
    → false ≡ not (unit_grows x.form u) → Longer ≡ word x u
grow_fit x u b l h t n =
    let k = loaded x u b l h t in
    let e : (with_pattern x k.code u).fit ≡ Longer = rw (k.whole, not-false (unit_grows x.form u) (sym n)) refl in
    sym (ap (λ (s : Standing). s.fit) (pattern_run x u (beside_loading x u b l h t)).stands ∙ e)

-- a byte that the loader doesn't take doesn't fit
pub none_taken : (x : Context) (p : List ℕ) (c : ℕ) (b : Bool) (l : Loading) → IsBeside x p b l → b ≡ true
    → is_pattern x.form (p ++ c ∷ []) ≡ false → fits x (p ++ c ∷ []) ≡ false
unfolding fits
none_taken x p c b l h t n =
    let some = some_loaded x p b l h t in
    rw ((pattern_run x (p ++ c ∷ []) (pattern_more x p c some ∙ beside_loading x p b l h t)).stands, n) refl

-- a reader waits right after its first place and the bytes that are pending
pub may_from : (s : Reader) (place at : ℕ) (closed : List Item) → IsWaiting s place → place < 2 ^ 33 → closed ≡ []
    → at ≡ place - length s.bytes → MayRead s (at + length s.bytes) closed
may_from s place at closed w few empty e =
    let back : place ≡ at + length s.bytes = omega (arith, e, w.waits.counted) in
    record { waits = subst (IsWaiting s) back w; few = subst (λ n. n < 2 ^ 33) back few; empty = empty }

-- the place of the first byte stays with one byte more
pub start_after : (place at : ℕ) (p : List ℕ) (c : ℕ) (u : List ℕ) → length p ≤ place → u ≡ p ++ c ∷ []
    → at ≡ place + 1 - length u → at ≡ place - length p
start_after place at p c u l e h = omega (arith, h, ap length e, length-append p (c ∷ []), l)

-- a loader that took one byte more is beside the bytes with it, and says whether these grow
pub record HasTaken (x : Context) (u : List ℕ) (b : Bool) (l : Loading) (full : Bool) : Type 0 where
  pub beside : IsBeside x u b l
  pub says : full ≡ not (unit_grows x.form u)

pub one_taken : (x : Context) (p : List ℕ) (c : ℕ) (b : Bool) (l m : Loading) (full : Bool) → IsBeside x p b l → b ≡ true
    → Leads x.form (p ++ c ∷ []) m
    → ((g : Form) (a : ℕ) (u : List ℕ) → Leads g (a ∷ u) m → full ≡ not (unit_grows g (a ∷ u)))
    → HasTaken x (p ++ c ∷ []) b m full
one_taken x p c b l m full h t k says =
    assumption (loaded_beside x p c (p ++ c ∷ []) b l m h t (some_loaded x p b l h t) refl k, full_says x.form p c m full says k)

-- the items of a reading that come after none, of bytes by another name
pub one_reading : (x : Context) (at : ℕ) (u v : List ℕ) (before closed : List Item) → before ≡ [] → u ≡ v
    → closed ≡ before ++ (reading_at x at u).items → closed ≡ (reading_at x at v).items
one_reading x at u v before closed none same h =
    h ∙ ap (λ (is : List Item). is ++ (reading_at x at u).items) none ∙ ap (λ (w : List ℕ). (reading_at x at w).items) same
