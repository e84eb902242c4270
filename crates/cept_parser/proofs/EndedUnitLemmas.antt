-- A whole unit before a byte that doesn't fit after it, and at the end of the input.
use Rattle.std.proofs.Common.{◌≡◌, ℕ, ◌+◌, Bool, true, false, ◌||◌, cond, List, [], ◌∷◌, ◌++◌, length, map, Some, None}
use Rattle.std.proofs.Common.{refl, sym, ap, ◌∙◌, subst, inl, inr}
use Rattle.std.proofs.lemmas.Bool.{cases_Bool}
use Rattle.std.proofs.lemmas.List.{append_assoc, append-nil, drop_at}
use Rattle.cept_codes.specs.declared.item.Item.{Item}
use Rattle.cept_parser.specs.declared.context.Context.{Context}
use Rattle.cept_parser.specs.declared.context.Outcome.{Outcome}
use Rattle.cept_parser.specs.declared.fit.Fit.{Fit}
use Rattle.cept_parser.specs.declared.fit.Fit.TheVariants.{Misfit, Open, Whole, Longer}
use Rattle.cept_parser.specs.Bytes.{is_longer}
use Rattle.cept_parser.specs.inside.Fit.{word}
use Rattle.cept_parser.specs.Grammar.{unit, fits, grows}
use Rattle.cept_parser.specs.Items.{Front, Reading, front, reading_with_items, waiting_reading, reading_at}
use Rattle.cept_parser.proofs.LongestBeginningLemmas.{front_of}
use Rattle.cept_parser.specs.Items.{closing_items, is_refusal}
use Rattle.cept_parser.specs.inside.Waits.{said_at_end}
use Rattle.cept_parser.specs.ReadsAs.{said_with_end, said_from}
use Rattle.cept_parser.proofs.GrammarLemmas.{unit_none, whole_fits}
use Rattle.cept_parser.proofs.LongestBeginningLemmas.{front_ended, front_append_more, closing_is}
use Rattle.cept_parser.proofs.OneByteMoreLemmas.{read_nil, read_unit, read_as_longer}
use Rattle.cept_parser.proofs.ReadingInPartsLemmas.{read_step}

-- what is whole is an item before a byte that doesn't fit, whether it grows or not
whole_now : (x : Context) (n : ℕ) (more : Bool) (o : Outcome)
    → front_of x n false more (Some o) ≡ Some (record { said = o.said; size = n; next = o.next })
unfolding front_of
whole_now x n more o = now_go (is_refusal o.said) _
  where
    now_go : (r : Bool) (f : Front) → cond (r || true) (Some f) None ≡ Some f
    now_go true f = refl
    now_go false f = refl

pub read_ended : (x : Context) (at c : ℕ) (u s : List ℕ) (o : Outcome) → unit x u ≡ Some o
    → fits x (u ++ c ∷ []) ≡ false → reading_at x at (u ++ c ∷ s)
    ≡ reading_with_items (record { at = at; len = length u; what = o.said } ∷ [])
    (reading_at o.next (at + length u) (c ∷ s))
read_ended x at c u s o e m =
    let f : Front = record { said = o.said; size = length u; next = o.next } in
    let i : Item = record { at = at; len = length u; what = o.said } in
    let here : front x (u ++ c ∷ []) ≡ Some f =
    front_ended x u c (whole_fits x u o e) m ∙ ap (front_of x (length u) false (grows x u)) e
    ∙ whole_now x (length u) (grows x u) o in
    let all : front x (u ++ c ∷ s) ≡ Some f =
    subst (λ (v : List ℕ). front x v ≡ Some f) (append_assoc u (c ∷ []) s)
    (front_append_more x (u ++ c ∷ []) s f here) in
    read_step x at (u ++ c ∷ s) f all
    ∙ ap (λ (v : List ℕ). reading_with_items (i ∷ []) (reading_at o.next (at + length u) v))
    (drop_at u (c ∷ s) (length u) refl)

-- ---- what is said to the end

-- what an item and then a reading say
said_item : (i : Item) (r : Reading) → said_with_end (reading_with_items (i ∷ []) r) ≡ i.what ∷ said_with_end r
unfolding closing_items
said_item i r = refl

-- nothing, where nothing is pending
pub said_none : (x : Context) (at : ℕ) → said_from x at [] ≡ []
unfolding closing_items
said_none x at = ap said_with_end (read_nil x at)

-- what pending bytes say at the end that are whole
said_waiting : (x : Context) (at : ℕ) (u : List ℕ) (o : Outcome) → unit x u ≡ Some o
    → said_with_end (waiting_reading x at u) ≡ o.said ∷ []
unfolding said_at_end
said_waiting x at [] o e = let n : unit x [] ≡ None = unit_none x in absurd cc
said_waiting x at (a ∷ u) o e =
    ap (map (λ i. i.what)) (closing_is (waiting_reading x at (a ∷ u))) ∙ ap (λ w. said_at_end w ∷ []) e

pub said_ended : (x : Context) (at c : ℕ) (u s : List ℕ) (o : Outcome) → unit x u ≡ Some o
    → fits x (u ++ c ∷ []) ≡ false
    → said_from x at (u ++ c ∷ s) ≡ o.said ∷ said_from o.next (at + length u) (c ∷ s)
said_ended x at c u s o e m = ap said_with_end (read_ended x at c u s o e m) ∙ said_item _ _

-- a unit that doesn't grow, whatever follows
pub said_whole : (x : Context) (at : ℕ) (u s : List ℕ) (o : Outcome) → unit x u ≡ Some o → grows x u ≡ false
    → said_from x at (u ++ s) ≡ o.said ∷ said_from o.next (at + length u) s
said_whole x at u s o e g = ap said_with_end (read_unit x at u s o e (whole_fits x u o e) g) ∙ said_item _ _

longer_is : (x : Context) (u : List ℕ) → grows x u ≡ true → Longer ≡ word x u
unfolding grows
longer_is x u g = longer_go (word x u) g
  where
    longer_go : (w : Fit) → is_longer w ≡ true → Longer ≡ w
    longer_go Misfit h = absurd cc
    longer_go Open h = absurd cc
    longer_go Whole h = absurd cc
    longer_go Longer h = refl

-- a whole unit at the end of the input
pub said_last : (x : Context) (at : ℕ) (u : List ℕ) (o : Outcome) → unit x u ≡ Some o → said_from x at u ≡ o.said ∷ []
said_last x at u o e =
    elim (cases_Bool (grows x u)) [
      | inl g ↦ ap said_with_end (read_as_longer x at u (longer_is x u g)) ∙ said_waiting x at u o e
      | inr g ↦ ap (said_from x at) (sym (append-nil u)) ∙ said_whole x at u [] o e g
          ∙ ap (λ w. o.said ∷ w) (said_none o.next (at + length u))
    ]
