-- Bytes that read as commands: in parts, in lists of spellings, and from the start.
use Rattle.std.proofs.Common.{◌≡◌, ◌⊎◌, ℕ, ◌+◌, Bool, true, false, not, ◌||◌, List, [], ◌∷◌, ◌++◌, length, map, Some}
use Rattle.std.proofs.Common.{refl, sym, ap, ◌∙◌, arith, inl, inr}
use Rattle.std.proofs.lemmas.Bool.{not-true}
use Rattle.std.proofs.lemmas.List.{append_assoc, append-nil, length-append, map-append}
use Rattle.std.proofs.lemmas.List.Folds.{flat_map-map}
use Rattle.std.specs.List.{AllByRecursion, flat_map}
use Rattle.cept_codes.specs.declared.command.Command.{Command}
use Rattle.cept_codes.specs.declared.item.Item.{Item}
use Rattle.cept_codes.specs.declared.item.Said.TheVariants.{Command as Says}
use Rattle.cept_parser.specs.declared.context.Context.{Context}
use Rattle.cept_parser.specs.declared.context.Outcome.{Outcome}
use Rattle.cept_parser.specs.Context.{start_context}
use Rattle.cept_parser.specs.Grammar.{unit, grows}
use Rattle.cept_parser.specs.Items.{closed_items, commands, command_said, is_refusal}
use Rattle.cept_parser.specs.ReadsAs.{said_from, begins_anew, all_said, Reads}
use Rattle.cept_parser.specs.Spelling.{spelling, context_after, IsSpelled, may_grow, spellings, context_after_all}
use Rattle.cept_parser.specs.Spelling.{stands_before, AreSpelled}
use Rattle.cept_parser.proofs.BreakerLemmas.{breaker_fails}
use Rattle.cept_parser.proofs.EndedUnitLemmas.{said_ended, said_whole, said_none}
use Rattle.cept_parser.proofs.GrammarLemmas.{unit_none}
use Rattle.cept_parser.proofs.SpellingLemmas.{spelled, grown}

-- ---- in parts

pub reads_nothing : (x : Context) → Reads x [] [] x
reads_nothing x = record { reads = λ at s. ap (λ n. said_from x n s) (omega arith) }

pub reads_joined : (x y z : Context) (a b : List ℕ) (cs ds : List Command) → Reads x a cs y → Reads y b ds z
    → Reads x (a ++ b) (cs ++ ds) z
reads_joined x y z a b cs ds p q =
    record {
      reads = λ at s.
          let l : at + length a + length b ≡ at + length (a ++ b) = omega (arith, length-append a b) in
          ap (said_from x at) (append_assoc a b s) ∙ p.reads at (b ++ s)
          ∙ ap (λ w. all_said cs ++ w) (q.reads (at + length a) s)
          ∙ sym (append_assoc (all_said cs) (all_said ds) (said_from z (at + length a + length b) s))
          ∙ ap (λ w. w ++ said_from z (at + length a + length b) s) (sym (map-append (λ c. Says c) cs ds))
          ∙ ap (λ n. all_said (cs ++ ds) ++ said_from z n s) l;
    }

-- a whole unit before bytes that can't continue it
ended_before : (x : Context) (at : ℕ) (u s : List ℕ) (o : Outcome) → unit x u ≡ Some o → begins_anew s ≡ true
    → said_from x at (u ++ s) ≡ o.said ∷ said_from o.next (at + length u) s
ended_before x at [] s o e h = let n = unit_none x in absurd cc
ended_before x at (a ∷ u) [] o e h = absurd cc
ended_before x at (a ∷ u) (c ∷ s) o e h = said_ended x at c (a ∷ u) s o e (breaker_fails x a c u (not-true _ h))

unit_before : (x : Context) (at : ℕ) (u s : List ℕ) (o : Outcome) → unit x u ≡ Some o
    → (grows x u ≡ false) ⊎ (begins_anew s ≡ true)
    → said_from x at (u ++ s) ≡ o.said ∷ said_from o.next (at + length u) s
unit_before x at u s o e (inl g) = said_whole x at u s o e g
unit_before x at u s o e (inr h) = ended_before x at u s o e h

-- bytes that begin anew do so whatever follows
pub anew_more : (b s : List ℕ) → begins_anew b ≡ true → begins_anew (b ++ s) ≡ true
anew_more [] s h = absurd cc
anew_more (c ∷ b) s h = h

pub reads_before : (x z : Context) (c : Command) (b : List ℕ) (ds : List Command) → IsSpelled x c
    → (may_grow c ≡ false) ⊎ (begins_anew b ≡ true) → Reads (context_after x c) b ds z
    → Reads x (spelling c ++ b) (c ∷ ds) z
reads_before x z c b ds h f q =
    let follows : (s : List ℕ) → (grows x (spelling c) ≡ false) ⊎ (begins_anew (b ++ s) ≡ true) = λ s.
    elim f [ inl g ↦ inl (grown x c h ∙ g) | inr g ↦ inr (anew_more b s g) ] in
    record {
      reads = λ at s.
          let n : at + length (spelling c) + length b ≡ at + length (spelling c ++ b) =
          omega (arith, length-append (spelling c) b) in
          ap (said_from x at) (append_assoc (spelling c) b s)
          ∙ unit_before x at (spelling c) (b ++ s) _ (spelled x c h) (follows s)
          ∙ ap (λ w. Says c ∷ w) (q.reads (at + length (spelling c)) s)
          ∙ ap (λ m. all_said (c ∷ ds) ++ said_from z m s) n;
    }

-- ---- lists

-- what stands before bytes doesn't grow, or they begin anew
ends_before : (g b : Bool) → (not g || b) ≡ true → (g ≡ false) ⊎ (b ≡ true)
ends_before true b h = inr h
ends_before false b h = inl refl

pub reads_list : (x : Context) (cs : List Command) → AreSpelled x cs
    → Reads x (spellings cs) cs (context_after_all x cs)
reads_list x [] h = reads_nothing x
reads_list x (c ∷ cs) h =
    reads_before x (context_after_all x (c ∷ cs)) c (spellings cs) cs h.0 (ends_before (may_grow c) _ h.1)
    (reads_list (context_after x c) cs h.2)

pub spellings-append : (a b : List Command) → spellings (a ++ b) ≡ spellings a ++ spellings b
spellings-append [] b = refl
spellings-append (c ∷ a) b =
    ap (λ w. spelling c ++ w) (spellings-append a b) ∙ sym (append_assoc (spelling c) (spellings a) (spellings b))

pub context_after_all-append : (x : Context) (a b : List Command)
    → context_after_all x (a ++ b) ≡ context_after_all (context_after_all x a) b
context_after_all-append x [] b = refl
context_after_all-append x (c ∷ a) b = context_after_all-append (context_after x c) a b

stands_more : (c : Command) (a b : List Command) → stands_before c a ≡ true → stands_before c (a ++ b) ≡ true
stands_more c a b h =
    elim (ends_before (may_grow c) (begins_anew (spellings a)) h) [
      | inl g ↦ rw g refl
      | inr g ↦ any_anew (may_grow c) (ap begins_anew (spellings-append a b) ∙ anew_more (spellings a) (spellings b) g)
    ]
  where
    any_anew : (g : Bool) {b : Bool} → b ≡ true → (not g || b) ≡ true
    any_anew true e = e
    any_anew false e = refl

pub spelled-append : (x : Context) (a b : List Command) → AreSpelled x a → AreSpelled (context_after_all x a) b
    → AreSpelled x (a ++ b)
spelled-append x [] b h k = k
spelled-append x (c ∷ a) b h k = (h.0, stands_more c a b h.1, spelled-append (context_after x c) a b h.2 k)

-- ---- from the start

pub said_start : (a : List ℕ) (cs : List Command) (y : Context) → Reads start_context a cs y
    → map (λ i. i.what) (closed_items a) ≡ all_said cs
said_start a cs y p =
    ap (said_from start_context 0) (sym (append-nil a)) ∙ p.reads 0 []
    ∙ ap (λ w. all_said cs ++ w) (said_none y (0 + length a)) ∙ append-nil (all_said cs)

none_among : (is : List Item) (cs : List Command) → map (λ i. i.what) is ≡ all_said cs
    → AllByRecursion (λ i. is_refusal i.what ≡ false) is
none_among [] cs e = tt
none_among (i ∷ is) [] e = absurd cc
none_among (i ∷ is) (c ∷ cs) e =
    let first : i.what ≡ Says c = cc in
    let others : map (λ j. j.what) is ≡ all_said cs = cc in
    (ap is_refusal first, none_among is cs others)

pub no_refusals : (a : List ℕ) (cs : List Command) (y : Context) → Reads start_context a cs y
    → AllByRecursion (λ i. is_refusal i.what ≡ false) (closed_items a)
no_refusals a cs y p = none_among (closed_items a) cs (said_start a cs y p)

said_commands : (cs : List Command) → flat_map command_said (all_said cs) ≡ cs
said_commands [] = refl
said_commands (c ∷ cs) = ap (λ w. c ∷ w) (said_commands cs)

pub commands_are : (a : List ℕ) (cs : List Command) (y : Context) → Reads start_context a cs y → commands a ≡ cs
commands_are a cs y p =
    sym (flat_map-map command_said (λ (i : Item). i.what) (closed_items a))
    ∙ ap (flat_map command_said) (said_start a cs y p)
    ∙ said_commands cs
