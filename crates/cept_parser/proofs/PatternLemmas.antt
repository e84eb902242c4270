-- Bytes of a pattern, as the grammar of the bytes sees them.
use Rattle.std.proofs.Common.{◌≡◌, ℕ, ◌<◌, ◌≤◌, Bool, true, false, ◌&&◌, eqb, leb, ltb, List, [], ◌∷◌, ◌++◌}
use Rattle.std.proofs.Common.{length, refl, sym, ap, ◌∙◌, subst, arith, rules, inl, inr, get_or}
use Rattle.std.proofs.lemmas.Bool.{and_parts, both_ways, eqb-true, ltb-true, cases_Bool}
use Rattle.cept_codes.specs.declared.command.Form.{Form}
use Rattle.cept_codes.specs.Command.{IsValidForm}
use Rattle.cept_codes.specs.declared.item.Said.{Said}
use Rattle.cept_codes.specs.Look.{is_pattern_size}
use Rattle.cept_drcs.specs.Cut.{blocks}
use Rattle.cept_drcs.specs.Unit.{pattern_grows as unit_grows}
use Rattle.cept_drcs.proofs.Laws.{starts, grows_by_last}
use Rattle.cept_parser.specs.declared.context.Mode.{Mode}
use Rattle.cept_parser.specs.declared.context.Mode.TheVariants.{Text, TableRun, DclutRun, DrcsRun, Skip}
use Rattle.cept_parser.specs.declared.context.Context.{Context}
use Rattle.cept_parser.specs.Bytes.{is_plain}
use Rattle.cept_parser.specs.declared.fit.Fit.{Fit}
use Rattle.cept_parser.specs.declared.fit.Fit.TheVariants.{Misfit, Open, Whole, Longer}
use Rattle.cept_parser.specs.Bytes.{is_longer, Standing}
use Rattle.cept_parser.specs.Fit.{closes, Answer, answer}
use Rattle.cept_parser.specs.inside.Fit.{word}
use Rattle.cept_parser.specs.Runs.{with_pattern, table_entry, run_unit}
use Rattle.cept_parser.specs.Fit.{starts_pattern}
use Rattle.cept_parser.specs.Units.{us_unit}
use Rattle.cept_parser.specs.Grammar.{repetition, csi_unit, standing}
use Rattle.cept_parser.specs.Waits.{begins_in, in_pattern}
use Rattle.cept_parser.proofs.ChoiceLemmas.{each_test}

-- of a valid form 3/0 alone begins patterns
pub starts_is : (x : Context) (c a : ℕ) → IsValidForm x.form → starts_pattern x c a ≡ (ltb c 0x7F && eqb a 0x30)
starts_is x c a v = ap (λ (b : Bool). ltb c 0x7F && b) (starts x.form a v)

some_line : (w h : ℕ) → is_pattern_size w h ≡ true → ltb 0 h ≡ true
some_line w h s = search rules

first_grows : (f : Form) → IsValidForm f → unit_grows f (0x30 ∷ []) ≡ true
unfolding blocks
first_grows f v =
    grows_by_last f (0x30 ∷ []) [] (record { plane = 0; bytes = [] }) (starts f 0x30 v) refl
    ∙ rw (some_line f.w f.h v.size) refl

-- and more bytes fit after it
pub start_grows : (x : Context) (c a : ℕ) → IsValidForm x.form → starts_pattern x c a ≡ true
    → unit_grows x.form (a ∷ []) ≡ true
start_grows x c a v h =
    let e : a ≡ 0x30 = eqb-true a 0x30 (sym (starts x.form a v) ∙ (and_parts _ _ h).1) in
    subst (λ (b : ℕ). unit_grows x.form (b ∷ []) ≡ true) (sym e) (first_grows x.form v)

-- a mode that is in a pattern
pub record IsPatternMode (m : Mode) (x : Context) (a : ℕ) : Type 0 where
  pub code : ℕ
  pub mode : m ≡ DrcsRun code
  pub starts : starts_pattern x code a ≡ true

pattern_mode : (m : Mode) (x : Context) (a : ℕ) → begins_in m x a ≡ true → IsPatternMode m x a
pattern_mode Text x a h = absurd cc
pattern_mode Skip x a h = absurd cc
pattern_mode (TableRun i) x a h = absurd cc
pattern_mode (DclutRun i) x a h = absurd cc
pattern_mode (DrcsRun c) x a h = record { code = c; mode = refl; starts = h }

-- bytes of a pattern: the code, and how they stand to the grammar
pub record IsPatternRun (x : Context) (u : List ℕ) : Type 0 where
  pub code : ℕ
  pub mode : x.mode ≡ DrcsRun code
  pub small : code < 0x7F
  pub some : 1 ≤ length u
  pub stands : standing x u ≡ with_pattern x code u

run_is : (m : Mode) (x : Context) (a : ℕ) (u : List ℕ) (c : ℕ) → m ≡ DrcsRun c → starts_pattern x c a ≡ true
    → run_unit m x a u ≡ with_pattern x c (a ∷ u)
run_is m x a u c e s = rw (e, s) refl

plain_stands : (x : Context) (a : ℕ) (u : List ℕ) → is_plain a ≡ true → standing x (a ∷ u) ≡ run_unit x.mode x a u
plain_stands x a u p = rw p refl

pub pattern_run : (x : Context) (u : List ℕ) → in_pattern x u ≡ true → IsPatternRun x u
pattern_run x [] h = absurd cc
pattern_run x (a ∷ u) h =
    let p = and_parts (is_plain a) (begins_in x.mode x a) h in
    let m = pattern_mode x.mode x a p.1 in
    record {
      code = m.code;
      mode = m.mode;
      small = ltb-true m.code 0x7F (and_parts _ _ m.starts).0;
      some = omega arith;
      stands = plain_stands x a u p.0 ∙ run_is x.mode x a u m.code m.mode m.starts;
    }

-- more bytes are of a pattern where the first ones are
pub pattern_more : (x : Context) (u : List ℕ) (c : ℕ) → 1 ≤ length u → in_pattern x (u ++ c ∷ []) ≡ in_pattern x u
pattern_more x [] c n = absurd (omega arith)
pattern_more x (a ∷ u) c n = refl

abbrev Ends : Standing → Type 0
Ends s = is_longer s.fit ≡ false

run_ends : (m : Mode) (x : Context) (a : ℕ) → begins_in m x a ≡ false → Ends (run_unit m x a [])
unfolding table_entry
run_ends Text x a h = refl
run_ends Skip x a h = refl
run_ends (TableRun i) x a h = each_test Ends (ltb i 32 && leb 0x40 a) (λ _. refl) (λ _. refl)
run_ends (DclutRun i) x a h = each_test Ends (ltb i 4 && leb 0x40 a) (λ _. refl) (λ _. refl)
run_ends (DrcsRun c) x a h = each_test Ends (starts_pattern x c a) (λ s. absurd (both_ways _ h s)) (λ _. refl)

-- a byte alone that is no pattern doesn't grow
pub alone_ends : (x : Context) (a : ℕ) → in_pattern x (a ∷ []) ≡ false → is_longer (word x (a ∷ [])) ≡ false
unfolding repetition us_unit csi_unit
alone_ends x a h =
    each_test Ends (is_plain a) (λ p. run_ends x.mode x a (rw p at h))
    (λ _. each_test Ends (eqb a 0x12) (λ _. refl) (λ _. each_test Ends (eqb a 0x1B) (λ _. refl)
    (λ _. each_test Ends (eqb a 0x1F) (λ _. refl) (λ _. each_test Ends (eqb a 0x9B) (λ _. refl) (λ _. refl)))))

-- what is answered for a byte alone is the answer for the list of it
pub alone_answer : (x : Context) (u : List ℕ) (ended : Bool) (said : Said) (b : Answer) → 1 ≤ length u → length u < 2
    → (in_pattern x u ≡ true → (length u ≡ 1) × (ended ≡ false))
    → b ≡ answer (standing x (get_or u 0 0 ∷ [])) false said x → b ≡ answer (standing x u) ended said x
alone_answer x [] ended said b l m r e = absurd (omega arith)
alone_answer x (a ∷ b ∷ u) ended said c l m r e = absurd (omega arith)
alone_answer x (a ∷ []) ended said b l m r e =
    elim (cases_Bool (in_pattern x (a ∷ []))) [
      | inl h ↦ rw (r h).1 e
      | inr h ↦ e ∙ same_answer (standing x (a ∷ [])) (alone_ends x a h)
    ]
  where
    same_closed : (w : Fit) → is_longer w ≡ false → closes w false ≡ closes w ended
    same_closed Misfit h = refl
    same_closed Open h = refl
    same_closed Whole h = refl
    same_closed Longer h = absurd cc

    same_answer : (s : Standing) → is_longer s.fit ≡ false → answer s false said x ≡ answer s ended said x
    same_answer s h = rw (same_closed s.fit h) refl
