-- The laws of the tables of units: after US, after ESC, and in a run.
use Rattle.std.proofs.Common.{◌≡◌, ℕ, suc, ◌≤◌, Bool, true, false, ◌&&◌, eqb, leb, ltb, List, [], ◌∷◌, ◌++◌, length}
use Rattle.std.proofs.Common.{refl, cond, ◌∙◌, ◌⊎◌, inl, inr, arith}
use Rattle.std.proofs.lemmas.Bool.{and_parts, cases_Bool}
use Rattle.std.proofs.lemmas.Bool.Decides.{nat_tests}
use Rattle.cept_codes.specs.declared.command.Form.{Form}
use Rattle.cept_codes.specs.Command.{IsValidForm}
use Rattle.cept_drcs.specs.Adding.{may_come}
use Rattle.cept_drcs.specs.Cut.{is_opener, blocks}
use Rattle.cept_drcs.specs.Loading.{Loading, fresh, takes, loading_after, loads, room}
use Rattle.cept_drcs.specs.Unit.{is_pattern, are_blocks}
use Rattle.cept_drcs.proofs.Laws.{beginning, longer as longer_pattern, no_longer, hundred, unit_loads}
use Rattle.cept_parser.specs.declared.context.Mode.{Mode}
use Rattle.cept_parser.specs.declared.context.Mode.TheVariants.{Text, TableRun, DclutRun, DrcsRun, Skip}
use Rattle.cept_parser.specs.declared.context.Context.{Context}
use Rattle.cept_parser.specs.declared.context.Outcome.{Outcome}
use Rattle.cept_parser.specs.declared.fit.Fit.{Fit}
use Rattle.cept_parser.specs.declared.fit.Fit.TheVariants.{Misfit, Open, Whole, Longer}
use Rattle.cept_parser.specs.Bytes.{is_between, is_plain, is_digit, is_fit, is_whole, Standing, Table, outcome}
use Rattle.cept_parser.specs.Bytes.{complete}
use Rattle.cept_parser.specs.Units.{drcs_parts, drcs_header, drcs_unit, colour_header, colour_start}
use Rattle.cept_parser.specs.inside.Fit.{colour_parts}
use Rattle.cept_parser.specs.Units.{colour_unit, format, service_break, service_unit, us_position, us_unit}
use Rattle.cept_parser.specs.inside.Fit.{format_parts}
use Rattle.cept_parser.specs.Runs.{table_entry, run_unit, with_pattern}
use Rattle.cept_parser.specs.Fit.{starts_pattern}
use Rattle.cept_parser.specs.Grammar.{csi_unit, after_escape, repetition, standing}
use Rattle.cept_parser.specs.Escape.{escape}
use Rattle.cept_parser.proofs.ChoiceLemmas.{each_test, each_table}
use Rattle.cept_parser.proofs.TableLemmas.{Fits, Fails, IsCommand, Laws, longer, IsTable, begun_table}
use Rattle.cept_parser.proofs.TableLemmas.{end_table, complete_table, plain_table, one_table, sequence_table, options_table}

-- ---- after US

drcs_table : (x : Context) → IsTable 5 (drcs_unit x)
unfolding drcs_unit drcs_header
drcs_table x =
    plain_table 4 x _ (λ c _. each_table (IsTable 4) (eqb c 0x20)
    (λ _. options_table 4 drcs_parts (drcs_header x) refl (omega arith) (λ _. refl))
    (λ _. each_table (IsTable 4) (is_between 0x21 0x7E c) (λ _. complete_table 4 _) (λ _. complete_table 4 _)))

colour_table : (x : Context) → IsTable 5 (colour_unit x)
unfolding colour_unit colour_header colour_start
colour_table x =
    plain_table 4 x _ (λ a _. each_table (IsTable 4) (eqb a 0x20)
    (λ _. options_table 4 colour_parts (colour_header x) refl (omega arith) (λ _. refl))
    (λ _. each_table (IsTable 4) (eqb a 0x21) (λ _. complete_table 4 _)
    (λ _. each_table (IsTable 4) (is_digit a) (λ _. one_table 3 x _) (λ _. complete_table 4 _))))

service_table : (x : Context) → IsTable 5 (service_unit x)
unfolding service_unit service_break
service_table x =
    plain_table 4 x _ (λ a _. each_table (IsTable 4) (eqb a 0x40) (λ _. one_table 3 x _)
    (λ _. each_table (IsTable 4) (eqb a 0x41) (λ _. complete_table 4 _)
    (λ _. each_table (IsTable 4) (eqb a 0x42) (λ _. complete_table 4 _)
    (λ _. each_table (IsTable 4) (eqb a 0x43) (λ _. complete_table 4 _)
    (λ _. each_table (IsTable 4) (eqb a 0x44) (λ _. complete_table 4 _)
    (λ _. each_table (IsTable 4) (eqb a 0x45) (λ _. complete_table 4 _)
    (λ _. each_table (IsTable 4) (eqb a 0x46) (λ _. complete_table 4 _)
    (λ _. each_table (IsTable 4) (eqb a 0x4F) (λ _. complete_table 4 _) (λ _. complete_table 4 _)))))))))

us_table : (x : Context) → IsTable 6 (us_unit x)
unfolding us_unit format us_position
us_table x =
    plain_table 5 x _ (λ a _. each_table (IsTable 5) (eqb a 0x23) (λ _. drcs_table x)
    (λ _. each_table (IsTable 5) (eqb a 0x26) (λ _. colour_table x)
    (λ _. each_table (IsTable 5) (eqb a 0x2D)
    (λ _. options_table 5 format_parts (format x) refl (omega arith) (λ _. refl))
    (λ _. each_table (IsTable 5) (eqb a 0x2F) (λ _. service_table x)
    (λ _. each_table (IsTable 5) (is_between 0x20 0x3F a) (λ _. complete_table 5 _)
    (λ _. one_table 4 x _))))))

-- ---- after ESC and CSI

csi_table : (x : Context) → IsTable 8 (csi_unit x)
unfolding csi_unit
csi_table x = sequence_table 0x40 7 8 _ (omega arith) (omega arith)

-- a sequence after its first byte, which is plain
after_plain : (x : Context) (a : ℕ) → is_plain a ≡ true → IsTable 8 (λ u. after_escape x (a ∷ u))
after_plain x a p =
    let k : List ℕ → Outcome = λ u. outcome x Text (escape (a ∷ u)) in
    elim (cases_Bool (eqb a 0x5B)) [
      | inl e ↦ rw e (csi_table x)
      | inr e ↦ elim (cases_Bool (is_between 0x30 0x7F a)) [
        | inl f ↦ rw (e, f) (end_table 8 k)
        | inr f ↦ rw (e, f, p) (sequence_table 0x30 2 8 k (omega arith) (omega arith))
      ]
    ]

no_escape : (x : Context) (a : ℕ) (u : List ℕ) → is_plain a ≡ false → Fails (after_escape x (a ∷ u))
no_escape x a u p =
    let e : eqb a 0x5B ≡ false = grind (arith, nat_tests) in
    let f : is_between 0x30 0x7F a ≡ false = grind (arith, nat_tests) in
    rw (e, f, p) refl

escape_table : (x : Context) → IsTable 9 (after_escape x)
escape_table x = begun_table 8 (after_escape x) refl (after_plain x) (no_escape x)

-- ---- patterns

-- the word for a pattern or none, that grows or doesn't
abbrev word : Bool → Bool → Fit
word b g = cond b (cond g Longer Whole) Misfit

pub fits_word : (b g : Bool) → is_fit (word b g) ≡ true → b ≡ true
fits_word true g h = refl
fits_word false g h = absurd cc

word_fits : (b g : Bool) → b ≡ true → is_whole (word b g) ≡ true
word_fits true true h = refl
word_fits true false h = refl
word_fits false g h = absurd cc

pub whole_pattern : (b g : Bool) → is_whole (word b g) ≡ true → b ≡ true
whole_pattern true g h = refl
whole_pattern false g h = absurd cc

whole_fits : (w : Fit) → is_whole w ≡ true → is_fit w ≡ true
whole_fits Misfit h = absurd cc
whole_fits Open h = refl
whole_fits Whole h = refl
whole_fits Longer h = refl

pub never_open : (b g : Bool) → word b g ≡ Open → ⊥
never_open true true e = cc
never_open true false e = cc
never_open false g e = cc

whole_word : (b g : Bool) → word b g ≡ Whole → (b ≡ true) × (g ≡ false)
whole_word true true e = absurd cc
whole_word true false e = (refl, refl)
whole_word false g e = absurd cc

longer_word : (b g : Bool) → word b g ≡ Longer → (b ≡ true) × (g ≡ true)
longer_word true true e = (refl, refl)
longer_word true false e = absurd cc
longer_word false g e = absurd cc

takes_breaks : (l : Loading) (c : ℕ) → is_plain c ≡ false → takes l c ≡ false
unfolding takes
takes_breaks l c h =
    let No : Bool → Type 0 = λ b. b ≡ false in
    each_test No l.begun (λ _. each_test No (is_opener c) (λ t. absurd (never t)) (λ _. byte_breaks (room l)))
    (λ _. first_breaks)
  where
    never : is_opener c ≡ true → ⊥
    never t = grind (arith, nat_tests)

    byte_breaks : (n : ℕ) → may_come n c ≡ false
    byte_breaks n = grind (arith, nat_tests)

    first_breaks : eqb c 0x30 ≡ false
    first_breaks = grind (arith, nat_tests)

loads_breaks : (l : Loading) (u : List ℕ) (c : ℕ) → is_plain c ≡ false → loads l (u ++ c ∷ []) ≡ false
unfolding loads
loads_breaks l [] c h = rw (takes_breaks l c h) refl
loads_breaks l (a ∷ u) c h = both_go (takes l a) (loads_breaks (loading_after l a) u c h)
  where
    both_go : (b : Bool) {f : Bool} → f ≡ false → (b && f) ≡ false
    both_go true e = e
    both_go false e = refl

-- a form of which there is a pattern has a plane
first_planes : (f : Form) (a : ℕ) → is_pattern f (a ∷ []) ≡ true → ltb 0 f.planes ≡ true
unfolding is_pattern blocks are_blocks
first_planes f a h = grind (arith, nat_tests)

pattern_breaks : (f : Form) (a : ℕ) (u : List ℕ) (c : ℕ) → is_plain c ≡ false → is_pattern f (a ∷ []) ≡ true
    → is_pattern f (a ∷ u ++ c ∷ []) ≡ false
pattern_breaks f a u c h p =
    unit_loads f a (u ++ c ∷ []) (first_planes f a p) ∙ loads_breaks (fresh f) (a ∷ u) c h

pattern_laws : (x : Context) (d a : ℕ) (u : List ℕ) → is_pattern x.form (a ∷ []) ≡ true
    → Laws (with_pattern x d (a ∷ u)) (longer (λ v. with_pattern x d (a ∷ v)) u)
pattern_laws x d a u s =
    let f = x.form in
    record {
      front = λ c h. whole_fits _ (word_fits _ _ (beginning f a u (c ∷ []) (fits_word _ _ h)));
      opens = λ c p e. absurd (never_open _ _ e);
      ends = λ c e. let w = whole_word _ _ e in rw (no_longer f a u c w.0 w.1) refl;
      command = λ e. refl;
      again = λ c e h. record { whole = word_fits _ _ (fits_word _ _ h); command = refl };
      grows = λ e. let w = longer_word _ _ e in let n = longer_pattern f a u w.0 w.1 in
          record { byte = n.byte; small = n.small; fit = whole_fits _ (word_fits _ _ n.longer) };
      breaks = λ c p. rw (pattern_breaks f a u c p s) refl;
    }

-- ---- after a first byte

-- more than ten bytes with the first are a command, of a hundred at most
pub record IsLong (x : Context) (u : List ℕ) (s : Standing) : Type 0 where
  pub command : IsCommand s
  pub few : IsValidForm x.form → suc (length u) ≤ 100

pub record IsFirst (x : Context) (F : Table) : Type 0 where
  pub first : Fits (F [])
  pub laws : (u : List ℕ) → Laws (F u) (longer F u)
  pub short : (u : List ℕ) → Fits (F u) → (length u ≤ 9) ⊎ IsLong x u (F u)

by_table : (x : Context) (n : ℕ) (F : Table) → n ≤ 9 → IsTable n F → IsFirst x F
by_table x n F l t =
    record { first = t.first; laws = t.laws; short = λ u f. let s = t.short u f in inl (omega arith) }

pattern_first : (x : Context) (d a : ℕ) → is_pattern x.form (a ∷ []) ≡ true
    → IsFirst x (λ u. with_pattern x d (a ∷ u))
pattern_first x d a s =
    record {
      first = whole_fits _ (word_fits _ _ s);
      laws = λ u. pattern_laws x d a u s;
      short = λ u h. inr (record {
        command = record { whole = word_fits _ _ (fits_word _ _ h); command = refl };
        few = λ v. hundred x.form (a ∷ u) v (fits_word _ _ h);
      });
    }

complete_first : (x : Context) (o : Outcome) → IsFirst x (complete o)
complete_first x o = by_table x 0 (complete o) (omega arith) (complete_table 0 o)

run_first : (m : Mode) (x : Context) (a : ℕ) → IsFirst x (run_unit m x a)
unfolding table_entry
run_first Text x a = complete_first x _
run_first Skip x a = complete_first x _
run_first (TableRun i) x a =
    each_table (IsFirst x) (ltb i 32 && leb 0x40 a) (λ _. by_table x 1 _ (omega arith) (one_table 0 x _))
    (λ _. complete_first x _)
run_first (DclutRun i) x a =
    each_table (IsFirst x) (ltb i 4 && leb 0x40 a) (λ _. complete_first x _) (λ _. complete_first x _)
run_first (DrcsRun d) x a =
    each_table (IsFirst x) (starts_pattern x d a) (λ s. pattern_first x d a (and_parts _ _ s).1) (λ _. complete_first x _)

pub first_is : (x : Context) (a : ℕ) → IsFirst x (λ u. standing x (a ∷ u))
unfolding repetition
first_is x a =
    each_table (IsFirst x) (is_plain a) (λ _. run_first x.mode x a)
    (λ _. each_table (IsFirst x) (eqb a 0x12) (λ _. by_table x 1 _ (omega arith) (one_table 0 x _))
    (λ _. each_table (IsFirst x) (eqb a 0x1B) (λ _. by_table x 9 _ (omega arith) (escape_table x))
    (λ _. each_table (IsFirst x) (eqb a 0x1F) (λ _. by_table x 6 _ (omega arith) (us_table x))
    (λ _. each_table (IsFirst x) (eqb a 0x9B) (λ _. by_table x 8 _ (omega arith) (csi_table x))
    (λ _. complete_first x _)))))
