-- What holds of the tables of which the grammar is made: of bytes, and of them with a byte more.
use Rattle.std.proofs.Common.{◌≡◌, ℕ, zero, suc, ◌<◌, ◌≤◌, Bool, true, false, ◌||◌, ◌&&◌, eqb, List, [], ◌∷◌, ◌++◌}
use Rattle.std.proofs.Common.{length, refl, ap, inl, inr, arith}
use Rattle.std.proofs.lemmas.Bool.{both_ways, cases_Bool, and_parts, eq-eqb}
use Rattle.std.proofs.lemmas.Bool.Decides.{nat_tests}
use Rattle.std.specs.List.{list_any}
use Rattle.cept_parser.specs.declared.context.Context.{Context}
use Rattle.cept_parser.specs.declared.context.Outcome.{Outcome}
use Rattle.cept_parser.specs.declared.fit.Fit.TheVariants.{Misfit, Open, Whole, Longer}
use Rattle.cept_parser.specs.Bytes.{is_between, is_plain, contains, is_fit, is_whole, Standing, Table, end, complete}
use Rattle.cept_parser.specs.Bytes.{then_plain, sequence, optional, saying}
use Rattle.cept_parser.specs.Items.{is_refusal}

-- they fit, or don't
abbrev pub Fits : Standing → Type 0
Fits s = is_fit s.fit ≡ true

abbrev pub Fails : Standing → Type 0
Fails s = s.fit ≡ Misfit

-- they are whole, a command
pub record IsCommand (s : Standing) : Type 0 where
  pub whole : is_whole s.fit ≡ true
  pub command : is_refusal s.outcome.said ≡ false

-- a byte fits after them
pub record IsLengthened (t : ℕ → Standing) : Type 0 where
  pub byte : ℕ
  pub small : byte < 256
  pub fit : Fits (t byte)

-- bytes stand as s, and with a byte c more as t c
pub record Laws (s : Standing) (t : ℕ → Standing) : Type 0 where
  -- what fits with a byte more fits
  pub front : (c : ℕ) → Fits (t c) → Fits s
  -- a plain byte fits after what fits and isn't whole
  pub opens : (c : ℕ) → is_plain c ≡ true → s.fit ≡ Open → Fits (t c)
  -- no byte fits after what is whole and doesn't grow
  pub ends : (c : ℕ) → s.fit ≡ Whole → Fails (t c)
  -- what grows is a command, and one again with a byte that fits, and there is one
  pub command : s.fit ≡ Longer → is_refusal s.outcome.said ≡ false
  pub again : (c : ℕ) → s.fit ≡ Longer → Fits (t c) → IsCommand (t c)
  pub grows : s.fit ≡ Longer → IsLengthened t
  -- no breaker fits
  pub breaks : (c : ℕ) → is_plain c ≡ false → Fails (t c)

-- how the bytes of a table stand with a byte more
abbrev pub longer : Table → List ℕ → ℕ → Standing
longer F u = λ c. F (u ++ c ∷ [])

-- the laws hold of all bytes of a table, and it has at most n that fit
pub record IsTable (n : ℕ) (F : Table) : Type 0 where
  pub first : Fits (F [])
  pub laws : (u : List ℕ) → Laws (F u) (longer F u)
  pub short : (u : List ℕ) → Fits (F u) → length u ≤ n

-- ---- the forms

pub fails_fits : (s : Standing) → Fails s → Fits s → ⊥
fails_fits s h k = let e : is_fit s.fit ≡ false = ap is_fit h in both_ways _ e k

-- bytes that don't fit, nor with any byte more
pub never_laws : (s : Standing) (t : ℕ → Standing) → Fails s → ((c : ℕ) → Fails (t c)) → Laws s t
never_laws s t h k =
    record {
      front = λ c f. absurd (fails_fits (t c) (k c) f);
      opens = λ c p e. absurd cc;
      ends = λ c e. k c;
      command = λ e. absurd cc;
      again = λ c e f. absurd cc;
      grows = λ e. absurd cc;
      breaks = λ c p. k c;
    }

-- bytes that fit and aren't whole
open_laws : (s : Standing) (t : ℕ → Standing) → s.fit ≡ Open → ((c : ℕ) → is_plain c ≡ true → Fits (t c))
    → ((c : ℕ) → is_plain c ≡ false → Fails (t c)) → Laws s t
open_laws s t o h k =
    record {
      front = λ c f. ap is_fit o;
      opens = λ c p e. h c p;
      ends = λ c e. absurd cc;
      command = λ e. absurd cc;
      again = λ c e f. absurd cc;
      grows = λ e. absurd cc;
      breaks = k;
    }

-- bytes that are whole, after which none fits
ended_laws : (s : Standing) (t : ℕ → Standing) → s.fit ≡ Whole → ((c : ℕ) → Fails (t c)) → Laws s t
ended_laws s t w k =
    record {
      front = λ c f. ap is_fit w;
      opens = λ c p e. absurd cc;
      ends = λ c e. k c;
      command = λ e. absurd cc;
      again = λ c e f. absurd cc;
      grows = λ e. absurd cc;
      breaks = λ c p. k c;
    }

-- a table that bytes go on which begin with a plain one
pub begun_table : (n : ℕ) (F : Table) → (F []).fit ≡ Open
    → ((a : ℕ) → is_plain a ≡ true → IsTable n (λ u. F (a ∷ u)))
    → ((a : ℕ) (u : List ℕ) → is_plain a ≡ false → Fails (F (a ∷ u))) → IsTable (suc n) F
begun_table n F o h k = record { first = ap is_fit o; laws = laws_go; short = short_go }
  where
    laws_go : (u : List ℕ) → Laws (F u) (longer F u)
    laws_go [] = open_laws (F []) (longer F []) o (λ c p. (h c p).first) (λ c p. k c [] p)
    laws_go (a ∷ u) =
        elim (cases_Bool (is_plain a)) [
          | inl p ↦ (h a p).laws u
          | inr p ↦ never_laws (F (a ∷ u)) (longer F (a ∷ u)) (k a u p) (λ c. k a (u ++ c ∷ []) p)
        ]

    short_go : (u : List ℕ) → Fits (F u) → length u ≤ suc n
    short_go [] f = omega arith
    short_go (a ∷ u) f =
        elim (cases_Bool (is_plain a)) [
          | inl p ↦ let s = (h a p).short u f in omega arith
          | inr p ↦ absurd (fails_fits (F (a ∷ u)) (k a u p) f)
        ]

-- what is complete
pub end_table : (n : ℕ) (k : List ℕ → Outcome) → IsTable n (λ u. record { fit = end u; outcome = k u })
end_table n k = record { first = refl; laws = laws_go; short = short_go }
  where
    laws_go : (u : List ℕ) → let F : Table = λ u. record { fit = end u; outcome = k u } in Laws (F u) (longer F u)
    laws_go [] = ended_laws _ _ refl (λ c. refl)
    laws_go (a ∷ u) = never_laws _ _ refl (λ c. refl)

    short_go : (u : List ℕ) → is_fit (end u) ≡ true → length u ≤ n
    short_go [] f = omega arith
    short_go (a ∷ u) f = absurd cc

pub complete_table : (n : ℕ) (o : Outcome) → IsTable n (complete o)
complete_table n o = end_table n (λ u. o)

pub plain_table : (n : ℕ) (x : Context) (k : ℕ → Table) → ((a : ℕ) → is_plain a ≡ true → IsTable n (k a))
    → IsTable (suc n) (then_plain x k)
plain_table n x k h = begun_table n (then_plain x k) refl (λ a p. rw p (h a p)) (λ a u p. rw p refl)

pub one_table : (n : ℕ) (x : Context) (k : ℕ → Outcome) → IsTable (suc n) (then_plain x (λ c. complete (k c)))
one_table n x k = plain_table n x (λ c. complete (k c)) (λ a p. complete_table n (k a))

-- a final byte is a plain one
final_plain : (final a : ℕ) → 0x20 ≤ final → is_plain a ≡ false → is_between final 0x7F a ≡ false
final_plain final a l p = grind (arith, nat_tests)

pub sequence_table : (final n m : ℕ) (k : List ℕ → Outcome) → 0x20 ≤ final → n < m
    → IsTable m (saying (sequence final n) k)
sequence_table final n zero k l s = absurd (omega arith)
sequence_table final zero (suc m) k l s =
    begun_table m (saying (sequence final zero) k) refl (λ a p. rw p (end_table m (λ u. k (a ∷ u)))) (λ a u p. rw p refl)
sequence_table final (suc n) (suc m) k l s =
    begun_table m (saying (sequence final (suc n)) k) refl (λ a p. elim (cases_Bool (is_between final 0x7F a)) [
      | inl e ↦ rw e (end_table m (λ u. k (a ∷ u)))
      | inr e ↦ rw (e, p) (sequence_table final n m (λ u. k (a ∷ u)) l (omega arith))
    ]) (λ a u p. rw (final_plain final a l p, p) refl)

-- ---- optional parts

-- the parts are of plain bytes, and each has one
abbrev all_plain : List ℕ → Bool
all_plain [] = true
all_plain (b ∷ bs) = is_plain b && all_plain bs

abbrev pub are_parts : List (List ℕ) → Bool
are_parts [] = true
are_parts ([] ∷ parts) = false
are_parts ((b ∷ bs) ∷ parts) = all_plain (b ∷ bs) && are_parts parts

other : (b c : ℕ) → is_plain b ≡ true → is_plain c ≡ false → eqb b c ≡ false
other b c p q = grind (arith, nat_tests)

small : (b : ℕ) → is_plain b ≡ true → b < 256
small b p = grind (arith, nat_tests)

none_of : (bs : List ℕ) (c : ℕ) → all_plain bs ≡ true → is_plain c ≡ false → contains bs c ≡ false
none_of [] c h p = refl
none_of (b ∷ bs) c h p =
    let q = and_parts (is_plain b) (all_plain bs) h in
    rw (other b c q.0 p, none_of bs c q.1 p) refl

-- a first part, and the others
record IsPart (p : List ℕ) (parts : List (List ℕ)) : Type 0 where
  byte : ℕ
  small : byte < 256
  in_it : contains p byte ≡ true
  plain : all_plain p ≡ true
  rest : are_parts parts ≡ true

part_of : (p : List ℕ) (parts : List (List ℕ)) → are_parts (p ∷ parts) ≡ true → IsPart p parts
part_of [] parts h = absurd cc
part_of (b ∷ bs) parts h =
    let q = and_parts (all_plain (b ∷ bs)) (are_parts parts) h in
    record {
      byte = b;
      small = small b (and_parts (is_plain b) (all_plain bs) q.0).0;
      in_it = ap (λ (t : Bool). t || list_any (λ c. eqb c b) bs) (eq-eqb b b refl);
      plain = q.0;
      rest = q.1;
    }

none_fits : (parts : List (List ℕ)) → is_fit (optional parts []) ≡ true
none_fits [] = refl
none_fits (p ∷ parts) = refl

optional_whole : (parts : List (List ℕ)) (u : List ℕ) → is_fit (optional parts u) ≡ true
    → is_whole (optional parts u) ≡ true
optional_whole [] [] h = refl
optional_whole [] (a ∷ u) h = absurd cc
optional_whole (p ∷ parts) [] h = refl
optional_whole (p ∷ parts) (a ∷ u) h =
    elim (cases_Bool (contains p a)) [
      | inl e ↦ rw e (optional_whole parts u (rw e at h))
      | inr e ↦ rw e (optional_whole parts (a ∷ u) (rw e at h))
    ]

optional_breaks : (parts : List (List ℕ)) (u : List ℕ) (c : ℕ) → are_parts parts ≡ true → is_plain c ≡ false
    → optional parts (u ++ c ∷ []) ≡ Misfit
optional_breaks [] [] c h q = refl
optional_breaks [] (a ∷ u) c h q = refl
optional_breaks (p ∷ parts) [] c h q =
    let k = part_of p parts h in
    rw (none_of p c k.plain q) (optional_breaks parts [] c k.rest q)
optional_breaks (p ∷ parts) (a ∷ u) c h q =
    let k = part_of p parts h in
    elim (cases_Bool (contains p a)) [
      | inl e ↦ rw e (optional_breaks parts u c k.rest q)
      | inr e ↦ rw e (optional_breaks parts (a ∷ u) c k.rest q)
    ]

options_laws : (parts : List (List ℕ)) (k : List ℕ → Outcome) → are_parts parts ≡ true
    → ((v : List ℕ) → is_refusal (k v).said ≡ false) → (u : List ℕ)
    → Laws (saying (optional parts) k u) (λ c. saying (optional parts) k (u ++ c ∷ []))
options_laws [] k h n u = (end_table 0 k).laws u
options_laws (p ∷ parts) k h n [] =
    let q = part_of p parts h in
    record {
      front = λ c f. refl;
      opens = λ c t e. absurd cc;
      ends = λ c e. absurd cc;
      command = λ e. n [];
      again = λ c e f. record { whole = optional_whole (p ∷ parts) (c ∷ []) f; command = n (c ∷ []) };
      grows = λ e. record { byte = q.byte; small = q.small; fit = rw q.in_it (none_fits parts) };
      breaks = λ c t. optional_breaks (p ∷ parts) [] c h t;
    }
options_laws (p ∷ parts) k h n (a ∷ u) =
    let q = part_of p parts h in
    elim (cases_Bool (contains p a)) [
      | inl e ↦ rw e (options_laws parts (λ v. k (a ∷ v)) q.rest (λ v. n (a ∷ v)) u)
      | inr e ↦ rw e (options_laws parts k q.rest n (a ∷ u))
    ]

options_short : (parts : List (List ℕ)) (u : List ℕ) → is_fit (optional parts u) ≡ true → length u ≤ length parts
options_short parts [] h = omega arith
options_short [] (a ∷ u) h = absurd cc
options_short (p ∷ parts) (a ∷ u) h =
    elim (cases_Bool (contains p a)) [
      | inl e ↦ let s = options_short parts u (rw e at h) in omega arith
      | inr e ↦ let s = options_short parts (a ∷ u) (rw e at h) in omega arith
    ]

pub options_table : (n : ℕ) (parts : List (List ℕ)) (k : List ℕ → Outcome) → are_parts parts ≡ true
    → length parts ≤ n → ((v : List ℕ) → is_refusal (k v).said ≡ false) → IsTable n (saying (optional parts) k)
options_table n parts k h l m =
    record {
      first = none_fits parts;
      laws = options_laws parts k h m;
      short = λ u f. let s = options_short parts u f in omega arith;
    }
