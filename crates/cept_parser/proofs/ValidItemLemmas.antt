-- Every item that reading finds is valid and has its length, and the context after is valid.
use Rattle.std.proofs.Common.{◌≡◌, ℕ, zero, suc, ◌+◌, ◌<◌, ◌≤◌, Bool, true, false, not, ◌&&◌, ◌||◌, cond, List, [], ◌∷◌}
use Rattle.std.proofs.Common.{◌++◌, length, take, drop, eqb, Option, Some, None, refl, sym, ◌∙◌, subst, arith, ◌⊎◌, inl}
use Rattle.std.proofs.Common.{inr}
use Rattle.std.proofs.lemmas.List.{length-take-le}
use Rattle.cept_codes.specs.Command.{IsValidSaid}
use Rattle.cept_codes.specs.declared.item.Said.{Said}
use Rattle.cept_codes.specs.declared.item.Said.TheVariants.{Command as Says, Refused}
use Rattle.cept_parser.specs.declared.context.Context.{Context}
use Rattle.cept_parser.specs.declared.context.Outcome.{Outcome}
use Rattle.cept_parser.specs.Grammar.{unit, fits, grows}
use Rattle.cept_parser.specs.Items.{is_refusal, Front, front, Reading, reading_at}
use Rattle.cept_parser.proofs.LongestBeginningLemmas.{longest_beginning, front_of}
use Rattle.cept_parser.specs.inside.Waits.{said_at_end}
use Rattle.cept_parser.specs.Valid.{IsValidContext, AreBytes, greatest_length, AreValid, AreMeasured}
use Rattle.cept_parser.specs.inside.Waits.{outcome_at_misfit}
use Rattle.cept_parser.proofs.GrammarLemmas.{open_small, refused_small}
use Rattle.cept_parser.proofs.ValidOutcomeLemmas.{IsValidOutcome, text_valid, unit_valid, fits_hundred}
use Rattle.cept_parser.proofs.LongestBeginningLemmas.{longest_is, front_is, front_within, front_none}
use Rattle.cept_parser.proofs.ReadingInPartsLemmas.{read_none, read_step, cases_front, rest_within}

pub bytes_take : (n : ℕ) (b : List ℕ) → AreBytes b → AreBytes (take n b)
bytes_take zero b h = tt
bytes_take (suc n) [] h = tt
bytes_take (suc n) (a ∷ b) h = (h.0, bytes_take n b h.1)

pub bytes_drop : (n : ℕ) (b : List ℕ) → AreBytes b → AreBytes (drop n b)
bytes_drop zero b h = h
bytes_drop (suc n) [] h = tt
bytes_drop (suc n) (a ∷ b) h = bytes_drop n b h.1

pub bytes_more : (b : List ℕ) (c : ℕ) → AreBytes b → c < 256 → AreBytes (b ++ c ∷ [])
bytes_more [] c h l = (l, tt)
bytes_more (a ∷ b) c h l = (h.0, bytes_more b c h.1 l)

-- what bytes of this length say and leave is valid, and they are not too many
pub record IsSoundClosed (n : ℕ) (o : Outcome) : Type 0 where
  pub valid : IsValidOutcome o
  pub measured : n ≤ greatest_length o.said

said_measured : (s : Said) (n : ℕ) → n ≤ 100 → (is_refusal s ≡ true → n ≤ 10) → n ≤ greatest_length s
said_measured (Says c) n h r = h
said_measured (Refused e) n h r = r refl

pub cases_outcome : (w : Option Outcome) → (w ≡ None) ⊎ ((o : Outcome) × (w ≡ Some o))
cases_outcome None = inl refl
cases_outcome (Some o) = inr (o, refl)

-- bytes that fit say something valid where they are cut
pub cut_sound : (x : Context) (u : List ℕ) → IsValidContext x → AreBytes u → fits x u ≡ true
    → IsSoundClosed (length u) (outcome_at_misfit x (unit x u))
cut_sound x u v b h =
    let P : Option Outcome → Type 0 = λ w. IsSoundClosed (length u) (outcome_at_misfit x w) in
    let none : unit x u ≡ None → IsSoundClosed (length u) (outcome_at_misfit x (unit x u)) = λ e.
    subst P (sym e) (record { valid = record { said = tt; next = text_valid x v }; measured = open_small x u h e }) in
    let some : (o : Outcome) → unit x u ≡ Some o → IsSoundClosed (length u) (outcome_at_misfit x (unit x u)) = λ o e.
    subst P (sym e) (assumption (unit_valid x u o v b e, said_measured o.said (length u) (fits_hundred x u v h) (refused_small x u o e))) in
    elim (cases_outcome (unit x u)) [ inl e ↦ none e | inr p ↦ some p.0 p.1 ]

-- a first item says what its bytes say where they are cut
pub front_cut : (x : Context) (n : ℕ) (all more : Bool) (w : Option Outcome) (f : Front) → front_of x n all more w ≡ Some f
    → record { said = (outcome_at_misfit x w).said; size = n; next = (outcome_at_misfit x w).next } ≡ f
unfolding front_of
front_cut x n true more None f e = absurd cc
front_cut x n false more None f e = cc
front_cut x n all more (Some o) f e = go (is_refusal o.said || not (all && more)) _ f e
  where
    go : (b : Bool) (g f : Front) → cond b (Some g) None ≡ Some f → g ≡ f
    go true g f e = cc
    go false g f e = absurd cc

abbrev IsSoundFront : Front → Type 0
IsSoundFront f = IsSoundClosed f.size (record { said = f.said; next = f.next })

pub front_sound : (x : Context) (b : List ℕ) (f : Front) → IsValidContext x → AreBytes b → front x b ≡ Some f
    → IsSoundFront f
front_sound x b f v h e =
    let n = longest_beginning x b in
    let p = longest_is x b in
    let l : length (take n b) ≡ n = length-take-le n b p.within in
    let same =
    front_cut x n (eqb n (length b)) (grows x (take n b)) (unit x (take n b)) f (sym (front_is x b n _ _ p refl refl)
    ∙ e) in
    subst IsSoundFront same (subst (λ (k : ℕ). IsSoundClosed k (outcome_at_misfit x (unit x (take n b)))) l
    (cut_sound x (take n b) v (bytes_take n b h) p.fit))

-- the items of a reading and what it leaves
pub record IsSound (r : Reading) : Type 0 where
  pub valid : AreValid r.items
  pub measured : AreMeasured r.items
  pub context : IsValidContext r.context
  pub bytes : AreBytes r.pending

sound_none : (x : Context) (at : ℕ) (b : List ℕ) → IsValidContext x → AreBytes b → front x b ≡ None
    → IsSound (reading_at x at b)
sound_none x at b v h e =
    subst IsSound (sym (read_none (length b) x at b e)) (record { valid = tt; measured = tt; context = v; bytes = h })

sound : (n : ℕ) (x : Context) (at : ℕ) (b : List ℕ) → length b ≤ n → IsValidContext x → AreBytes b
    → IsSound (reading_at x at b)
sound zero x at b l v h = sound_none x at b v h (front_none x b l)
sound (suc n) x at b l v h =
    let some : (f : Front) → front x b ≡ Some f → IsSound (reading_at x at b) = λ f e.
    let q = front_sound x b f v h e in
    let s = front_within x b f e in
    let later =
    sound n f.next (at + f.size) (drop f.size b) (rest_within x b f n e l) q.valid.next (bytes_drop f.size b h) in
    subst IsSound (sym (read_step x at b f e)) (record {
      valid = (q.valid.said, later.valid);
      measured =
          ((s.0, q.measured), later.measured);
      context = later.context;
      bytes = later.bytes;
    }) in
    elim (cases_front (front x b)) [ inl e ↦ sound_none x at b v h e | inr p ↦ some p.0 p.1 ]

-- the reading of bytes in a valid context is sound
pub read_sound : (x : Context) (at : ℕ) (b : List ℕ) → IsValidContext x → AreBytes b → IsSound (reading_at x at b)
read_sound x at b v h = sound (length b) x at b (omega arith) v h

-- bytes that fit say something valid at the end of the input
pub end_sound : (x : Context) (u : List ℕ) → IsValidContext x → AreBytes u → fits x u ≡ true
    → IsValidSaid (said_at_end (unit x u)) × (length u ≤ greatest_length (said_at_end (unit x u)))
unfolding said_at_end
end_sound x u v b h =
    let P : Option Outcome → Type 0 = λ w. IsValidSaid (said_at_end w) × (length u ≤ greatest_length (said_at_end w)) in
    let some : (o : Outcome) → unit x u ≡ Some o → P (unit x u) = λ o e.
    subst P (sym e) (
      (unit_valid x u o v b e).said,
      said_measured o.said (length u) (fits_hundred x u v h) (refused_small x u o e),
    ) in
    elim (cases_outcome (unit x u)) [ inl e ↦ subst P (sym e) (tt, open_small x u h e) | inr p ↦ some p.0 p.1 ]
