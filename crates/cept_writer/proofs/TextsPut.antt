-- A text of commands that is put part by part.
use Rattle.std.proofs.Common.{◌≡◌, ℕ, zero, suc, ◌+◌, ◌-◌, ◌≤◌, ◌<◌, List, [], ◌∷◌, ◌++◌, length, take, refl, sym, ◌∙◌, ap, subst, arith}
use Rattle.std.proofs.Common.{add-zero, append_assoc, append-nil, length-append, Ok, Err, Result}
use Rattle.std.proofs.Math.Seq.{take-append-add}
use Rattle.std.proofs.lemmas.List.{take-append-le}
use Rattle.std.specs.List.{flat_map, range_with_len}
use Rattle.cept_codes.specs.declared.command.Command.{Command}
use Rattle.cept_outside.specs.Causes.{Rose}
use Rattle.cept_outside.specs.SinkState.{SinkState, Gains, GainsPart, PutsText}
use Rattle.cept_outside.proofs.Laws.{Gains-nil, Gains-append}
use Rattle.cept_parser.specs.Spelling.{spelling, spellings}
use Rattle.cept_writer.specs.Codes.{after_header}
use Rattle.cept_writer.proofs.WrittenInTurn.{one_more}

-- ---- spellings

pub spellings_flat : (cs : List Command) → flat_map spelling cs ≡ spellings cs
spellings_flat [] = refl
spellings_flat (c ∷ cs) = ap (λ l. spelling c ++ l) (spellings_flat cs)

pub spellings_append : (cs ds : List Command) → spellings (cs ++ ds) ≡ spellings cs ++ spellings ds
spellings_append [] ds = refl
spellings_append (c ∷ cs) ds =
    ap (λ l. spelling c ++ l) (spellings_append cs ds) ∙ sym (append_assoc (spelling c) (spellings cs) (spellings ds))

pub alone : (cs : List Command) → length cs < 2 → after_header cs ≡ []
alone [] short = refl
alone (c ∷ []) short = refl
alone (c ∷ (d ∷ cs)) short = absurd (omega (arith, short))

pub headed : (cs : List Command) → 2 ≤ length cs → after_header cs ≡ cs
headed [] long = absurd (omega (arith, long))
headed (c ∷ []) long = absurd (omega (arith, long))
headed (c ∷ (d ∷ cs)) long = refl

-- ---- texts

-- nothing was put
pub PutsText-nothing : {X E : Type 0} {x : X} (s : SinkState) → PutsText {E = E} s [] (Ok x) s
PutsText-nothing s = record {
  whole = Gains-nil s;
  part = tt;
  cause = record { later = omega arith; failed = tt; stays = refl };
}

-- a part of a text is a part of one that goes on
pub Gains-part : (s t u : SinkState) (done line rest : List ℕ) → Gains s done t → GainsPart t line u
    → GainsPart s ((done ++ line) ++ rest) u
Gains-part s t u done line rest gs part =
    let n = part.size in
    let e : take (length done + n) ((done ++ line) ++ rest) ≡ done ++ take n line =
    ap (take (length done + n)) (append_assoc done line rest) ∙ take-append-add done (line ++ rest) n
    ∙ ap (λ l. done ++ l) (take-append-le n line rest (omega (arith, part.short))) in
    record {
      size = length done + n;
      short = omega (arith, part.short, length-append (done ++ line) rest, length-append done line);
      gains = subst (λ (l : List ℕ). Gains s l u) (sym e) (Gains-append s t u done (take n line) gs part.gains);
    }

-- a text was put in part after one that was put
pub PutsText-failed : {X Y E : Type 0} {e f : E} (s t u : SinkState) (done line rest : List ℕ) → Gains s done t
    → t.faults ≡ s.faults → PutsText {X = X} {E = E} t line (Err e) u
    → PutsText {X = Y} {E = E} s ((done ++ line) ++ rest) (Err f) u
PutsText-failed s t u done line rest before stays part = record {
  whole = tt;
  part = Gains-part s t u done line rest before part.part;
  cause = record {
    later = omega (arith, stays, part.cause.later);
    failed = subst (λ n. Rose n u.faults) stays part.cause.failed;
    stays = tt;
  };
}

-- the first of two texts was put in part
pub PutsText-first_failed : {X Y E : Type 0} {e f : E} (s u : SinkState) (line rest : List ℕ)
    → PutsText {X = X} {E = E} s line (Err e) u
    → PutsText {X = Y} {E = E} s (line ++ rest) (Err f) u
PutsText-first_failed s u line rest part = PutsText-failed s s u [] line rest (Gains-nil s) refl part

-- two texts were put, the first of them whole
pub PutsText-join : {X Y E : Type 0} {y : Y} (r : Result X E) (s t u : SinkState) (first more : List ℕ)
    → PutsText {X = Y} {E = E} s first (Ok y) t → PutsText t more r u
    → PutsText s (first ++ more) r u
PutsText-join (Ok x) s t u first more a b = record {
  whole = Gains-append s t u first more a.whole b.whole;
  part = tt;
  cause = record {
    later = omega (arith, a.cause.stays, b.cause.later);
    failed = tt;
    stays = b.cause.stays ∙ a.cause.stays;
  };
}
PutsText-join {X} {Y} {E} (Err e) s t u first more a b =
    subst (λ (l : List ℕ). PutsText {X = X} {E = E} s l (Err e) u) (append-nil (first ++ more))
    (PutsText-failed s t u first more [] a.whole a.cause.stays b)

-- ---- commands by numbers

-- the text goes on after the next commands
rest_of : (f : ℕ → List Command) (from n d : ℕ) → (rest : List Command)
    × (flat_map f (range_with_len from (n + d)) ≡ flat_map f (range_with_len from n) ++ rest)
rest_of f from n zero = (
  [],
  ap (λ (k : ℕ). flat_map f (range_with_len from k)) (add-zero n) ∙ sym (append-nil (flat_map f (range_with_len from n))),
)
rest_of f from n (suc d) =
    let before = rest_of f from n d in (
      before.0 ++ f (from + (n + d)),
      ap (λ (k : ℕ). flat_map f (range_with_len from k)) (let e : n + suc d ≡ (n + d) + 1 = omega arith in e)
          ∙ one_more f from (n + d) (from + (n + d)) refl ∙ ap (λ l. l ++ f (from + (n + d))) before.1
          ∙ append_assoc (flat_map f (range_with_len from n)) before.0 (f (from + (n + d))),
    )

-- no commands were put
pub Gains-none : (f : ℕ → List Command) (from : ℕ) (s : SinkState)
    → Gains s (spellings (flat_map f (range_with_len from 0))) s
Gains-none f from s = Gains-nil s

-- the commands of one number more were put
pub Gains-next : (f : ℕ → List Command) (from n j : ℕ) (s t u : SinkState) → from + n ≡ j
    → Gains s (spellings (flat_map f (range_with_len from n))) t → Gains t (spellings (f j)) u
    → Gains s (spellings (flat_map f (range_with_len from (n + 1)))) u
Gains-next f from n j s t u e before now =
    subst (λ (l : List ℕ). Gains s l u)
    (sym (ap spellings (one_more f from n j e) ∙ spellings_append (flat_map f (range_with_len from n)) (f j)))
    (Gains-append s t u (spellings (flat_map f (range_with_len from n))) (spellings (f j)) before now)

-- those of the next number were put in part
pub PutsText-next_failed : {X Y E : Type 0} {e g : E} (f : ℕ → List Command) (from n m j : ℕ) (s t u : SinkState)
    → from + n ≡ j → n < m → t.faults ≡ s.faults
    → Gains s (spellings (flat_map f (range_with_len from n))) t
    → PutsText {X = X} {E = E} t (spellings (f j)) (Err e) u
    → PutsText {X = Y} {E = E} s (spellings (flat_map f (range_with_len from m))) (Err g) u
PutsText-next_failed {X} {Y} {E} {e} {g} f from n m j s t u is within stays before part =
    let pieces = λ (k : ℕ). flat_map f (range_with_len from k) in
    let others = rest_of f from (n + 1) (m - (n + 1)) in
    let whole : spellings (pieces m) ≡ (spellings (pieces n) ++ spellings (f j)) ++ spellings others.0 =
    ap (λ k. spellings (pieces k)) (let all : m ≡ (n + 1) + (m - (n + 1)) = omega (arith, within) in all)
    ∙ ap spellings (others.1 ∙ ap (λ l. l ++ others.0) (one_more f from n j is))
    ∙ spellings_append (pieces n ++ f j) others.0
    ∙ ap (λ l. l ++ spellings others.0) (spellings_append (pieces n) (f j)) in
    subst (λ (l : List ℕ). PutsText {X = Y} {E = E} s l (Err g) u) (sym whole)
    (PutsText-failed s t u (spellings (pieces n)) (spellings (f j)) (spellings others.0) before stays part)

-- all were put
pub PutsText-all : {X E : Type 0} {x : X} (f : ℕ → List Command) (from n m : ℕ) (s t : SinkState) → n ≡ m
    → t.faults ≡ s.faults → Gains s (spellings (flat_map f (range_with_len from n))) t
    → PutsText {E = E} s (spellings (flat_map f (range_with_len from m))) (Ok x) t
PutsText-all f from n m s t is stays gains = record {
  whole = subst (λ (k : ℕ). Gains s (spellings (flat_map f (range_with_len from k))) t) is gains;
  part = tt;
  cause = record { later = omega (arith, stays); failed = tt; stays = stays };
}
