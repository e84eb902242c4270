-- A text that is put line by line.
use Rattle.std.proofs.Common.{◌≡◌, ℕ, ◌+◌, ◌-◌, ◌≤◌, Bool, false, List, [], ◌∷◌, ◌++◌, length, take, refl, sym}
use Rattle.std.proofs.Common.{◌∙◌, ap, subst, arith, append_assoc, append-nil, length-append, Ok, Err}
use Rattle.std.proofs.Math.Seq.{take-append-add}
use Rattle.std.proofs.lemmas.List.{take-append-le}
use Rattle.cept_codes.specs.declared.look.Look.{Look}
use Rattle.cept_codes.specs.Place.{Place, number, place_of}
use Rattle.cept_codes.proofs.Laws.{place_of-number, number-lt}
use Rattle.cept_outside.specs.Causes.{Rose, HasCause}
use Rattle.cept_outside.specs.SinkState.{SinkState, Gains, GainsPart, PutsText}
use Rattle.cept_outside.proofs.Laws.{Gains-nil, Gains-append}
use Rattle.cept_profile.specs.Changes.{look_at, marked_looks, marked_looks_below}
use Rattle.cept_profile.proofs.Laws.{marked_looks_below-whole, marked_looks_below-next, marked_looks_below-unmarked}
use Rattle.cept_profile.proofs.Laws.{marked_looks_below-rest}
use Rattle.cept_redraw.specs.Marks.{is_marked, IsFirstFrom}
use Rattle.cept_report.specs.Text.{change_line, change_lines}

-- the lines of one place more
pub change_lines-more : (label : ℕ) (xs : List (Place × Look)) (p : Place) (l : Look)
    → change_lines label (xs ++ (p, l) ∷ []) ≡ change_lines label xs ++ change_line label p l
unfolding change_lines
change_lines-more label [] p l = append-nil _
change_lines-more label (x ∷ xs) p l =
    ap (λ rest. change_line label x.0 x.1 ++ rest) (change_lines-more label xs p l)
    ∙ sym (append_assoc (change_line label x.0 x.1) (change_lines label xs) (change_line label p l))

pub change_lines-append : (label : ℕ) (xs ys : List (Place × Look))
    → change_lines label (xs ++ ys) ≡ change_lines label xs ++ change_lines label ys
unfolding change_lines
change_lines-append label [] ys = refl
change_lines-append label (x ∷ xs) ys =
    ap (λ rest. change_line label x.0 x.1 ++ rest) (change_lines-append label xs ys)
    ∙ sym (append_assoc (change_line label x.0 x.1) (change_lines label xs) (change_lines label ys))

-- a part of one line more is a part of the whole text
pub Gains-part : (s t u : SinkState) (whole done line rest : List ℕ) → whole ≡ (done ++ line) ++ rest
    → Gains s done t → GainsPart t line u
    → GainsPart s whole u
Gains-part s t u whole done line rest is gs part =
    let n = part.size in
    let e : take (length done + n) whole ≡ done ++ take n line =
    ap (take (length done + n)) (is ∙ append_assoc done line rest) ∙ take-append-add done (line ++ rest) n
    ∙ ap (λ l. done ++ l) (take-append-le n line rest (omega (arith, part.short))) in
    record {
      size = length done + n;
      short = omega (arith, part.short, ap length is, length-append (done ++ line) rest, length-append done line);
      gains = subst (λ (l : List ℕ). Gains s l u) (sym e) (Gains-append s t u done (take n line) gs part.gains);
    }

-- the lines up to the first marked place after a bound
pub lines-next : (marks : List Bool) (g : List (List Look)) (label from : ℕ) (p : Place) → IsFirstFrom marks from p
    → change_lines label (marked_looks_below marks g (number p.row p.column + 1)) ≡ change_lines label
    (marked_looks_below marks g from) ++ change_line label p (look_at g p)
lines-next marks g label from p first =
    let n = number p.row p.column in
    let here : place_of n ≡ p = place_of-number p first.on_screen in
    ap (change_lines label) (marked_looks_below-next marks g from n first.at_least first.first first.marked
    ∙ ap (λ (q : Place). marked_looks_below marks g from ++ (q, look_at g q) ∷ []) here)
    ∙ change_lines-more label (marked_looks_below marks g from) p (look_at g p)

-- the line of the next marked place was put
pub Gains-next : (s t u : SinkState) (marks : List Bool) (g : List (List Look)) (label from : ℕ) (p : Place)
    (line : List ℕ) → IsFirstFrom marks from p → line ≡ change_line label p (look_at g p)
    → Gains s (change_lines label (marked_looks_below marks g from)) t → Gains t line u
    → Gains s (change_lines label (marked_looks_below marks g (number p.row p.column + 1))) u
Gains-next s t u marks g label from p line first is before now =
    subst (λ (l : List ℕ). Gains s l u) (ap (λ l. change_lines label (marked_looks_below marks g from) ++ l) is
    ∙ sym (lines-next marks g label from p first)) (Gains-append s t u _ line before now)

-- the text of all marked places goes on after the next one
pub text-goes_on : (marks : List Bool) (g : List (List Look)) (label from : ℕ) (p : Place) → IsFirstFrom marks from p
    → (rest : List ℕ) × (change_lines label (marked_looks marks g) ≡ (change_lines label
    (marked_looks_below marks g from) ++ change_line label p (look_at g p)) ++ rest)
text-goes_on marks g label from p first =
    let n = number p.row p.column in
    let below : n + 1 ≤ 960 = omega (arith, number-lt p.row p.column first.on_screen) in
    let others = marked_looks_below-rest marks g (n + 1) (960 - (n + 1)) in
    let all : marked_looks marks g ≡ marked_looks_below marks g (n + 1) ++ others.0 =
    sym (marked_looks_below-whole marks g) ∙ ap (marked_looks_below marks g)
    (let e : 960 ≡ (n + 1) + (960 - (n + 1)) = omega arith in e) ∙ others.1 in (
      change_lines label others.0,
      ap (change_lines label) all ∙ change_lines-append label (marked_looks_below marks g (n + 1)) others.0
          ∙ ap (λ l. l ++ change_lines label others.0) (lines-next marks g label from p first),
    )

-- a part of the next line was put
pub Gains-failed : (s t u : SinkState) (marks : List Bool) (g : List (List Look)) (label from : ℕ) (p : Place)
    (line : List ℕ) → IsFirstFrom marks from p → line ≡ change_line label p (look_at g p)
    → Gains s (change_lines label (marked_looks_below marks g from)) t
    → GainsPart t line u
    → GainsPart s (change_lines label (marked_looks marks g)) u
Gains-failed s t u marks g label from p line first is before part =
    let more = text-goes_on marks g label from p first in
    Gains-part s t u _ (change_lines label (marked_looks_below marks g from)) line more.0
    (more.1 ∙ ap (λ l. (change_lines label (marked_looks_below marks g from) ++ l) ++ more.0) (sym is)) before part

-- no further place is marked
pub below-all : (marks : List Bool) (g : List (List Look)) (from : ℕ) → from ≤ 960
    → ((n : ℕ) → from ≤ n → is_marked marks n ≡ false)
    → marked_looks_below marks g from ≡ marked_looks marks g
below-all marks g from within none =
    sym (sym (marked_looks_below-whole marks g) ∙ marked_looks_below-unmarked marks g from 960 within
    (λ k low _. none k low))

pub Gains-all : (s t : SinkState) (marks : List Bool) (g : List (List Look)) (label from : ℕ) → from ≤ 960
    → ((n : ℕ) → from ≤ n → is_marked marks n ≡ false)
    → Gains s (change_lines label (marked_looks_below marks g from)) t
    → Gains s (change_lines label (marked_looks marks g)) t
Gains-all s t marks g label from within none before =
    subst (λ (xs : List (Place × Look)). Gains s (change_lines label xs) t) (below-all marks g from within none) before

-- before the first place nothing is listed
pub Gains-none : (s : SinkState) (marks : List Bool) (g : List (List Look)) (label : ℕ)
    → Gains s (change_lines label (marked_looks_below marks g 0)) s
unfolding marked_looks_below change_lines
Gains-none s marks g label = Gains-nil s

-- all of a text was put, or a part of it after what was put without a fault
pub PutsText-whole : {X E : Type 0} {x : X} (s t : SinkState) (text : List ℕ) → Gains s text t → t.faults ≡ s.faults
    → PutsText {E = E} s text (Ok x) t
PutsText-whole s t text gains stays = record {
  whole = gains;
  part = tt;
  cause = record { later = omega (arith, stays); failed = tt; stays = stays };
}

pub PutsText-part : {X Y E : Type 0} {e f : E} (s t u : SinkState) (text : List ℕ) → t.faults ≡ s.faults
    → GainsPart s text u → HasCause {X = Y} {E = E} t.faults u.faults (Err f)
    → PutsText {X = X} {E = E} s text (Err e) u
PutsText-part s t u text stays part cause = record {
  whole = tt;
  part = part;
  cause = record {
    later = omega (arith, stays, cause.later);
    failed = subst (λ n. Rose n u.faults) stays cause.failed;
    stays = tt;
  };
}
