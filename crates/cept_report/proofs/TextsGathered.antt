-- A text of which the front was put and the rest is gathered.
use Rattle.std.proofs.Common.{◌≡◌, ℕ, ◌+◌, ◌≤◌, Bool, List, [], ◌∷◌, ◌++◌, decimal, refl, sym, ◌∙◌, ap, subst, append_assoc}
use Rattle.std.proofs.Common.{append-nil, arith, Result, Ok, Err}
use Rattle.cept_codes.specs.declared.look.Look.{Look}
use Rattle.cept_codes.specs.Place.{Place, number}
use Rattle.cept_outside.specs.Causes.{Rose, HasCause}
use Rattle.cept_outside.specs.SinkState.{SinkState, Gains, GainsPart, PutsText}
use Rattle.cept_outside.proofs.Laws.{Gains-nil, Gains-append}
use Rattle.cept_profile.specs.Changes.{look_at, marked_looks, marked_looks_below}
use Rattle.cept_profile.proofs.Laws.{marked_looks_below-unmarked}
use Rattle.cept_redraw.specs.Marks.{IsFirstFrom}
use Rattle.cept_report.specs.Front.{cell_line, front_text}
use Rattle.cept_report.specs.Gathered.{GainsFront, Gathers}
use Rattle.cept_report.specs.Text.{change_line, change_lines, fields_text, shape_text}
use Rattle.cept_report.proofs.LinesPut.{Gains-part, lines-next, text-goes_on}

-- more is gathered
pub GainsFront-more : (s t : SinkState) (text rest more : List ℕ) → GainsFront s text t rest
    → GainsFront s (text ++ more) t (rest ++ more)
GainsFront-more s t text rest more before = record {
  front = before.front;
  gains = before.gains;
  is = sym (append_assoc before.front rest more) ∙ ap (λ (l : List ℕ). l ++ more) before.is;
}

-- and more of it is put
pub GainsFront-next : (s t u : SinkState) (text rest more left : List ℕ) → GainsFront s text t rest
    → GainsFront t (rest ++ more) u left → GainsFront s (text ++ more) u left
unfolding GainsFront-more
GainsFront-next s t u text rest more left before now = record {
  front = before.front ++ now.front;
  gains = Gains-append s t u before.front now.front before.gains now.gains;
  is = append_assoc before.front now.front left ∙ ap (λ (l : List ℕ). before.front ++ l) now.is
      ∙ (GainsFront-more s t text rest more before).is;
}

-- the rest is put too
pub Gains-front : (s t u : SinkState) (text rest : List ℕ) → GainsFront s text t rest → Gains t rest u → Gains s text u
Gains-front s t u text rest before now =
    subst (λ (l : List ℕ). Gains s l u) before.is (Gains-append s t u before.front rest before.gains now)

-- a part of what is gathered was put
pub Gains-front_failed : (s t u : SinkState) (whole text rest more others : List ℕ)
    → whole ≡ (text ++ more) ++ others → GainsFront s text t rest
    → GainsPart t (rest ++ more) u
    → GainsPart s whole u
unfolding GainsFront-more
Gains-front_failed s t u whole text rest more others is before part =
    Gains-part s t u whole before.front (rest ++ more) others
    (is ∙ ap (λ (l : List ℕ). l ++ others) (sym (GainsFront-more s t text rest more before).is)) before.gains part

-- a call that puts nothing, and one that puts all that was gathered before
pub Gathers-kept : {X E : Type 0} {x : X} (s : SinkState) (before text after : List ℕ) → after ≡ before ++ text
    → Gathers {E = E} s before text (Ok x) s after
Gathers-kept s before text after is = record {
  whole = record { front = []; gains = Gains-nil s; is = is };
  part = tt;
  cause = record { later = omega arith; failed = tt; stays = refl };
}

pub Gathers-put : {X E : Type 0} {x : X} (s t : SinkState) (before text after : List ℕ) → Gains s before t
    → t.faults ≡ s.faults → after ≡ text
    → Gathers {E = E} s before text (Ok x) t after
Gathers-put s t before text after gains stays is = record {
  whole = record { front = before; gains = gains; is = ap (λ (l : List ℕ). before ++ l) is };
  part = tt;
  cause = record { later = omega (arith, stays); failed = tt; stays = stays };
}

-- the parts of a line
pub line-is : (label : List ℕ) (p : Place) (l : Look)
    → label ++ 32 ∷ cell_line p l ≡ (front_text label p ++ shape_text l.shape) ++ (32 ∷ fields_text l ++ 10 ∷ [])
line-is label p l = simp append_assoc

pub change_line-is : (label : ℕ) (digits : List ℕ) (p : Place) (l : Look) → digits ≡ decimal label
    → digits ++ 32 ∷ cell_line p l ≡ change_line label p l
change_line-is label digits p l is = ap (λ (d : List ℕ). d ++ 32 ∷ cell_line p l) is ∙ simp append_assoc

-- a front, a shape and the fields are gathered, after room was made
pub Gathers-line : {X E : Type 0} {x : X} (s t u : SinkState) (before line kept more front shape left fields after : List ℕ)
    → GainsFront s (before ++ []) t kept → t.faults ≡ s.faults → more ≡ kept ++ front
    → GainsFront t (more ++ shape) u left → u.faults ≡ t.faults
    → line ≡ (front ++ shape) ++ fields → after ≡ left ++ fields
    → Gathers {E = E} s before line (Ok x) u after
Gathers-line s t u before line kept more front shape left fields after room stays is_more shaped stays_too is_line is_after =
    let start = subst (λ (l : List ℕ). GainsFront s l t kept) (append-nil before) room in
    let seen = subst (λ (l : List ℕ). GainsFront t l u left)
    (ap (λ (l : List ℕ). l ++ shape) is_more ∙ append_assoc kept front shape) shaped in
    let both = GainsFront-more s u (before ++ (front ++ shape)) left fields
    (GainsFront-next s t u before kept (front ++ shape) left start seen) in
    record {
      whole = subst (λ (l : List ℕ). GainsFront s l u after)
          (append_assoc before (front ++ shape) fields ∙ ap (λ (l : List ℕ). before ++ l) (sym is_line))
          (subst (λ (l : List ℕ). GainsFront s ((before ++ (front ++ shape)) ++ fields) u l) (sym is_after) both);
      part = tt;
      cause = record { later = omega (arith, stays, stays_too); failed = tt; stays = stays_too ∙ stays };
    }

pub Gathers-line_failed : {X Y E : Type 0} {e f : E} (s t u : SinkState)
    (before line kept more front shape fields after : List ℕ) → GainsFront s (before ++ []) t kept
    → t.faults ≡ s.faults → more ≡ kept ++ front → GainsPart t (more ++ shape) u
    → HasCause {X = Y} {E = E} t.faults u.faults (Err f) → line ≡ (front ++ shape) ++ fields
    → Gathers {X = X} {E = E} s before line (Err e) u after
Gathers-line_failed s t u before line kept more front shape fields after room stays is_more part cause is_line =
    let start = subst (λ (l : List ℕ). GainsFront s l t kept) (append-nil before) room in
    record {
      whole = tt;
      part = Gains-front_failed s t u (before ++ line) before kept (front ++ shape) fields
          (ap (λ (l : List ℕ). before ++ l) is_line ∙ sym (append_assoc before (front ++ shape) fields)) start
          (subst (λ (l : List ℕ). GainsPart t l u)
          (ap (λ (l : List ℕ). l ++ shape) is_more ∙ append_assoc kept front shape) part);
      cause = record {
        later = omega (arith, stays, cause.later);
        failed = subst (λ n. Rose n u.faults) stays cause.failed;
        stays = tt;
      };
    }

-- the rest is put at last
pub PutsText-front : {X E : Type 0} (s t u : SinkState) (whole text rest : List ℕ) (r : Result X E)
    → t.faults ≡ s.faults → GainsFront s text t rest → text ≡ whole → PutsText t rest r u
    → PutsText s whole r u
PutsText-front s t u whole text rest (Ok x) stays before is put = record {
  whole = subst (λ (l : List ℕ). Gains s l u) is (Gains-front s t u text rest before put.whole);
  part = tt;
  cause = record { later = omega (arith, stays, put.cause.later); failed = tt; stays = put.cause.stays ∙ stays };
}
PutsText-front s t u whole text rest (Err e) stays before is put = record {
  whole = tt;
  part = Gains-front_failed s t u whole text rest [] []
      (sym is ∙ sym (append-nil text) ∙ sym (append-nil (text ++ []))) before
      (subst (λ (l : List ℕ). GainsPart t l u) (sym (append-nil rest)) put.part);
  cause = record {
    later = omega (arith, stays, put.cause.later);
    failed = subst (λ n. Rose n u.faults) stays put.cause.failed;
    stays = tt;
  };
}

pub PutsText-line : {X E : Type 0} (s t u : SinkState) (whole front shape left fields after : List ℕ) (r : Result X E)
    → t.faults ≡ s.faults → GainsFront s (front ++ shape) t left → after ≡ left ++ fields
    → (front ++ shape) ++ fields ≡ whole → PutsText t after r u
    → PutsText s whole r u
PutsText-line s t u whole front shape left fields after r stays before is_after is put =
    PutsText-front s t u whole ((front ++ shape) ++ fields) after r stays
    (subst (λ (l : List ℕ). GainsFront s ((front ++ shape) ++ fields) t l) (sym is_after)
    (GainsFront-more s t (front ++ shape) left fields before)) is put

-- the line of the next marked place is gathered
pub GainsFront-line : (s t u : SinkState) (marks : List Bool) (g : List (List Look)) (label from : ℕ) (p : Place)
    (line rest left : List ℕ) → IsFirstFrom marks from p → line ≡ change_line label p (look_at g p)
    → GainsFront s (change_lines label (marked_looks_below marks g from)) t rest
    → GainsFront t (rest ++ line) u left
    → GainsFront s (change_lines label (marked_looks_below marks g (number p.row p.column + 1))) u left
GainsFront-line s t u marks g label from p line rest left first is before now =
    subst (λ (l : List ℕ). GainsFront s l u left)
    (ap (λ (l : List ℕ). change_lines label (marked_looks_below marks g from) ++ l) is
    ∙ sym (lines-next marks g label from p first)) (GainsFront-next s t u _ rest line left before now)

pub GainsFront-line_failed : (s t u : SinkState) (marks : List Bool) (g : List (List Look)) (label from : ℕ)
    (p : Place) (line rest : List ℕ) → IsFirstFrom marks from p → line ≡ change_line label p (look_at g p)
    → GainsFront s (change_lines label (marked_looks_below marks g from)) t rest
    → GainsPart t (rest ++ line) u
    → GainsPart s (change_lines label (marked_looks marks g)) u
GainsFront-line_failed s t u marks g label from p line rest first is before part =
    let more = text-goes_on marks g label from p first in
    Gains-front_failed s t u _ (change_lines label (marked_looks_below marks g from)) rest line more.0
    (more.1 ∙ ap (λ l. (change_lines label (marked_looks_below marks g from) ++ l) ++ more.0) (sym is)) before part

-- before the first marked place nothing is gathered
pub GainsFront-first : (s : SinkState) (marks : List Bool) (g : List (List Look)) (label from : ℕ) (p : Place)
    (rest : List ℕ) → IsFirstFrom marks 0 p → from ≡ number p.row p.column → rest ≡ []
    → GainsFront s (change_lines label (marked_looks_below marks g from)) s rest
unfolding marked_looks_below change_lines
GainsFront-first s marks g label from p rest first at is =
    subst (λ (xs : List (Place × Look)). GainsFront s (change_lines label xs) s rest)
    (sym (marked_looks_below-unmarked marks g 0 (number p.row p.column) (omega arith) first.first)
    ∙ ap (marked_looks_below marks g) (sym at))
    (record { front = []; gains = Gains-nil s; is = is })

-- a line in the parts that are gathered
pub line_of-is : (label : ℕ) (digits none front : List ℕ) (p : Place) (l : Look) → digits ≡ decimal label → none ≡ []
    → front ≡ none ++ front_text digits p
    → (front ++ shape_text l.shape) ++ (32 ∷ fields_text l ++ 10 ∷ []) ≡ change_line label p l
line_of-is label digits none front p l is empty is_front =
    ap (λ (f : List ℕ). (f ++ shape_text l.shape) ++ (32 ∷ fields_text l ++ 10 ∷ []))
    (is_front ∙ ap (λ (n : List ℕ). n ++ front_text digits p) empty)
    ∙ sym (line-is digits p l) ∙ change_line-is label digits p l is

-- room for what stands after a shape: where a space or a sign was gathered, and where a pattern stands alone
pub still_room : (before after : ℕ) → before + 26 ≤ 248 → after ≤ before + 6 → after + 20 ≤ 248
still_room before after room added = omega (arith, room, added)

pub drawn_room : (before after : ℕ) → before ≡ 0 → after ≤ before + 202 → after + 20 ≤ 248
drawn_room before after none added = omega (arith, none, added)
