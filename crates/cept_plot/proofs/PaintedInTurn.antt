-- Commands that were painted in turn, and others after them.
use Rattle.std.proofs.Common.{◌≡◌, ℕ, ◌+◌, Bool, Option, List, [], ◌∷◌, ◌++◌, refl, sym, ap, subst, ◌∙◌, append_assoc, arith}
use Rattle.std.proofs.lemmas.List.{append-nil}
use Rattle.cept_codes.specs.declared.command.Command.{Command}
use Rattle.cept_codes.specs.declared.look.Look.{Look}
use Rattle.cept_codes.specs.Command.{IsValidCommand}
use Rattle.cept_codes.specs.Place.{Place}
use Rattle.cept_profile.specs.Changes.{changes_between, grid_with_paints}
use Rattle.cept_profile.specs.Look.{looks_of}
use Rattle.cept_profile.specs.State.{State, core_of, state, state_after}
use Rattle.cept_profile.specs.Valid.{AllValid}
use Rattle.cept_profile.proofs.Laws.{grid_with_paints-append}
use Rattle.cept_repaint.specs.Applied.{IsApplied}
use Rattle.cept_repaint.specs.GlassState.{GlassState, Lists}
use Rattle.cept_repaint.proofs.Laws.{state_after_all-append, rows_in_reach_of_all-append, rows_renewed_by_all-append}
use Rattle.cept_plot.specs.Painted.{changes_of_all}
use Rattle.cept_repaint.specs.InTurn.{rows_in_reach_of_all, rows_renewed_by_all, state_after_all}
use Rattle.cept_plot.specs.inside.ValidPainted.{ArePaintedAndValid}

-- ---- the commands of two lists

changes_of_all-append : (s : State) (first second : List Command)
    → changes_of_all s (first ++ second) ≡ changes_of_all s first ++ changes_of_all (state_after_all s first) second
unfolding changes_of_all state_after_all
changes_of_all-append s [] second = refl
changes_of_all-append s (c ∷ first) second =
    let here = changes_between (looks_of (core_of s)) (looks_of (core_of (state_after s c))) in
    ap (λ (l : List (Place × Look)). here ++ l) (changes_of_all-append (state_after s c) first second)
    ∙ sym (append_assoc here (changes_of_all (state_after s c) first)
    (changes_of_all (state_after_all (state_after s c) first) second))

pub AllValid-append : (first second : List Command) → AllValid first → AllValid second → AllValid (first ++ second)
AllValid-append [] second former latter = latter
AllValid-append (c ∷ first) second former latter = (former.0, AllValid-append first second former.1 latter)

-- ---- what was told

Lists-none : (o : Option (List (Place × Look))) → Lists o [] o
Lists-none o = record { told = λ now e. (now, e, sym (append-nil now)) }

Lists-more : (before mid after : Option (List (Place × Look))) (xs ys : List (Place × Look)) → Lists before xs mid
    → Lists mid ys after → Lists before (xs ++ ys) after
Lists-more before mid after xs ys a b = record {
  told = λ now e.
      let first = b.told now e in
      let start = a.told first.0 first.1 in
      (start.0, start.1, first.2 ∙ ap (λ (l : List (Place × Look)). l ++ ys) start.2 ∙ append_assoc start.0 xs ys);
}

-- ---- no command, one, and others after them

pub painted_none : (s : State) (g : GlassState) (n : ℕ) → ArePaintedAndValid [] s s g g n n
unfolding state_after_all changes_of_all rows_in_reach_of_all rows_renewed_by_all grid_with_paints
painted_none s g n = record {
  valid = tt;
  in_turn = record {
    after = refl;
    goes_on = λ history valid is. is ∙ ap state (sym (append-nil history));
    shown = refl;
    told = Lists-none g.paints;
    cost = omega arith;
    least = omega arith;
  };
}

pub painted_one : {c : Command} {old new : State} {marked : List Bool} {before now : GlassState} {from to : ℕ}
    → IsValidCommand c → IsApplied old c new marked before now from to
    → ArePaintedAndValid (c ∷ []) old new before now from to
unfolding state_after_all changes_of_all rows_in_reach_of_all rows_renewed_by_all
painted_one {c} {old} {new} {marked} {before} {now} {from} {to} valid is =
    let here = changes_between (looks_of (core_of old)) (looks_of (core_of new)) in
    let there = changes_between (looks_of (core_of old)) (looks_of (core_of (state_after old c))) in
    let same : here ≡ there ++ [] =
    ap (λ (s : State). changes_between (looks_of (core_of old)) (looks_of (core_of s))) is.after ∙ sym (append-nil there) in
    record {
      valid = (valid, tt);
      in_turn = record {
        after = is.after;
        goes_on = is.goes_on;
        shown = is.repainted.shown ∙ ap (λ (l : List (Place × Look)). grid_with_paints before.grid l) same;
        told = subst (λ (l : List (Place × Look)). Lists before.paints l now.paints) same is.repainted.told;
        cost = omega (arith, is.cost);
        least = omega (arith, is.least);
      };
    }

pub painted_more : {first second : List Command} {a b c : State} {x y z : GlassState} {i j k : ℕ}
    → ArePaintedAndValid first a b x y i j → ArePaintedAndValid second b c y z j k
    → ArePaintedAndValid (first ++ second) a c x z i k
painted_more {first} {second} {a} {b} {c} {x} {y} {z} {i} {j} {k} one two =
    let was = one.in_turn in
    let is = two.in_turn in
    let front = changes_of_all a first in
    let changes : front ++ changes_of_all b second ≡ changes_of_all a (first ++ second) =
    ap (λ (s : State). front ++ changes_of_all s second) was.after ∙ sym (changes_of_all-append a first second) in
    let rows : rows_in_reach_of_all a first + rows_in_reach_of_all b second ≡ rows_in_reach_of_all a (first ++ second) =
    ap (λ (s : State). rows_in_reach_of_all a first + rows_in_reach_of_all s second) was.after
    ∙ sym (rows_in_reach_of_all-append a first second) in
    let anew : rows_renewed_by_all a first + rows_renewed_by_all b second ≡ rows_renewed_by_all a (first ++ second) =
    ap (λ (s : State). rows_renewed_by_all a first + rows_renewed_by_all s second) was.after
    ∙ sym (rows_renewed_by_all-append a first second) in
    record {
      valid = AllValid-append first second one.valid two.valid;
      in_turn = record {
        after = is.after ∙ ap (λ (s : State). state_after_all s second) was.after
            ∙ sym (state_after_all-append a first second);
        goes_on = λ history valid stands.
            is.goes_on (history ++ first) (AllValid-append history first valid one.valid) (was.goes_on history valid stands)
            ∙ ap state (append_assoc history first second);
        shown = is.shown ∙ ap (λ g. grid_with_paints g (changes_of_all b second)) was.shown
            ∙ sym (grid_with_paints-append x.grid front (changes_of_all b second))
            ∙ ap (λ (l : List (Place × Look)). grid_with_paints x.grid l) changes;
        told = subst (λ (l : List (Place × Look)). Lists x.paints l z.paints) changes
            (Lists-more x.paints y.paints z.paints front (changes_of_all b second) was.told is.told);
        cost = omega (arith, was.cost, is.cost, rows);
        least = omega (arith, was.least, is.least, anew);
      };
    }
