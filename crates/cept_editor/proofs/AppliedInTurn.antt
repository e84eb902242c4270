-- Commands applied one after the other.
use Rattle.std.proofs.Common.{◌≡◌, ◌≢◌, ℕ, ◌+◌, ◌*◌, ◌<◌, ◌≤◌, Bool, true, false, cond, List, [], ◌∷◌, ◌++◌, take, length}
use Rattle.std.proofs.Common.{Result, Ok, Err, OnErr, refl, sym, ap, subst, ◌∙◌, append_assoc, append-nil, arith}
use Rattle.std.proofs.lemmas.List.{length-append}
use Rattle.std.proofs.Math.Seq.{take-append-add}
use Rattle.cept_codes.specs.Command.{IsValidCommand}
use Rattle.cept_codes.specs.declared.command.Command.{Command}
use Rattle.cept_codes.specs.declared.look.Look.{Look}
use Rattle.cept_codes.specs.Place.{Place}
use Rattle.cept_outside.specs.Causes.{Rose}
use Rattle.cept_outside.specs.SinkState.{SinkState, PutsText}
use Rattle.cept_outside.proofs.Laws.{Gains-append}
use Rattle.cept_profile.specs.Changes.{changes_between, marked_looks, differences, grid_with_paints}
use Rattle.cept_profile.specs.Look.{looks_of}
use Rattle.cept_profile.specs.Reach.{rows_in_reach}
use Rattle.cept_profile.specs.State.{State, state, state_after, core_of}
use Rattle.cept_profile.specs.Valid.{AllValid}
use Rattle.cept_repaint.specs.Applied.{IsApplied, IsRepainted, rows_renewed_by}
use Rattle.cept_repaint.specs.GlassState.{GlassState, Lists}
use Rattle.cept_report.specs.Text.{change_lines}
use Rattle.cept_editor.specs.inside.Applying.{AppliesOne, HasApplied}
use Rattle.cept_repaint.specs.InTurn.{state_after_all, rows_in_reach_of_all}
use Rattle.cept_editor.specs.Applying.{MarksLast, ResolvesRenewed}
use Rattle.cept_editor.specs.inside.Applying.{AppliesAll}
use Rattle.cept_repaint.specs.InTurn.{rows_renewed_by_all}
use Rattle.cept_repaint.proofs.Laws.{state_after_all-append, rows_in_reach_of_all-append, rows_renewed_by_all-append}
use Rattle.cept_editor.specs.Events.{Event, event_changes, report}
use Rattle.cept_editor.specs.Made.{Output, output_of, IsMade, AreMade}
use Rattle.cept_editor.specs.Stepping.{event_from, edit_events}
use Rattle.cept_editor.proofs.EditsInTurn.{edit_events-none, edit_events-first, edit_events-last}
use Rattle.cept_editor.proofs.EditsInTurn.{edit_events-append, length-edit_events}
use Rattle.cept_editor.proofs.KeptStates.{AllByRecursion-append}
use Rattle.cept_editor.proofs.MadeEvents.{paints-one, ArePainted-more, AreMade-none, AreMade-more}

-- ---- one event

-- the changes of a screen painted and their lines put are the event from the commands before to other commands after
pub made_from : {X E : Type 0} (listed : Bool) (line : ℕ) (h h' : List Command) (s t : State) (marks : List Bool)
    (result : Result X E) (a b : SinkState) (g g' : GlassState)
    → s ≡ state h → t ≡ state h' → h' ≢ h → IsRepainted s t marks g g'
    → PutsText a (cond listed (change_lines line (marked_looks marks (looks_of (core_of t)))) []) result b
    → IsMade (event_from listed line h h') (output_of a g) result (output_of b g')
made_from listed line h h' s t marks result a b g g' old new other painted put =
    let e = event_from listed line h h' in
    let same : changes_between (looks_of (core_of s)) (looks_of (core_of t)) ≡ event_changes e =
    λ i. changes_between (looks_of (core_of (old i))) (looks_of (core_of (new i))) in
    let lines : marked_looks marks (looks_of (core_of t)) ≡ event_changes e =
    ap (λ m. marked_looks m (looks_of (core_of t))) painted.marks ∙ same in
    record {
      puts = subst (λ (l : List (Place × Look)). PutsText a (cond listed (change_lines line l) []) result b) lines put;
      painted = record {
        listed = subst (λ (l : List (Place × Look)). Lists g.paints l g'.paints) (same ∙ sym (paints-one e))
            painted.told;
        over = painted.shown ∙ ap (grid_with_paints g.grid) (same ∙ sym (paints-one e));
        untouched = λ still. absurd (other still.0);
      };
    }

-- where the sink failed at lines there are some
pub lines_there : {X E : Type 0} (listed : Bool) (line : ℕ) (xs : List (Place × Look)) (result : Result X E)
    (a b : SinkState) → PutsText a (cond listed (change_lines line xs) []) result b → OnErr result (xs ≢ [])
unfolding change_lines
lines_there listed line xs (Ok x) a b puts = tt
lines_there listed line xs (Err f) a b puts = λ none.
    let text = ap (λ (l : List (Place × Look)). length (cond listed (change_lines line l) [])) none in
    absurd (omega (arith, puts.part.short, text, empty listed))
  where
    empty : (r : Bool) → length (cond r (change_lines line []) []) ≡ 0
    empty true = refl
    empty false = refl

-- one command more makes other commands
pub one_more_differs : (h : List Command) (c : Command) → h ++ c ∷ [] ≢ h
one_more_differs h c same = omega (arith, ap length same, length-append h (c ∷ []))

-- ---- sums over commands

state_after_all-more : (s : State) (cs : List Command) (c : Command)
    → state_after_all s (cs ++ c ∷ []) ≡ state_after (state_after_all s cs) c
unfolding state_after_all
state_after_all-more s cs c = state_after_all-append s cs (c ∷ [])

rows-one : (s : State) (c : Command) → rows_in_reach_of_all s (c ∷ []) ≡ rows_in_reach s c
unfolding rows_in_reach_of_all
rows-one s c = omega arith

rows-first : (s : State) (c : Command) (cs : List Command)
    → rows_in_reach_of_all s (c ∷ cs) ≡ rows_in_reach s c + rows_in_reach_of_all (state_after s c) cs
unfolding rows_in_reach_of_all
rows-first s c cs = refl

renewed-one : (s : State) (c : Command) → rows_renewed_by_all s (c ∷ []) ≡ rows_renewed_by s c
unfolding rows_renewed_by_all
renewed-one s c = omega arith

-- with a command more
renewed-more : (old mid : State) (done : List Command) (c : Command) (start ticks ticks' : ℕ)
    → mid ≡ state_after_all old done → start + rows_renewed_by_all old done ≤ ticks
    → ticks + rows_renewed_by mid c ≤ ticks' → start + rows_renewed_by_all old (done ++ c ∷ []) ≤ ticks'
renewed-more old mid done c start ticks ticks' stands had one =
    let renewed = ap (λ s. rows_renewed_by s c) stands in
    omega (arith, had, one, renewed, rows_renewed_by_all-append old done (c ∷ []), renewed-one (state_after_all old done) c)

-- ---- so far

-- some of the commands were applied, and the others are left
pub record HasGone (listed : Bool) (line : ℕ) (whole left : List Command) (old : State) (before : Output)
    (new : State) (after : Output) (marks : List Bool) (start ticks : ℕ) : Type 0 where
  pub done : List Command
  pub split : whole ≡ done ++ left
  pub valid : AllValid done
  pub stands : new ≡ state_after_all old done
  pub applied : (history : List Command) → AllValid history → old ≡ state history
      → HasApplied listed line history done before new after
  pub faults : after.sink.faults ≡ before.sink.faults
  pub marked : 0 < length done → MarksLast {X = Unit {0}} {E = Unit {0}} done old (Ok tt) new marks
  pub cost : ticks ≤ start + rows_in_reach_of_all old done
  pub least : start + rows_renewed_by_all old done ≤ ticks
  pub at_most : ticks ≤ start + 24 * length done

pub gone_none : (listed : Bool) (line : ℕ) (whole : List Command) (old : State) (before : Output) (marks : List Bool)
    (start : ℕ) → HasGone listed line whole whole old before old before marks start start
unfolding state_after_all rows_renewed_by_all
gone_none listed line whole old before marks start = record {
  done = [];
  split = refl;
  valid = tt;
  stands = refl;
  applied = λ history valid is. record {
    is = is ∙ ap state (sym (append-nil history));
    made = subst (λ (es : List Event). AreMade es before before) (sym (edit_events-none listed line history))
        (AreMade-none before);
  };
  faults = refl;
  marked = λ some. absurd (omega (arith, some));
  cost = omega arith;
  least = omega arith;
  at_most = omega arith;
}

pub gone_more : {X E : Type 0} {x : X} (listed : Bool) (line : ℕ) (whole left : List Command) (c : Command)
    (old : State) (before : Output) (mid : State) (now : Output) (new : State) (after : Output) (marks marks' : List Bool)
    (start ticks ticks' : ℕ) → HasGone listed line whole (c ∷ left) old before mid now marks start ticks
    → IsValidCommand c → AppliesOne {X = X} {E = E} listed line c mid now (Ok x) new after marks' ticks ticks'
    → after.sink.faults ≡ now.sink.faults → HasGone listed line whole left old before new after marks' start ticks'
gone_more listed line whole left c old before mid now new after marks marks' start ticks ticks' g valid one faults =
    let further : new ≡ state_after_all old (g.done ++ c ∷ []) =
    one.applied.after ∙ ap (λ s. state_after s c) g.stands ∙ sym (state_after_all-more old g.done c) in
    record {
      done = g.done ++ c ∷ [];
      split = g.split ∙ sym (append_assoc g.done (c ∷ []) left);
      valid = AllByRecursion-append IsValidCommand g.done (c ∷ []) g.valid (valid, tt);
      stands = further;
      applied = λ history earlier is.
          let had = g.applied history earlier is in
          let all = AllByRecursion-append IsValidCommand history g.done earlier g.valid in
          record {
            is = one.applied.goes_on (history ++ g.done) all had.is ∙ ap state (append_assoc history g.done (c ∷ []));
            made = subst (λ (es : List Event). AreMade es before after)
                (sym (edit_events-last listed line history g.done c))
                (AreMade-more (edit_events listed line history g.done)
                (event_from listed line (history ++ g.done) ((history ++ g.done) ++ c ∷ [])) before now after had.made
                (one.made (history ++ g.done) all had.is));
          };
      faults = faults ∙ g.faults;
      marked = λ some. record {
        earlier = g.done;
        last = c;
        rest = [];
        split = refl;
        all = refl;
        applied = further;
        marked = one.applied.repainted.marks ∙ ap (λ s. differences (looks_of (core_of s)) (looks_of (core_of new))) g.stands;
        shown = tt;
      };
      cost =
          let reach = ap (λ s. rows_in_reach s c) g.stands in
          omega (arith, g.cost, one.applied.cost, reach, rows_in_reach_of_all-append old g.done (c ∷ []), rows-one (state_after_all old g.done) c);
      least = renewed-more old mid g.done c start ticks ticks' g.stands g.least one.applied.least;
      at_most = omega (arith, g.at_most, one.applied.at_most_24, length-append g.done (c ∷ []));
    }

-- others are left
pub gone_left : {listed : Bool} {line : ℕ} {whole left left' : List Command} {old : State} {before : Output}
    {new : State} {after : Output} {marks : List Bool} {start ticks : ℕ} → left ≡ left'
    → HasGone listed line whole left old before new after marks start ticks
    → HasGone listed line whole left' old before new after marks start ticks
gone_left {listed} {line} {whole} {left} {left'} {old} {before} {new} {after} {marks} {start} {ticks} is g =
    subst (λ l. HasGone listed line whole l old before new after marks start ticks) is g

-- ---- all of them

pub all_applied : {X E : Type 0} {x : X} (listed : Bool) (line : ℕ) (whole : List Command) (old : State)
    (before : Output) (new : State) (after : Output) (marks : List Bool) (start ticks : ℕ)
    → HasGone listed line whole [] old before new after marks start ticks
    → AppliesAll {X = X} {E = E} listed line whole old before (Ok x) new after
all_applied listed line whole old before new after marks start ticks g =
    let same : g.done ≡ whole = sym (append-nil g.done) ∙ sym g.split in
    record {
      applied = λ history valid is. subst (λ cs. HasApplied listed line history cs before new after) same
          (g.applied history valid is);
      stopped = tt;
    }

-- whatever is answered
marks_ok : {X Y E F : Type 0} {x : X} {y : Y} (cs : List Command) (old new : State) (marks : List Bool)
    → MarksLast {X = X} {E = E} cs old (Ok x) new marks → MarksLast {X = Y} {E = F} cs old (Ok y) new marks
marks_ok cs old new marks m = record {
  earlier = m.earlier;
  last = m.last;
  rest = m.rest;
  split = m.split;
  all = m.all;
  applied = m.applied;
  marked = m.marked;
  shown = tt;
}

pub all_marked : {X E : Type 0} {x : X} (listed : Bool) (line : ℕ) (whole : List Command) (old : State)
    (before : Output) (new : State) (after : Output) (marks : List Bool) (start ticks : ℕ)
    → HasGone listed line whole [] old before new after marks start ticks → 0 < length whole
    → MarksLast {X = X} {E = E} whole old (Ok x) new marks
all_marked listed line whole old before new after marks start ticks g some =
    let same : g.done ≡ whole = sym (append-nil g.done) ∙ sym g.split in
    marks_ok whole old new marks (subst (λ cs. MarksLast {X = Unit {0}} {E = Unit {0}} cs old (Ok tt) new marks) same
    (g.marked (subst (λ cs. 0 < length cs) (sym same) some)))

pub all_cost : (listed : Bool) (line : ℕ) (whole : List Command) (old : State)
    (before : Output) (new : State) (after : Output) (marks : List Bool) (start ticks : ℕ)
    → HasGone listed line whole [] old before new after marks start ticks
    → (ticks ≤ start + rows_in_reach_of_all old whole) × (ticks ≤ start + 24 * length whole)
all_cost listed line whole old before new after marks start ticks g =
    let same : g.done ≡ whole = sym (append-nil g.done) ∙ sym g.split in (
      subst (λ cs. ticks ≤ start + rows_in_reach_of_all old cs) same g.cost,
      subst (λ cs. ticks ≤ start + 24 * length cs) same g.at_most,
    )

pub all_least : {X E : Type 0} {x : X} (listed : Bool) (line : ℕ) (whole : List Command) (old : State)
    (before : Output) (new : State) (after : Output) (marks : List Bool) (start ticks : ℕ)
    → HasGone listed line whole [] old before new after marks start ticks
    → ResolvesRenewed {X = X} {E = E} whole old (Ok x) new start ticks
all_least listed line whole old before new after marks start ticks g = record {
  done = g.done;
  rest = [];
  split = g.split;
  all = refl;
  applied = g.stands;
  least = g.least;
}

-- ---- the sink failed

pub all_stopped : {X Y E F : Type 0} {f : E} {e : F} {marks' : List Bool} {ticks' : ℕ} (listed : Bool) (line : ℕ) (whole left : List Command)
    (c : Command) (old : State) (before : Output) (mid : State) (now : Output) (new : State) (after : Output)
    (marks : List Bool) (start ticks : ℕ) → HasGone listed line whole (c ∷ left) old before mid now marks start ticks
    → AppliesOne {X = X} {E = E} listed line c mid now (Err f) new after marks' ticks ticks'
    → AppliesAll {X = Y} {E = F} listed line whole old before (Err e) new after
all_stopped listed line whole left c old before mid now new after marks start ticks g one = record {
  applied = tt;
  stopped = λ history earlier is.
      let had = g.applied history earlier is in
      let all = AllByRecursion-append IsValidCommand history g.done earlier g.valid in
      let events = edit_events listed line history g.done in
      let event = event_from listed line (history ++ g.done) ((history ++ g.done) ++ c ∷ []) in
      let later = edit_events listed line ((history ++ g.done) ++ c ∷ []) left in
      let made = one.made (history ++ g.done) all had.is in
      let part = made.puts.part in
      let front : take (length events + 1) whole ≡ g.done ++ c ∷ [] =
      ap (λ n. take (n + 1) whole) (length-edit_events listed line history g.done)
      ∙ ap (take (length g.done + 1)) g.split ∙ take-append-add g.done (c ∷ left) 1 in
      record {
        off = record {
          done = events;
          cut = event;
          rest = later;
          split = ap (edit_events listed line history) g.split
              ∙ edit_events-append listed line history g.done (c ∷ left)
              ∙ ap (λ es. events ++ es) (edit_events-first listed line (history ++ g.done) c left);
          size = part.size;
          short = part.short;
          put = Gains-append before.sink now.sink after.sink (report events) (take part.size event.text) had.made.put
              part.gains;
          painted = ArePainted-more events (event ∷ []) before.glass now.glass after.glass had.made.painted made.painted;
          cause = subst (λ n. Rose n after.sink.faults) g.faults made.puts.cause.failed;
          later = omega (arith, g.faults, made.puts.cause.later);
        };
        is = one.applied.goes_on (history ++ g.done) all had.is
            ∙ ap state (append_assoc history g.done (c ∷ []) ∙ ap (λ l. history ++ l) (sym front));
      };
}

pub stopped_marked : {X E : Type 0} {f : E} {glass : GlassState} {ticks' : ℕ} (listed : Bool) (line : ℕ) (whole left : List Command) (c : Command)
    (old : State) (before : Output) (mid : State) (now : Output) (new : State) (marks marks' : List Bool)
    (start ticks : ℕ) → HasGone listed line whole (c ∷ left) old before mid now marks start ticks
    → IsApplied mid c new marks' now.glass glass ticks ticks'
    → changes_between (looks_of (core_of mid)) (looks_of (core_of new)) ≢ []
    → MarksLast {X = X} {E = E} whole old (Err f) new marks'
stopped_marked listed line whole left c old before mid now new marks marks' start ticks g one shown = record {
  earlier = g.done;
  last = c;
  rest = left;
  split = g.split;
  all = tt;
  applied = one.after ∙ ap (λ s. state_after s c) g.stands ∙ sym (state_after_all-more old g.done c);
  marked = one.repainted.marks ∙ ap (λ s. differences (looks_of (core_of s)) (looks_of (core_of new))) g.stands;
  shown = subst (λ (s : State). changes_between (looks_of (core_of s)) (looks_of (core_of new)) ≢ []) g.stands shown;
}

pub stopped_cost : {new : State} {marks' : List Bool} {glass : GlassState} (listed : Bool) (line : ℕ) (whole left : List Command) (c : Command)
    (old : State) (before : Output) (mid : State) (now : Output) (marks : List Bool) (start ticks ticks' : ℕ)
    → HasGone listed line whole (c ∷ left) old before mid now marks start ticks
    → IsApplied mid c new marks' now.glass glass ticks ticks' → (ticks' ≤ start + rows_in_reach_of_all old whole) × (ticks' ≤ start + 24 * length whole)
stopped_cost listed line whole left c old before mid now marks start ticks ticks' g one =
    let reach = ap (λ s. rows_in_reach s c) g.stands in
    let rows = ap (rows_in_reach_of_all old) g.split ∙ rows_in_reach_of_all-append old g.done (c ∷ left) in
    let first = rows-first (state_after_all old g.done) c left in
    let size = ap length g.split ∙ length-append g.done (c ∷ left) in
    (omega (arith, g.cost, one.cost, reach, rows, first), omega (arith, g.at_most, one.at_most_24, size))

pub stopped_least : {X E : Type 0} {f : E} {marks' : List Bool} {glass : GlassState} (listed : Bool) (line : ℕ)
    (whole left : List Command) (c : Command) (old : State) (before : Output) (mid : State) (now : Output) (new : State)
    (marks : List Bool) (start ticks ticks' : ℕ)
    → HasGone listed line whole (c ∷ left) old before mid now marks start ticks
    → IsApplied mid c new marks' now.glass glass ticks ticks'
    → ResolvesRenewed {X = X} {E = E} whole old (Err f) new start ticks'
stopped_least listed line whole left c old before mid now new marks start ticks ticks' g one = record {
  done = g.done ++ c ∷ [];
  rest = left;
  split = g.split ∙ sym (append_assoc g.done (c ∷ []) left);
  all = tt;
  applied = one.after ∙ ap (λ s. state_after s c) g.stands ∙ sym (state_after_all-more old g.done c);
  least = renewed-more old mid g.done c start ticks ticks' g.stands g.least one.least;
}
