-- A screen's picture: kept where the screen's state is, and the state after it was redrawn by a command's strokes or restored.
use Rattle.std.proofs.Common.{◌≡◌, ℕ, ◌≤◌, ◌+◌, Bool, List, Option, unwrap_or, refl, sym, ap, subst, ◌∙◌, arith}
use Rattle.std.specs.List.{AllByRecursion}
use Rattle.cept_codes.specs.declared.command.Command.{Command}
use Rattle.cept_codes.specs.declared.stroke.Stroke.{Stroke}
use Rattle.cept_codes.specs.Command.{IsValidCommand}
use Rattle.cept_codes.specs.Stroke.{IsValidStroke}
use Rattle.cept_profile.specs.Control.{ControlState, control_after}
use Rattle.cept_profile.specs.Edges.{Edges, edges_of}
use Rattle.cept_profile.specs.Look.{looks_of}
use Rattle.cept_profile.specs.MovedRows.{row_before}
use Rattle.cept_profile.specs.OldValues.{OldValues, page_unwound}
use Rattle.cept_profile.specs.Reach.{rows_in_reach}
use Rattle.cept_profile.specs.State.{Page, State, core_of, page_after, state_after}
use Rattle.cept_profile.specs.Strokes.{strokes_of}
use Rattle.cept_profile.specs.Valid.{IsValidPage, IsValidState}
use Rattle.cept_profile.proofs.Laws.{IsValidState-state_after, rows_in_reach-le}
use Rattle.cept_page.specs.Behind.{page_behind}
use Rattle.cept_redraw.specs.declared.picture.Picture.{Picture}
use Rattle.cept_redraw.specs.Picture.{AreDrawable, AreTicksOf, IsKeptOn, IsNotedAlong, IsRedrawn, IsRestored}
use Rattle.cept_redraw.specs.Restored.{rows_unwound}
use Rattle.cept_repaint.specs.Applied.{IsWritten}
use Rattle.cept_repaint.specs.inside.Applied.{IsPutBack}
use Rattle.cept_repaint.specs.Kept.{state_of_parts, IsKept}
use Rattle.cept_repaint.proofs.KeptAfter.{AreEdges-state, AreLooksOn-state, AreNamed-drawn, AreNamedOn-state}
use Rattle.cept_repaint.proofs.KeptAfter.{IsKept-state_after, looks_of-drawn, marks-kept, renewed-of, resolved-of}
use Rattle.cept_repaint.proofs.KeptAfter.{state_after-drawn}
use Rattle.cept_repaint.proofs.LowMoves.{low-strokes_of}
use Rattle.cept_repaint.proofs.NotedCommands.{noted-strokes_of}
use Rattle.cept_repaint.proofs.UnwoundStates.{rows_unwound-le, renewed-kept, rows_restored-of, state_unwound, valid_unwound}

-- ---- before

pub IsKeptOn-state : {picture : Picture} {c : ControlState}
    → IsKept (state_of_parts picture.page c) picture.looks picture.names → (edges : Edges) → edges ≡ edges_of c
    → IsKeptOn picture edges
IsKeptOn-state {picture} {c} kept edges same = record {
  valid = kept.valid.page;
  of_core = AreEdges-state (state_of_parts picture.page c) edges same;
  looks = AreLooksOn-state (state_of_parts picture.page c) picture.looks edges same kept.looks;
  named = AreNamedOn-state (state_of_parts picture.page c) picture.names edges same kept.named;
}

-- ---- redrawn by the strokes of a command

-- they may be drawn
pub AreDrawable-command : (p : Page) (c : ControlState) → IsValidState (state_of_parts p c) → (command : Command)
    → IsValidCommand command → (strokes items : List Stroke) → strokes ≡ items → AllByRecursion IsValidStroke items
    → items ≡ strokes_of c command → AreDrawable strokes p
AreDrawable-command p c state command valid strokes items same each es = record {
  each = subst (λ (xs : List Stroke). AllByRecursion IsValidStroke xs) (sym same) each;
  valid = subst (λ (xs : List Stroke). IsValidPage (page_after p xs)) (sym (same ∙ es))
      (IsValidState-state_after (state_of_parts p c) command state valid).page;
  low = λ r q from_top to_bottom came.
      low-strokes_of c command r q (ap (λ (xs : List Stroke). row_before xs r) (sym (same ∙ es)) ∙ came);
}

pub IsKept-redrawn : {was now : Picture} {c d : ControlState} {strokes : List Stroke} {edges : Edges} {marked : List Bool}
    → IsKept (state_of_parts was.page c) was.looks was.names → (command : Command) → IsValidCommand command
    → strokes ≡ strokes_of c command → d ≡ control_after c command → edges ≡ edges_of d
    → IsRedrawn strokes edges was now marked → IsKept (state_of_parts now.page d) now.looks now.names
IsKept-redrawn {was} {now} {c} {d} {strokes} {edges} kept command valid es ed ea redrawn =
    IsKept-state_after kept command valid now.page d now.looks now.names
    (state_after-drawn was.page c command now.page d strokes es redrawn.page ed)
    (looks_of-drawn now.page d edges now.looks ea redrawn.kept.looks)
    (AreNamed-drawn now.page d edges now.names ea redrawn.kept.named)

pub IsWritten-redrawn : {was now : Picture} {c d : ControlState} {strokes : List Stroke} {before after : Edges}
    {marked : List Bool} {from to : ℕ} → IsKept (state_of_parts was.page c) was.looks was.names → (command : Command)
    → strokes ≡ strokes_of c command → d ≡ control_after c command → before ≡ edges_of c → after ≡ edges_of d
    → IsRedrawn strokes after was now marked → AreTicksOf strokes before after was now from to → (s : State)
    → state_of_parts was.page c ≡ s → IsWritten s command (state_of_parts now.page d) marked from to
IsWritten-redrawn {was} {now} {c} {d} {strokes} {before} {after} {marked} {from} {to} kept command es ed eb ea redrawn ticks
    s e =
    let old : State = state_of_parts was.page c in
    let new : State = state_of_parts now.page d in
    let whole = state_after-drawn was.page c command now.page d strokes es redrawn.page ed in
    let looks : now.looks ≡ looks_of (core_of new) = looks_of-drawn now.page d after now.looks ea redrawn.kept.looks in
    let cost : to ≤ from + rows_in_reach s command = omega (
      arith,
      ticks.cost (core_of old) (core_of new) (sym eb) (sym ea),
      resolved-of command now.page d strokes es whole s e,
    ) in
    record {
      after = whole ∙ ap (λ (t : State). state_after t command) e;
      marks = marks-kept old s new was.looks now.looks marked kept.looks e looks redrawn.marks;
      cost = cost;
      least = omega (
        arith,
        ticks.least,
        renewed-of command now.page d strokes es whole was.looks now.looks kept.looks looks s e,
      );
      at_most_24 = omega (arith, cost, rows_in_reach-le s command);
    }

pub IsNotedAlong-command : {was : State} {strokes : List Stroke} {before after : Option OldValues} {q : Page}
    → (command : Command) → strokes ≡ strokes_of was.control command → IsNotedAlong strokes before was.page after q
    → (s : State) → was ≡ s → IsNotedAlong (strokes_of s.control command) before s.page after q
IsNotedAlong-command {was} {strokes} {before} {after} {q} command es along s e = record {
  unwound = along.unwound ∙ ap (λ (t : State). page_behind before t.page) e;
  noted = noted-strokes_of was s command strokes before after e es along.noted;
}

-- ---- restored

pub IsPutBack-restored : {was now : Picture} {c d : ControlState} {old : OldValues} {before after : Edges}
    {marked : List Bool} {from to : ℕ} → IsKept (state_of_parts was.page c) was.looks was.names → (values : OldValues)
    → d ≡ unwrap_or values.control c → before ≡ edges_of c → after ≡ edges_of d
    → IsRestored old before after was now marked from to → page_unwound was.page old ≡ page_unwound was.page values
    → rows_unwound old before after was.looks now.looks ≡ rows_unwound values before after was.looks now.looks
    → (s : State) → state_of_parts was.page c ≡ s → IsPutBack values s (state_of_parts now.page d) marked from to
IsPutBack-restored {was} {now} {c} {d} {old} {before} {after} {marked} {from} {to} kept values ed eb ea restored same_page
    same_rows s e =
    let first : State = state_of_parts was.page c in
    let new : State = state_of_parts now.page d in
    let looks : now.looks ≡ looks_of (core_of new) = looks_of-drawn now.page d after now.looks ea restored.kept.looks in
    record {
      state = state_unwound was.page c values now.page d values.control s (restored.page ∙ same_page) ed refl e;
      marks = marks-kept first s new was.looks now.looks marked kept.looks e looks restored.marks;
      cost = omega (
        arith,
        restored.cost,
        same_rows,
        rows_restored-of values first s new before after was.looks now.looks e eb ea kept.looks looks,
      );
      least = omega (
        arith,
        restored.least,
        renewed-kept first s new was.looks now.looks kept.looks e looks,
      );
      at_most_24 = omega (arith, restored.cost, rows_unwound-le old before after was.looks now.looks);
    }

pub IsKept-restored : {was now : Picture} {d : ControlState} {old : OldValues} {before after : Edges} {marked : List Bool}
    {from to : ℕ} → after ≡ edges_of d → IsRestored old before after was now marked from to → (t : State)
    → state_of_parts now.page d ≡ t → IsValidState t → IsKept (state_of_parts now.page d) now.looks now.names
IsKept-restored {was} {now} {d} {old} {before} {after} ea restored t e valid = record {
  valid = valid_unwound (state_of_parts now.page d) t e valid;
  looks = looks_of-drawn now.page d after now.looks ea restored.kept.looks;
  named = AreNamed-drawn now.page d after now.names ea restored.kept.named;
}
