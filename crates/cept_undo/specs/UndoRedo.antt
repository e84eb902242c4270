-- An undo or a redo: an edit moves to the other side, and the screen to the state to which it leads (own).
use Rattle.std.specs.Prelude.{◌≡◌, ℕ, ◌+◌, ◌≤◌, Bool, List, [], drop}
use Rattle.cept_profile.specs.Look.{looks_of}
use Rattle.cept_profile.specs.State.{State, core_of}
use Rattle.cept_redraw.specs.Marks.{no_marks}
use Rattle.cept_redraw.specs.Renewed.{rows_renewed}
use Rattle.cept_repaint.specs.Applied.{IsRepainted}
use Rattle.cept_repaint.specs.GlassState.{GlassState}
use Rattle.cept_undo.specs.Past.{handed_on, nearest}

-- the screen stands at the first of the states ahead, if there is one; the others stay ahead, and the state before comes first
-- of those behind
pub record MovesEdit (ahead behind : List State) (old : State) (left handed : List State) (new : State) : Type 0 where
  pub state : new ≡ nearest ahead old
  pub rest : left ≡ drop 1 ahead
  pub others : handed ≡ handed_on ahead old behind

-- what looks otherwise was painted; no fewer rows were resolved than that renews, and no more than there are
pub record PaintsUndoRedo (old new : State) (marks : List Bool) (before after : GlassState) (from to : ℕ) : Type 0 where
  pub repainted : IsRepainted old new marks before after
  pub least : from + rows_renewed [] (looks_of (core_of old)) (looks_of (core_of new)) ≤ to
  pub at_most_24 : to ≤ from + 24

-- nothing was touched, and no place is marked
pub record TouchesNothing {G : Type 0} (old new : State) (before after : G) (marks : List Bool) (from to : ℕ) : Type 0 where
  pub unchanged : new ≡ old
  pub unpainted : after ≡ before
  pub unmarked : marks ≡ no_marks
  pub unticked : to ≡ from
