-- Commands that leave the edges: after all but five the same rows are last as before.
use Rattle.std.proofs.Common.{◌≡◌, false, Option, Some, None, refl, ap, ◌∙◌}
use Rattle.std.proofs.lemmas.Bool.{true≢false}
use Rattle.cept_codes.specs.declared.command.Command.{Command}
use Rattle.cept_codes.specs.declared.command.Command.TheVariants as commands
use Rattle.cept_profile.specs.Control.{ControlState, control_after, state_for_effect}
use Rattle.cept_profile.specs.Edges.{edges_of}
use Rattle.cept_profile.specs.Working.{Working}
use Rattle.cept_profile.proofs.Laws.{control_after_service}
use Rattle.cept_repaint.specs.inside.MovedEdges.{may_move_edges}

after_service : (s : ControlState) (kept : Option Working) → edges_of (control_after_service s kept) ≡ edges_of s
after_service s None = refl
after_service s (Some working) = refl

edges-left : (s : ControlState) (command : Command) → may_move_edges command ≡ false
    → edges_of (control_after s command) ≡ edges_of s
edges-left s (commands.Format rows wrap) none = absurd (true≢false none)
edges-left s (commands.FullDefaults set) none = absurd (true≢false none)
edges-left s (commands.AreaCreate first last) none = absurd (true≢false none)
edges-left s (commands.AreaDelete first last) none = absurd (true≢false none)
edges-left s (commands.Revision revision) none = absurd (true≢false none)
edges-left s commands.ServiceEnd none = after_service (state_for_effect s commands.ServiceEnd) s.kept
edges-left s _ none = refl

-- the same of the control after one that leaves them
pub edges-stay : (s : ControlState) (command : Command) (t : ControlState) → may_move_edges command ≡ false
    → t ≡ control_after s command → edges_of t ≡ edges_of s
edges-stay s command t none after = ap edges_of after ∙ edges-left s command none
