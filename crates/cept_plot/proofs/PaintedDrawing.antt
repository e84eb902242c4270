-- A drawing painted: the opening, the cells, and the last command.
use Rattle.std.proofs.Common.{◌≡◌, ℕ, Bool, [], ◌∷◌, ◌++◌, sym, ap, subst}
use Rattle.cept_codes.specs.declared.command.Command.TheVariants as commands
use Rattle.cept_profile.specs.Changes.{differences}
use Rattle.cept_profile.specs.Look.{looks_of}
use Rattle.cept_profile.specs.State.{Core, State, core_of}
use Rattle.cept_profile.specs.Valid.{IsValidState}
use Rattle.cept_repaint.specs.GlassState.{GlassState}
use Rattle.cept_plot.specs.Commands.{IsDrawnOn, cells_commands, drawn, opening}
use Rattle.cept_plot.specs.inside.Drawing.{StandsDrawn}
use Rattle.cept_plot.specs.Painted.{ArePaintedInTurn}
use Rattle.cept_repaint.specs.InTurn.{state_after_all}
use Rattle.cept_plot.specs.inside.ValidPainted.{ArePaintedAndValid}
use Rattle.cept_plot.proofs.DrawnInTurn.{drawn_on, stands_first}
use Rattle.cept_plot.proofs.PaintedInTurn.{painted_more}

module _ {old opened written new : State} {f : ℕ → ℕ → Bool} {x y z t : GlassState} {i j l m : ℕ} {implicit : Bool}
    (valid : IsValidState old) (first : ArePaintedAndValid opening old opened x y i j)
    (cells : (k : Core) → StandsDrawn k f 0 opened → ArePaintedAndValid (cells_commands k f 960) opened written y z j l)
    (was : implicit ≡ old.control.implicit)
    (last : ArePaintedAndValid (commands.Implicit implicit ∷ []) written new z t l m) where
  cells_painted : ArePaintedAndValid (cells_commands (core_of old) f 960) opened written y z j l
  cells_painted =
      cells (core_of old)
      (subst (λ (s : State). StandsDrawn (core_of old) f 0 s) (sym first.in_turn.after) (stands_first old valid f))

  pub drawing_painted : ArePaintedInTurn (drawn (core_of old) f) old new x t i m
  drawing_painted =
      (painted_more first (painted_more cells_painted
      (subst (λ v. ArePaintedAndValid (commands.Implicit v ∷ []) written new z t l m) was last))).in_turn

  pub drawing_marked : differences (looks_of (core_of written)) (looks_of (core_of new))
      ≡ differences (looks_of (core_of (state_after_all old (opening ++ cells_commands (core_of old) f 960))))
      (looks_of (core_of new))
  drawing_marked =
      ap (λ (s : State). differences (looks_of (core_of s)) (looks_of (core_of new)))
      (painted_more first cells_painted).in_turn.after

  pub drawing_drawn : IsDrawnOn (core_of old) f (core_of new)
  drawing_drawn =
      subst (λ (s : State). IsDrawnOn (core_of old) f (core_of s)) (sym drawing_painted.after) (drawn_on old valid f)
