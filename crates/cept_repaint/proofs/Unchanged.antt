-- Looks that stay: no place is marked, nothing is painted and nothing told.
use Rattle.std.proofs.Common.{◌≡◌, ℕ, ◌≤◌, Bool, false, List, refl, subst}
use Rattle.cept_codes.specs.declared.look.Look.{Look}
use Rattle.cept_profile.specs.Changes.{changes_between, differences, grid_with_paints}
use Rattle.cept_redraw.specs.Marks.{is_marked, no_marks}
use Rattle.cept_redraw.proofs.Laws.{differences_none, is_marked-no_marks}
use Rattle.cept_repaint.specs.GlassState.{GlassState, Lists}
use Rattle.cept_repaint.proofs.PaintedInOrder.{PaintedSoFar-none, PaintedSoFar-grid, PaintedSoFar-marked_looks}

none_differs : (was now : List (List Look)) → was ≡ now → (n : ℕ) → 0 ≤ n → is_marked (differences was now) n ≡ false
none_differs was now e n _ =
    subst (λ (m : List Bool). is_marked m n ≡ false) (differences_none was now no_marks refl e) (is_marked-no_marks n)

pub unchanged_grid : (was now : List (List Look)) (s : GlassState) → was ≡ now
    → s.grid ≡ grid_with_paints s.grid (changes_between was now)
unchanged_grid was now s e =
    PaintedSoFar-grid (PaintedSoFar-none (differences was now) now s) (none_differs was now e)

pub unchanged_told : (was now : List (List Look)) (s : GlassState) → was ≡ now
    → Lists s.paints (changes_between was now) s.paints
unchanged_told was now s e =
    PaintedSoFar-marked_looks (PaintedSoFar-none (differences was now) now s) (none_differs was now e)
