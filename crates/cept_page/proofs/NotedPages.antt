-- What is noted before a stroke leaves the page to which it unwinds.
use Rattle.std.proofs.Common.{◌≡◌, Option, Some, None, refl, ap, ◌∙◌}
use Rattle.std.specs.Prelude.{option_map}
use Rattle.cept_codes.specs.declared.stroke.Stroke.{Stroke}
use Rattle.cept_codes.specs.declared.stroke.Stroke.TheVariants as strokes
use Rattle.cept_profile.specs.Control.{ControlState}
use Rattle.cept_profile.specs.NotedStrokes.{with_stroke}
use Rattle.cept_profile.specs.OldValues.{OldValues, page_unwound}
use Rattle.cept_profile.specs.State.{Page}
use Rattle.cept_profile.proofs.Laws.{page_unwound-stroke}
use Rattle.cept_page.specs.Drawn.{IsDrawn}
use Rattle.cept_page.specs.Behind.{PageBehind, page_behind}

-- what a stroke changes isn't control
control-with_stroke : (p : Page) (stroke : Stroke) (old : OldValues) → (with_stroke p stroke old).control ≡ old.control
control-with_stroke p (strokes.Put place cell) old = refl
control-with_stroke p (strokes.Erase row from) old = refl
control-with_stroke p strokes.Wipe old = refl
control-with_stroke p (strokes.Shift first last way) old = refl
control-with_stroke p (strokes.Carry first last way) old = refl
control-with_stroke p (strokes.RowAttr row attr) old = refl
control-with_stroke p (strokes.ScreenAttr attr) old = refl
control-with_stroke p strokes.ScreenClear old = refl
control-with_stroke p (strokes.Colour i paint) old = refl
control-with_stroke p (strokes.Dclut i v) old = refl
control-with_stroke p strokes.ColourDefaults old = refl
control-with_stroke p strokes.DrcsClear old = refl
control-with_stroke p (strokes.Drcs code pattern) old = refl
control-with_stroke p (strokes.Format rows) old = refl

abbrev behind_with : Page → Option ControlState → PageBehind
behind_with p k = record { page = p; control = k }

-- what a stroke changes is noted before it is drawn: to what the page unwinds stays
pub page_behind-stroke : (before after : Option OldValues) (p : Page) (stroke : Stroke) (q : Page) → IsDrawn p stroke q
    → after ≡ option_map (with_stroke p stroke) before → page_behind after q ≡ page_behind before p
unfolding page_behind
page_behind-stroke None after p stroke q is noted = ap (λ o. page_behind o q) noted
page_behind-stroke (Some old) after p stroke q is noted =
    ap (λ o. page_behind o q) noted
    ∙ ap (λ (b : Page). Some (behind_with b (with_stroke p stroke old).control))
    (page_unwound-stroke p stroke q old (record {
      cells = is.cells;
      row_pens = is.row_pens;
      screen_pen = is.screen_pen;
      paints = is.paints;
      dclut = is.dclut;
      patterns = is.patterns;
    }))
    ∙ ap (λ (k : Option ControlState). Some (behind_with (page_unwound p old) k))
    (control-with_stroke p stroke old)
