use Rattle.std.proofs.Common.{false, List, sym, subst, ◌∙◌}
use Rattle.cept_codes.specs.declared.cell.Cell.{Cell}
use Rattle.cept_codes.specs.Cell.{IsValidWhat}
use Rattle.cept_codes.specs.Place.{OnScreen}
use Rattle.cept_profile.specs.Serial.{row_in}
use Rattle.cept_redraw.proofs.resolved_rows.row_source.Goals as goal

pub new-requires-clause-cells : goal.new-requires-clause-cells
new-requires-clause-cells c = λ column low high.
    let on : OnScreen c.args.row column = record {
      from_top = c.cells.ensures.on_screen.0;
      to_bottom = c.cells.ensures.on_screen.1;
      from_left = low;
      to_right = high;
    } in
    subst (λ (cells : List Cell). IsValidWhat (row_in cells column)) (sym c.cells.ensures.cells)
    (c.requires.cells c.args.row column on)

pub returns : goal.returns
returns c =
    c.new.ensures ∙ (λ i. record {
      cells = c.cells.ensures.cells i;
      row_pen = c.row_pen.ensures.pen i;
      screen_pen = c.screen_pen.ensures.pen i;
      defined = record {
        paints = c.colours.ensures.paints i;
        dclut = c.colours.ensures.dclut i;
        patterns = c.patterns.ensures i;
      };
      last = false;
    })
