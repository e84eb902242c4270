use Rattle.std.proofs.Common.{refl, ap, ◌∙◌}
use Rattle.cept_codes.specs.declared.cell.What.TheVariants as whats
use Rattle.cept_codes.specs.declared.look.Shape.TheVariants as shapes
use Rattle.cept_profile.specs.Look.{shape_in}
use Rattle.cept_profile.specs.PageParts.{paint_in}
use Rattle.cept_profile.specs.Serial.{row_in}
use Rattle.cept_rows.specs.inside.Brush.{small_shape}
use Rattle.cept_rows.proofs.Signs.{held_found}
use Rattle.cept_rows.proofs.WalkedRows.{look_of_marked, size_of_own, space_with_sign}
use Rattle.cept_rows.proofs.walk.Walk.look_of_marker.Goals as goal

pub sign_held-sign-requires : goal.sign_held-sign-requires
sign_held-sign-requires c =
    held_found (row_in c.args.source.now.cells) c.args.column c.mark-at_once.result.held c.mark-at_once.ensures.held

pub returns-then-at_once : goal.returns-then-at_once
returns-then-at_once c =
    let source = c.args.source.now in
    let full = c.mark-at_once.new.influence.full in
    let there = c.mark-at_once.ensures.at_once c.if-at_once.true in
    record {
      own = record {
        look = look_of_marked source.defined (row_in source.cells) source.row_pen source.screen_pen c.args.column
            c.args.marker c.mark-at_once.result.held full _ c.requires.there c.mark-at_once.ensures.held there
            (space_with_sign (paint_in source.defined.paints)
            (shape_in source.defined (whats.Marker c.args.marker) c.mark-at_once.result.held) full c.small_with-self.result
            c.sign_held-sign.result
            (c.small_with-self.ensures shapes.Space refl ∙ ap (λ f. small_shape source shapes.Space f) c.full-2.ensures)
            (c.sign_held-sign.ensures source.defined c.args.marker));
        size = size_of_own (row_in source.cells) source.row_pen source.screen_pen c.args.column
            (whats.Marker c.args.marker) full full c.full-then-at_once.result.now.size c.requires.there there refl
            (ap (λ f. f.size) c.full-then-at_once.ensures);
      };
      walk = record {
        influence = c.mark-at_once.ensures.carried;
        valid = c.mark-at_once.ensures.valid c.requires.walk.valid;
        space = c.small_with-self.ensures shapes.Space refl
            ∙ ap (λ f. small_shape c.args.source.now shapes.Space f) c.full-2.ensures;
        brush = c.requires.walk.brush;
      };
    }

pub returns : goal.returns
returns c =
    let source = c.args.source.now in
    let full = c.args.self.now.influence.full in
    let there = c.mark-at_once.ensures.later c.if-at_once.false in
    record {
      own = record {
        look = look_of_marked source.defined (row_in source.cells) source.row_pen source.screen_pen c.args.column
            c.args.marker c.mark-at_once.result.held full _ c.requires.there c.mark-at_once.ensures.held there
            (space_with_sign (paint_in source.defined.paints)
            (shape_in source.defined (whats.Marker c.args.marker) c.mark-at_once.result.held) full c.args.self.now.space
            c.sign_held-sign.result c.requires.walk.space (c.sign_held-sign.ensures source.defined c.args.marker));
        size = size_of_own (row_in source.cells) source.row_pen source.screen_pen c.args.column
            (whats.Marker c.args.marker) full full c.full.result.now.size c.requires.there there refl
            (ap (λ f. f.size) c.full.ensures);
      };
      walk = record {
        influence = c.mark-at_once.ensures.carried;
        valid = c.mark-at_once.ensures.valid c.requires.walk.valid;
        space = c.small_with-self.ensures shapes.Space refl
            ∙ ap (λ f. small_shape c.args.source.now shapes.Space f) c.full-2.ensures;
        brush = c.requires.walk.brush;
      };
    }
