use Rattle.std.proofs.Common.{refl, ap, rules, sym, ◌∙◌}
use Rattle.cept_codes.specs.declared.cell.What.TheVariants as whats
use Rattle.cept_profile.specs.PageParts.{paint_in}
use Rattle.cept_profile.specs.Serial.{row_in}
use Rattle.cept_rows.specs.inside.Brush.{attributes_by, space_by}
use Rattle.cept_rows.proofs.WalkedRows.{look_of_cell, size_of_own, space_with_sign}
use Rattle.cept_rows.proofs.walk.Walk.look.Goals as goal

pub returns-in-Blank : goal.returns-in-Blank
returns-in-Blank c =
    let source = c.args.source.now in
    let full = c.args.self.now.influence.full in
    let there = sym c.what.ensures.what ∙ c.in-Blank.is in
    record {
      own = record {
        look = look_of_cell source.defined (row_in source.cells) source.row_pen source.screen_pen c.args.column
            whats.Blank full full c.args.self.now.space there refl c.pass.ensures.full refl c.requires.space;
        size = size_of_own (row_in source.cells) source.row_pen source.screen_pen c.args.column whats.Blank full full
            c.full.result.now.size there c.pass.ensures.full refl (ap (λ f. f.size) c.full.ensures);
      };
      walk = (search rules);
    }

pub returns-in-Serial : goal.returns-in-Serial
returns-in-Serial c =
    let source = c.args.source.now in
    let full = c.args.self.now.influence.full in
    let there = sym c.what.ensures.what ∙ c.in-Serial.is in
    record {
      own = record {
        look = look_of_cell source.defined (row_in source.cells) source.row_pen source.screen_pen c.args.column
            (whats.Serial c.in-Serial.glyph) full full _ there refl c.pass-in-Serial.ensures.full refl
            (space_with_sign (paint_in source.defined.paints) _ full c.args.self.now.space c.sign_of_glyph.result
            c.requires.space c.sign_of_glyph.ensures);
        size = size_of_own (row_in source.cells) source.row_pen source.screen_pen c.args.column
            (whats.Serial c.in-Serial.glyph) full full c.full-in-Serial.result.now.size there
            c.pass-in-Serial.ensures.full refl (ap (λ f. f.size) c.full-in-Serial.ensures);
      };
      walk = (search rules);
    }

pub returns-in-Parallel : goal.returns-in-Parallel
returns-in-Parallel c =
    let source = c.args.source.now in
    let full = attributes_by source c.in-Parallel.pen in
    let there = sym c.what.ensures.what ∙ c.in-Parallel.is in
    record {
      own = record {
        look = look_of_cell source.defined (row_in source.cells) source.row_pen source.screen_pen c.args.column
            (whats.Parallel c.in-Parallel.glyph c.in-Parallel.pen) c.args.self.now.influence.full full _ there refl
            c.pass-in-Parallel.ensures.full refl
            (space_with_sign (paint_in source.defined.paints) _ full c.take_up.new.brush.space
            c.sign_of_glyph-in-Parallel.result
            (c.take_up.ensures.is.space ∙ ap (λ p. space_by source p) c.take_up.ensures.held)
            c.sign_of_glyph-in-Parallel.ensures);
        size = size_of_own (row_in source.cells) source.row_pen source.screen_pen c.args.column
            (whats.Parallel c.in-Parallel.glyph c.in-Parallel.pen) c.args.self.now.influence.full full
            c.take_up.new.brush.size there c.pass-in-Parallel.ensures.full refl
            (c.take_up.ensures.is.size ∙ ap (λ p. (attributes_by source p).size) c.take_up.ensures.held);
      };
      walk = (search rules);
    }
