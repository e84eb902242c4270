use Rattle.std.proofs.Common.{◌≡◌, [], arith, refl, subst, sym, ap, ◌∙◌}
use Rattle.cept_codes.specs.Table.{list_by_index}
use Rattle.cept_profile.specs.Edges.{edges_of_core}
use Rattle.cept_profile.specs.Reach.{is_redefined}
use Rattle.cept_profile.specs.State.{Core, Page}
use Rattle.cept_profile.specs.Valid.{IsValidPage}
use Rattle.cept_page.specs.Behind.{page_behind}
use Rattle.cept_redraw.specs.inside.Due.{at_rest}
use Rattle.cept_redraw.specs.Kept.{core_on}
use Rattle.cept_redraw.specs.Named.{AreNamedOn, NamesOfRows}
use Rattle.cept_redraw.specs.inside.Named.{AreAllKnown}
use Rattle.cept_redraw.proofs.RedefinedPlaces.{OtherPlacesStay-defined}
use Rattle.cept_redraw.proofs.RedefinedRows.{AreNamedOn-defined, OtherRowsStay-defined, came_defined, defined_cores}
use Rattle.cept_redraw.proofs.RedefinedRows.{rows_due-defined}
use Rattle.cept_redraw.proofs.RowsRenewed.{rows_renewed-due, rows_renewed-unmoved}
use Rattle.cept_redraw.proofs.picture.Picture.redraw_defined.Goals as goal

pub refresh_redefined-requires-clause-may : goal.refresh_redefined-requires-clause-may
refresh_redefined-requires-clause-may g c = record {
  none = c.requires.none;
  others =
      record {
        valid = subst (λ (p : Page). IsValidPage p) (sym c.draw_all.ensures.drawn) c.requires.may.strokes.valid;
        of_core = c.requires.may.kept.of_core;
        stay = OtherRowsStay-defined c.args.self.now.page c.draw_all.new.self c.args.strokes.now c.args.edges.now
            c.args.self.now.looks c.rows_redefined-redefined.result c.requires.may.kept.valid c.requires.may.strokes.each
            c.requires.may.kept.looks c.draw_all.ensures.drawn c.requires.define
            (λ k same. c.rows_redefined-redefined.ensures k (c.requires.may.kept.looks k same)
            (c.find.ensures.named k (c.requires.may.kept.looks k same) (c.requires.may.kept.named k same)));
      };
}

pub refresh_redefined-requires-clause-places : goal.refresh_redefined-requires-clause-places
refresh_redefined-requires-clause-places g c =
    OtherPlacesStay-defined c.args.self.now.page c.draw_all.new.self c.args.strokes.now c.args.edges.now
    c.args.self.now.looks c.find.new.self c.requires.may.kept.valid
    (subst (λ (p : Page). IsValidPage p) (sym c.draw_all.ensures.drawn) c.requires.may.strokes.valid)
    c.requires.may.strokes.each c.requires.may.kept.of_core c.requires.may.kept.looks c.draw_all.ensures.drawn c.requires.define
    c.find.ensures.known (λ k same. c.find.ensures.named k (c.requires.may.kept.looks k same) (c.requires.may.kept.named k same))

pub returns-clause-done : goal.returns-clause-done
returns-clause-done g c = record {
  redrawn =
      let rest = c.refresh_redefined.ensures.rest in
      record {
        page = rest.page ∙ c.draw_all.ensures.drawn;
        kept = record {
          valid = subst (λ (p : Page). IsValidPage p) (sym (rest.page ∙ c.draw_all.ensures.drawn))
              c.requires.may.strokes.valid;
          of_core = c.requires.may.kept.of_core;
          looks = c.refresh_redefined.ensures.refreshed.looks;
          named = subst (λ (n : NamesOfRows). AreNamedOn n c.refresh_redefined.new.self.page c.args.edges.now)
              (sym rest.names)
              (subst (λ (p : Page). AreNamedOn c.find.new.self p c.args.edges.now) (sym rest.page)
              (AreNamedOn-defined c.args.self.now.page c.draw_all.new.self c.args.strokes.now c.args.edges.now
              c.find.new.self c.requires.may.kept.valid c.requires.may.strokes.each c.draw_all.ensures.drawn c.requires.define
              (λ k same. c.find.ensures.named k (c.requires.may.kept.looks k same) (c.requires.may.kept.named k same))));
        };
        marks = c.refresh_redefined.ensures.refreshed.marks;
      };
  ticks =
      let rest = c.refresh_redefined.ensures.rest in
      let after = rest.page ∙ c.draw_all.ensures.drawn in
      let found : (k : Core) → edges_of_core k ≡ c.args.edges.now
      → c.rows_redefined-redefined.result
      ≡ list_by_index 1 24 (is_redefined (core_on k c.args.self.now.page) c.args.strokes.now) =
      λ k same. c.rows_redefined-redefined.ensures k (c.requires.may.kept.looks k same)
      (c.find.ensures.named k (c.requires.may.kept.looks k same) (c.requires.may.kept.named k same)) in
      let core = c.requires.may.kept.of_core.0 in
      let is = c.requires.may.kept.of_core.1 in
      record {
        cost = λ k m ek em. omega (
          arith,
          c.refresh_redefined.ensures.refreshed.cost,
          rows_due-defined c.args.self.now.page c.refresh_redefined.new.self.page c.args.strokes.now c.args.edges.now
              c.args.self.now.looks c.refresh_redefined.new.self.looks c.rows_redefined-redefined.result
              c.requires.may.kept.valid c.requires.may.strokes.each c.requires.may.kept.looks
              c.refresh_redefined.ensures.refreshed.looks after c.requires.define found k m ek em,
        );
        least = omega (
          arith,
          c.refresh_redefined.ensures.refreshed.cost,
          rows_renewed-unmoved c.args.strokes.now c.args.self.now.looks c.refresh_redefined.new.self.looks
              (came_defined (defined_cores c.args.self.now.page c.refresh_redefined.new.self.page c.args.strokes.now core
              core c.args.edges.now c.requires.may.kept.valid c.requires.may.strokes.each after c.requires.define is is)),
          rows_renewed-due [] c.rows_redefined-redefined.result at_rest c.args.self.now.looks
              c.refresh_redefined.new.self.looks (core_on core c.refresh_redefined.new.self.page) refl
              (c.refresh_redefined.ensures.refreshed.looks core is)
              (OtherRowsStay-defined c.args.self.now.page c.refresh_redefined.new.self.page c.args.strokes.now
              c.args.edges.now c.args.self.now.looks c.rows_redefined-redefined.result c.requires.may.kept.valid
              c.requires.may.strokes.each c.requires.may.kept.looks after c.requires.define found core is),
        );
      };
  noted =
      record {
        unwound = ap (λ (p : Page). page_behind (g.N.Noter.noted c.draw_all.new.noter) p)
            c.refresh_redefined.ensures.rest.page ∙ c.draw_all.ensures.unwound;
        noted = c.draw_all.ensures.noted;
      };
}

pub returns-clause-known : goal.returns-clause-known
returns-clause-known g c =
    subst (λ (n : NamesOfRows). AreAllKnown n) (sym c.refresh_redefined.ensures.rest.names) c.find.ensures.known
