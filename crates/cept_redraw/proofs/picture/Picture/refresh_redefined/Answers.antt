use Rattle.std.proofs.Common.{◌≡◌, ◌-◌, ◌||◌, ◌&&◌, Bool, not, true, false, get_or, refl, sym, ap, subst, ◌∙◌, arith}
use Rattle.std.proofs.lemmas.Bool.{and_parts, or_left}
use Rattle.cept_codes.proofs.Laws.{entry_from}
use Rattle.cept_profile.specs.Edges.{Edges, edges_of_core, is_last}
use Rattle.cept_profile.specs.Look.{looks_of}
use Rattle.cept_profile.specs.RowsFromAbove.{is_covered_otherwise, looks_in}
use Rattle.cept_profile.specs.State.{Core, Page}
use Rattle.cept_profile.specs.Valid.{IsValidPage}
use Rattle.cept_page.specs.MarkedRows.{StandsAlone}
use Rattle.cept_redraw.specs.declared.picture.Picture.{Picture}
use Rattle.cept_redraw.specs.inside.Due.{at_rest, is_due}
use Rattle.cept_redraw.specs.Kept.{AreLooksOn, core_on}
use Rattle.cept_redraw.specs.inside.Picture.{IsRowRenewed}
use Rattle.cept_redraw.specs.inside.Kept.{IsRefreshedRow}
use Rattle.cept_redraw.specs.Named.{NamesOfRows, row_named}
use Rattle.cept_redraw.specs.inside.Redefined.{places_resolved}
use Rattle.cept_redraw.proofs.DrawnPictures.{HasSameRest-as, HasSameRest-more, IsRefreshedRow-on}
use Rattle.cept_redraw.proofs.RefreshedPlaces.{WalkedTo-places}
use Rattle.cept_redraw.proofs.RestingRows.{due-rest, row_from-rest}
use Rattle.cept_redraw.proofs.WalkedRows.{WalkedTo-as, WalkedTo-cost, WalkedTo-first, WalkedTo-kept, WalkedTo-looks}
use Rattle.cept_redraw.proofs.WalkedRows.{WalkedTo-marks, WalkedTo-more}
use Rattle.cept_redraw.proofs.picture.Picture.refresh_redefined.Given as given
use Rattle.cept_redraw.proofs.picture.Picture.refresh_redefined.Goals as goal
use Rattle.cept_redraw.proofs.picture.Picture.refresh_redefined.Goals.{then-alone, else-alone+then-flag-covered}
use Rattle.cept_redraw.proofs.picture.Picture.refresh_redefined.Goals.{else-alone+else-flag-covered}

pub loop-row-init : goal.loop-row-init
loop-row-init g c = record {
  rest = record { page = refl; names = refl };
  walked = λ k _.
      WalkedTo-first c.args.flags.now at_rest (core_on k c.args.self.now.page) c.args.self.now.looks c.args.marks.now
      c.args.steps.now c.whole_by_type.ensures c.requires.may.none;
}

pub refresh_places-requires-clause-valid : goal.refresh_places-requires-clause-valid
refresh_places-requires-clause-valid g c =
    subst (λ (p : Page). IsValidPage p) (sym c.loop-row.invariant.rest.page) c.requires.may.others.valid

pub refresh_row-covered-requires : goal.refresh_row-covered-requires
refresh_row-covered-requires g c =
    subst (λ (p : Page). IsValidPage p) (sym c.loop-row.invariant.rest.page) c.requires.may.others.valid

-- whether the row is due, as it is asked
due : (g : given.Over) (c : goal.Joined-alone g) (k : Core) → edges_of_core k ≡ c.args.edges.now
    → (get_or c.args.flags.now (c.from.result - 1) false || c.loop-row.covered)
    ≡ is_due c.args.flags.now at_rest c.args.self.now.looks (looks_of (core_on k c.args.self.now.page)) c.loop-row.row
due g c k same =
    (λ i. get_or c.args.flags.now (c.from.ensures i - 1) false || (c.loop-row.invariant.walked k same).covering i)
    ∙ ap (λ b. b || is_covered_otherwise c.args.self.now.looks c.loop-row.row
    (looks_of (core_on k c.args.self.now.page)) c.loop-row.row)
    (sym (entry_from false 1 c.args.flags.now c.loop-row.row c.loop-row.auto.row))
    ∙ sym (due-rest c.args.flags.now c.args.self.now.looks (looks_of (core_on k c.args.self.now.page)) c.loop-row.row
    c.loop-row.auto.row (omega arith))

unset : (b : Bool) → not b ≡ true → b ≡ false
unset true e = cc
unset false e = refl

pub loop-row-preserved : goal.loop-row-preserved
loop-row-preserved g c =
    let row = c.loop-row.row in
    let m = c.loop-row.invariant in
    record {
      rest = elim c.if-alone.branch [
        | then-alone w ↦ HasSameRest-as w.self-is (HasSameRest-more m.rest w.refresh_places.ensures.rest)
        | else-alone+then-flag-covered w ↦
            HasSameRest-as w.self-is (HasSameRest-more m.rest w.refresh_row-covered.ensures.rest)
        | else-alone+else-flag-covered w ↦ HasSameRest-as w.self-is m.rest
      ];
      walked = λ k same. elim c.if-alone.branch [
        | then-alone w ↦
            let flag = get_or c.args.flags.now (c.from.result - 1) false in
            let parts = and_parts (flag && not c.loop-row.covered) c.stands_alone.result w.if-alone.true in
            let both = and_parts flag (not c.loop-row.covered) parts.0 in
            let resolved = w.refresh_places in
            WalkedTo-as (ap (λ (p : Picture). p.looks) w.self-is) w.marks-is w.covered-is w.steps-is
            (WalkedTo-places k c.args.self.now.page (m.walked k same) c.whole_by_type.ensures c.loop-row.auto.row
            (omega arith) (sym (due g c k same) ∙ or_left flag c.loop-row.covered both.0)
            (unset c.loop-row.covered both.1) c.requires.may.others.valid
            (subst (λ n. StandsAlone c.args.self.now.page n) c.numbered-here.ensures
            (subst (λ (p : Page). StandsAlone p c.numbered-here.result) m.rest.page (c.stands_alone.ensures parts.1)))
            c.args.strokes.now
            c.args.self.now.names c.requires.places resolved.new.self.looks resolved.new.marks resolved.new.steps
            (subst (λ (n : NamesOfRows). IsRefreshedRow (places_resolved c.args.strokes.now (row_named n row)
            (looks_in c.loop-row.self.looks row) c.args.self.now.page row) row c.loop-row.self.looks
            resolved.new.self.looks c.loop-row.marks resolved.new.marks) m.rest.names
            (subst (λ (p : Page). IsRefreshedRow (places_resolved c.args.strokes.now
            (row_named c.loop-row.self.names row) (looks_in c.loop-row.self.looks row) p row) row c.loop-row.self.looks
            resolved.new.self.looks c.loop-row.marks resolved.new.marks) m.rest.page
            (subst (λ n. IsRefreshedRow (places_resolved c.args.strokes.now (row_named c.loop-row.self.names n)
            (looks_in c.loop-row.self.looks n) c.loop-row.self.page n) n c.loop-row.self.looks resolved.new.self.looks
            c.loop-row.marks resolved.new.marks) c.numbered-here.ensures resolved.ensures.refreshed)))
            resolved.ensures.tick)
        | else-alone+then-flag-covered w ↦
            let refreshed = w.refresh_row-covered in
            let renewed = subst (λ n. IsRowRenewed n w.is_last.result c.loop-row.self refreshed.new.self
            c.loop-row.marks refreshed.new.marks refreshed.result c.loop-row.steps refreshed.new.steps)
            c.numbered-here.ensures refreshed.ensures in
            WalkedTo-as (ap (λ (p : Picture). p.looks) w.self-is) w.marks-is w.covered-is w.steps-is
            (WalkedTo-more (m.walked k same) c.whole_by_type.ensures c.loop-row.auto.row (omega arith)
            (sym (due g c k same) ∙ w.if-flag-covered.true)
            w.is_last.result (w.is_last.ensures ∙ ap (λ (e : Edges). is_last e row) (sym same))
            refreshed.new.self.looks refreshed.new.marks refreshed.result refreshed.new.steps
            (IsRefreshedRow-on (looks_in c.loop-row.self.looks (row - 1)) row w.is_last.result c.loop-row.self.looks
            refreshed.new.self.looks c.loop-row.marks refreshed.new.marks c.args.self.now.page c.loop-row.self.page
            m.rest.page renewed.refreshed)
            renewed.covering renewed.tick)
        | else-alone+else-flag-covered w ↦
            WalkedTo-as (ap (λ (p : Picture). p.looks) w.self-is) w.marks-is w.covered-is w.steps-is
            (WalkedTo-kept (m.walked k same) c.whole_by_type.ensures c.loop-row.auto.row (omega arith)
            (c.requires.may.others.stay k same) (sym (due g c k same) ∙ w.if-flag-covered.false)
            (row_from-rest row c.loop-row.auto.row (omega arith)))
      ];
    }

pub returns : goal.returns
returns g c = record {
  rest = c.loop-row.invariant.rest;
  refreshed =
      let m = c.loop-row.invariant in
      let one = m.walked c.requires.may.others.of_core.0 c.requires.may.others.of_core.1 in
      record {
        looks = subst (λ (p : Page). AreLooksOn c.loop-row.self.looks p c.args.edges.now) (sym m.rest.page)
            (λ k same. WalkedTo-looks (m.walked k same) (omega arith));
        marks = WalkedTo-marks one c.requires.may.none;
        cost = WalkedTo-cost one (omega arith);
      };
}
