use Rattle.std.specs.Prelude.{if◌then◌else◌}
use Rattle.std.proofs.Common.{◌≡◌, ◌≤◌, ◌<◌, ◌+◌, ◌-◌, ◌==◌, ◌||◌, false, get_or, List, set, refl, sym, ap, subst, ◌∙◌, arith}
use Rattle.std.proofs.lemmas.Bool.{or_left, true≢false}
use Rattle.cept_codes.specs.declared.look.Look.{Look}
use Rattle.cept_codes.specs.Table.{entry}
use Rattle.cept_codes.proofs.Laws.{entry_from}
use Rattle.cept_profile.specs.Edges.{Edges, edges_of_core, is_last}
use Rattle.cept_profile.specs.Look.{looks_of}
use Rattle.cept_profile.specs.RowsFromAbove.{looks_in}
use Rattle.cept_profile.specs.State.{Core}
use Rattle.cept_redraw.specs.declared.passed_rows.Passed.{Passed}
use Rattle.cept_redraw.specs.inside.Due.{came_from, is_covered_from, is_due, row_from}
use Rattle.cept_redraw.specs.Kept.{core_on}
use Rattle.cept_redraw.specs.inside.Kept.{HasMarkedRow, is_other_above, row_beneath}
use Rattle.cept_redraw.specs.inside.Passed.{stood_in, HavePassed}
use Rattle.cept_redraw.proofs.MovedRows.{HavePassed-more, MovedTo-as, MovedTo-cost, MovedTo-first, MovedTo-looks, MovedTo-marks}
use Rattle.cept_redraw.proofs.MovedRows.{MovedTo, MovedTo-more, MovedTo-stood, RowMade-due, RowMade-undue, asked_covered, asked_stood}
use Rattle.cept_redraw.proofs.MovedRows.{came_low, came_read, covered_is, moved_due, stood_is}
use Rattle.cept_redraw.proofs.picture.Picture.move_rows.Goals as goal
use Rattle.cept_redraw.proofs.picture.Picture.move_rows.Goals.{else-flags-at, else-is_covered, then-flags-at, then-is_covered}

pub loop-row-init : goal.loop-row-init
loop-row-init g c = record {
  above = refl;
  passed = λ _. record { near = c.begin.ensures; far = λ low. absurd (omega (arith, low)) };
  walked = λ k _.
      MovedTo-first c.args.flags.now c.args.rows.now (core_on k c.args.self.now.page) c.args.self.now.looks
      c.args.marks.now c.args.steps.now c.whole_by_type.ensures c.requires.may.none;
}

pub is_covered-requires : goal.is_covered-requires
is_covered-requires g c =
    let low = came_low c.args.rows.now c.requires.low c.loop-row.row c.came_from-from.result c.loop-row.auto.row (omega arith)
    (came_read c.args.rows.now c.loop-row.row c.from-at.result c.came_from-from.result c.index-rows-at.result
    c.requires.rows c.loop-row.auto.row (omega arith) c.from-at.ensures (c.came_from-from.ensures
    ∙ ap (came_from (get_or c.args.rows.now (c.from-at.result - 1) c.index-rows-at.result).from) c.numbered-here.ensures)) in
    omega (arith, low, c.numbered-here.ensures)

pub stood-requires-clause-passed : goal.stood-requires-clause-passed
stood-requires-clause-passed g c =
    let low = came_low c.args.rows.now c.requires.low c.loop-row.row c.came_from-from.result c.loop-row.auto.row (omega arith)
    (came_read c.args.rows.now c.loop-row.row c.from-at.result c.came_from-from.result c.index-rows-at.result
    c.requires.rows c.loop-row.auto.row (omega arith) c.from-at.ensures (c.came_from-from.ensures
    ∙ ap (came_from (get_or c.args.rows.now (c.from-at.result - 1) c.index-rows-at.result).from) c.numbered-here.ensures)) in
    omega (arith, low, c.numbered-here.ensures, c.number.ensures)

pub bring_row-requires : goal.bring_row-requires
bring_row-requires g c =
    let low = came_low c.args.rows.now c.requires.low c.loop-row.row c.came_from-from.result c.loop-row.auto.row (omega arith)
    (came_read c.args.rows.now c.loop-row.row c.from-at.result c.came_from-from.result c.index-rows-at.result
    c.requires.rows c.loop-row.auto.row (omega arith) c.from-at.ensures (c.came_from-from.ensures
    ∙ ap (came_from (get_or c.args.rows.now (c.from-at.result - 1) c.index-rows-at.result).from) c.numbered-here.ensures)) in
    omega (arith, low, c.numbered-here.ensures)

pub loop-row-preserved : goal.loop-row-preserved
loop-row-preserved g c =
    let row = c.loop-row.row in
    let rows = c.args.rows.now in
    let flags = c.args.flags.now in
    let was = c.args.self.now.looks in
    let page = c.args.self.now.page in
    let now = c.loop-row.looks in
    let from = c.came_from-from.result in
    let back = c.one_looks_back-back.result in
    let tw = c.whole_by_type.ensures in
    let m = c.loop-row.invariant in
    let top : 1 ≤ row = c.loop-row.auto.row in
    let bottom : row ≤ 24 = omega arith in
    let came : from ≡ came_from (row_from rows row) row =
    came_read rows row c.from-at.result from c.index-rows-at.result c.requires.rows top bottom c.from-at.ensures
    (c.came_from-from.ensures
    ∙ ap (came_from (get_or c.args.rows.now (c.from-at.result - 1) c.index-rows-at.result).from) c.numbered-here.ensures) in
    let low : row ≤ from + 1 = came_low rows c.requires.low row from top bottom came in
    let flag : get_or flags (c.from-at.result - 1) false ≡ entry false 1 flags row =
    ap (λ n. get_or flags (n - 1) false) c.from-at.ensures ∙ sym (entry_from false 1 flags row top) in
    let stood_passed : from < row → HavePassed was c.loop-row.passed row = λ before.
    m.passed (asked_stood rows back c.one_looks_back-back.ensures row from c.loop-row.above top bottom came m.above before) in
    let stands : (k : Core) → edges_of_core k ≡ c.args.edges.now
    → stood_in c.loop-row.passed now row from ≡ looks_in was from = λ k same. stood_is (m.walked k same) tw top c.loop-row.passed from (omega (arith, low))
    (omega (arith, c.number-above.ensures.in_range)) stood_passed in
    let one = m.walked c.requires.may.others.of_core.0 c.requires.may.others.of_core.1 in
    let due : (k : Core) → edges_of_core k ≡ c.args.edges.now
    → c.if-flags-at.value ≡ is_due flags rows was (looks_of (core_on k page)) row = λ k same. elim c.if-flags-at.branch [
      | then-flags-at w ↦
          w.value-is ∙ w.if-flags-at.true
          ∙ sym (or_left (entry false 1 flags row)
          (is_covered_from was (row_from rows row) (looks_of (core_on k page)) row) (sym flag ∙ w.if-flags-at.true))
      | else-flags-at w ↦
          w.value-is
          ∙ ap (λ b. b || w.is_covered.result) (sym w.if-flags-at.false)
          ∙ moved_due (m.walked k same) top bottom from (get_or flags (c.from-at.result - 1) false) w.is_covered.result
          flag came
          (w.is_covered.ensures
          ∙ ap (λ n. if (from - 1 == c.loop-row.above) then c.loop-row.covered else is_other_above
          (stood_in c.loop-row.passed now n (from - 1)) (looks_in now (n - 1))) c.numbered-here.ensures
          ∙ covered_is (m.walked k same) tw top bottom c.loop-row.passed from
          c.number-above.ensures.in_range low
          (λ before apart. m.passed (asked_covered rows back c.one_looks_back-back.ensures row from c.loop-row.above top
          bottom came m.above
          (λ none. true≢false (sym (flag ∙ c.requires.freed row top bottom none) ∙ w.if-flags-at.false))
          (omega (arith, c.number-above.ensures.in_range)) before apart)))
          (c.requires.freed row top bottom)
    ] in
    record {
      above = c.number-above.ensures.number ∙ came ∙ ap (λ n. came_from (row_from rows n) n) (let back : row ≡ row + 1 - 1 = omega arith in back);
      passed = λ so. elim c.if-is_covered.branch [
        | then-is_covered w ↦
            subst (λ (p : Passed). HavePassed was p (row + 1)) (sym w.passed-is)
            (HavePassed-more (m.passed so)
            (w.take_anew.ensures.near so ∙ ap (looks_in now) c.numbered-here.ensures ∙ MovedTo-stood one tw top bottom)
            (w.take_anew.ensures.far so))
        | else-is_covered w ↦
            subst (λ (p : Passed). HavePassed was p (row + 1)) (sym w.passed-is)
            (HavePassed-more (m.passed so)
            (w.bring_row.ensures.near so ∙ ap (looks_in now) c.numbered-here.ensures ∙ MovedTo-stood one tw top bottom)
            (w.bring_row.ensures.far so))
      ];
      walked = λ k same. subst (λ n. MovedTo flags rows (core_on k page) was c.if-is_covered.looks c.if-is_covered.marks
          c.if-is_covered.covered n c.args.steps.now c.if-is_covered.steps (row + 1)) (sym c.number-above.ensures.number)
          (elim c.if-is_covered.branch [
            | then-is_covered w ↦
                let fresh = w.resolve_row.new.looks in
                let kept = w.take_anew.ensures.kept ∙ ap (λ n. set now (n - 1) fresh) c.numbered-here.ensures in
                MovedTo-as w.looks-is w.marks-is w.covered-is w.steps-is
                (MovedTo-more (m.walked k same) tw top bottom
                (RowMade-due (m.walked k same) top bottom (sym (due k same) ∙ w.if-is_covered.true)
                w.is_last.result (w.is_last.ensures ∙ ap (λ (e : Edges). is_last e row) (sym same)) fresh
                (w.resolve_row.ensures.looks
                ∙ ap (λ (above : List Look). row_beneath above page c.numbered-here.result w.is_last.result) w.above.ensures
                ∙ ap (λ n. row_beneath (looks_in now (n - 1)) page n w.is_last.result) c.numbered-here.ensures)
                w.take_anew.new.kept kept from w.covers_otherwise-covered.result
                (w.covers_otherwise-covered.ensures
                ∙ ap (λ (l : List Look). is_other_above l fresh) (w.stood.ensures
                ∙ (λ i. stood_in c.loop-row.passed now (c.numbered-here.ensures i) (w.number.ensures.number i)) ∙ stands k same))
                w.resolve_row.new.steps w.resolve_row.ensures.tick)
                w.take_anew.new.marks fresh kept
                (subst (λ n. HasMarkedRow (looks_in now n) fresh n 41 c.loop-row.marks w.take_anew.new.marks)
                c.numbered-here.ensures w.take_anew.ensures.marked))
            | else-is_covered w ↦
                let fresh = stood_in c.loop-row.passed now row from in
                let kept = w.bring_row.ensures.kept
                ∙ ap (λ n. set now (n - 1) (stood_in c.loop-row.passed now n from)) c.numbered-here.ensures in
                MovedTo-as w.looks-is w.marks-is w.covered-is w.steps-is
                (MovedTo-more (m.walked k same) tw top bottom
                (RowMade-undue (m.walked k same) tw top bottom (sym (due k same) ∙ w.if-is_covered.false) from
                c.number-above.ensures.in_range came (c.requires.may.others.stay k same) fresh (stands k same)
                w.bring_row.new.kept kept)
                w.bring_row.new.marks fresh kept
                (subst (λ n. HasMarkedRow (looks_in now n) (stood_in c.loop-row.passed now n from) n 41 c.loop-row.marks
                w.bring_row.new.marks) c.numbered-here.ensures w.bring_row.ensures.marked))
          ]);
    }

pub returns : goal.returns
returns g c = record {
  rest = record { page = refl; names = refl };
  refreshed =
      let walked = c.loop-row.invariant.walked in
      let one = walked c.requires.may.others.of_core.0 c.requires.may.others.of_core.1 in
      record {
        looks = λ k same. MovedTo-looks (walked k same) (omega arith);
        marks = MovedTo-marks one (omega arith);
        cost = MovedTo-cost one (omega arith);
      };
}
