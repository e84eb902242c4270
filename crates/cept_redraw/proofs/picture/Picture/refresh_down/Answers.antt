use Rattle.std.proofs.Common.{◌≡◌, ℕ, ◌+◌, ◌-◌, ◌≤◌, Bool, true, false, not, refl, sym, ap, subst, ◌∙◌, arith}
use Rattle.cept_profile.specs.Edges.{Edges, edges_of_core, is_last}
use Rattle.cept_profile.specs.RowsFromAbove.{look_seen, looks_in}
use Rattle.cept_profile.specs.State.{Core, Page}
use Rattle.cept_profile.specs.Tiling.{column_entry}
use Rattle.cept_profile.specs.Valid.{IsValidPage}
use Rattle.cept_rows.specs.RowsByCell.{FollowsToTheRight}
use Rattle.cept_codes.specs.Look.{blank_look}
use Rattle.cept_redraw.specs.inside.Due.{at_rest}
use Rattle.cept_redraw.specs.Kept.{AreLooksOn, core_on}
use Rattle.cept_redraw.specs.inside.Kept.{IsLeftOf, IsRightOf, row_beneath}
use Rattle.cept_redraw.specs.inside.Picture.{IsRowRenewed}
use Rattle.cept_redraw.proofs.DrawnPictures.{HasSameRest-more, IsRefreshedRow-on}
use Rattle.cept_redraw.proofs.LeftOfColumns.{left_is}
use Rattle.cept_redraw.proofs.WalkedRows.{WalkedTo, WalkedTo-cost, WalkedTo-looks, WalkedTo-marks}
use Rattle.cept_redraw.proofs.WalkedDown.{WalkedDown-end, WalkedDown-first, WalkedDown-more, alone, right_is, seen_still}
use Rattle.cept_redraw.proofs.picture.Picture.refresh_down.Given as given
use Rattle.cept_redraw.proofs.picture.Picture.refresh_down.Goals as goal

pub loop-at-init : goal.loop-at-init
loop-at-init g c = record {
  rest = record { page = refl; names = refl };
  walked = λ k same.
      WalkedDown-first c.args.row (core_on k c.args.self.now.page) c.args.self.now.looks c.args.marks.now c.args.steps.now
      c.requires.from_top c.requires.to_bottom c.whole_by_type.ensures c.requires.none (c.requires.others.stay k same);
  left = λ column low below. omega (arith, below, c.numbered-first.ensures);
  until = λ same. omega arith;
  above = λ d past. refl;
}

not-true : (b : Bool) → not b ≡ true → b ≡ false
not-true true is = sym is
not-true false is = refl

not-false : (b : Bool) → not b ≡ false → b ≡ true
not-false true is = refl
not-false false is = sym is

-- whether the row is last, as it is asked
last_is : (edges : Edges) (row : ℕ) (last : Bool) → last ≡ is_last edges row → (k : Core) → edges_of_core k ≡ edges
    → last ≡ is_last (edges_of_core k) row
last_is edges row last asked k same = asked ∙ ap (λ (e : Edges). is_last e row) (sym same)

pub refresh_row_between-found-requires-clause-valid : goal.refresh_row_between-found-requires-clause-valid
refresh_row_between-found-requires-clause-valid g c =
    subst (λ (p : Page). IsValidPage p) (sym c.loop-at.invariant.rest.page) c.requires.others.valid

pub refresh_row_between-found-requires-clause-left : goal.refresh_row_between-found-requires-clause-left
refresh_row_between-found-requires-clause-left g c =
    let k = c.requires.others.of_core.0 in
    let same = c.requires.others.of_core.1 in
    let m = c.loop-at.invariant in
    subst (λ n. IsLeftOf c.loop-at.first (looks_in c.loop-at.self.looks n)
    (row_beneath (looks_in c.loop-at.self.looks (n - 1)) c.loop-at.self.page n c.is_last-last.result))
    (sym c.numbered-here.ensures)
    (subst (λ (p : Page). IsLeftOf c.loop-at.first (looks_in c.loop-at.self.looks c.loop-at.at)
    (row_beneath (looks_in c.loop-at.self.looks (c.loop-at.at - 1)) p c.loop-at.at c.is_last-last.result))
    (sym m.rest.page)
    (left_is (m.walked k same).walked (omega (arith, c.requires.from_top, c.loop-at.auto.at)) (omega arith)
    c.loop-at.first (λ column low below. omega (arith, m.left column low below, c.requires.to_right, c.loop-at.auto.at))
    (λ column on below. c.requires.around.left k same c.loop-at.at column on (m.left column on.from_left below))
    c.is_last-last.result (last_is c.args.edges.now c.loop-at.at c.is_last-last.result c.is_last-last.ensures k same)))

pub refresh_row_between-found-requires-clause-right : goal.refresh_row_between-found-requires-clause-right
refresh_row_between-found-requires-clause-right g c =
    let k = c.requires.others.of_core.0 in
    let same = c.requires.others.of_core.1 in
    let m = c.loop-at.invariant in
    subst (λ n. FollowsToTheRight c.loop-at.end
    (column_entry blank_look (looks_in c.loop-at.self.looks n))
    (column_entry blank_look
    (row_beneath (looks_in c.loop-at.self.looks (n - 1)) c.loop-at.self.page n c.is_last-last.result)))
    (sym c.numbered-here.ensures)
    (subst (λ (p : Page). FollowsToTheRight c.loop-at.end
    (column_entry blank_look (looks_in c.loop-at.self.looks c.loop-at.at))
    (column_entry blank_look
    (row_beneath (looks_in c.loop-at.self.looks (c.loop-at.at - 1)) p c.loop-at.at c.is_last-last.result)))
    (sym m.rest.page)
    (right_is (m.walked k same) c.whole_by_type.ensures (omega (arith, c.requires.from_top, c.loop-at.auto.at))
    (omega arith) c.args.until c.loop-at.end (c.requires.around.beside k same) m.until m.above c.is_last-last.result
    (last_is c.args.edges.now c.loop-at.at c.is_last-last.result c.is_last-last.ensures k same)))

-- where this row covers nothing otherwise, the walk is at its end
ended : (g : given.Over) (c : goal.Then-not-found g) (k : Core) → edges_of_core k ≡ c.args.edges.now
    → WalkedTo (alone c.args.row) at_rest (core_on k c.args.self.now.page) c.args.self.now.looks
    c.refresh_row_between-found.new.self.looks c.args.marks.now c.refresh_row_between-found.new.marks false c.args.steps.now
    c.refresh_row_between-found.new.steps 25
ended g c k same =
    let found = c.refresh_row_between-found in
    let renewed = subst (λ n. IsRowRenewed n c.is_last-last.result c.loop-at.self found.new.self c.loop-at.marks found.new.marks
    found.result.covering c.loop-at.steps found.new.steps) c.numbered-here.ensures found.ensures.row in
    WalkedDown-end (c.loop-at.invariant.walked k same) c.whole_by_type.ensures
    (omega (arith, c.requires.from_top, c.loop-at.auto.at)) (omega arith) c.loop-at.auto.at (c.requires.others.stay k same)
    c.is_last-last.result (last_is c.args.edges.now c.loop-at.at c.is_last-last.result c.is_last-last.ensures k same)
    found.new.self.looks found.new.marks found.result.covering found.new.steps
    (IsRefreshedRow-on (looks_in c.loop-at.self.looks (c.loop-at.at - 1)) c.loop-at.at c.is_last-last.result
    c.loop-at.self.looks found.new.self.looks c.loop-at.marks found.new.marks c.args.self.now.page c.loop-at.self.page
    c.loop-at.invariant.rest.page renewed.refreshed) renewed.covering renewed.tick (not-true
    found.result.covering c.if-not-found.true)

pub returns-then-not-found : goal.returns-then-not-found
returns-then-not-found g c = record {
  rest = HasSameRest-more c.loop-at.invariant.rest c.refresh_row_between-found.ensures.row.rest;
  refreshed =
      let rest = HasSameRest-more c.loop-at.invariant.rest c.refresh_row_between-found.ensures.row.rest in
      let one = ended g c c.requires.others.of_core.0 c.requires.others.of_core.1 in
      record {
        looks = subst (λ (p : Page). AreLooksOn c.refresh_row_between-found.new.self.looks p c.args.edges.now)
            (sym rest.page) (λ k same. WalkedTo-looks (ended g c k same) (omega arith));
        marks = WalkedTo-marks one c.requires.none;
        cost = WalkedTo-cost one (omega arith);
      };
}

pub loop-at-preserved : goal.loop-at-preserved
loop-at-preserved g c =
    let m = c.loop-at.invariant in
    let found = c.refresh_row_between-found in
    let renewed = subst (λ n. IsRowRenewed n c.is_last-last.result c.loop-at.self found.new.self c.loop-at.marks found.new.marks
    found.result.covering c.loop-at.steps found.new.steps) c.numbered-here.ensures found.ensures.row in
    let top : 1 ≤ c.loop-at.at = omega (arith, c.requires.from_top, c.loop-at.auto.at) in
    let bottom : c.loop-at.at ≤ 24 = omega arith in
    record {
      rest = HasSameRest-more m.rest c.refresh_row_between-found.ensures.row.rest;
      walked = λ k same.
          WalkedDown-more (m.walked k same) c.whole_by_type.ensures top bottom c.is_last-last.result
          (last_is c.args.edges.now c.loop-at.at c.is_last-last.result c.is_last-last.ensures k same)
          found.new.self.looks found.new.marks found.result.covering found.new.steps
          (IsRefreshedRow-on (looks_in c.loop-at.self.looks (c.loop-at.at - 1)) c.loop-at.at c.is_last-last.result
          c.loop-at.self.looks found.new.self.looks c.loop-at.marks found.new.marks c.args.self.now.page c.loop-at.self.page
          c.loop-at.invariant.rest.page renewed.refreshed) renewed.covering renewed.tick (not-false
          found.result.covering c.if-not-found.false);
      left = λ column low below. omega (arith, m.left (column + 1) (omega arith) (c.to_the_left-first.ensures column low below));
      until = λ same. absurd (omega (arith, same, c.loop-at.auto.at));
      above =
          let back : c.loop-at.at ≡ c.loop-at.at + 1 - 1 = omega arith in
          λ d past. subst (λ n. look_seen c.args.self.now.looks n d ≡ look_seen found.new.self.looks n d) back
          (seen_still (m.walked c.requires.others.of_core.0 c.requires.others.of_core.1) c.whole_by_type.ensures top
          bottom found.new.self.looks
          renewed.refreshed.is found.result.end (subst (λ n. IsRightOf found.result.end (looks_in c.loop-at.self.looks n)
          (looks_in found.new.self.looks n)) c.numbered-here.ensures found.ensures.stays) d past);
    }

pub returns : goal.returns
returns g c = record {
  rest = c.loop-at.invariant.rest;
  refreshed =
      let m = c.loop-at.invariant in
      let one = (m.walked c.requires.others.of_core.0 c.requires.others.of_core.1).walked in
      record {
        looks = subst (λ (p : Page). AreLooksOn c.loop-at.self.looks p c.args.edges.now) (sym m.rest.page)
            (λ k same. WalkedTo-looks (m.walked k same).walked (omega arith));
        marks = WalkedTo-marks one c.requires.none;
        cost = WalkedTo-cost one (omega arith);
      };
}
