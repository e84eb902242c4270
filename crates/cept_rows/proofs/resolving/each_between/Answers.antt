use Rattle.std.proofs.Common.{◌≡◌, ℕ, ◌+◌, ◌-◌, ◌≤◌, refl, ap, subst, ◌∙◌, arith}
use Rattle.std.proofs.lemmas.Bool.{and_parts}
use Rattle.cept_codes.specs.declared.look.Look.{Look}
use Rattle.cept_codes.specs.Look.{blank_look}
use Rattle.cept_profile.specs.Look.{part_of}
use Rattle.cept_profile.specs.RowsFromAbove.{row_from_above}
use Rattle.cept_profile.specs.Serial.{row_in}
use Rattle.cept_profile.specs.Tiling.{is_covered_from_left}
use Rattle.cept_rows.specs.Flagged.{look_at}
use Rattle.cept_rows.specs.inside.Flagged.{IsMadeTo}
use Rattle.cept_rows.specs.inside.Places.{covers_next}
use Rattle.cept_rows.specs.Source.{own_look, own_size, place_made}
use Rattle.cept_rows.specs.inside.Walk.{IsWalk}
use Rattle.cept_rows.proofs.Columns.{made_all, made_next}
use Rattle.cept_rows.proofs.RowsByPart.{IsValidLook-cell, IsValidLook-look_from, left_made}
use Rattle.cept_rows.proofs.RowsByPart.{look_from-0, made_before, made_end, made_stays}
use Rattle.cept_rows.proofs.resolving.each_between.Goals as goal
use Rattle.cept_rows.proofs.resolving.each_between.Goals.{After-number-number, After-put_place-covered}

made : (c : After-number-number) → IsMadeTo (place_made c.args.source.now c.args.above.now) c.args.looks.now c.args.looks.now
    (c.args.from - 1)
made c = made_before _ c.args.looks.now c.args.from c.number-number.ensures.in_range.0 c.columns_by_type-2.ensures.columns
    c.requires.left

pub loop-number-init : goal.loop-number-init
loop-number-init c = rw c.number-number.ensures.number (record {
  row = made c;
  walk = c.before-walk.ensures;
  covered = c.is_covered_from_left-covered.ensures
      ∙ ap (λ (l : Look). is_covered_from_left (part_of (look_at c.args.above.now (c.args.from - 1))) (part_of l))
      (left_made (place_made c.args.source.now c.args.above.now) _ c.args.looks.now c.args.from (made c)
      (look_from-0 (look_at c.args.above.now) (own_look c.args.source.now) (own_size c.args.source.now)
      c.args.source.now.last) c.number-number.ensures.in_range.0 (omega (arith, c.number-number.ensures.in_range.1)));
})

pub put_place-covered-requires-clause-walk : goal.put_place-covered-requires-clause-walk
put_place-covered-requires-clause-walk c = rw c.numbered-column.ensures c.loop-number.invariant.walk

pub put_place-covered-requires-clause-covered : goal.put_place-covered-requires-clause-covered
put_place-covered-requires-clause-covered c = rw c.numbered-column.ensures c.loop-number.invariant.covered

pub put_place-covered-requires-clause-left : goal.put_place-covered-requires-clause-left
put_place-covered-requires-clause-left c =
    rw c.numbered-column.ensures (left_made (place_made c.args.source.now c.args.above.now) _ c.loop-number.looks
    c.loop-number.number c.loop-number.invariant.row
    (look_from-0 (look_at c.args.above.now) (own_look c.args.source.now) (own_size c.args.source.now)
    c.args.source.now.last)
    (omega (arith, c.number-number.ensures, c.loop-number.auto.number)) (omega arith))

pub put_place-covered-requires-clause-shown : goal.put_place-covered-requires-clause-shown
put_place-covered-requires-clause-shown c =
    let source = c.args.source.now in
    rw c.numbered-column.ensures (IsValidLook-look_from c.args.above.now (own_look source) (own_size source) source.last
    c.columns_by_type.ensures.valid
    (λ d from to. IsValidLook-cell source.defined (row_in source.cells) source.row_pen source.screen_pen
    c.valid_by_type.ensures.defined c.valid_by_type.ensures.cells d from to) c.loop-number.number
    (omega (arith, c.number-number.ensures, c.loop-number.auto.number)) (omega arith))

-- the row is made up to this column
here : (c : After-put_place-covered) → IsMadeTo (place_made c.args.source.now c.args.above.now) c.args.looks.now
    c.put_place-covered.new.looks c.loop-number.number
here c =
    let shown : ℕ → Look = place_made c.args.source.now c.args.above.now in
    let back : c.loop-number.number + 1 - 1 ≡ c.loop-number.number = omega arith in
    subst (λ n. IsMadeTo shown c.args.looks.now c.put_place-covered.new.looks n) back
    (rw (c.put_place-covered.ensures.looks, c.numbered-column.ensures) (made_next blank_look
    (shown c.loop-number.number) shown _ c.loop-number.looks c.loop-number.number c.loop-number.invariant.row
    (omega (arith, c.number-number.ensures, c.loop-number.auto.number)) (omega arith) refl))

pub loop-number-preserved : goal.loop-number-preserved
loop-number-preserved c =
    let next : c.loop-number.number ≡ c.loop-number.number + 1 - 1 = omega arith in
    record {
      row = subst (λ n. IsMadeTo (place_made c.args.source.now c.args.above.now) c.args.looks.now
          c.put_place-covered.new.looks n) next (here c.before.before);
      walk = subst (λ n. IsWalk c.args.source.now n c.put_place-covered.new.walk) (c.numbered-column.ensures ∙ next)
          c.put_place-covered.ensures.walk;
      covered = c.put_place-covered.ensures.covered
          ∙ ap (λ n. covers_next c.args.source.now c.args.above.now n) (c.numbered-column.ensures ∙ next);
    }

pub returns : goal.returns
unfolding row_from_above
returns c = record {
  looks = made_all blank_look _ _ c.loop-number.looks c.loop-number.number c.loop-number.invariant.row
      c.loop-number-test.false;
  order = omega (arith, c.number-number.ensures);
  to_right = omega arith;
  stays = λ n past high. absurd (omega (arith, past, high));
}

pub returns-then-ended-may_end : goal.returns-then-ended-may_end
unfolding row_from_above
returns-then-ended-may_end c =
    let both = and_parts c.may_end-ended.result c.may_end.result c.if-ended-may_end.true in
    let made = place_made c.args.source.now c.args.above.now in
    let low : 1 ≤ c.loop-number.number = omega (arith, c.number-number.ensures, c.loop-number.auto.number) in
    record {
      looks = made_end c.args.until made c.args.looks.now c.loop-number.looks c.put_place-covered.new.looks
          c.loop-number.number c.loop-number.invariant.row (here c.before.before) low (omega arith)
          (rw (← c.numbered-column.ensures) (c.may_end-ended.ensures.past both.0)) c.requires.right
          (rw (← c.numbered-column.ensures) (c.may_end-ended.ensures.free both.0))
          (rw (← c.numbered-column.ensures) (c.may_end.ensures.free both.1));
      order = omega (arith, c.number-number.ensures, c.loop-number.auto.number);
      to_right = omega arith;
      stays = made_stays made c.args.looks.now c.put_place-covered.new.looks c.loop-number.number (here c.before.before);
    }
