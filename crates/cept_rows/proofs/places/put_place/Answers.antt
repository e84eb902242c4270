-- Each of the four cases: covered from above, covered from the left, of single size, of another size.
use Rattle.std.proofs.Common.{◌≡◌, ◌+◌, ◌-◌, ◌&&◌, ltb, refl, sym, ap, subst, ◌∙◌, not}
use Rattle.cept_codes.specs.Look.{IsValidLook}
use Rattle.cept_profile.specs.Look.{part_of}
use Rattle.cept_profile.specs.RowsFromAbove.{look_with_part}
use Rattle.cept_profile.specs.Serial.{row_in}
use Rattle.cept_profile.specs.Tiling.{covers_below, is_high, is_wide, origin_part}
use Rattle.cept_profile.specs.Tiling.{single_part}
use Rattle.cept_rows.specs.Flagged.{look_at}
use Rattle.cept_rows.specs.inside.Flagged.{with_look}
use Rattle.cept_rows.specs.inside.Places.{look_below, look_beside}
use Rattle.cept_rows.specs.Source.{own_look, own_size, place_made}
use Rattle.cept_rows.proofs.KeptLooks.{kept_is, small_is}
use Rattle.cept_rows.proofs.PlacesKept.{drawing_is, origin-covers, origin_is}
use Rattle.cept_rows.proofs.RowsAlone.{single_look}
use Rattle.cept_rows.proofs.RowsByPart.{covered-below, covered-elsewhere, look_from-below, look_from-origin}
use Rattle.cept_rows.proofs.RowsByPart.{look_from-right, look_from-single}
use Rattle.cept_rows.proofs.places.put_place.Goals as goal
use Rattle.cept_rows.proofs.places.put_place.Goals.{After-put_below-arg-1, After-put_to_the_right-arg-1}
use Rattle.cept_rows.proofs.places.put_place.Goals.{After-keep-arg-then-is_single-1, After-keep-arg-2-1}

-- ---- covered from above

below : (c : After-put_below-arg-1) → look_below (look_at c.args.above.now c.args.column)
    ≡ place_made c.args.source.now c.args.above.now c.args.column
below c =
    look_from-below (look_at c.args.above.now) (own_look c.args.source.now) (own_size c.args.source.now)
    c.args.source.now.last c.args.column c.number-number.ensures.in_range.0
    (sym c.covers_below.ensures ∙ c.if-covers_below.true)

pub put_below-requires : goal.put_below-requires
put_below-requires c = subst IsValidLook (sym (below c)) c.requires.shown

pub returns-then-covers_below-clause-looks : goal.returns-then-covers_below-clause-looks
returns-then-covers_below-clause-looks c =
    c.put_below.ensures ∙ ap (λ l. with_look c.args.looks.now c.args.column l) (below c.before)

pub returns-then-covers_below-clause-covered : goal.returns-then-covers_below-clause-covered
returns-then-covers_below-clause-covered c =
    covered-below (look_at c.args.above.now c.args.column)
    (place_made c.args.source.now c.args.above.now c.args.column) (sym c.covers_below.ensures ∙ c.if-covers_below.true)

-- ---- covered from the left

right : (c : After-put_to_the_right-arg-1) → look_beside (look_at c.args.looks.now (c.args.column - 1))
    ≡ place_made c.args.source.now c.args.above.now c.args.column
right c =
    look_from-right (look_at c.args.above.now) (own_look c.args.source.now) (own_size c.args.source.now)
    c.args.source.now.last c.args.column _ c.number-number.ensures.in_range.0
    (sym c.covers_below.ensures ∙ c.if-covers_below.false) c.requires.left (sym c.requires.covered ∙ c.if-covered.true)

pub put_to_the_right-requires-clause-valid : goal.put_to_the_right-requires-clause-valid
put_to_the_right-requires-clause-valid c = subst IsValidLook (sym (right c)) c.requires.shown

pub returns-then-covered-clause-looks : goal.returns-then-covered-clause-looks
returns-then-covered-clause-looks c =
    c.put_to_the_right.ensures ∙ ap (λ l. with_look c.args.looks.now c.args.column l) (right c.before)

pub returns-then-covered-clause-covered : goal.returns-then-covered-clause-covered
returns-then-covered-clause-covered c =
    covered-elsewhere (look_at c.args.above.now c.args.column)
    (place_made c.args.source.now c.args.above.now c.args.column)
    (record (part_of (look_at c.args.looks.now (c.args.column - 1))) { dy = 0; dx = 1 })
    (sym c.covers_below.ensures ∙ c.if-covers_below.false) (sym (ap part_of (right c.before)))

-- ---- of single size

single : (c : After-keep-arg-then-is_single-1) → own_look c.args.source.now c.args.column
    ≡ place_made c.args.source.now c.args.above.now c.args.column
single c =
    let source = c.args.source.now in
    look_from-single (look_at c.args.above.now) (own_look source) (own_size source) source.last
    c.args.column c.number-number.ensures.in_range.0 (sym c.covers_below.ensures ∙ c.if-covers_below.false)
    (sym c.requires.covered ∙ c.if-covered.false)
    (ap (λ s. not (is_high s) && not (is_wide s)) (sym c.look-own.ensures.own.size) ∙ sym c.is_single.ensures
    ∙ c.if-is_single.true)
    (single_look source.defined (row_in source.cells) source.row_pen source.screen_pen c.args.column)

pub keep-requires-clause-low : goal.keep-requires-clause-low
keep-requires-clause-low c _ =
    let source = c.args.source.now in
    ap (λ s. covers_below s.part) c.look-own.ensures.own.look
    ∙ ap covers_below (single_look source.defined (row_in source.cells) source.row_pen source.screen_pen c.args.column)

pub keep-requires-clause-small : goal.keep-requires-clause-small
keep-requires-clause-small c =
    let source = c.args.source.now in
    let own = own_look source c.args.column in
    small_is _ _ own c.look-own.ensures.own.look
    (drawing_is source.defined (row_in source.cells) source.row_pen source.screen_pen c.args.column (part_of own) own refl)
    (subst IsValidLook (sym (single c)) c.requires.shown)

pub returns-then-is_single-clause-looks : goal.returns-then-is_single-clause-looks
returns-then-is_single-clause-looks c =
    let source = c.args.source.now in
    let own = own_look source c.args.column in
    c.keep.ensures
    ∙ ap (λ l. with_look c.args.looks.now c.args.column l)
    (kept_is _ _ own c.look-own.ensures.own.look
    (drawing_is source.defined (row_in source.cells) source.row_pen source.screen_pen c.args.column (part_of own) own refl)
    ∙ single c.before)

pub returns-then-is_single-clause-covered : goal.returns-then-is_single-clause-covered
returns-then-is_single-clause-covered c =
    let source = c.args.source.now in
    covered-elsewhere (look_at c.args.above.now c.args.column) (place_made source c.args.above.now c.args.column)
    single_part (sym c.covers_below.ensures ∙ c.if-covers_below.false)
    (sym (ap part_of (single c.before))
    ∙ single_look source.defined (row_in source.cells) source.row_pen source.screen_pen c.args.column)

-- ---- of another size

part : (c : After-keep-arg-2-1) → c.origin_there-part.result
    ≡ origin_part (is_wide (own_size c.args.source.now c.args.column)
    && ltb c.args.column 40 && not (covers_below (part_of (look_at c.args.above.now (c.args.column + 1)))))
    (is_high (own_size c.args.source.now c.args.column) && not c.args.source.now.last)
part c =
    c.origin_there-part.ensures
    ∙ (λ i. origin_part (is_wide (c.look-own.ensures.own.size i) && ltb (c.number-number.ensures.number i) 40
    && not (c.is_covered_beside-beside.ensures i))
    (is_high (c.look-own.ensures.own.size i) && not (c.is_last.ensures i)))

origin : (c : After-keep-arg-2-1)
    → look_with_part c.origin_there-part.result (own_look c.args.source.now c.args.column)
    ≡ place_made c.args.source.now c.args.above.now c.args.column
origin c =
    look_from-origin (look_at c.args.above.now) (own_look c.args.source.now) (own_size c.args.source.now)
    c.args.source.now.last c.args.column c.origin_there-part.result c.number-number.ensures.in_range.0
    (sym c.covers_below.ensures ∙ c.if-covers_below.false) (sym c.requires.covered ∙ c.if-covered.false) (part c)

pub keep-requires-2-clause-small : goal.keep-requires-2-clause-small
keep-requires-2-clause-small c =
    let source = c.args.source.now in
    small_is _ _ _
    (origin_is (own_look source c.args.column) _ c.look-own.result.look c.origin_there-part.result
    c.look-own.ensures.own.look (origin c))
    (drawing_is source.defined (row_in source.cells) source.row_pen source.screen_pen c.args.column
    c.origin_there-part.result _ (origin c)) c.requires.shown

pub returns-clause-looks : goal.returns-clause-looks
returns-clause-looks c =
    let source = c.args.source.now in
    let there = c.before.before in
    c.keep-2.ensures
    ∙ ap (λ l. with_look c.args.looks.now c.args.column l)
    (kept_is _ _ _
    (origin_is (own_look source c.args.column) _ c.look-own.result.look c.origin_there-part.result
    c.look-own.ensures.own.look (origin there))
    (drawing_is source.defined (row_in source.cells) source.row_pen source.screen_pen c.args.column
    c.origin_there-part.result _ (origin there)))

pub returns-clause-covered : goal.returns-clause-covered
returns-clause-covered c =
    let there = c.before.before in
    origin-covers _ _ c.origin_there-part.result (part there)
    ∙ covered-elsewhere (look_at c.args.above.now c.args.column)
    (place_made c.args.source.now c.args.above.now c.args.column)
    c.origin_there-part.result (sym c.covers_below.ensures ∙ c.if-covers_below.false) (sym (ap part_of (origin there)))
