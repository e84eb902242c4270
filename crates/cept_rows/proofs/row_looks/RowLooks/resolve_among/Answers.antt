use Rattle.std.proofs.Common.{◌≡◌, sym, ap, inl, inr, ◌∙◌}
use Rattle.cept_codes.specs.declared.cell.What.TheVariants as whats
use Rattle.cept_rows.specs.inside.Brush.{space_by}
use Rattle.cept_rows.specs.SmallLooks.{small_of}
use Rattle.cept_rows.specs.Source.{look_by_itself}
use Rattle.cept_rows.proofs.CellsAlone.{alone_plain, alone_replaced, among_is, sign_is}
use Rattle.cept_rows.proofs.RowsAlone.{low_alone}
use Rattle.cept_rows.proofs.row_looks.RowLooks.resolve_among.Goals as goal
use Rattle.cept_rows.proofs.row_looks.RowLooks.resolve_among.Goals.{After-with_sign, After-with_sign-in-Parallel}

-- a sign without a pen is shown as it is by itself
serial : (c : After-with_sign) → c.with_sign.result ≡ small_of (look_by_itself c.args.source.now c.args.column)
serial c =
    sign_is c.args.source.now c.args.column (whats.Serial c.in-Serial.glyph) c.args.blank.now c.with_sign.result
    (sym c.in-Serial.is ∙ c.what-what.ensures.what) c.requires.blank (c.with_sign.ensures c.args.source.now.defined)

-- so is one with a pen
parallel : (c : After-with_sign-in-Parallel)
    → c.with_sign-in-Parallel.result ≡ small_of (look_by_itself c.args.source.now c.args.column)
parallel c =
    sign_is c.args.source.now c.args.column (whats.Parallel c.in-Parallel.glyph c.in-Parallel.pen) c.take_up.new.brush.space
    c.with_sign-in-Parallel.result (sym c.in-Parallel.is ∙ c.what-what.ensures.what)
    (c.take_up.ensures.is.space ∙ ap (λ p. space_by c.args.source.now p) c.take_up.ensures.held)
    (c.with_sign-in-Parallel.ensures c.args.source.now.defined)

pub replace-requires-clause-look : goal.replace-requires-clause-look
replace-requires-clause-look c =
    alone_plain c.args.source.now c.args.column c.what-what.result.now c.with_sign.result c.valid_by_type.ensures
    c.what-what.ensures.what c.what-what.ensures.valid (sym c.is_downloaded.ensures ∙ c.if-is_downloaded.false) (serial c.before)

pub replace-requires-clause-low : goal.replace-requires-clause-low
replace-requires-clause-low c = low_alone c.with_sign.result _ _ _ _ (serial c.before)

pub replace-requires-in-Parallel-clause-look : goal.replace-requires-in-Parallel-clause-look
replace-requires-in-Parallel-clause-look c =
    alone_plain c.args.source.now c.args.column c.what-what.result.now c.with_sign-in-Parallel.result
    c.valid_by_type.ensures c.what-what.ensures.what c.what-what.ensures.valid
    (sym c.is_downloaded.ensures ∙ c.if-is_downloaded.false) (parallel c.before)

pub replace-requires-in-Parallel-clause-low : goal.replace-requires-in-Parallel-clause-low
replace-requires-in-Parallel-clause-low c = low_alone c.with_sign-in-Parallel.result _ _ _ _ (parallel c.before)

pub returns-in-Serial-clause-look : goal.returns-in-Serial-clause-look
returns-in-Serial-clause-look c =
    alone_replaced c.args.source.now c.args.column c.with_sign.result c.args.self.now _ _
    (replace-requires-clause-look c.before) (serial c.before.before) c.replace.ensures

pub returns-in-Parallel-clause-look : goal.returns-in-Parallel-clause-look
returns-in-Parallel-clause-look c =
    alone_replaced c.args.source.now c.args.column c.with_sign-in-Parallel.result c.args.self.now _ _
    (replace-requires-in-Parallel-clause-look c.before) (parallel c.before.before) c.replace-in-Parallel.ensures

pub returns-in-Blank-clause-look : goal.returns-in-Blank-clause-look
returns-in-Blank-clause-look c =
    let source = c.args.source.now in
    let blank : c.args.blank.now ≡ small_of (look_by_itself source c.args.column) =
    elim c.in-Blank.is [
      | inl is ↦ among_is source c.args.column whats.Blank _ (sym is ∙ c.what-what.ensures.what) c.requires.blank
      | inr (marker, is) ↦
          among_is source c.args.column (whats.Marker marker) _ (sym is ∙ c.what-what.ensures.what) c.requires.blank
    ] in
    alone_replaced source c.args.column c.args.blank.now c.args.self.now _ _
    (alone_plain source c.args.column c.what-what.result.now c.args.blank.now c.valid_by_type.ensures
    c.what-what.ensures.what c.what-what.ensures.valid (sym c.is_downloaded.ensures ∙ c.if-is_downloaded.false) blank)
    blank c.replace-in-Blank.ensures
