use Rattle.std.proofs.Common.{◌≡◌, ℕ, ◌-◌, ◌≤◌, false, None, refl, sym, ap, subst, ◌∙◌, arith, rules}
use Rattle.cept_codes.specs.declared.cell.What.{What}
use Rattle.cept_codes.specs.Look.{IsValidLook, blank_look}
use Rattle.cept_profile.specs.Look.{sets_double_size, shape_in}
use Rattle.cept_profile.specs.PageParts.{paint_in}
use Rattle.cept_profile.specs.Serial.{is_marker, own_attributes_of, row_in}
use Rattle.cept_profile.specs.Tiling.{covers_below}
use Rattle.cept_codes.specs.Attribute.{unset_pen}
use Rattle.cept_rows.specs.inside.Brush.{attributes_by, small_shape}
use Rattle.cept_rows.specs.inside.Flagged.{IsMadeTo}
use Rattle.cept_rows.specs.SmallLooks.{look_kept, no_drawing, small_of}
use Rattle.cept_rows.specs.Source.{own_look}
use Rattle.cept_rows.proofs.Columns.{made_next, one_more}
use Rattle.cept_rows.proofs.KeptLooks.{plain_is, plain_small}
use Rattle.cept_rows.proofs.RowsAlone.{look_alone}
use Rattle.cept_rows.proofs.RowsByPart.{IsValidLook-cell}
use Rattle.cept_rows.proofs.Signs.{look_is_plain}
use Rattle.cept_rows.proofs.resolving.each_plain.Goals as goal
use Rattle.cept_rows.proofs.resolving.each_plain.Goals.{After-small_among}

pub loop-number-init : goal.loop-number-init
loop-number-init c = record {
  looks = search rules;
  markers = search rules;
  brush = c.new-brush.ensures.brush;
  sizes = search rules;
}

-- what stands there
there : (c : After-small_among) → c.what-what.result.now ≡ row_in c.args.source.now.cells c.loop-number.number
there c = c.what-what.ensures.what ∙ ap (row_in c.args.source.now.cells) c.numbered-column.ensures

-- no marker stands up to here
markers : (c : After-small_among) (d : ℕ) → 1 ≤ d → d ≤ c.loop-number.number
    → is_marker (row_in c.args.source.now.cells d) ≡ false
markers c d low high =
    one_more (λ e. is_marker (row_in c.args.source.now.cells e) ≡ false) c.loop-number.number
    c.loop-number.invariant.markers (ap is_marker (sym (there c)) ∙ c.if-not-is_plain.ensures.marker refl) d low
    (omega arith)

here : (c : After-small_among) → c.small_among.result ≡ small_of (own_look c.args.source.now c.loop-number.number)
here c =
    let source = c.args.source.now in
    c.small_among.ensures.look
    ∙ ap (λ (w : What). small_shape source (shape_in source.defined w None)
    (own_attributes_of w source.row_pen source.screen_pen (attributes_by source unset_pen))) (there c)
    ∙ ap small_of (look_alone source.defined (row_in source.cells) source.row_pen source.screen_pen
    c.loop-number.number c.loop-number.auto.number (markers c))

valid : (c : After-small_among) → IsValidLook (own_look c.args.source.now c.loop-number.number)
valid c =
    let source = c.args.source.now in
    IsValidLook-cell source.defined (row_in source.cells) source.row_pen source.screen_pen c.valid_by_type.ensures.defined
    c.valid_by_type.ensures.cells c.loop-number.number c.loop-number.auto.number (omega arith)

pub put_single-requires-clause-look : goal.put_single-requires-clause-look
put_single-requires-clause-look c =
    let source = c.args.source.now in
    let plain = look_is_plain c.small_among.result source.defined (paint_in source.defined.paints) c.what-what.result.now
    (own_attributes_of c.what-what.result.now source.row_pen source.screen_pen (attributes_by source unset_pen))
    c.small_among.ensures.look (c.if-not-is_plain.ensures.set refl) in
    record {
      plain = plain;
      small = plain_small c.small_among.result (own_look source c.loop-number.number) (here c) plain (valid c);
    }

pub put_single-requires-clause-low : goal.put_single-requires-clause-low
put_single-requires-clause-low c = ap (λ s. covers_below s.part) c.small_among.ensures.look

pub loop-number-preserved : goal.loop-number-preserved
loop-number-preserved c =
    let cells = c.args.source.now.cells in
    record {
      looks = rw (c.put_single.ensures, c.numbered-column.ensures) (made_next blank_look
          (look_kept c.small_among.result no_drawing) (own_look c.args.source.now) _ c.loop-number.looks
          c.loop-number.number c.loop-number.invariant.looks c.loop-number.auto.number (omega arith)
          (plain_is c.small_among.result (own_look c.args.source.now c.loop-number.number) (here c.before)
          (put_single-requires-clause-look c.before).plain));
      markers = one_more (λ e. is_marker (row_in cells e) ≡ false) c.loop-number.number
          c.loop-number.invariant.markers (ap is_marker (sym (there c.before))
          ∙ c.if-not-is_plain.ensures.marker refl);
      brush = c.small_among.ensures.brush;
      sizes = one_more (λ e. sets_double_size (row_in cells e) ≡ false) c.loop-number.number
          c.loop-number.invariant.sizes (ap sets_double_size (sym (there c.before))
          ∙ c.if-not-is_plain.ensures.size refl);
    }

pub returns-clause-looks : goal.returns-clause-looks
returns-clause-looks c =
    let whole : c.loop-number.number - 1 ≡ 40 = omega arith in
    subst (λ n. IsMadeTo (own_look c.args.source.now) c.args.looks.now c.loop-number.looks n) whole
    c.loop-number.invariant.looks
