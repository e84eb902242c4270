use Rattle.std.proofs.Common.{◌≡◌, ◌+◌, ◌-◌, ◌≢◌, None, Option, slice_index_or, refl, sym, ◌∙◌, ap, arith, below_more}
use Rattle.std.proofs.Common.{get_or-set_other}
use Rattle.std.proofs.Math.ListN.{length-set}
use Rattle.std.proofs.lemmas.List.{get_or-replicate}
use Rattle.cept_codes.specs.Cell.{blank_cell}
use Rattle.cept_codes.specs.declared.glyph.Glyph.{Glyph}
use Rattle.cept_profile.specs.Serial.{held_sign, row_in, serial_attributes}
use Rattle.cept_profile.specs.Influence.{Influence, influence}
use Rattle.cept_profile.proofs.Laws.{influence-start}
use Rattle.cept_attrs.proofs.RowWalk.{held_sign-next, one_done, unmarked_full, unmarked_held, plain_held, plain_from}
use Rattle.cept_attrs.proofs.RowWalk.{is_marked, IsPlain, plain_carried, plain_full, marked_carried, marked_full}
use Rattle.cept_attrs.proofs.RowWalk.{marked_held}
use Rattle.cept_attrs.proofs.serial.serial_cells.Goals as goal
use Rattle.cept_attrs.proofs.serial.serial_cells.Goals.{in-Marker, in_default}

pub returns-then-not-has_marker-clause-full : goal.returns-then-not-has_marker-clause-full
returns-then-not-has_marker-clause-full c = λ n d low high.
    get_or-replicate 40 (n - 1) c.cascade.result d (omega arith)
    ∙ c.cascade.ensures.attributes
    ∙ sym (unmarked_full (row_in c.args.cells.now) c.args.row.now c.args.screen.now n
    (c.if-not-has_marker.ensures refl) low high)

pub returns-then-not-has_marker-clause-held : goal.returns-then-not-has_marker-clause-held
returns-then-not-has_marker-clause-held c = λ n d low high.
    get_or-replicate 40 (n - 1) None d (omega arith)
    ∙ sym (unmarked_held (row_in c.args.cells.now) n (c.if-not-has_marker.ensures refl) low high)

pub loop-i-init : goal.loop-i-init
loop-i-init c = record {
  influence =
      rw c.cascade.ensures.attributes (sym (influence-start (row_in c.args.cells.now) c.args.row.now c.args.screen.now));
  full = λ k d h. absurd (omega arith);
  held = λ k d h. absurd (omega arith);
  none_held = λ k d low high. get_or-replicate 40 k None d high;
  full_columns = refl;
  held_columns = refl;
}

pub loop-i-preserved : goal.loop-i-preserved
loop-i-preserved c =
    let cells = c.args.cells.now in
    let row = c.args.row.now in
    let screen = c.args.screen.now in
    let i = c.loop-i.i in
    let what = (slice_index_or cells i blank_cell).what in
    let before = c.loop-i.invariant in
    elim c.match-what.branch [
      | in-Marker w ↦
          let m = w.in-Marker.m in
          let influence_with_sign = w.settle.new.influence in
          let marked =
          is_marked cells row screen i w.saturating_sub.result m c.loop-i.influence influence_with_sign w.in-Marker.is
          w.saturating_sub.ensures
          before.influence w.settle.ensures
          in
          record {
            influence = marked_carried cells row screen i m influence_with_sign c.match-what.influence marked (w.influence-is
                ∙ w.mark.ensures.influence);
            full =
                rw w.full-is
                (one_done c.loop-i.full i w.mark.new.full (λ k. serial_attributes (row_in cells) row screen (k + 1))
                (omega arith) before.full
                (marked_full cells row screen i m influence_with_sign w.mark.new.full marked w.mark.ensures.full));
            held =
                rw w.held-is
                (one_done c.loop-i.held i w.mark.new.held (λ k. held_sign (row_in cells) (k + 1)) (omega arith)
                before.held
                (marked_held cells row screen i m influence_with_sign w.mark.new.held marked w.mark.ensures.held));
            none_held = λ k d low high.
                let other : k ≢ i = omega arith in
                rw (w.held-is, get_or-set_other) (before.none_held k d (omega arith) high);
            full_columns = rw (w.full-is, length-set) before.full_columns;
            held_columns = rw (w.held-is, length-set) before.held_columns;
          }
      | in_default w ↦
          let there = plain_from what w.in_default.not-Marker in
          let plain : IsPlain cells row screen i c.loop-i.influence = record { there = there; influence = before.influence } in
          record {
            influence = rw w.influence-is (plain_carried cells row screen i c.loop-i.influence plain);
            full =
                rw w.full-is
                (one_done c.loop-i.full i w.influence.inside.full
                (λ k. serial_attributes (row_in cells) row screen (k + 1)) (omega arith) before.full
                (ap (λ (s : Influence). s.full) w.influence.view_is ∙ plain_full cells row screen i c.loop-i.influence plain));
            held =
                rw w.held-is
                (λ k d below.
                below_more (λ n. (d : Option Glyph)
                → slice_index_or c.loop-i.held n d ≡ held_sign (row_in cells) (n + 1)) i
                (λ n h d. before.held n d h)
                (λ d. rw (before.none_held i d (omega arith) c.loop-i-test.true, held_sign-next cells row screen i)
                (sym (plain_held what (influence (row_in cells) row screen i) there)))
                k below d);
            none_held = λ k d low high. rw w.held-is (before.none_held k d (omega arith) high);
            full_columns = rw (w.full-is, length-set) before.full_columns;
            held_columns = rw w.held-is before.held_columns;
          }
    ]
