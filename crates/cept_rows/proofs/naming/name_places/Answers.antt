use Rattle.std.proofs.Common.{◌≡◌, ◌≢◌, ℕ, ◌+◌, ◌-◌, sym, ap, ◌∙◌, arith}
use Rattle.cept_profile.specs.Names.{Names}
use Rattle.cept_profile.specs.NamesFromAbove.{names_in_row}
use Rattle.cept_profile.specs.Serial.{row_in}
use Rattle.cept_rows.specs.KeptNames.{names_kept, names_made}
use Rattle.cept_rows.specs.inside.KeptNames.{names_of_place}
use Rattle.cept_rows.proofs.Columns.{one_more}
use Rattle.cept_rows.proofs.NamesKept.{names_from_above-0, own_named, parts_shown, place_made}
use Rattle.cept_rows.proofs.RowsByPart.{own_at}
use Rattle.cept_rows.proofs.naming.name_places.Goals as goal
use Rattle.cept_rows.proofs.naming.name_places.Goals.{After-put}

pub loop-number-init : goal.loop-number-init
loop-number-init c = record {
  made = λ d low none. absurd (omega arith);
  left = sym (names_from_above-0 (names_kept c.args.above.now) (parts_shown c.args.looks.now)
      (names_in_row (row_in c.args.cells.now) c.args.row.now c.args.screen.now));
}

-- the names that are wanted
abbrev wanted : After-put → ℕ → Names
wanted c =
    names_made c.args.above.now c.args.looks.now
    (names_in_row (row_in c.args.cells.now) c.args.row.now c.args.screen.now)

own : (c : After-put) → names_of_place c.names_with-own.result
    ≡ names_in_row (row_in c.args.cells.now) c.args.row.now c.args.screen.now c.loop-number.number
own c =
    own_named c.args.cells.now c.args.row.now c.args.screen.now c.loop-number.number c.own_attributes.result _
    (own_at c.args.cells.now c.args.row.now c.args.screen.now c.serial_cells.result.full c.loop-number.number _ _
    c.loop-number.auto.number (omega arith) c.serial_cells.ensures.full c.own_attributes.ensures.attributes)
    c.names_with-own.ensures

here : (c : After-put) → names_of_place c.names_by-place.result ≡ wanted c c.loop-number.number
here c =
    place_made (names_kept c.args.above.now) (parts_shown c.args.looks.now)
    (names_in_row (row_in c.args.cells.now) c.args.row.now c.args.screen.now) c.loop-number.number
    c.small.result.part _ _ _ _ c.loop-number.auto.number
    (rw (← c.numbered-column.ensures) (ap (λ l. l.part) c.small.ensures.look))
    (rw (← c.numbered-column.ensures) c.at.ensures)
    c.loop-number.invariant.left (own c) c.names_by-place.ensures

pub loop-number-preserved : goal.loop-number-preserved
loop-number-preserved c =
    let next : c.loop-number.number ≡ c.loop-number.number + 1 - 1 = omega arith in
    record {
      made = one_more (λ d. names_kept c.put.new.self d ≡ wanted c d) c.loop-number.number
          (λ d low below.
          let other : d ≢ c.numbered-column.result = omega (arith, below, c.numbered-column.ensures) in
          c.put.ensures.others d low other ∙ c.loop-number.invariant.made d low below)
          (rw (← c.numbered-column.ensures) (c.put.ensures.here ∙ (rw c.numbered-column.ensures (here c))));
      left = here c ∙ ap (wanted c) next;
    }
