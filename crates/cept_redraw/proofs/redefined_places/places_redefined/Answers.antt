use Rattle.std.proofs.Common.{ap, length, ◌∙◌}
use Rattle.cept_codes.specs.Look.{blank_look}
use Rattle.cept_codes.proofs.Laws.{length-list_by_index}
use Rattle.cept_profile.specs.Names.{pattern_shown}
use Rattle.cept_profile.specs.Tiling.{column_entry}
use Rattle.cept_rows.specs.KeptNames.{names_kept}
use Rattle.cept_redraw.specs.inside.Redefined.{redefines_place}
use Rattle.cept_redraw.proofs.FlaggedPlaces.{flagged_first, flagged_more}
use Rattle.cept_redraw.proofs.ValidStrokes.{valid_item}
use Rattle.cept_redraw.proofs.redefined_places.places_redefined.Goals as goal

pub loop-stroke-init : goal.loop-stroke-init
loop-stroke-init c =
    flagged_first (λ x column. redefines_place (names_kept c.args.names.now column)
    (pattern_shown (column_entry blank_look c.args.looks.now column).shape) x)

pub flag_redefined-requires-clause-valid : goal.flag_redefined-requires-clause-valid
flag_redefined-requires-clause-valid c =
    valid_item c.args.strokes.now c.requires.each c.loop-stroke.stroke-index c.stroke-item.result c.loop-stroke-test.true
    c.stroke-item.is

pub flag_redefined-requires-clause-columns : goal.flag_redefined-requires-clause-columns
flag_redefined-requires-clause-columns c = ap length c.loop-stroke.invariant ∙ length-list_by_index 1 40 _

pub loop-stroke-preserved : goal.loop-stroke-preserved
loop-stroke-preserved c =
    flagged_more (λ x column. redefines_place (names_kept c.args.names.now column)
    (pattern_shown (column_entry blank_look c.args.looks.now column).shape) x) c.args.strokes.now
    c.loop-stroke.stroke-index c.stroke-item.result c.loop-stroke.flags c.flag_redefined.new.flags
    c.loop-stroke-test.true c.stroke-item.is c.loop-stroke.invariant c.flag_redefined.ensures
