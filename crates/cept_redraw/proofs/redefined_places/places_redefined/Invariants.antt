use Rattle.std.proofs.Common.{◌≡◌, take}
use Rattle.cept_codes.specs.Table.{list_by_index}
use Rattle.cept_redraw.specs.inside.Redefined.{is_place_redefined}
use Rattle.cept_redraw.proofs.redefined_places.places_redefined.Given as goal

abbrev pub invariant-loop-stroke : goal.invariant-loop-stroke
invariant-loop-stroke l =
    l.flags ≡ list_by_index 1 40 (is_place_redefined (take l.stroke-index l.strokes) l.names l.looks)
