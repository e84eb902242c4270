use Rattle.cept_codes.specs.declared.attribute.Pen.{Pen}
use Rattle.cept_profile.specs.Serial.{row_in}
use Rattle.cept_attrs.specs.Walk.{IsInfluence}
use Rattle.std.proofs.Common.{◌-◌, sym, ◌∙◌}
use Rattle.cept_attrs.proofs.RowWalk.{IsMarked, marked_at, marked_influence, full_at_once, full_later, held_at, marked_valid}
use Rattle.cept_attrs.proofs.serial.Influence.mark.Goals as goal
use Rattle.cept_attrs.proofs.serial.Influence.mark.Goals.{After-turn-at_once}

marked : (c : After-turn-at_once) (row screen : Pen)
    → IsInfluence (row_in c.args.cells.now) row screen (c.args.column - 1) c.args.self.now
    → IsMarked c.args.cells.now row screen (c.args.column - 1) c.args.marker c.settle.new.influence
marked c row screen is =
    marked_at c.args.cells.now row screen c.args.column c.saturating_sub.result c.args.marker c.args.self.now
    c.settle.new.influence c.requires.there c.saturating_sub.ensures is c.settle.ensures

pub returns-clause-influence : goal.returns-clause-influence
returns-clause-influence c row screen is =
    marked_influence c.args.cells.now row screen c.args.column c.args.marker c.settle.new.influence
    c.turn-at_once.new.influence c.requires.from_left (marked c row screen is) c.turn-at_once.ensures.influence

pub returns-clause-at_once : goal.returns-clause-at_once
returns-clause-at_once c acts row screen is =
    full_at_once c.args.cells.now row screen c.args.column c.args.marker c.settle.new.influence
    c.turn-at_once.new.influence c.requires.from_left (marked c row screen is) c.turn-at_once.ensures.influence
    (sym c.turn-at_once.ensures.at_once ∙ acts)

pub returns-clause-later : goal.returns-clause-later
returns-clause-later c acts row screen is =
    full_later c.args.cells.now row screen c.args.column _ c.args.marker c.args.self.now c.settle.new.influence
    c.requires.from_left (marked c row screen is) c.settle.ensures (sym c.turn-at_once.ensures.at_once ∙ acts)

pub returns-clause-held : goal.returns-clause-held
returns-clause-held c row screen is =
    held_at c.args.cells.now row screen c.args.column c.args.marker c.settle.new.influence c.turn-at_once.new.held
    c.requires.from_left (marked c row screen is) c.turn-at_once.ensures.held

pub returns-clause-valid : goal.returns-clause-valid
returns-clause-valid c marker full =
    marked_valid _ c.args.marker c.args.self.now c.settle.new.influence c.turn-at_once.new.influence c.settle.ensures
    c.turn-at_once.ensures.influence marker full
