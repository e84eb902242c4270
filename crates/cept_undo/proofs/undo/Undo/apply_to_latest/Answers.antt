use Rattle.std.proofs.Common.{◌≡◌, ◌≤◌, List, Option, [], drop, length, rules, sym, ap, ◌∙◌, arith}
use Rattle.cept_profile.specs.OldValues.{OldValues}
use Rattle.circular_buffer.specs.Buffer.{Buffer}
use Rattle.cept_undo.specs.Past.{Edits, StaysUnbegun, future, past}
use Rattle.cept_undo.proofs.InTurn.{first_and_rest, none_first}
use Rattle.cept_undo.proofs.Room.{HasRoom-noted, latest_noted}
use Rattle.cept_undo.proofs.PastAndFuture.{FitsTogether-none, FitsTogether-same, future-none, past-none, past-noted, still_none}
use Rattle.cept_undo.proofs.undo.Undo.apply_to_latest.Goals as goal
use Rattle.cept_undo.proofs.undo.Undo.apply_to_latest.Goals.{in-Some-1, in-None-1}

pub invariant_of-self : goal.invariant_of-self
invariant_of-self g c =
    HasRoom-noted c.self.invariant (still_none _ c.args.self.now c.self.view_is c.requires.between.none_begun) c.in-Some.latest
    c.in-Some.ensures.value c.apply_noting.new.delta c.pop_front.new.self c.push_front.new.self c.pop_front.ensures.items
    c.push_front.ensures.items c.give_back.ensures.none c.give_back.ensures.places c.give_back.ensures.all
    c.give_back.ensures.spare_places

pub invariant_of-self-in-Some-2 : goal.invariant_of-self-in-Some-2
invariant_of-self-in-Some-2 g c =
    HasRoom-noted c.self.invariant (still_none _ c.args.self.now c.self.view_is c.requires.between.none_begun) c.in-Some.latest
    c.in-Some.ensures.value c.apply_noting.new.delta c.pop_front.new.self c.push_front.new.self c.pop_front.ensures.items
    c.push_front.ensures.items c.give_back.ensures.none c.give_back.ensures.places c.give_back.ensures.all
    c.give_back.ensures.spare_places

-- the edits after the command was noted in the latest
abbrev edits_after : List OldValues → List OldValues → Option OldValues → Edits
edits_after kept undone begun = record { kept = kept; undone = undone; begun = begun }

pub returns-in-Some : goal.returns-in-Some
returns-in-Some g c =
    let edits = edits_after c.push_front.new.self.items c.give_back.new.undone.items c.self.inside.begun in
    let still = still_none _ c.args.self.now c.self.view_is c.requires.between.none_begun in
    let within : length c.self.inside.kept.items ≤ c.self.inside.kept.capacity =
    omega (arith, c.self.invariant.few, c.self.invariant.edits) in
    let same : past edits c.apply_noting.new.self ≡ past c.args.self.now c.args.screen.now =
    past-noted c.args.self.now edits c.args.screen.now c.apply_noting.new.self c.in-Some.latest
    c.apply_noting.new.delta (drop 1 c.self.inside.kept.items) c.requires.between.none_begun still
    (sym (ap (λ (u : Edits). u.kept) c.self.view_is)
    ∙ first_and_rest c.self.inside.kept.items c.in-Some.latest c.in-Some.ensures.value)
    (latest_noted c.self.inside.kept.items c.self.inside.kept.capacity c.in-Some.latest c.apply_noting.new.delta
    c.pop_front.new.self c.push_front.new.self within c.in-Some.ensures.value c.pop_front.ensures.items
    c.push_front.ensures.items)
    c.apply_noting.ensures.unwound in
    let none : future edits c.apply_noting.new.self ≡ [] =
    future-none edits c.apply_noting.new.self c.give_back.ensures.none in
    let stays : StaysUnbegun c.args.self.now c.args.screen.now edits c.apply_noting.new.self = record {
      past = same;
      future = none;
      none_begun = still;
      fits = FitsTogether-same c.args.self.now edits c.args.screen.now c.apply_noting.new.self still same none c.requires.between.fits;
    } in
    elim c.match-push_front.branch [
      | in-Some-1 w ↦ record { edits = rw w.self-is stays; applied = (search rules) }
      | in-None-1 w ↦ record { edits = rw w.self-is stays; applied = (search rules) }
    ]

pub returns-in-None : goal.returns-in-None
returns-in-None g c =
    let still = still_none _ c.args.self.now c.self.view_is c.requires.between.none_begun in
    let first = none_first c.self.inside.kept.items c.in-None.ensures.value in
    let none = ap (λ (b : Buffer OldValues). b.items) c.pop_front.ensures.items ∙ ap (drop 1) first in
    record {
      edits = record {
        past = past-none _ c.apply_from.new.self none
            ∙ sym (past-none c.args.self.now c.args.screen.now (sym (ap (λ (u : Edits). u.kept) c.self.view_is) ∙ first));
        future = future-none _ c.apply_from.new.self c.give_back.ensures.none;
        none_begun = still;
        fits = FitsTogether-none _ c.apply_from.new.self still none c.give_back.ensures.none;
      };
      applied = (search rules);
    }
