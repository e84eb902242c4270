use Rattle.std.proofs.Common.{List, drop, sym, ap, ◌∙◌, arith, refl}
use Rattle.cept_profile.specs.Look.{looks_of}
use Rattle.cept_profile.specs.OldValues.{OldValues}
use Rattle.cept_profile.specs.State.{State, core_of}
use Rattle.circular_buffer.specs.Buffer.{Buffer}
use Rattle.cept_undo.specs.Past.{handed_on, nearest, unwound_in_turn}
use Rattle.cept_undo.proofs.InTurn.{empty_in_turn, moved_from, moved_from_valid, moved_on, moved_on_valid, moved_to}
use Rattle.cept_undo.proofs.InTurn.{nearest_valid, none_first}
use Rattle.cept_undo.proofs.Unchanged.{differences-same, rows_renewed-same, shown-same, told-same}
use Rattle.cept_undo.proofs.rings.move_edit.Goals as goal

pub exchange-requires : goal.exchange-requires
exchange-requires g c =
    nearest_valid c.args.screen.now c.args.from.now.items c.in-Some.delta c.in-Some.ensures.value c.requires.valid

pub returns-in-Some-clause-moves : goal.returns-in-Some-clause-moves
returns-in-Some-clause-moves g c = record {
  state = moved_to c.args.screen.now c.exchange.new.self c.args.from.now.items c.in-Some.delta c.in-Some.ensures.value
      c.exchange.ensures.state;
  rest = moved_from c.args.screen.now c.exchange.new.self c.args.from.now.items c.in-Some.delta c.pop_front.new.self
      c.args.from.now.capacity c.in-Some.ensures.value c.exchange.ensures.state c.pop_front.ensures.items;
  others = moved_on c.args.screen.now c.exchange.new.self c.args.from.now.items c.args.to.now.items c.in-Some.delta
      c.exchange.new.delta c.push_front.new.self c.args.to.now.capacity c.in-Some.ensures.value c.requires.room
      c.exchange.ensures.unwound c.push_front.ensures.items;
}

pub returns-in-Some-clause-valid : goal.returns-in-Some-clause-valid
returns-in-Some-clause-valid g c =
    moved_from_valid c.args.screen.now c.exchange.new.self c.args.from.now.items c.in-Some.delta c.pop_front.new.self
    c.args.from.now.capacity c.in-Some.ensures.value c.exchange.ensures.state c.pop_front.ensures.items c.requires.valid

pub returns-in-Some-clause-valid_back : goal.returns-in-Some-clause-valid_back
returns-in-Some-clause-valid_back g c =
    moved_on_valid c.args.screen.now c.exchange.new.self c.args.from.now.items c.args.to.now.items c.in-Some.delta
    c.exchange.new.delta c.push_front.new.self c.args.to.now.capacity c.in-Some.ensures.value c.requires.room
    c.exchange.ensures.unwound c.push_front.ensures.items c.exchange.ensures.was_valid c.requires.valid_back

pub returns-in-None-clause-moves : goal.returns-in-None-clause-moves
returns-in-None-clause-moves g c = record {
  state = sym (ap (λ (l : List State). nearest l c.args.screen.now)
      (empty_in_turn c.args.screen.now c.args.from.now.items
      (none_first c.args.from.now.items c.in-None.ensures.value)));
  rest = let none = none_first c.args.from.now.items c.in-None.ensures.value in
      empty_in_turn c.args.screen.now c.pop_front.new.self.items
      (ap (λ (b : Buffer OldValues). b.items) c.pop_front.ensures.items ∙ ap (drop 1) none)
      ∙ sym (ap (λ (l : List State). drop 1 l) (empty_in_turn c.args.screen.now c.args.from.now.items none));
  others = sym (ap (λ (l : List State). handed_on l c.args.screen.now
      (unwound_in_turn c.args.screen.now c.args.to.now.items))
      (empty_in_turn c.args.screen.now c.args.from.now.items
      (none_first c.args.from.now.items c.in-None.ensures.value)));
}

pub returns-in-None-clause-paints : goal.returns-in-None-clause-paints
returns-in-None-clause-paints g c = record {
  repainted = record {
    marks = c.new.ensures ∙ differences-same (looks_of (core_of c.args.screen.now));
    shown = shown-same (g.G.Glass.state c.args.glass.now).grid (looks_of (core_of c.args.screen.now));
    told = told-same (g.G.Glass.state c.args.glass.now).paints (looks_of (core_of c.args.screen.now));
  };
  least = omega (arith, rows_renewed-same (looks_of (core_of c.args.screen.now)));
  at_most_24 = omega arith;
}

pub returns-in-Some-clause-paints : goal.returns-in-Some-clause-paints
returns-in-Some-clause-paints g c = record {
  repainted = c.exchange.ensures.repainted;
  least = c.exchange.ensures.least;
  at_most_24 = c.exchange.ensures.at_most_24;
}

pub returns-in-None-clause-untouched : goal.returns-in-None-clause-untouched
returns-in-None-clause-untouched g c = λ _. record {
  unchanged = refl;
  unpainted = refl;
  unmarked = c.new.ensures;
  unticked = refl;
}
