use Rattle.std.proofs.Common.{◌≡◌, [], ◌∷◌, Option, take, refl, sym, ap, subst, ◌∙◌}
use Rattle.std.specs.Prelude.{IsNone, is_some}
use Rattle.cept_profile.specs.OldValues.{OldValues}
use Rattle.cept_undo.specs.Past.{Edits, FitsTogether, future, most_kept, past}
use Rattle.cept_undo.proofs.Room.{kept_more}
use Rattle.cept_undo.proofs.PastAndFuture.{FitsTogether-commit, future-none, past-commit}
use Rattle.cept_undo.proofs.undo.Undo.commit.Goals as goal
use Rattle.cept_undo.proofs.undo.Undo.commit.Goals.{in-Some-1, in-None-1}

pub returns-in_default-clause-past : goal.returns-in_default-clause-past
returns-in_default-clause-past c =
    past-commit c.args.self.now _ c.unwrap-delta.result most_kept (cc)
    (kept_more c.args.self.now c.self.inside.kept.items c.self.inside.kept.capacity c.unwrap-delta.result
    c.push_front.new.self (ap (λ (u : Edits). u.kept) c.self.view_is) c.self.invariant.edits c.push_front.ensures.items)
    (subst (λ (o : Option OldValues). IsNone o) (sym c.take.ensures.after) refl)

pub returns-in_default-clause-fits : goal.returns-in_default-clause-fits
returns-in_default-clause-fits c =
    FitsTogether-commit c.args.self.now _ c.unwrap-delta.result most_kept (cc)
    (kept_more c.args.self.now c.self.inside.kept.items c.self.inside.kept.capacity c.unwrap-delta.result
    c.push_front.new.self (ap (λ (u : Edits). u.kept) c.self.view_is) c.self.invariant.edits c.push_front.ensures.items)
    (subst (λ (o : Option OldValues). IsNone o) (sym c.take.ensures.after) refl)
    (c.self.invariant.alone (ap is_some (sym c.take.ensures.value ∙ c.unwrap-delta.ensures)))

pub returns-in-Some-clause-past : goal.returns-in-Some-clause-past
returns-in-Some-clause-past c = λ screen before at.
    let edits : Edits = record {
      kept = c.push_front.new.self.items;
      undone = c.self.inside.undone.items;
      begun = c.take.new.self;
    } in
    let more : past edits screen ≡ take most_kept (before ∷ past c.args.self.now screen) =
    past-commit c.args.self.now edits c.unwrap-delta.result most_kept (cc)
    (kept_more c.args.self.now c.self.inside.kept.items c.self.inside.kept.capacity c.unwrap-delta.result
    c.push_front.new.self (ap (λ (u : Edits). u.kept) c.self.view_is) c.self.invariant.edits c.push_front.ensures.items)
    (subst (λ (o : Option OldValues). IsNone o) (sym c.take.ensures.after) refl) screen before at in
    elim c.match-push_front-2.branch [
      | in-Some-1 w ↦ rw w.self-is more
      | in-None-1 w ↦ rw w.self-is more
    ]

pub returns-in-Some-clause-fits : goal.returns-in-Some-clause-fits
returns-in-Some-clause-fits c = λ screen fits.
    let edits : Edits = record {
      kept = c.push_front.new.self.items;
      undone = c.self.inside.undone.items;
      begun = c.take.new.self;
    } in
    let more : FitsTogether edits screen =
    FitsTogether-commit c.args.self.now edits c.unwrap-delta.result most_kept (cc)
    (kept_more c.args.self.now c.self.inside.kept.items c.self.inside.kept.capacity c.unwrap-delta.result
    c.push_front.new.self (ap (λ (u : Edits). u.kept) c.self.view_is) c.self.invariant.edits c.push_front.ensures.items)
    (subst (λ (o : Option OldValues). IsNone o) (sym c.take.ensures.after) refl)
    (c.self.invariant.alone (ap is_some (sym c.take.ensures.value ∙ c.unwrap-delta.ensures))) screen fits in
    elim c.match-push_front-2.branch [
      | in-Some-1 w ↦ rw w.self-is more
      | in-None-1 w ↦ rw w.self-is more
    ]

pub returns-in_default-clause-future : goal.returns-in_default-clause-future
returns-in_default-clause-future c = λ screen.
    future-none _ screen (c.self.invariant.alone (ap is_some (sym c.take.ensures.value ∙ c.unwrap-delta.ensures)))

pub returns-in-Some-clause-future : goal.returns-in-Some-clause-future
returns-in-Some-clause-future c = λ screen.
    let edits : Edits = record {
      kept = c.push_front.new.self.items;
      undone = c.self.inside.undone.items;
      begun = c.take.new.self;
    } in
    let none : future edits screen ≡ [] = future-none edits screen (c.self.invariant.alone (ap is_some (sym c.take.ensures.value ∙ c.unwrap-delta.ensures))) in
    elim c.match-push_front-2.branch [
      | in-Some-1 w ↦ rw w.self-is none
      | in-None-1 w ↦ rw w.self-is none
    ]
