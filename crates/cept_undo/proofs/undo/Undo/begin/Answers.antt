use Rattle.std.proofs.Common.{refl, ap}
use Rattle.cept_undo.specs.Past.{Edits}
use Rattle.cept_undo.proofs.PastAndFuture.{FitsTogether-begin, at_begin-begin, future-none, past-begin}
use Rattle.cept_undo.proofs.undo.Undo.begin.Goals as goal

pub returns-clause-past : goal.returns-clause-past
returns-clause-past c =
    past-begin c.args.self.now _ c.args.screen.now c.begin_notes.new.delta c.requires.between.none_begun
    (ap (λ (u : Edits). u.kept) c.self.view_is) refl c.begin_notes.ensures.unwound

pub returns-clause-future : goal.returns-clause-future
returns-clause-future c = future-none _ c.args.screen.now c.give_back.ensures.none

pub returns-clause-at_begin : goal.returns-clause-at_begin
returns-clause-at_begin c = at_begin-begin _ c.args.screen.now c.begin_notes.new.delta refl c.begin_notes.ensures.unwound

pub returns-clause-within : goal.returns-clause-within
returns-clause-within c = record {
  begun = refl;
  fits = FitsTogether-begin c.args.self.now _ c.args.screen.now (returns-clause-past c) (returns-clause-at_begin c)
      (returns-clause-future c) c.requires.between.fits c.begin_notes.ensures.valid;
}
