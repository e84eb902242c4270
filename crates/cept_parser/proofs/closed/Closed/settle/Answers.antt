use Rattle.std.proofs.Common.{◌≡◌, false, ◌++◌, refl, ap, sym, ◌∙◌}
use Rattle.std.proofs.lemmas.List.{append-nil}
use Rattle.cept_parser.specs.Fit.{Answer}
use Rattle.cept_parser.specs.Items.{Reading, reading_at, waiting_reading}
use Rattle.cept_parser.proofs.OneByteMoreLemmas.{read_item, read_as_longer, read_open, kept_answer, misfit_told}
use Rattle.cept_parser.proofs.ClosedLemmas.{one_more, no_more}
use Rattle.cept_parser.proofs.closed.Closed.settle.Goals as goal
use Rattle.cept_parser.proofs.closed.Closed.settle.Goals.{In-Longer, In-Open}

-- whole bytes are an item
pub returns-in-Whole-clause-items : goal.returns-in-Whole-clause-items
returns-in-Whole-clause-items c _ =
    one_more c.self.inside.items c.args.self.now c.self.inside.count c.fit_item-fit.new.item c.self.invariant
    c.self.view_is c.requires.room
    ∙ ap (λ (r : Reading). c.args.self.now ++ r.items) (sym (read_item _ c.args.at _ _ _ _ c.in-Whole.ensures.place
    c.in-Whole.ensures.length c.in-Whole.ensures.answer))

pub returns-in-Whole-clause-context : goal.returns-in-Whole-clause-context
returns-in-Whole-clause-context c _ =
    ap (λ (r : Reading). r.context) (sym (read_item _ c.args.at _ _ _ _ c.in-Whole.ensures.place
    c.in-Whole.ensures.length c.in-Whole.ensures.answer))

-- whole bytes that may grow wait
longer : (c : In-Longer) → reading_at c.args.context.now c.args.at c.args.bytes.now
    ≡ waiting_reading c.args.context.now c.args.at c.args.bytes.now
longer c = read_as_longer _ c.args.at _ (ap (λ (a : Answer). a.fit) c.in-Longer.ensures.answer)

pub returns-in-Longer-clause-items : goal.returns-in-Longer-clause-items
returns-in-Longer-clause-items c _ =
    no_more c.self.inside.items c.args.self.now c.self.inside.count c.fit_item-fit.new.item c.self.view_is
    ∙ sym (append-nil c.args.self.now) ∙ ap (λ (r : Reading). c.args.self.now ++ r.items) (sym (longer c))

pub returns-in-Longer-clause-context : goal.returns-in-Longer-clause-context
returns-in-Longer-clause-context c _ =
    (kept_answer _ false _ _ _ c.in-Longer.ensures.answer refl).1 ∙ ap (λ (r : Reading). r.context) (sym (longer c))

-- bytes that are not whole wait
waiting : (c : In-Open) → reading_at c.args.context.now c.args.at c.args.bytes.now
    ≡ waiting_reading c.args.context.now c.args.at c.args.bytes.now
waiting c = read_open _ c.args.at _ (ap (λ (a : Answer). a.fit) c.in-Open.ensures.answer)

pub returns-in-Open-clause-items : goal.returns-in-Open-clause-items
returns-in-Open-clause-items c _ =
    no_more c.self.inside.items c.args.self.now c.self.inside.count c.fit_item-fit.new.item c.self.view_is
    ∙ sym (append-nil c.args.self.now) ∙ ap (λ (r : Reading). c.args.self.now ++ r.items) (sym (waiting c))

pub returns-in-Open-clause-context : goal.returns-in-Open-clause-context
returns-in-Open-clause-context c _ =
    (kept_answer _ false _ _ _ c.in-Open.ensures.answer refl).1 ∙ ap (λ (r : Reading). r.context) (sym (waiting c))

pub returns-in-Misfit-clause-misfit : goal.returns-in-Misfit-clause-misfit
returns-in-Misfit-clause-misfit c _ = misfit_told _ _ (ap (λ (a : Answer). a.fit) c.in-Misfit.ensures.answer)

-- bytes that don't fit change nothing
pub returns-in-Misfit-clause-kept : goal.returns-in-Misfit-clause-kept
returns-in-Misfit-clause-kept c _ = (
  no_more c.self.inside.items c.args.self.now c.self.inside.count c.fit_item-fit.new.item c.self.view_is,
  (kept_answer _ false _ _ _ c.in-Misfit.ensures.answer refl).1,
)
