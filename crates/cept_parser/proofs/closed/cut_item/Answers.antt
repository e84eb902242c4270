use Rattle.std.proofs.Common.{refl}
use Rattle.cept_parser.proofs.OneByteMoreLemmas.{cut_closed, cut_open}
use Rattle.cept_parser.proofs.closed.cut_item.Goals as goal

pub returns-in-Whole-clause-item : goal.returns-in-Whole-clause-item
returns-in-Whole-clause-item c =
    (cut_closed _ c.args.at _ _ _ _ c.in-Whole.ensures.place c.in-Whole.ensures.length c.in-Whole.ensures.answer refl).0

pub returns-in-Whole-clause-context : goal.returns-in-Whole-clause-context
returns-in-Whole-clause-context c =
    (cut_closed _ c.args.at _ _ _ _ c.in-Whole.ensures.place c.in-Whole.ensures.length c.in-Whole.ensures.answer refl).1

pub returns-in-Longer-clause-item : goal.returns-in-Longer-clause-item
returns-in-Longer-clause-item c =
    (cut_closed _ c.args.at _ _ _ _ c.in-Longer.ensures.place c.in-Longer.ensures.length c.in-Longer.ensures.answer refl).0

pub returns-in-Longer-clause-context : goal.returns-in-Longer-clause-context
returns-in-Longer-clause-context c =
    (cut_closed _ c.args.at _ _ _ _ c.in-Longer.ensures.place c.in-Longer.ensures.length c.in-Longer.ensures.answer refl).1

pub returns-in-Open-clause-item : goal.returns-in-Open-clause-item
returns-in-Open-clause-item c =
    (cut_open _ c.args.at _ _ _ _ c.in-Open.ensures.place c.in-Open.ensures.length c.in-Open.ensures.answer refl).0

pub returns-in-Open-clause-context : goal.returns-in-Open-clause-context
returns-in-Open-clause-context c =
    (cut_open _ c.args.at _ _ _ _ c.in-Open.ensures.place c.in-Open.ensures.length c.in-Open.ensures.answer refl).1

pub returns-in-Misfit-clause-item : goal.returns-in-Misfit-clause-item
returns-in-Misfit-clause-item c =
    (cut_open _ c.args.at _ _ _ _ c.in-Misfit.ensures.place c.in-Misfit.ensures.length c.in-Misfit.ensures.answer refl).0

pub returns-in-Misfit-clause-context : goal.returns-in-Misfit-clause-context
returns-in-Misfit-clause-context c =
    (cut_open _ c.args.at _ _ _ _ c.in-Misfit.ensures.place c.in-Misfit.ensures.length c.in-Misfit.ensures.answer refl).1
