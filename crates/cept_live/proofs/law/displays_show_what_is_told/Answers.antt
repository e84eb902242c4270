use Rattle.cept_live.proofs.DisplaysKept.{begun-phase, begun-shown, ended-shown, fed-shown, line-shown, shown-kept}
use Rattle.cept_live.proofs.DisplaysKept.{shown-start, shown-unflashed}
use Rattle.cept_live.proofs.law.displays_show_what_is_told.Goals as goal

pub returns-clause-start : goal.returns-clause-start
returns-clause-start c = shown-start

pub returns-clause-fed : goal.returns-clause-fed
returns-clause-fed c = fed-shown

pub returns-clause-ended : goal.returns-clause-ended
returns-clause-ended c = ended-shown

pub returns-clause-begun : goal.returns-clause-begun
returns-clause-begun c = begun-shown

pub returns-clause-phase : goal.returns-clause-phase
returns-clause-phase c = begun-phase

pub returns-clause-unflashed : goal.returns-clause-unflashed
returns-clause-unflashed c = shown-unflashed

pub returns-clause-kept : goal.returns-clause-kept
returns-clause-kept c = shown-kept

pub returns-clause-line : goal.returns-clause-line
returns-clause-line c = line-shown
