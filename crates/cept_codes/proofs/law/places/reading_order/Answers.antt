use Rattle.cept_codes.proofs.Laws
use Rattle.cept_codes.proofs.law.places.reading_order.Goals as goal

pub returns-clause-numbered : goal.returns-clause-numbered
returns-clause-numbered c = Laws.number-place_of

pub returns-clause-on_screen : goal.returns-clause-on_screen
returns-clause-on_screen c = Laws.OnScreen-place_of

pub returns-clause-placed : goal.returns-clause-placed
returns-clause-placed c = Laws.place_of-number

pub returns-clause-below : goal.returns-clause-below
returns-clause-below c = Laws.number-lt

pub returns-clause-ordered : goal.returns-clause-ordered
returns-clause-ordered c = Laws.number-ordered
