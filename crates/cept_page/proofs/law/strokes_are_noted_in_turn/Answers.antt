use Rattle.cept_page.proofs.NotedInOrder.{noted-none, noted-one}
use Rattle.cept_page.proofs.law.strokes_are_noted_in_turn.Goals as goal

pub returns-clause-none : goal.returns-clause-none
returns-clause-none c = noted-none

pub returns-clause-one : goal.returns-clause-one
returns-clause-one c = noted-one
