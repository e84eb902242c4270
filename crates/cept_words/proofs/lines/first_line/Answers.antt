use Rattle.cept_words.proofs.FirstLines.{line_ended}
use Rattle.cept_words.proofs.lines.first_line.Goals as goal

pub returns-in-Some : goal.returns-in-Some
returns-in-Some c =
    let parts = rw c.in-Some.is at c.cut.ensures.parts in
    let places = rw c.in-Some.is at c.cut.ensures.places in
    line_ended _ _ _ parts places.0 places.1 places.2
