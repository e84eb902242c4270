use Rattle.std.proofs.Common.{false}
use Rattle.cept_codes.specs.Table.{HasMadeEntries}
use Rattle.cept_page.specs.Parts.{pens_of}
use Rattle.cept_redraw.specs.inside.Due.{is_altered}
use Rattle.cept_redraw.proofs.altered_rows.rows_altered.Given as goal

abbrev pub invariant-loop-i : goal.invariant-loop-i
invariant-loop-i l =
    HasMadeEntries false 1 24 (is_altered l.strokes l.was l.before (pens_of l.page) l.after) (λ _. false) l.altered l.i
