use Rattle.cept_redraw.proofs.RedefinedRows.{AreNamed-alike}
use Rattle.cept_redraw.proofs.WalkedRows.{AreLooksOn-one}
use Rattle.cept_redraw.proofs.law.what_is_kept_stands_on_page_and_edges.Goals as goal

pub returns-clause-looks : goal.returns-clause-looks
returns-clause-looks c = AreLooksOn-one

pub returns-clause-names : goal.returns-clause-names
returns-clause-names c = AreNamed-alike
