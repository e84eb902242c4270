use Rattle.std.proofs.Common.{sym, ◌∙◌}
use Rattle.std.proofs.lemmas.Slice.Eq.{bytes_eq-Decides}
use Rattle.tamligub.proofs.Loads.{load_paints}
use Rattle.tamligub.proofs.calling.Call.paints.Goals as goal

pub returns-in-Number : goal.returns-in-Number
returns-in-Number c = λ same.
    load_paints c.args.self.now.word.now c.args.self.now.given c.args.self.now.number _
    ((bytes_eq-Decides c.args.self.now.word.now c.as_slice.result.now).0 (sym c.eq.ensures ∙ same) ∙ c.as_slice.ensures)
    c.requires
