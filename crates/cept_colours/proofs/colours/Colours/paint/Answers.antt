use Rattle.std.proofs.Common.{ℕ, get_or, subst, arith}
use Rattle.cept_codes.specs.Look.{IsValidPaint, black_paint}
use Rattle.cept_codes.proofs.Laws.{entry_from}
use Rattle.cept_colours.proofs.colours.Colours.paint.Goals as goal

pub returns-clause-valid : goal.returns-clause-valid
returns-clause-valid c =
    subst (λ (n : ℕ). IsValidPaint (get_or c.self.inside.paints n black_paint)) (omega (arith, c.from.ensures))
    (subst IsValidPaint (entry_from black_paint 0 c.self.inside.paints c.args.i (omega arith))
    (c.self.invariant.paints c.args.i c.requires))
