use Rattle.std.proofs.Common.{◌-◌, false, replicate, refl, ◌∙◌, arith}
use Rattle.std.proofs.lemmas.List.{get_or-replicate}
use Rattle.cept_codes.proofs.Laws.{entry_from}
use Rattle.cept_redraw.proofs.NamesKept.{AreNamed-none}
use Rattle.cept_redraw.proofs.kept_names.KeptNames.forget_all.Goals as goal

pub returns : goal.returns
returns c k =
    AreNamed-none _ k c.self.invariant.0 refl
    (λ r low high. entry_from false 1 (replicate 24 false) r low ∙ get_or-replicate 24 (r - 1) false false (omega (arith, low, high)))
