use Rattle.std.proofs.Common.{◌≡◌, Bool, List, length, rules, sym, subst, ◌∙◌}
use Rattle.cept_redraw.specs.Marks.{AreWithin}
use Rattle.cept_redraw.proofs.MarkedWithin.{AreWithin-none, none_within}
use Rattle.cept_redraw.proofs.marks.Marks.clear.Goals as goal

pub invariant_of-self : goal.invariant_of-self
invariant_of-self c =
    subst (λ (flags : List Bool). AreWithin flags 0 0) (sym c.unmark_within.ensures) AreWithin-none

pub returns-then-self-eq0 : goal.returns-then-self-eq0
returns-then-self-eq0 c =
    let places : length c.self.inside.flags ≡ 960 = search rules in
    sym c.self.view_is ∙ none_within c.self.invariant places c.if-self-eq0.true
