use Rattle.std.proofs.Common.{List, [], sym, subst, rules}
use Rattle.cept_codes.specs.declared.look.Look.{Look}
use Rattle.cept_profile.specs.Valid.{IsValidGrid}
use Rattle.cept_repaint.proofs.ArrayRows.{blank_rows}
use Rattle.cept_repaint.proofs.ValidGrids.{IsValidGrid-blank}
use Rattle.cept_repaint.proofs.array_glass.ArrayGlass.new.Goals as goal

pub invariant_of-result : goal.invariant_of-result
invariant_of-result c = record {
  valid = subst (λ (g : List (List Look)). IsValidGrid g)
      (sym (blank_rows c.from_fn.result c.from_fn.ensures.items.long (λ i below.
      let made = c.from_fn.ensures.items.at i [] below in search rules))) IsValidGrid-blank;
}

pub returns-clause-blank : goal.returns-clause-blank
returns-clause-blank c =
    blank_rows c.from_fn.result c.from_fn.ensures.items.long (λ i below.
    let made = c.from_fn.ensures.items.at i [] below in search rules)
