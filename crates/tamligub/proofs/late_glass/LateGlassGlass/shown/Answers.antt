use Rattle.std.proofs.Common.{ℕ, sym, ◌∙◌, ap}
use Rattle.cept_codes.specs.Look.{blank_look}
use Rattle.cept_codes.specs.Table.{value_at}
use Rattle.cept_codes.proofs.Laws.{value_at-table}
use Rattle.tamligub.specs.inside.Blank.{late_grid}
use Rattle.tamligub.proofs.late_glass.LateGlassGlass.shown.Goals as goal

pub returns-in-None : goal.returns-in-None
returns-in-None c = record {
  look = sym (value_at-table (λ (_ : ℕ) (_ : ℕ). blank_look) blank_look c.args.at.row c.args.at.column c.row-row.ensures.on_screen)
      ∙ ap (λ p. value_at blank_look (late_grid p) c.args.at.row c.args.at.column) (sym c.in-None.is);
}
