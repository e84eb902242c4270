-- What private clauses say beside `Text` (this project's own).
use Rattle.std.specs.Prelude.{ℕ, Bool, List}
use Rattle.cept_codes.specs.declared.look.Look.{Look}
use Rattle.cept_profile.specs.Changes.{marked_looks}
use Rattle.cept_report.specs.Text.{change_lines}

-- a line for each marked place
abbrev pub marked_lines : ℕ → List Bool → List (List Look) → List ℕ
marked_lines label marks looks = change_lines label (marked_looks marks looks)
