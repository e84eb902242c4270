-- Names of a row in little space (own): three numbers for each column.
use Rattle.std.specs.Prelude.{ℕ, ◌-◌, ◌==◌, Option, Some, None, List, slice_index_or}
use Rattle.std.specs.Prelude.{if◌then◌else◌}
use Rattle.cept_codes.specs.declared.look.Look.{Look}
use Rattle.cept_codes.specs.Look.{blank_look}
use Rattle.cept_profile.specs.Look.{part_of}
use Rattle.cept_profile.specs.Names.{Names}
use Rattle.cept_profile.specs.NamesFromAbove.{names_from_above, names_in_row}
use Rattle.cept_profile.specs.Serial.{row_in}
use Rattle.cept_profile.specs.Tiling.{column_entry}
use Rattle.cept_rows.specs.declared.naming.RowNames.{RowNames}
use Rattle.cept_rows.specs.Source.{Source}

-- the code that is kept: 0 stands for none
abbrev pub code_kept : ℕ → Option ℕ
code_kept code = if code == 0 then None else Some code

-- the names that are kept in a column, from 1
abbrev pub names_kept : RowNames → ℕ → Names
names_kept n c = record {
  fore = slice_index_or n.fore (c - 1) 0;
  back = slice_index_or n.back (c - 1) 0;
  code = code_kept (slice_index_or n.code (c - 1) 0);
}

-- the names of a row beneath these names, by the parts that its looks show and the names of its own cells
abbrev pub names_made : RowNames → List Look → (ℕ → Names) → ℕ → Names
names_made above looks own = names_from_above (names_kept above) (λ d. part_of (column_entry blank_look looks d)) own

-- the names of what stands in the columns of a row by themselves
abbrev pub own_names : Source → ℕ → Names
own_names source = names_in_row (row_in source.cells) source.row_pen source.screen_pen
