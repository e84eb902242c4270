-- Names of rows as they are kept (this project's own): what each row names, and of which rows that is known. Names that are
-- known come from the row's own cells and parts and from what is kept as the names of the row above.
use Rattle.std.specs.Prelude.{ℕ, ◌≡◌, ◌-◌, Bool, true, false, List, length}
use Rattle.cept_codes.specs.Place.{OnScreen}
use Rattle.cept_codes.specs.Table.{entry}
use Rattle.cept_profile.specs.Edges.{Edges, edges_of_core}
use Rattle.cept_profile.specs.Look.{parts_of}
use Rattle.cept_profile.specs.Names.{Names}
use Rattle.cept_profile.specs.NamesFromAbove.{names_from_above, own_names}
use Rattle.cept_profile.specs.State.{Core, Page}
use Rattle.cept_profile.specs.Tiling.{part_at}
use Rattle.cept_redraw.specs.Kept.{core_on}
use Rattle.cept_rows.specs.declared.naming.RowNames.{RowNames}
use Rattle.cept_rows.specs.KeptNames.{names_kept}

-- names of the rows, whether each row's are known, and what stands above the first row
pub record NamesOfRows : Type 0 where
  pub above : RowNames
  pub rows : List RowNames
  pub known : List Bool

-- what is kept as the names of row r
abbrev pub row_named : NamesOfRows → ℕ → RowNames
row_named names r = entry names.above 1 names.rows r

-- the names of row r are known
abbrev pub is_known : NamesOfRows → ℕ → Bool
is_known names r = entry false 1 names.known r

-- the names of row r of a core at column c, beneath a row with these names
abbrev pub names_beneath : RowNames → Core → ℕ → ℕ → Names
names_beneath above k r c = names_from_above (names_kept above) (part_at (parts_of k) r) (own_names k r) c

-- the names that are known are those of a core, each beneath what is kept of the row above
pub record AreNamed (names : NamesOfRows) (k : Core) : Type 0 where
  pub rows : length names.rows ≡ 24
  pub flags : length names.known ≡ 24
  pub known : (r c : ℕ) → OnScreen r c → is_known names r ≡ true
      → names_kept (row_named names r) c ≡ names_beneath (row_named names (r - 1)) k r c

-- the same of every core with this page and these edges
abbrev pub AreNamedOn : NamesOfRows → Page → Edges → Type 0
AreNamedOn names p edges = (k : Core) → edges_of_core k ≡ edges → AreNamed names (core_on k p)
