-- What private clauses say beside `SeenFlashing` (this project's own).
use Rattle.std.specs.Prelude.{ℕ, Bool, not, ◌||◌, if◌then◌else◌}
use Rattle.cept_codes.specs.declared.attribute.Flash.{Flash}
use Rattle.cept_flash.specs.Phases.{is_dimmed, is_on}

-- one holds and the other doesn't
abbrev pub differ : Bool → Bool → Bool
differ a b = if a then not b else b

-- and such a look isn't the same at these two phases
abbrev pub turns : Flash → ℕ → ℕ → Bool
turns flash before after =
    differ (is_on flash before) (is_on flash after) || differ (is_dimmed flash before) (is_dimmed flash after)
