-- What is shown before a phase of flashing begins (this project's own).
use Rattle.std.specs.Prelude.{Bool, List}
use Rattle.cept_codes.specs.declared.look.Look.{Look}
use Rattle.cept_codes.specs.Look.{blank_look}
use Rattle.cept_codes.specs.Table.{table}
use Rattle.cept_live.specs.declared.flashing.Before.{Before}
use Rattle.cept_live.specs.declared.flashing.Before.TheVariants as befores
use Rattle.cept_live.specs.Shown.{look_shown, shown_of}

-- at a place with this look, renewed since a phase began or not
abbrev pub look_before : Before → Bool → Look → Look
look_before befores.Blank renewed look = blank_look
look_before (befores.Shown phase) renewed look = look_shown phase renewed look

-- at all places of a grid of looks
abbrev pub looks_before : Before → List (List Look) → List Bool → List (List Look)
looks_before befores.Blank g renewed = table (λ _ _. blank_look)
looks_before (befores.Shown phase) g renewed = shown_of g phase renewed
