-- The lines of a screen that flashes: what each turn of its phases changes. This project's own.
use Rattle.std.specs.Prelude.{ℕ, ◌-◌, ◌%◌, List, ◌++◌, flat_map}
use Rattle.std.specs.List.{range_with_len}
use Rattle.cept_codes.specs.declared.look.Look.{Look}
use Rattle.cept_codes.specs.Look.{blank_look}
use Rattle.cept_codes.specs.Table.{table}
use Rattle.cept_flash.specs.Phases.{frame}
use Rattle.cept_profile.specs.Changes.{changes_between}
use Rattle.cept_report.specs.Text.{change_lines}

-- the places that turn t changes, of turns that are counted from 1
unfoldable pub turn_lines : List (List Look) → ℕ → List ℕ
turn_lines g t = change_lines t (changes_between (frame g ((t - 1) % 6)) (frame g (t % 6)))

-- the places that aren't blank at phase 0, and those that each of so many turns changes
unfoldable pub phase_lines : List (List Look) → ℕ → List ℕ
phase_lines g turns =
    change_lines 0 (changes_between (table (λ _ _. blank_look)) (frame g 0)) ++ flat_map (turn_lines g) (range_with_len 1 turns)
