-- What private clauses say beside `Flagged` (this project's own).
use Rattle.std.specs.Prelude.{ℕ, ◌≡◌, ◌-◌, Bool, false, not, List, slice_set}
use Rattle.cept_codes.specs.declared.look.Look.{Look}
use Rattle.cept_codes.specs.Look.{blank_look}
use Rattle.cept_codes.specs.Same.{same_look}
use Rattle.cept_codes.specs.Table.{HasMadeEntries, entry}
use Rattle.cept_profile.specs.Tiling.{column_entry}
use Rattle.cept_rows.specs.Flagged.{look_at, look_after}

-- another look in one column
abbrev pub with_look : List Look → ℕ → Look → List Look
with_look looks c look = slice_set looks (c - 1) look

-- the look of a column after that differs from the one before
abbrev pub differs_after : List Bool → (ℕ → Look) → List Look → ℕ → Bool
differs_after flags fresh was c = not (same_look (look_at was c) (look_after flags fresh was c))

-- a column gets this look, and it is answered whether it differs from the one before
pub record IsReplaced (was : List Look) (c : ℕ) (fresh : Look) (now : List Look) (answer : Bool) : Type 0 where
  pub looks : now ≡ with_look was c fresh
  pub differs : answer ≡ not (same_look (look_at was c) fresh)

-- the first n columns are made, and the others as they were
abbrev pub IsMadeTo : (ℕ → Look) → List Look → List Look → ℕ → Type 0
IsMadeTo fresh was now n = HasMadeEntries blank_look 1 40 fresh (entry blank_look 1 was) now n

-- the first n columns are resolved where they are flagged, and it is said which differ
pub record IsResolvedTo (flags : List Bool) (own : ℕ → Look) (was now : List Look) (differ : List Bool) (n : ℕ)
    : Type 0 where
  pub looks : HasMadeEntries blank_look 1 40 (look_after flags own was) (column_entry blank_look was) now n
  pub answers : HasMadeEntries false 1 40 (differs_after flags own was) (λ _. false) differ n
