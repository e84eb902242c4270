-- Valid signs (ISO 2022 code positions 2/0 to 7/15, ISO 6937 accents; that the space is one sign of set P, and that all
-- of 4/0 to 4/15 of set S are accents and no signs, is this profile's own).
use Rattle.std.specs.Prelude.{ℕ, ◌≡◌, ◌≤◌, ◌<◌, ◌⊎◌}
use Rattle.cept_codes.specs.declared.glyph.SetId.{SetId}
use Rattle.cept_codes.specs.declared.glyph.SetId.TheVariants.{P, S}
use Rattle.cept_codes.specs.declared.glyph.Glyph.{Glyph}

-- no accent, or an accent of set S on a sign of set P
abbrev pub IsValidAccent : SetId → ℕ → Type 0
IsValidAccent P accent = (accent ≡ 0) ⊎ ((0x40 ≤ accent) × (accent ≤ 0x4F))
IsValidAccent _ accent = accent ≡ 0

-- the codes of a set: the space is of set P, and the accents of set S are no signs
abbrev pub IsCodeOf : SetId → ℕ → Type 0
IsCodeOf P code = (0x20 ≤ code) × (code ≤ 0x7F)
IsCodeOf S code = (0x21 ≤ code) × (code ≤ 0x7F) × ((code < 0x40) ⊎ (0x4F < code))
IsCodeOf _ code = (0x21 ≤ code) × (code ≤ 0x7F)

-- a code of its set, and an accent that its set takes
pub record IsValidGlyph (g : Glyph) : Type 0 where
  pub code : IsCodeOf g.set g.code
  pub accent : IsValidAccent g.set g.accent
