-- Valid commands: the ranges that the grammar of the bytes gives them. Entries of four tables of eight are of ETS 300
-- 072 (colour tables), C0 and C1 codes of its sets; all other ranges, and which forms there are, are this profile's
-- own.
use Rattle.std.specs.Prelude.{ℕ, ◌≤◌, ◌<◌, ◌≡◌, ◌≢◌, ◌⊎◌, IsTrue}
use Rattle.cept_codes.specs.declared.command.Command.{Command}
use Rattle.cept_codes.specs.declared.command.Command.TheVariants as commands
use Rattle.cept_codes.specs.declared.command.Form.{Form}
use Rattle.cept_codes.specs.declared.item.Item.{Item}
use Rattle.cept_codes.specs.declared.item.Said.{Said}
use Rattle.cept_codes.specs.declared.item.Said.TheVariants as said
use Rattle.cept_codes.specs.Look.{IsValidRgb, IsValidPattern, is_pattern_size, is_plane_count}
use Rattle.cept_codes.specs.Place.{OnScreen}

-- a graphic byte: of the left half 2/0 to 7/15, or of the right half 10/0 to 15/15
abbrev pub IsGraphic : ℕ → Type 0
IsGraphic b = ((0x20 ≤ b) × (b ≤ 0x7F)) ⊎ ((0xA0 ≤ b) × (b ≤ 0xFF))

-- a C1 code counted from 8/0: 9/11 is no code of its own
abbrev pub IsC1 : ℕ → Type 0
IsC1 n = (n < 32) × (n ≢ 27)

-- a C1 code that may stand for the whole screen: the sizes may not
abbrev pub IsScreenC1 : ℕ → Type 0
IsScreenC1 n = IsC1 n × ((n < 12) ⊎ (15 < n))

-- rows of an area, the first not below the last
abbrev pub IsArea : ℕ → ℕ → Type 0
IsArea a b = (1 ≤ a) × (a ≤ b) × (b ≤ 24)

-- a size and a count of planes that patterns have
pub record IsValidForm (f : Form) : Type 0 where
  pub size : IsTrue (is_pattern_size f.w f.h)
  pub planes : IsTrue (is_plane_count f.planes)

-- each number in the range that its unit of bytes gives
abbrev pub IsValidCommand : Command → Type 0
IsValidCommand commands.Nul = Unit {0}
IsValidCommand commands.Skipped = Unit {0}
IsValidCommand commands.Back = Unit {0}
IsValidCommand commands.Forward = Unit {0}
IsValidCommand commands.Down = Unit {0}
IsValidCommand commands.Up = Unit {0}
IsValidCommand commands.Clear = Unit {0}
IsValidCommand commands.Return = Unit {0}
IsValidCommand commands.Home = Unit {0}
IsValidCommand commands.CursorOn = Unit {0}
IsValidCommand commands.CursorOff = Unit {0}
IsValidCommand commands.Cancel = Unit {0}
IsValidCommand (commands.LockLeft g) = g ≤ 3
IsValidCommand (commands.LockRight g) = (1 ≤ g) × (g ≤ 3)
IsValidCommand (commands.Single g) = (2 ≤ g) × (g ≤ 3)
IsValidCommand (commands.Repeat n) = n ≤ 63
IsValidCommand (commands.Position r c) = OnScreen r c
IsValidCommand (commands.Graphic b) = IsGraphic b
IsValidCommand (commands.C1 n) = IsC1 n
IsValidCommand (commands.DesignateC1 s) = Unit {0}
IsValidCommand (commands.Designate g s) = g ≤ 3
IsValidCommand (commands.Table k) = k ≤ 3
IsValidCommand (commands.FlashMode k) = k ≤ 6
IsValidCommand commands.StopConceal = Unit {0}
IsValidCommand commands.ScrollUp = Unit {0}
IsValidCommand commands.ScrollDown = Unit {0}
IsValidCommand (commands.Implicit v) = Unit {0}
IsValidCommand (commands.Protect v) = Unit {0}
IsValidCommand (commands.Marked v) = Unit {0}
IsValidCommand (commands.AreaCreate a b) = IsArea a b
IsValidCommand (commands.AreaDelete a b) = IsArea a b
IsValidCommand (commands.FullScreen n) = IsScreenC1 n
IsValidCommand (commands.FullRow n) = IsC1 n
IsValidCommand (commands.ColourHeader d) = Unit {0}
IsValidCommand commands.ColourDefaults = Unit {0}
IsValidCommand (commands.ColourStart i) = i ≤ 31
IsValidCommand (commands.Entry i c) = (i ≤ 31) × IsValidRgb c
IsValidCommand (commands.Dclut i v) = (i ≤ 3) × (v ≤ 31)
IsValidCommand (commands.DrcsHeader d f) = IsValidForm f
IsValidCommand (commands.DrcsStart c) = (0x21 ≤ c) × (c ≤ 0x7E)
IsValidCommand (commands.DrcsPattern c p) = (0x21 ≤ c) × (c ≤ 0x7E) × IsValidPattern p
IsValidCommand (commands.Format r w) = (r ≡ 24) ⊎ (r ≡ 20)
IsValidCommand (commands.ServiceBreak r) = (1 ≤ r) × (r ≤ 24)
IsValidCommand commands.ServiceEnd = Unit {0}
IsValidCommand (commands.FullDefaults s) = Unit {0}
IsValidCommand (commands.ControlDefaults s) = Unit {0}
IsValidCommand (commands.Revision r) = (r ≡ 1) ⊎ (r ≡ 2)

-- a refusal is always valid
abbrev pub IsValidSaid : Said → Type 0
IsValidSaid (said.Command c) = IsValidCommand c
IsValidSaid (said.Refused r) = Unit {0}

-- where an item stands and how long it is, is free
abbrev pub IsValidItem : Item → Type 0
IsValidItem item = IsValidSaid item.what
