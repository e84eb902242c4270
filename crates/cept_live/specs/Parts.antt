-- What is read from a snapshot (this project's own): the value that has these numbers, and some value where none has.
--
use Rattle.std.specs.Prelude.{◌≡◌, ℕ, Option, Some, None, map, nat_lt, if◌then◌else◌}
use Rattle.cept_control.specs.Bytes.{control_bytes}
use Rattle.cept_control.specs.Numbers.{bit, number_or}
use Rattle.cept_profile.specs.State.{core_of}
use Rattle.cept_writer.specs.CompactCommands.{page_text}
use Rattle.cept_live.specs.declared.parts.Parts.{Parts}
use Rattle.cept_live.specs.Live.{LiveState}

-- one of the six phases, or none
abbrev pub phase_by : ℕ → Option ℕ
phase_by number = if nat_lt number 6 then Some number else None

-- the parts are those of the snapshot of a decoder
pub record HasParts (live : LiveState) (parts : Parts) : Type 0 where
  pub place : parts.place ≡ live.parser.place
  pub context : parts.context ≡ live.parser.context
  pub pending : parts.pending.now ≡ live.parser.pending
  pub control : parts.control.now ≡ control_bytes live.screen.control
  pub phase : parts.phase ≡ phase_by (number_or 255 live.phase)
  pub renewed : parts.renewed.now ≡ map bit live.renewed
  pub page : parts.page.now ≡ page_text (core_of live.screen)
