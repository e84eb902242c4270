-- Writing: signs, the accents that wait for them, and how often a sign is written (ISO 6937, accents before their
-- sign; T/CD 6-1, RPT). Which signs take an accent, and how many columns a sign moves on, are this profile's own.
use Rattle.std.specs.Prelude.{ℕ, zero, suc, Option, Some, None, List, [], ◌++◌, unwrap_or}
use Rattle.cept_codes.specs.declared.attribute.Pen.{Pen}
use Rattle.cept_codes.specs.declared.attribute.Size.TheVariants as sizes
use Rattle.cept_codes.specs.declared.cell.What.{What}
use Rattle.cept_codes.specs.declared.cell.What.TheVariants as whats
use Rattle.cept_codes.specs.declared.command.C1Set.{C1Set}
use Rattle.cept_codes.specs.declared.command.C1Set.TheVariants as c1sets
use Rattle.cept_codes.specs.declared.glyph.Glyph.{Glyph}
use Rattle.cept_codes.specs.declared.glyph.Read.{Read}
use Rattle.cept_codes.specs.declared.glyph.Read.TheVariants as reads
use Rattle.cept_codes.specs.declared.glyph.SetId.{SetId}
use Rattle.cept_codes.specs.declared.glyph.SetId.TheVariants as sets
use Rattle.cept_codes.specs.declared.stroke.Stroke.{Stroke}
use Rattle.cept_profile.specs.Motions.{put}
use Rattle.cept_profile.specs.Sets.{code_of, read_as, set_of}
use Rattle.cept_profile.specs.Tiling.{columns_of_size}
use Rattle.cept_profile.specs.Working.{Working, ControlState, control_with}

-- what a sign is under a C1 set: under the parallel one the pen goes with it
abbrev pub content : C1Set → Glyph → Pen → What
content c1sets.Parallel g pen = whats.Parallel g pen
content c1sets.Serial g pen = whats.Serial g

-- how many columns a sign moves on: under the parallel set by the pen's size, under the serial by the last size marker
abbrev pub columns_under : C1Set → Working → ℕ
columns_under c1sets.Parallel w = columns_of_size (unwrap_or w.pen.size sizes.Normal)
columns_under c1sets.Serial w = w.step

-- a sign is written as the C1 set says: it is the last sign then, and no accent waits
abbrev pub effect_of_sign : ControlState → Glyph → Working × List Stroke
effect_of_sign s g =
    let made = put s (content s.working.c1 g s.working.pen) (columns_under s.working.c1 s.working) in
    (record made.0 { last = Some g; accent = None }, made.1)

-- n copies of a sign, one after the other
unfoldable pub effect_of_copies : ℕ → ControlState → Glyph → Working × List Stroke
effect_of_copies zero s g = (s.working, [])
effect_of_copies (suc n) s g =
    let before = effect_of_copies n s g in
    let more = effect_of_sign (control_with s before.0) g in (more.0, before.1 ++ more.1)

-- a sign with an accent: only signs of set P take one
abbrev pub sign_with_accent : SetId → ℕ → Option ℕ → Glyph
sign_with_accent sets.P code (Some accent) = record { set = sets.P; code = code; accent = accent }
sign_with_accent set code _ = record { set = set; code = code; accent = 0 }

-- what was read: an accent waits, in place of one that waited, and a sign is written with the accent that waits
abbrev pub effect_of_read : ControlState → Read → Working × List Stroke
effect_of_read s (reads.Accent code) = (record s.working { accent = Some code }, [])
effect_of_read s (reads.Glyph g) = effect_of_sign s (sign_with_accent g.set g.code s.working.accent)

-- what a graphic byte gives in this state
abbrev pub graphic_read : ControlState → ℕ → Read
graphic_read s byte = read_as (set_of s.working.sets byte s.working.run) (code_of byte)

-- the state in which what it gave takes effect: a single shift that waited is spent
abbrev pub control_after_shift : ControlState → ControlState
control_after_shift s = control_with s (record s.working { sets = record s.working.sets { single = None } })
