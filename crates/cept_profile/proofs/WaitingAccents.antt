-- Accents and single shifts: how long they wait.
use Rattle.std.proofs.Common.{◌≡◌, ℕ, zero, suc, false, cond, eqb, ◌||◌, Option, Some, None, unwrap_or, refl, sym, ap}
use Rattle.std.proofs.lemmas.Bool.{false≢true}
use Rattle.cept_codes.specs.declared.attribute.Attr.{Attr}
use Rattle.cept_codes.specs.declared.cell.Marker.{Marker}
use Rattle.cept_codes.specs.declared.command.C1Set.{C1Set}
use Rattle.cept_codes.specs.declared.command.C1Set.TheVariants as c1sets
use Rattle.cept_codes.specs.declared.command.Command.{Command}
use Rattle.cept_codes.specs.declared.command.Command.TheVariants as commands
use Rattle.cept_codes.specs.declared.glyph.Glyph.{Glyph}
use Rattle.cept_codes.specs.declared.glyph.Read.{Read}
use Rattle.cept_codes.specs.declared.glyph.Read.TheVariants as reads
use Rattle.cept_profile.specs.Control.{Working, ControlState, leaves_accent}
use Rattle.cept_profile.specs.Control.{state_for_effect, control_after}
use Rattle.cept_profile.specs.Pens.{c1_function, fast_after, flash_of}
use Rattle.cept_profile.specs.Writing.{effect_of_copies, sign_with_accent}
use Rattle.cept_profile.specs.Writing.{graphic_read, control_after_shift}
use Rattle.cept_profile.proofs.Halves.{control_after_service}
use Rattle.cept_profile.proofs.MotionStrokes.{above-at, ahead-at, back-at, below-at}
use Rattle.cept_profile.proofs.Halves.{columns_of_sign, control_after_copies, flashing, revealing, working_after_function}
use Rattle.cept_profile.proofs.Halves.{working_after_read, working_after_repeat, working_ahead}

-- what moves leaves the accent and the sets
working_ahead-accent : (s : ControlState) (n : ℕ) → (working_ahead s n).accent ≡ s.working.accent
working_ahead-accent s n = ahead-at (λ w. w.accent ≡ s.working.accent) s n (λ r c. refl)

working_ahead-sets : (s : ControlState) (n : ℕ) → (working_ahead s n).sets ≡ s.working.sets
working_ahead-sets s n = ahead-at (λ w. w.sets ≡ s.working.sets) s n (λ r c. refl)

-- after copies no accent waits
control_after_copies-accent : (n : ℕ) (s : ControlState) (g : Glyph) → s.working.accent ≡ None
    → (control_after_copies n s g).working.accent ≡ None
unfolding effect_of_copies
control_after_copies-accent zero s g none = none
control_after_copies-accent (suc n) s g none = refl

working_after_repeat-accent : (n : ℕ) (s : ControlState) (last : Option Glyph) → s.working.accent ≡ None
    → (working_after_repeat n s last).accent ≡ None
working_after_repeat-accent n s None none = none
working_after_repeat-accent n s (Some g) none = control_after_copies-accent n s g none

-- and so do pens and markers
working_after_function-accent : (set : C1Set) (function : Option (Attr × Marker)) (fast : ℕ) (s : ControlState)
    → (working_after_function set function fast s).accent ≡ s.working.accent
working_after_function-accent c1sets.Parallel None fast s = refl
working_after_function-accent c1sets.Parallel (Some function) fast s = refl
working_after_function-accent c1sets.Serial None fast s = refl
working_after_function-accent c1sets.Serial (Some function) fast s = working_ahead-accent s 1

-- every other command drops it
pub accent-dropped : (s : ControlState) (command : Command) → leaves_accent command ≡ false
    → (command ≡ commands.ServiceEnd → s.kept ≡ None) → (control_after s command).working.accent ≡ None
accent-dropped s commands.Nul drops ended = absurd (false≢true (sym drops))
accent-dropped s commands.Skipped drops ended = absurd (false≢true (sym drops))
accent-dropped s (commands.Graphic byte) drops ended = absurd (false≢true (sym drops))
accent-dropped s commands.Back drops ended =
    back-at (λ w. w.accent ≡ None) (state_for_effect s commands.Back) (λ r c. refl)
accent-dropped s commands.Forward drops ended =
    working_ahead-accent (state_for_effect s commands.Forward) 1
accent-dropped s commands.Down drops ended =
    below-at (λ w. w.accent ≡ None) (state_for_effect s commands.Down) s.working.column (λ r. refl)
accent-dropped s commands.Up drops ended =
    above-at (λ w. w.accent ≡ None) (state_for_effect s commands.Up) s.working.column (λ r. refl)
accent-dropped s (commands.Repeat n) drops ended =
    working_after_repeat-accent n (state_for_effect s (commands.Repeat n)) s.working.last refl
accent-dropped s (commands.C1 n) drops ended =
    working_after_function-accent s.working.c1 (c1_function s.working.table n) (cond (eqb n 8 || eqb n 9) 0 s.working.fast)
    (state_for_effect s (commands.C1 n))
accent-dropped s (commands.FlashMode k) drops ended =
    working_after_function-accent s.working.c1 (flashing (flash_of k s.working.fast)) (fast_after k s.working.fast)
    (state_for_effect s (commands.FlashMode k))
accent-dropped s commands.StopConceal drops ended =
    working_after_function-accent s.working.c1 revealing s.working.fast (state_for_effect s commands.StopConceal)
accent-dropped s commands.ServiceEnd drops ended =
    ap (λ (kept : Option Working). (control_after_service (state_for_effect s commands.ServiceEnd) kept).working.accent)
    (ended refl)
accent-dropped s _ drops ended = refl

-- a break of the service keeps it, and the end brings it back
pub accent-kept : (s : ControlState) (row : ℕ) → s.kept ≡ None
    → (control_after s (commands.ServiceBreak row)).kept ≡ Some s.working
accent-kept s row none = ap (λ (kept : Option Working). Some (unwrap_or kept s.working)) none

pub accent-back : (s : ControlState) (w : Working) → s.kept ≡ Some w
    → (control_after s commands.ServiceEnd).working.accent ≡ w.accent
accent-back s w some =
    ap (λ (kept : Option Working). (control_after_service (state_for_effect s commands.ServiceEnd) kept).working.accent)
    some

-- an accent that was read waits
pub accent-waits : (s : ControlState) (byte code : ℕ) → graphic_read s byte ≡ reads.Accent code
    → (control_after s (commands.Graphic byte)).working.accent ≡ Some code
accent-waits s byte code e = ap (λ (read : Read). (working_after_read (control_after_shift s) read).accent) e

-- a sign that was read takes it, if it is of set P
pub accent-graphic_read : (s : ControlState) (byte : ℕ) (g : Glyph) → graphic_read s byte ≡ reads.Glyph g
    → (control_after s (commands.Graphic byte)).working.last ≡ Some (sign_with_accent g.set g.code s.working.accent)
accent-graphic_read s byte g e = ap (λ (read : Read). (working_after_read (control_after_shift s) read).last) e

-- and no accent waits after it
pub accent-spent : (s : ControlState) (byte : ℕ) (g : Glyph) → graphic_read s byte ≡ reads.Glyph g
    → (control_after s (commands.Graphic byte)).working.accent ≡ None
accent-spent s byte g e = ap (λ (read : Read). (working_after_read (control_after_shift s) read).accent) e

-- the commands without effect
pub nul_leaves : (s : ControlState) → control_after s commands.Nul ≡ s
nul_leaves s = refl

pub skipped_leaves : (s : ControlState) → control_after s commands.Skipped ≡ s
skipped_leaves s = refl

-- a single shift waits until the next graphic byte
working_after_read-sets : (s : ControlState) (read : Read) → (working_after_read s read).sets ≡ s.working.sets
working_after_read-sets s (reads.Accent code) = refl
working_after_read-sets s (reads.Glyph g) = working_ahead-sets s (columns_of_sign s)

pub shift-spent : (s : ControlState) (byte : ℕ)
    → (control_after s (commands.Graphic byte)).working.sets ≡ record s.working.sets { single = None }
shift-spent s byte = working_after_read-sets (control_after_shift s) (graphic_read s byte)

pub shift-waits : (s : ControlState) (g : ℕ) → (control_after s (commands.Single g)).working.sets.single ≡ Some g
shift-waits s g = refl

pub shift-replaced : (s : ControlState) (g h : ℕ)
    → control_after (control_after s (commands.Single g)) (commands.Single h) ≡ control_after s (commands.Single h)
shift-replaced s g h = refl
