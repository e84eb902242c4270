-- Settings of control: a command sets what looking back says that it sets, and nothing else.
use Rattle.std.proofs.Common.{◌≡◌, ℕ, ◌≤◌, zero, suc, Bool, true, false, cond, eqb, Option, Some}
use Rattle.std.proofs.Common.{None, unwrap_or, List, [], ◌∷◌, reverse, refl, sym, ◌∙◌, ap, arith, ◌⊎◌, inl, inr, subst}
use Rattle.std.proofs.Common.{◌&&◌, ◌||◌}
use Rattle.std.proofs.lemmas.Bool.{cond_both, cond-false, cond-true, false≢true}
use Rattle.cept_codes.specs.declared.attribute.Attr.{Attr}
use Rattle.cept_codes.specs.declared.attribute.Attr.TheVariants as attrs
use Rattle.cept_codes.specs.declared.cell.Marker.{Marker}
use Rattle.cept_codes.specs.declared.cell.Marker.TheVariants as markers
use Rattle.cept_codes.specs.declared.command.C1Set.{C1Set}
use Rattle.cept_codes.specs.declared.command.C1Set.TheVariants as c1sets
use Rattle.cept_codes.specs.declared.command.Command.{Command}
use Rattle.cept_codes.specs.declared.command.Command.TheVariants as commands
use Rattle.cept_codes.specs.declared.glyph.Glyph.{Glyph}
use Rattle.cept_codes.specs.declared.glyph.Read.{Read}
use Rattle.cept_codes.specs.declared.glyph.Read.TheVariants as reads
use Rattle.cept_codes.specs.declared.glyph.SetId.{SetId}
use Rattle.cept_codes.specs.Command.{IsValidCommand}
use Rattle.cept_profile.specs.Control.{Working, ControlState, control_with}
use Rattle.cept_profile.specs.Control.{finds_accent, state_for_effect, control_back, control}
use Rattle.cept_profile.specs.ControlSettings.{before_service, is_running, outer_back, c1_said, table_said}
use Rattle.cept_profile.specs.ControlSettings.{protect_said, set_said, left_said, right_said, fore_in, back_in}
use Rattle.cept_profile.specs.ControlSettings.{conceal_in, lined_in, boxed_in, size_in, invert_in, parallel_said}
use Rattle.cept_profile.specs.ControlSettings.{class_said, rows_said, wrap_said, implicit_said, created_back, area_said, revision_said}
use Rattle.cept_profile.specs.ControlSettings.{Settings, settings_of, settings_back, settings}
use Rattle.cept_profile.specs.Pens.{c1_function, fast_after, flash_of, pen_with}
use Rattle.cept_profile.specs.Sets.{sets_with}
use Rattle.cept_profile.specs.Valid.{AllValid}
use Rattle.cept_profile.specs.Writing.{effect_of_copies, graphic_read}
use Rattle.cept_profile.specs.Writing.{control_after_shift}
use Rattle.cept_profile.proofs.Halves.{area_without, control_after_service}
use Rattle.cept_profile.proofs.Halves.{columns_of_sign, control_after_copies, control_effect, working_after_function}
use Rattle.cept_profile.proofs.Halves.{working_after_marker, working_after_read, working_after_repeat, working_ahead}
use Rattle.cept_profile.proofs.MotionStrokes.{above-at, ahead-at, back-at, below-at}
use Rattle.cept_profile.specs.ControlSettings.{area_back, is_area}
use Rattle.cept_profile.proofs.CellsByStrokes.{by_bool}
use Rattle.cept_profile.proofs.OneMoreState.{AllByRecursion-reverse}

-- ---- one more command by looking back

-- each setting is what the command says of it, else as it was
abbrev pub told : List Command → Command → Settings → Settings
told earlier command was = record {
  c1 = unwrap_or (c1_said command) was.c1;
  table = unwrap_or (table_said command) was.table;
  protect = unwrap_or (protect_said command) was.protect;
  g0 = unwrap_or (set_said 0 command) was.g0;
  g1 = unwrap_or (set_said 1 command) was.g1;
  g2 = unwrap_or (set_said 2 command) was.g2;
  g3 = unwrap_or (set_said 3 command) was.g3;
  left = unwrap_or (left_said command) was.left;
  right = unwrap_or (right_said command) was.right;
  fore = unwrap_or (class_said fore_in was.c1 was.table command) was.fore;
  back = unwrap_or (class_said back_in was.c1 was.table command) was.back;
  conceal = unwrap_or (class_said conceal_in was.c1 was.table command) was.conceal;
  lined = unwrap_or (class_said lined_in was.c1 was.table command) was.lined;
  boxed = unwrap_or (class_said boxed_in was.c1 was.table command) was.boxed;
  size = unwrap_or (class_said size_in was.c1 was.table command) was.size;
  invert = unwrap_or (class_said invert_in was.c1 was.table command) was.invert;
  rows = unwrap_or (rows_said command) was.rows;
  wrap = unwrap_or (wrap_said command) was.wrap;
  implicit = unwrap_or (implicit_said command) was.implicit;
  revision = unwrap_or (revision_said command) was.revision;
  area = unwrap_or (area_said (created_back earlier) command) was.area;
}

-- ---- one more command of control

-- what moves leaves the settings
working_ahead-same : (s : ControlState) (n : ℕ) → settings_of (control_with s (working_ahead s n)) ≡ settings_of s
working_ahead-same s n = ahead-at (λ w. settings_of (control_with s w) ≡ settings_of s) s n (λ r c. refl)

-- and so does what writes
control_after_copies-same : (n : ℕ) (s : ControlState) (g : Glyph)
    → settings_of (control_after_copies n s g) ≡ settings_of s
unfolding effect_of_copies
control_after_copies-same zero s g = refl
control_after_copies-same (suc n) s g =
    let t : ControlState = control_after_copies n s g in
    working_ahead-same t (columns_of_sign t) ∙ control_after_copies-same n s g

working_after_repeat-same : (n : ℕ) (s : ControlState) (last : Option Glyph)
    → settings_of (control_with s (working_after_repeat n s last)) ≡ settings_of s
working_after_repeat-same n s None = refl
working_after_repeat-same n s (Some g) = control_after_copies-same n s g

read-same : (s : ControlState) (read : Read)
    → settings_of (control_with s (working_after_read (control_after_shift s) read)) ≡ settings_of s
read-same s (reads.Accent code) = refl
read-same s (reads.Glyph g) =
    let t : ControlState = control_after_shift s in
    working_ahead-same t (columns_of_sign t)

-- an attribute sets its class
attribute-told : (attr : Attr) (s : ControlState) (fast : ℕ)
    → settings_of (control_with s (record s.working { pen = pen_with attr s.working.pen; fast = fast }))
    ≡ record (settings_of s) {
      fore = unwrap_or (fore_in attr) s.working.pen.fore;
      back = unwrap_or (back_in attr) s.working.pen.back;
      conceal = unwrap_or (conceal_in attr) s.working.pen.conceal;
      lined = unwrap_or (lined_in attr) s.working.pen.lined;
      boxed = unwrap_or (boxed_in attr) s.working.pen.boxed;
      size = unwrap_or (size_in attr) s.working.pen.size;
      invert = unwrap_or (invert_in attr) s.working.pen.invert;
    }
attribute-told (attrs.Fore e) s fast = refl
attribute-told (attrs.Back e) s fast = refl
attribute-told attrs.NoBack s fast = refl
attribute-told (attrs.Flash f) s fast = refl
attribute-told (attrs.Conceal b) s fast = refl
attribute-told (attrs.Lined b) s fast = refl
attribute-told (attrs.Boxed b) s fast = refl
attribute-told (attrs.Size z) s fast = refl
attribute-told (attrs.Invert b) s fast = refl

-- a C1 code sets that of its attribute
any-told : (function : Option (Attr × Marker)) (s : ControlState) (fast : ℕ)
    → settings_of (control_with s (working_after_function c1sets.Parallel function fast s))
    ≡ record (settings_of s) {
      fore = unwrap_or (parallel_said fore_in c1sets.Parallel function) s.working.pen.fore;
      back = unwrap_or (parallel_said back_in c1sets.Parallel function) s.working.pen.back;
      conceal = unwrap_or (parallel_said conceal_in c1sets.Parallel function) s.working.pen.conceal;
      lined = unwrap_or (parallel_said lined_in c1sets.Parallel function) s.working.pen.lined;
      boxed = unwrap_or (parallel_said boxed_in c1sets.Parallel function) s.working.pen.boxed;
      size = unwrap_or (parallel_said size_in c1sets.Parallel function) s.working.pen.size;
      invert = unwrap_or (parallel_said invert_in c1sets.Parallel function) s.working.pen.invert;
    }
any-told None s fast = refl
any-told (Some function) s fast = attribute-told function.0 s fast

-- the state with this C1 set
abbrev under : C1Set → ControlState → ControlState
under set s = control_with s (record s.working { c1 = set })

-- a marker leaves the settings
marker-same : (s : ControlState) (m : Marker) (fast : ℕ)
    → settings_of (control_with s (record (working_after_marker s m) { fast = fast })) ≡ settings_of s
marker-same s m fast = working_ahead-same s 1

serial-same : (function : Option (Attr × Marker)) (fast : ℕ) (s : ControlState)
    → settings_of (control_with s (working_after_function c1sets.Serial function fast s)) ≡ settings_of s
serial-same None fast s = refl
serial-same (Some function) fast s = marker-same s function.1 fast

code-told : (set : C1Set) (n : ℕ) (s : ControlState) (earlier : List Command)
    → settings_of (control_effect (under set s) (commands.C1 n))
    ≡ told earlier (commands.C1 n) (settings_of (under set s))
code-told c1sets.Parallel n s earlier =
    any-told (c1_function s.working.table n) (under c1sets.Parallel s) (cond (eqb n 8 || eqb n 9) 0 s.working.fast)
code-told c1sets.Serial n s earlier =
    serial-same (c1_function s.working.table n) (cond (eqb n 8 || eqb n 9) 0 s.working.fast) (under c1sets.Serial s)

flash-told : (set : C1Set) (k : ℕ) (s : ControlState)
    → settings_of (control_effect (under set s) (commands.FlashMode k)) ≡ settings_of (under set s)
flash-told c1sets.Parallel k s = refl
flash-told c1sets.Serial k s =
    marker-same (under c1sets.Serial s) (markers.Flash (flash_of k s.working.fast)) (fast_after k s.working.fast)

reveal-told : (set : C1Set) (s : ControlState) (earlier : List Command)
    → settings_of (control_effect (under set s) commands.StopConceal)
    ≡ told earlier commands.StopConceal (settings_of (under set s))
reveal-told c1sets.Parallel s earlier = refl
reveal-told c1sets.Serial s earlier = marker-same (under c1sets.Serial s) (markers.Conceal false) s.working.fast

-- a designation sets one of the four sets
sets_with-told : (g : ℕ) (set : SetId) (s : ControlState) (earlier : List Command) → g ≤ 3
    → settings_of (control_with s (record s.working { sets = sets_with s.working.sets g set }))
    ≡ told earlier (commands.Designate g set) (settings_of s)
sets_with-told zero set s earlier few = refl
sets_with-told (suc zero) set s earlier few = refl
sets_with-told (suc (suc zero)) set s earlier few = refl
sets_with-told (suc (suc (suc zero))) set s earlier few = refl
sets_with-told (suc (suc (suc (suc g)))) set s earlier few = absurd (omega arith)

-- the area is the one that was created last, or there is none
abbrev pub IsKnown : Option (ℕ × ℕ) → List Command → Type 0
IsKnown area earlier = (area ≡ None) ⊎ (area ≡ created_back earlier)

area_without-created : (created : Option (ℕ × ℕ)) (a b : ℕ)
    → area_without a b created ≡ unwrap_or (area_said created (commands.AreaDelete a b)) created
area_without-created None a b = refl
area_without-created (Some area) a b =
    by_bool (eqb area.0 a && eqb area.1 b) (λ e. rw e refl) (λ e. rw e refl)

area_without-none : (created : Option (ℕ × ℕ)) (a b : ℕ)
    → None ≡ unwrap_or (area_said created (commands.AreaDelete a b)) None
area_without-none created a b = by_bool (is_area created a b) (λ e. rw e refl) (λ e. rw e refl)

-- one that is deleted
area_without-told : (area : Option (ℕ × ℕ)) (a b : ℕ) (earlier : List Command) → IsKnown area earlier
    → area_without a b area ≡ unwrap_or (area_said (created_back earlier) (commands.AreaDelete a b)) area
area_without-told area a b earlier (inl none) =
    subst (λ (there : Option (ℕ × ℕ)). area_without a b there
    ≡ unwrap_or (area_said (created_back earlier) (commands.AreaDelete a b)) there) (sym none)
    (area_without-none (created_back earlier) a b)
area_without-told area a b earlier (inr created) =
    subst (λ (there : Option (ℕ × ℕ)). area_without a b there
    ≡ unwrap_or (area_said (created_back earlier) (commands.AreaDelete a b)) there) (sym created)
    (area_without-created (created_back earlier) a b)

-- the area by looking back is so
IsKnown-area_back : (history : List Command) → IsKnown (area_back history) history
IsKnown-area_back [] = inl refl
IsKnown-area_back (commands.AreaCreate a b ∷ earlier) = inr refl
IsKnown-area_back (commands.AreaDelete a b ∷ earlier) =
    by_bool (is_area (created_back earlier) a b) (λ e. inl (rw e refl))
    (λ e. elim (IsKnown-area_back earlier) [
      | inl none ↦ inl (rw e none)
      | inr created ↦ inr (rw e created)
    ])
IsKnown-area_back (commands.FullDefaults set ∷ earlier) = inl refl
IsKnown-area_back (command ∷ earlier) = IsKnown-area_back earlier

-- what a command sets
control_effect-told : (s : ControlState) (command : Command) (earlier : List Command) → IsKnown s.area earlier
    → IsValidCommand command → (command ≡ commands.ServiceEnd → s.kept ≡ None) → settings_of (control_effect s command)
    ≡ told earlier command (settings_of s)
control_effect-told s commands.Back earlier known valid ended =
    back-at (λ w. settings_of (control_with s w) ≡ settings_of s) s (λ r c. refl)
control_effect-told s commands.Forward earlier known valid ended = working_ahead-same s 1
control_effect-told s commands.Down earlier known valid ended =
    below-at (λ w. settings_of (control_with s w) ≡ settings_of s) s s.working.column (λ r. refl)
control_effect-told s commands.Up earlier known valid ended =
    above-at (λ w. settings_of (control_with s w) ≡ settings_of s) s s.working.column (λ r. refl)
control_effect-told s (commands.Designate g set) earlier known valid ended = sets_with-told g set s earlier valid
control_effect-told s (commands.Graphic byte) earlier known valid ended = read-same s (graphic_read s byte)
control_effect-told s (commands.Repeat n) earlier known valid ended = working_after_repeat-same n s s.working.last
control_effect-told s (commands.C1 n) earlier known valid ended = code-told s.working.c1 n s earlier
control_effect-told s (commands.FlashMode k) earlier known valid ended = flash-told s.working.c1 k s
control_effect-told s commands.StopConceal earlier known valid ended = reveal-told s.working.c1 s earlier
control_effect-told s (commands.AreaDelete a b) earlier known valid ended =
    λ i. record (settings_of s) { area = area_without-told s.area a b earlier known i }
control_effect-told s commands.ServiceEnd earlier known valid ended =
    ap (λ (kept : Option Working). settings_of (control_after_service s kept)) (ended refl)
control_effect-told s _ earlier known valid ended = refl

-- ---- all commands

-- the settings of one with rows, wrap, implicit scrolling, revision and area of another
abbrev pub joined : Settings → Settings → Settings
joined a b = record a { rows = b.rows; wrap = b.wrap; implicit = b.implicit; revision = b.revision; area = b.area }

-- the settings that a kept state brings back are those before the service
abbrev pub Brings : ControlState → List Command → Option Working → Type 0
Brings s history None = ⊥
Brings s history (Some w) = settings_of (control_with s w) ≡ settings_back (before_service history) history

-- a state whose settings are those of its commands, and which keeps those before a service that runs, and else none
pub record IsTold (s : ControlState) (history : List Command) : Type 0 where
  pub settings : settings_of s ≡ settings_back (outer_back history) history
  pub running : is_running history ≡ true → Brings s history s.kept
  pub idle : is_running history ≡ false → s.kept ≡ None

-- what is kept doesn't depend on an accent
Brings-same : (s : ControlState) (history : List Command) (kept : Option Working) → Brings s history kept
    → Brings (control_with s (record s.working { accent = None })) history kept
Brings-same s history None brings = brings
Brings-same s history (Some w) brings = brings

break_is_no_end : (row : ℕ) → commands.ServiceBreak row ≡ commands.ServiceEnd → ⊥
break_is_no_end row e = cc

defaults_are_no_end : (set : C1Set) → commands.FullDefaults set ≡ commands.ServiceEnd → ⊥
defaults_are_no_end set e = cc

some_is_not_none : (w : Working) → Some w ≡ None → ⊥
some_is_not_none w e = cc

IsTold-start : IsTold (control_back []) []
IsTold-start = record { settings = refl; running = λ e. absurd (false≢true e); idle = λ e. refl }

-- what is kept brings back the same after a command that begins and ends no service
Brings-on : (s t : ControlState) (command : Command) (earlier : List Command) (kept : Option Working)
    → settings_of t ≡ settings_back (command ∷ outer_back earlier) (command ∷ earlier)
    → before_service (command ∷ earlier) ≡ before_service earlier → Brings s earlier kept
    → Brings t (command ∷ earlier) kept
Brings-on s t command earlier None told before brings = brings
Brings-on s t command earlier (Some w) told before brings =
    (λ i. joined (brings i) (told i))
    ∙ sym (ap (λ (outside : List Command). settings_back outside (command ∷ earlier)) before)

-- the settings after a command that closes no service
settings-on : (s : ControlState) (command : Command) (earlier : List Command)
    → settings_of s ≡ settings_back (outer_back earlier) earlier → IsValidCommand command
    → (command ≡ commands.ServiceEnd → s.kept ≡ None)
    → settings_of (control_effect s command) ≡ settings_back (command ∷ outer_back earlier) (command ∷ earlier)
settings-on s command earlier same valid ended =
    control_effect-told s command earlier
    (subst (λ (area : Option (ℕ × ℕ)). IsKnown area earlier) (sym (ap (λ (was : Settings). was.area) same))
    (IsKnown-area_back earlier)) valid ended
    ∙ ap (told earlier command) same

-- a command that begins and ends no service
IsTold-on : (s : ControlState) (command : Command) (earlier : List Command) → IsTold s earlier
    → IsValidCommand command → (command ≡ commands.ServiceEnd → s.kept ≡ None)
    → (control_effect s command).kept ≡ s.kept → is_running (command ∷ earlier) ≡ is_running earlier
    → outer_back (command ∷ earlier) ≡ command ∷ outer_back earlier
    → before_service (command ∷ earlier) ≡ before_service earlier
    → IsTold (control_effect s command) (command ∷ earlier)
IsTold-on s command earlier is valid ended kept runs outer before =
    let told = settings-on s command earlier is.settings valid ended in
    record {
      settings = told ∙ sym (ap (λ (outside : List Command). settings_back outside (command ∷ earlier)) outer);
      running = λ e. subst (Brings (control_effect s command) (command ∷ earlier)) (sym kept)
          (Brings-on s (control_effect s command) command earlier s.kept told before (is.running (sym runs ∙ e)));
      idle = λ e. kept ∙ is.idle (sym runs ∙ e);
    }

-- a break keeps the state, unless one is kept
IsTold-break : (s : ControlState) (row : ℕ) (earlier : List Command) → IsTold s earlier
    → IsValidCommand (commands.ServiceBreak row) → (kept : Option Working) → s.kept ≡ kept → (runs : Bool)
    → is_running earlier ≡ runs
    → Brings (control_effect s (commands.ServiceBreak row)) (commands.ServiceBreak row ∷ earlier)
    (Some (unwrap_or kept s.working))
IsTold-break s row earlier is valid None none true running =
    absurd (subst (Brings s earlier) none (is.running running))
IsTold-break s row earlier is valid None none false idle =
    (λ i. joined (is.settings i)
    (settings-on s (commands.ServiceBreak row) earlier is.settings valid (λ e. absurd (break_is_no_end row e)) i))
    ∙ sym (ap (λ (outside : List Command). settings_back outside (commands.ServiceBreak row ∷ earlier))
    (cond-false (is_running earlier) (before_service earlier) (outer_back earlier) idle))
IsTold-break s row earlier is valid (Some w) some true running =
    Brings-on s (control_effect s (commands.ServiceBreak row)) (commands.ServiceBreak row) earlier (Some w)
    (settings-on s (commands.ServiceBreak row) earlier is.settings valid (λ e. absurd (break_is_no_end row e)))
    (cond-true (is_running earlier) (before_service earlier) (outer_back earlier) running)
    (subst (Brings s earlier) some (is.running running))
IsTold-break s row earlier is valid (Some w) some false idle =
    absurd (some_is_not_none w (sym some ∙ is.idle idle))

-- an end brings back what is kept
IsTold-end : (s : ControlState) (earlier : List Command) → IsTold s earlier → (kept : Option Working) → s.kept ≡ kept
    → (runs : Bool) → is_running earlier ≡ runs
    → IsTold (control_after_service s kept) (commands.ServiceEnd ∷ earlier)
IsTold-end s earlier is None none true running = absurd (subst (Brings s earlier) none (is.running running))
IsTold-end s earlier is None none false idle = record {
  settings = is.settings ∙ sym (ap (λ (outside : List Command). settings_back outside (commands.ServiceEnd ∷ earlier))
      (cond-false (is_running earlier) (before_service earlier) (commands.ServiceEnd ∷ outer_back earlier) idle));
  running = λ e. absurd (false≢true e);
  idle = λ e. none;
}
IsTold-end s earlier is (Some w) some true running = record {
  settings = subst (Brings s earlier) some (is.running running)
      ∙ sym (ap (λ (outside : List Command). settings_back outside (commands.ServiceEnd ∷ earlier))
      (cond-true (is_running earlier) (before_service earlier) (commands.ServiceEnd ∷ outer_back earlier) running));
  running = λ e. absurd (false≢true e);
  idle = λ e. refl;
}
IsTold-end s earlier is (Some w) some false idle = absurd (some_is_not_none w (sym some ∙ is.idle idle))

IsTold-effect : (s : ControlState) (command : Command) (earlier : List Command) → IsTold s earlier
    → IsValidCommand command → IsTold (control_effect s command) (command ∷ earlier)
IsTold-effect s (commands.ServiceBreak row) earlier is valid = record {
  settings = settings-on s (commands.ServiceBreak row) earlier is.settings valid
      (λ e. absurd (break_is_no_end row e));
  running = λ e. IsTold-break s row earlier is valid s.kept refl (is_running earlier) refl;
  idle = λ e. absurd (false≢true (sym e));
}
IsTold-effect s commands.ServiceEnd earlier is valid = IsTold-end s earlier is s.kept refl (is_running earlier) refl
IsTold-effect s (commands.FullDefaults set) earlier is valid = record {
  settings = settings-on s (commands.FullDefaults set) earlier is.settings valid
      (λ e. absurd (defaults_are_no_end set e));
  running = λ e. absurd (false≢true e);
  idle = λ e. refl;
}
IsTold-effect s command earlier is valid = IsTold-on s command earlier is valid (λ e. cc) refl refl refl refl

-- an accent is neither a setting nor kept
IsTold-state_for_effect : (s : ControlState) (command : Command) (earlier : List Command) → IsTold s earlier
    → IsTold (state_for_effect s command) earlier
IsTold-state_for_effect s command earlier is =
    cond_both (finds_accent command) s.working (record s.working { accent = None })
    (λ w. IsTold (control_with s w) earlier) (λ e. is)
    (λ e. record { settings = is.settings; running = λ r. Brings-same s earlier s.kept (is.running r); idle = is.idle })

settings-control_back : (history : List Command) → AllValid history → IsTold (control_back history) history
settings-control_back [] all = IsTold-start
settings-control_back (command ∷ earlier) all =
    IsTold-effect (state_for_effect (control_back earlier) command) command earlier
    (IsTold-state_for_effect (control_back earlier) command earlier (settings-control_back earlier all.1)) all.0

pub settings-control : (history : List Command) → AllValid history → settings_of (control history) ≡ settings history
settings-control history all =
    (settings-control_back (reverse history) (AllByRecursion-reverse IsValidCommand history all)).settings
