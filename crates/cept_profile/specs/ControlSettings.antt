-- Settings of control by looking back: each is what the last command says that sets it, else its initial value (which
-- command sets and resets what is this profile's own). Inside, commands stand with the newest first.
use Rattle.std.specs.Prelude.{ℕ, Bool, true, false, not, Option, Some, None, unwrap_or, List, [], ◌∷◌, reverse}
use Rattle.std.specs.Prelude.{◌&&◌, ◌==◌, if◌then◌else◌}
use Rattle.cept_codes.specs.declared.attribute.Attr.{Attr}
use Rattle.cept_codes.specs.declared.attribute.Attr.TheVariants as attrs
use Rattle.cept_codes.specs.declared.attribute.Size.{Size}
use Rattle.cept_codes.specs.declared.cell.Marker.{Marker}
use Rattle.cept_codes.specs.declared.cell.Marker.TheVariants as markers
use Rattle.cept_codes.specs.declared.command.C1Set.{C1Set}
use Rattle.cept_codes.specs.declared.command.C1Set.TheVariants as c1sets
use Rattle.cept_codes.specs.declared.command.Command.{Command}
use Rattle.cept_codes.specs.declared.command.Command.TheVariants as commands
use Rattle.cept_codes.specs.declared.glyph.SetId.{SetId}
use Rattle.cept_profile.specs.Control.{ControlState, initial_sets}
use Rattle.cept_profile.specs.Pens.{c1_function}
pub use Rattle.cept_profile.specs.Pens.{fore_in, back_in, conceal_in, lined_in, boxed_in, size_in, invert_in}
use Rattle.cept_profile.specs.Sets.{set_in}

-- ---- services

-- what ends a service that runs; full defaults end it without closing it
abbrev pub ends_service : Command → Bool
ends_service commands.ServiceEnd = true
ends_service (commands.FullDefaults set) = true
ends_service _ = false

-- a service runs: a break began it, and nothing ended it since
abbrev pub is_running : List Command → Bool
is_running [] = false
is_running (commands.ServiceBreak row ∷ earlier) = true
is_running (command ∷ earlier) = not (ends_service command) && is_running earlier

-- histories without closed services, which stand on each other
abbrev mutual
  -- the commands without each closed service, from the break that begins it to the end that closes it
  pub outer_back : List Command → List Command
  outer_back [] = []
  outer_back (commands.ServiceEnd ∷ earlier) =
      if is_running earlier then before_service earlier else commands.ServiceEnd ∷ outer_back earlier
  outer_back (command ∷ earlier) = command ∷ outer_back earlier

  -- the same before the service that runs: its break is the first, since a break while it runs begins none
  pub before_service : List Command → List Command
  before_service [] = []
  before_service (commands.ServiceBreak row ∷ earlier) =
      if is_running earlier then before_service earlier else outer_back earlier
  before_service (_ ∷ earlier) = before_service earlier

-- a history without each closed service
abbrev pub outer_history : List Command → List Command
outer_history history = reverse (outer_back (reverse history))

-- ---- looking back

-- what the last command says that says anything, by that command and those before it, else the first value
abbrev pub last_said : {X : Type 0} → (List Command → Command → Option X) → X → List Command → X
last_said says first [] = first
last_said says first (command ∷ earlier) = unwrap_or (says earlier command) (last_said says first earlier)

-- the resets say the first value
abbrev pub at_reset : {X : Type 0} → X → Command → Option X
at_reset first (commands.FullDefaults set) = Some first
at_reset first (commands.ControlDefaults set) = Some first
at_reset first (commands.ServiceBreak row) = Some first
at_reset first _ = None

-- what a command says of the C1 set
abbrev pub c1_said : Command → Option C1Set
c1_said (commands.DesignateC1 set) = Some set
c1_said (commands.FullDefaults set) = Some set
c1_said (commands.ControlDefaults set) = Some set
c1_said (commands.ServiceBreak row) = Some c1sets.Parallel
c1_said _ = None

-- the C1 set after the commands: parallel at first
abbrev pub c1_back : List Command → C1Set
c1_back = last_said (λ earlier. c1_said) c1sets.Parallel

-- what a command says of the colour table
abbrev pub table_said : Command → Option ℕ
table_said (commands.Table k) = Some k
table_said command = at_reset 0 command

-- the colour table after the commands: table 0 at first
abbrev pub table_back : List Command → ℕ
table_back = last_said (λ earlier. table_said) 0

-- what a command says of protection
abbrev pub protect_said : Command → Option Bool
protect_said (commands.Protect on) = Some on
protect_said command = at_reset false command

-- whether written cells become protected after the commands: not at first
abbrev pub protect_back : List Command → Bool
protect_back = last_said (λ earlier. protect_said) false

-- what a command says of the set of this number, 0 to 3
abbrev pub set_said : ℕ → Command → Option SetId
set_said number (commands.Designate g set) = if g == number then Some set else None
set_said number command = at_reset (set_in initial_sets number) command

-- the set of this number after the commands
abbrev pub set_back : ℕ → List Command → SetId
set_back number = last_said (λ earlier. set_said number) (set_in initial_sets number)

-- what a command says of the set of the left bytes
abbrev pub left_said : Command → Option ℕ
left_said (commands.LockLeft g) = Some g
left_said command = at_reset initial_sets.left command

-- the set of the left bytes after the commands
abbrev pub left_back : List Command → ℕ
left_back = last_said (λ earlier. left_said) initial_sets.left

-- what a command says of the set of the right bytes
abbrev pub right_said : Command → Option ℕ
right_said (commands.LockRight g) = Some g
right_said command = at_reset initial_sets.right command

-- the set of the right bytes after the commands
abbrev pub right_back : List Command → ℕ
right_back = last_said (λ earlier. right_said) initial_sets.right

-- ---- the pen, but its flash

-- only under the parallel set an attribute counts
abbrev pub parallel_said : {X : Type 0} → (Attr → Option (Option X)) → C1Set → Option (Attr × Marker) → Option (Option X)
parallel_said class c1sets.Parallel (Some function) = class function.0
parallel_said class _ _ = None

-- a class of the pen: a C1 code and StopConceal under the parallel set say it, and what goes home or resets unsets it
abbrev pub class_said : {X : Type 0} → (Attr → Option (Option X)) → C1Set → ℕ → Command → Option (Option X)
class_said class c1 table (commands.C1 n) = parallel_said class c1 (c1_function table n)
class_said class c1 table commands.StopConceal = parallel_said class c1 (Some (attrs.Conceal false, markers.Conceal false))
class_said class c1 table commands.Home = Some None
class_said class c1 table commands.Clear = Some None
class_said class c1 table (commands.Position r c) = Some None
class_said class c1 table (commands.Format rows wrap) = Some None
class_said class c1 table command = at_reset None command

-- a class of the pen after the commands, by the C1 set and the table in which each came: unset at first
abbrev pub class_back : {X : Type 0} → (Attr → Option (Option X)) → List Command → Option X
class_back class = last_said (λ earlier. class_said class (c1_back earlier) (table_back earlier)) None

-- ---- what services leave alone

-- what a command says of the rows
abbrev pub rows_said : Command → Option ℕ
rows_said (commands.Format rows wrap) = Some rows
rows_said (commands.FullDefaults set) = Some 24
rows_said _ = None

-- the rows after the commands: 24 at first
abbrev pub rows_back : List Command → ℕ
rows_back = last_said (λ earlier. rows_said) 24

-- what a command says of wrap
abbrev pub wrap_said : Command → Option Bool
wrap_said (commands.Format rows wrap) = Some wrap
wrap_said (commands.FullDefaults set) = Some true
wrap_said _ = None

-- wrap after the commands: on at first
abbrev pub wrap_back : List Command → Bool
wrap_back = last_said (λ earlier. wrap_said) true

-- what a command says of implicit scrolling
abbrev pub implicit_said : Command → Option Bool
implicit_said (commands.Implicit on) = Some on
implicit_said (commands.FullDefaults set) = Some false
implicit_said _ = None

-- implicit scrolling after the commands: off at first
abbrev pub implicit_back : List Command → Bool
implicit_back = last_said (λ earlier. implicit_said) false

-- what a command says of the revision of the rules
abbrev pub revision_said : Command → Option ℕ
revision_said (commands.Revision revision) = Some revision
revision_said (commands.FullDefaults set) = Some 1
revision_said _ = None

-- the revision after the commands: the first one at first
abbrev pub revision_back : List Command → ℕ
revision_back = last_said (λ earlier. revision_said) 1

-- the area that a command creates
abbrev pub created_said : Command → Option (Option (ℕ × ℕ))
created_said (commands.AreaCreate a b) = Some (Some (a, b))
created_said _ = None

-- the last area that the commands created, deleted or not
abbrev pub created_back : List Command → Option (ℕ × ℕ)
created_back = last_said (λ earlier. created_said) None

-- the area has these rows
abbrev pub is_area : Option (ℕ × ℕ) → ℕ → ℕ → Bool
is_area None a b = false
is_area (Some area) a b = area.0 == a && area.1 == b

-- what a command says of the area, where this one was created last: only its own rows delete it
abbrev pub area_said : Option (ℕ × ℕ) → Command → Option (Option (ℕ × ℕ))
area_said created (commands.AreaCreate a b) = Some (Some (a, b))
area_said created (commands.AreaDelete a b) = if is_area created a b then Some None else None
area_said created (commands.FullDefaults set) = Some None
area_said created _ = None

-- the scrolling area after the commands: the last that was created, unless it was deleted or full defaults came since
abbrev pub area_back : List Command → Option (ℕ × ℕ)
area_back = last_said (λ earlier. area_said (created_back earlier)) None

-- ---- all settings

-- what control keeps that a command says at once: all but position, run, step, flash, what waits, the last sign and what a
-- service keeps
pub record Settings : Type 0 where
  pub c1 : C1Set
  pub table : ℕ
  pub protect : Bool
  pub g0 : SetId
  pub g1 : SetId
  pub g2 : SetId
  pub g3 : SetId
  pub left : ℕ
  pub right : ℕ
  pub fore : Option ℕ
  pub back : Option ℕ
  pub conceal : Option Bool
  pub lined : Option Bool
  pub boxed : Option Bool
  pub size : Option Size
  pub invert : Option Bool
  pub rows : ℕ
  pub wrap : Bool
  pub implicit : Bool
  pub revision : ℕ
  pub area : Option (ℕ × ℕ)

-- the settings that a state of control has
abbrev pub settings_of : ControlState → Settings
settings_of s = record {
  c1 = s.working.c1;
  table = s.working.table;
  protect = s.working.protect;
  g0 = s.working.sets.g0;
  g1 = s.working.sets.g1;
  g2 = s.working.sets.g2;
  g3 = s.working.sets.g3;
  left = s.working.sets.left;
  right = s.working.sets.right;
  fore = s.working.pen.fore;
  back = s.working.pen.back;
  conceal = s.working.pen.conceal;
  lined = s.working.pen.lined;
  boxed = s.working.pen.boxed;
  size = s.working.pen.size;
  invert = s.working.pen.invert;
  rows = s.rows;
  wrap = s.wrap;
  implicit = s.implicit;
  revision = s.revision;
  area = s.area;
}

-- those that the commands set: the last five are asked of all commands, the others of the ones outside closed services
abbrev pub settings_back : List Command → List Command → Settings
settings_back outside all = record {
  c1 = c1_back outside;
  table = table_back outside;
  protect = protect_back outside;
  g0 = set_back 0 outside;
  g1 = set_back 1 outside;
  g2 = set_back 2 outside;
  g3 = set_back 3 outside;
  left = left_back outside;
  right = right_back outside;
  fore = class_back fore_in outside;
  back = class_back back_in outside;
  conceal = class_back conceal_in outside;
  lined = class_back lined_in outside;
  boxed = class_back boxed_in outside;
  size = class_back size_in outside;
  invert = class_back invert_in outside;
  rows = rows_back all;
  wrap = wrap_back all;
  implicit = implicit_back all;
  revision = revision_back all;
  area = area_back all;
}

-- the settings after the commands
abbrev pub settings : List Command → Settings
settings history = settings_back (outer_back (reverse history)) (reverse history)
