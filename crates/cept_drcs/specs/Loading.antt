-- A pattern as far as its bytes are read, one by one (this profile's own).
use Rattle.std.specs.Prelude.{◌≡◌, ℕ, ◌+◌, ◌-◌, ◌*◌, Bool, true, false, ◌&&◌, List, [], ◌∷◌, ◌++◌, length, drop}
use Rattle.std.specs.Prelude.{replicate, if◌then◌else◌, ◌==◌, nat_lt, Option, None}
use Rattle.std.specs.Option.{option_to_list}
use Rattle.cept_codes.specs.declared.command.Form.{Form}
use Rattle.cept_codes.specs.declared.look.Pattern.{Pattern}
use Rattle.cept_codes.specs.Command.{IsValidForm}
use Rattle.cept_drcs.specs.Block.{BlockPart}
use Rattle.cept_drcs.specs.Adding.{adds, may_come, last_line}
use Rattle.cept_drcs.specs.Cut.{is_opener}
use Rattle.cept_drcs.specs.Strips.{words}

-- the plane that an opener opens
abbrev pub plane_of : ℕ → ℕ
plane_of a = a - 0x30

-- the form, whether a plane is open and which, all whole lines of the planes up to it, and its half line
pub record Loading : Type 0 where
  pub form : Form
  pub begun : Bool
  pub plane : ℕ
  pub lines : List ℕ
  pub half : Option ℕ

-- before the first byte
abbrev pub fresh : Form → Loading
fresh f = record { form = f; begun = false; plane = 0; lines = []; half = None }

-- the lines before the open plane
abbrev pub above : Loading → ℕ
above l = l.plane * l.form.h

-- the lines that the open plane has left
abbrev pub room : Loading → ℕ
room l = (above l + l.form.h) - length l.lines

-- the line before, 0 at the start of the plane
abbrev pub before : Loading → ℕ
before l = last_line (drop (above l) l.lines)

-- lines, and a half line after them that is completed with pixels of 0
abbrev pub closed_lines : List ℕ → Option ℕ → List ℕ
closed_lines ls half = ls ++ option_to_list half

-- all lines, where a half line is completed with pixels of 0
abbrev pub all_lines : Loading → List ℕ
all_lines l = closed_lines l.lines l.half

-- lines of 0 after these, so that there are n
abbrev pub filled_lines : ℕ → List ℕ → List ℕ
filled_lines n ls = ls ++ replicate (n - length ls) 0

-- with this plane open
abbrev pub loading_at_plane : Loading → ℕ → Loading
loading_at_plane l p = record l { plane = p; lines = filled_lines (p * l.form.h) (all_lines l); half = None }

-- with what a byte adds
abbrev pub loading_with : Loading → BlockPart → Loading
loading_with l d = record l { lines = l.lines ++ d.lines; half = d.half }

-- one byte more. The first one opens plane 0
unfoldable pub loading_after : Loading → ℕ → Loading
loading_after l a =
    if l.begun then
    (if is_opener a then loading_at_plane l (plane_of a) else loading_with l (adds l.form.w (room l) (before l) l.half a)) else
    record l { begun = true }

-- the pattern of this form whose bits are this number
abbrev pub pattern_of : Form → ℕ → Pattern
pattern_of f n = record { w = f.w; h = f.h; planes = f.planes; bits = words 9 n }

-- it continues the pattern
unfoldable pub takes : Loading → ℕ → Bool
takes l a =
    if l.begun then
    (if is_opener a then nat_lt l.plane (plane_of a) && nat_lt (plane_of a) l.form.planes else
    may_come (room l) a) else
    a == 0x30

-- no byte continues it: the last plane is open, and has all its lines
abbrev pub is_full : Loading → Bool
is_full l = l.begun && (room l == 0 && l.plane + 1 == l.form.planes)

-- these bytes more
unfoldable pub load : Loading → List ℕ → Loading
load l [] = l
load l (a ∷ u) = load (loading_after l a) u

-- each of them continues it
unfoldable pub loads : Loading → List ℕ → Bool
loads l [] = true
loads l (a ∷ u) = takes l a && loads (loading_after l a) u

-- these bytes of a pattern of this form lead to this state
pub record Leads (f : Form) (u : List ℕ) (l : Loading) : Type 0 where
  pub form : IsValidForm f
  pub continue : loads (fresh f) u ≡ true
  pub state : l ≡ load (fresh f) u

-- some bytes lead to this state
pub record IsLed (l : Loading) : Type 0 where
  pub bytes : List ℕ
  pub leads : Leads l.form bytes l
