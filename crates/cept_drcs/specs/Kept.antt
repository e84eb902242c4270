-- What a drawing keeps true of its fields, and what it makes of a byte (this project's own).
use Rattle.std.specs.Prelude.{ℕ, ◌≡◌, ◌+◌, ◌*◌, ◌≤◌, ◌<◌, Bool, List, length, if◌then◌else◌}
use Rattle.cept_codes.specs.declared.command.Form.{Form}
use Rattle.cept_codes.specs.Command.{IsValidForm}
use Rattle.cept_drcs.specs.Loading.{Loading, room, takes, loading_after}
use Rattle.cept_drcs.specs.Strips.{strips_in}

-- a plane of a form, which is valid
pub record IsPlaneOf (f : Form) (plane : ℕ) : Type 0 where
  pub form : IsValidForm f
  pub is_plane : plane < f.planes

-- how many strips there are when this plane has all its lines
abbrev pub plane_end : Form → ℕ → ℕ
plane_end f p = strips_in f.w (p * f.h + f.h)

-- a valid form, one of its planes, and strips to somewhere in this plane; `stop` is how many there are when it has all
-- its lines, and 0 before the first byte
pub record IsKeptDrawing (f : Form) (begun : Bool) (plane stop : ℕ) (strips : List ℕ) : Type 0 where
  pub form : IsValidForm f
  pub open_plane : plane < f.planes
  pub earlier : strips_in f.w (plane * f.h) ≤ length strips
  pub room : length strips ≤ plane_end f plane
  pub stop_is : stop ≡ (if begun then plane_end f plane else 0)

-- a byte was taken where it continues the pattern, and nothing changed where it doesn't
pub record IsFed (old : Loading) (a : ℕ) (answer : Bool) (new : Loading) : Type 0 where
  pub taken_is : answer ≡ takes old a
  pub state : new ≡ (if takes old a then loading_after old a else old)
