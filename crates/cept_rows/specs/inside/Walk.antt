-- What is carried along a row (own).
use Rattle.std.specs.Prelude.{ℕ, ◌≡◌}
use Rattle.cept_attrs.specs.Walk.{IsInfluence}
use Rattle.cept_codes.specs.Attribute.{IsValidFull}
use Rattle.cept_codes.specs.declared.attribute.Full.{Full}
use Rattle.cept_codes.specs.declared.look.Shape.TheVariants as shapes
use Rattle.cept_profile.specs.Influence.{Influence}
use Rattle.cept_profile.specs.Serial.{row_in, serial_attributes}
use Rattle.cept_rows.specs.inside.Brush.{IsBrush, small_shape}
use Rattle.cept_rows.specs.declared.walk.OwnLook.{OwnLook}
use Rattle.cept_rows.specs.declared.walk.Walk.{Walk}
use Rattle.cept_rows.specs.SmallLooks.{small_of}
use Rattle.cept_rows.specs.Source.{Source, own_look, own_size}

-- what the cells up to a column leave
abbrev pub IsCarried : Source → ℕ → Influence → Type 0
IsCarried source c influence = IsInfluence (row_in source.cells) source.row_pen source.screen_pen c influence

-- the attributes in force in a column, of a sign that took no pen
abbrev pub serial_in : Source → ℕ → Full
serial_in source = serial_attributes (row_in source.cells) source.row_pen source.screen_pen

-- what the cells up to a column leave, with valid attributes, and how a space looks after them; and a brush
pub record IsWalk (source : Source) (c : ℕ) (walk : Walk) : Type 0 where
  pub influence : IsCarried source c walk.influence
  pub valid : IsValidFull walk.influence.full
  pub space : walk.space ≡ small_shape source shapes.Space walk.influence.full
  pub brush : IsBrush source walk.brush

-- what stands in a column, and the size in which it is to be shown
pub record IsOwnLook (source : Source) (c : ℕ) (own : OwnLook) : Type 0 where
  pub look : own.look ≡ small_of (own_look source c)
  pub size : own.size ≡ own_size source c

-- a walk was led on over a column: what stands there by itself, and what is carried on from there
pub record IsLedOver (source : Source) (c : ℕ) (found : OwnLook) (after : Walk) : Type 0 where
  pub own : IsOwnLook source c found
  pub walk : IsWalk source c after
