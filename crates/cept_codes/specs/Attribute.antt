-- Valid attributes: colours are the entries 0 to 31 of four tables of eight (ETS 300 072, colour tables). Which
-- attributes a row and the screen can have is this profile's own.
use Rattle.std.specs.Prelude.{ℕ, ◌≡◌, ◌<◌, IfSome, None}
use Rattle.cept_codes.specs.declared.attribute.Attr.{Attr}
use Rattle.cept_codes.specs.declared.attribute.Attr.TheVariants.{Fore, Back, NoBack, Flash, Conceal, Lined, Boxed, Size}
use Rattle.cept_codes.specs.declared.attribute.Attr.TheVariants.{Invert}
use Rattle.cept_codes.specs.declared.attribute.Flash.{Flash as Flashing}
use Rattle.cept_codes.specs.declared.attribute.Flash.TheVariants as flashes
use Rattle.cept_codes.specs.declared.attribute.Pen.{Pen}
use Rattle.cept_codes.specs.declared.attribute.Full.{Full}

-- a colour entry
abbrev pub IsEntry : ℕ → Type 0
IsEntry e = e < 32

-- an entry, or any value of its class
abbrev pub IsValidAttr : Attr → Type 0
IsValidAttr (Fore e) = IsEntry e
IsValidAttr (Back e) = IsEntry e
IsValidAttr NoBack = Unit {0}
IsValidAttr (Flash f) = Unit {0}
IsValidAttr (Conceal b) = Unit {0}
IsValidAttr (Lined b) = Unit {0}
IsValidAttr (Boxed b) = Unit {0}
IsValidAttr (Size s) = Unit {0}
IsValidAttr (Invert b) = Unit {0}

-- a flash that a row or the whole screen can have: plain, or none
abbrev pub IsPlainFlash : Flashing → Type 0
IsPlainFlash flashes.Plain = Unit {0}
IsPlainFlash flashes.Steady = Unit {0}
IsPlainFlash _ = ⊥

-- an attribute that a row can have
abbrev pub IsRowAttr : Attr → Type 0
IsRowAttr (Flash f) = IsPlainFlash f
IsRowAttr attr = IsValidAttr attr

-- an attribute that the screen can have: no size
abbrev pub IsScreenAttr : Attr → Type 0
IsScreenAttr (Size s) = ⊥
IsScreenAttr attr = IsRowAttr attr

-- the colours that are set are entries
pub record IsValidPen (p : Pen) : Type 0 where
  pub fore : IfSome p.fore IsEntry
  pub back : IfSome p.back IsEntry

-- both colours are entries
pub record IsValidFull (f : Full) : Type 0 where
  pub fore : IsEntry f.fore
  pub back : IsEntry f.back

-- the pen in which no class is set
abbrev pub unset_pen : Pen
unset_pen = record {
  fore = None;
  back = None;
  flash = None;
  conceal = None;
  lined = None;
  boxed = None;
  size =
      None;
  invert = None;
}

-- the attributes of a row: valid ones, with a flash that a row can have
pub record IsRowPen (p : Pen) : Type 0 where
  pub valid : IsValidPen p
  pub flash : IfSome p.flash IsPlainFlash

-- the attributes of the screen: the same, and no size
pub record IsScreenPen (p : Pen) : Type 0 where
  pub row : IsRowPen p
  pub size : p.size ≡ None
