-- The commands that set attributes one by one, by the C1 code that sets each (after the parallel supplementary control
-- functions of T/CD 6-1; the table, what each code does, the flash modes and the order in a written page are this
-- profile's own).
use Rattle.std.specs.Prelude.{ℕ, ◌+◌, ◌/◌, ◌%◌, Option, Some, None, List, [], ◌∷◌, ◌++◌, if◌then◌else◌}
use Rattle.cept_codes.specs.declared.attribute.Attr.{Attr}
use Rattle.cept_codes.specs.declared.attribute.Attr.TheVariants as attrs
use Rattle.cept_codes.specs.declared.attribute.Flash.{Flash}
use Rattle.cept_codes.specs.declared.attribute.Flash.TheVariants as flashes
use Rattle.cept_codes.specs.declared.attribute.Pen.{Pen}
use Rattle.cept_codes.specs.declared.attribute.Size.{Size}
use Rattle.cept_codes.specs.declared.attribute.Size.TheVariants as sizes
use Rattle.cept_codes.specs.declared.command.Command.{Command}
use Rattle.cept_codes.specs.declared.command.Command.TheVariants as commands
use Rattle.cept_profile.specs.Pens.{pen_with}

-- a class that is set, as an attribute
abbrev pub class_attributes : {X : Type 0} → (X → Attr) → Option X → List Attr
class_attributes attr None = []
class_attributes attr (Some x) = attr x ∷ []

-- the classes that a pen sets, in the order in which a written page has them
unfoldable pub attributes_of : Pen → List Attr
attributes_of p =
    class_attributes (λ e. attrs.Fore e) p.fore ++ (class_attributes (λ e. attrs.Back e) p.back
    ++ (class_attributes (λ f. attrs.Flash f) p.flash ++ (class_attributes (λ b. attrs.Conceal b) p.conceal
    ++ (class_attributes (λ b. attrs.Lined b) p.lined ++ (class_attributes (λ b. attrs.Boxed b) p.boxed
    ++ (class_attributes (λ s. attrs.Size s) p.size ++ class_attributes (λ b. attrs.Invert b) p.invert))))))

-- a colour entry: its table of eight, and its code there, counted from the code of the table's first
abbrev pub colour_commands : (ℕ → Command) → ℕ → ℕ → List Command
colour_commands code first e = commands.Table (e / 8) ∷ code (first + e % 8) ∷ []

-- plain and steady by their codes; the others, which a row and the screen never have, by their flash modes
abbrev pub flash_commands : (ℕ → Command) → Flash → List Command
flash_commands code flashes.Plain = code 8 ∷ []
flash_commands code flashes.Steady = code 9 ∷ []
flash_commands code flashes.Inverted = commands.FlashMode 0 ∷ []
flash_commands code flashes.Reduced = commands.FlashMode 1 ∷ []
flash_commands code flashes.Fast1 = commands.FlashMode 2 ∷ []
flash_commands code flashes.Fast2 = commands.FlashMode 3 ∷ []
flash_commands code flashes.Fast3 = commands.FlashMode 4 ∷ []

-- the code of a size
abbrev pub size_code : Size → ℕ
size_code sizes.Normal = 12
size_code sizes.High = 13
size_code sizes.Wide = 14
size_code sizes.Both = 15

-- an attribute, with codes for signs, for a row or for the screen
abbrev pub attribute_commands : (ℕ → Command) → Attr → List Command
attribute_commands code (attrs.Fore e) = colour_commands code 0 e
attribute_commands code (attrs.Back e) = colour_commands code 16 e
attribute_commands code attrs.NoBack = code 30 ∷ []
attribute_commands code (attrs.Flash f) = flash_commands code f
attribute_commands code (attrs.Conceal on) = code (if on then 24 else 31) ∷ []
attribute_commands code (attrs.Lined on) = code (if on then 26 else 25) ∷ []
attribute_commands code (attrs.Boxed on) = code (if on then 11 else 10) ∷ []
attribute_commands code (attrs.Size size) = code (size_code size) ∷ []
attribute_commands code (attrs.Invert on) = code (if on then 29 else 28) ∷ []

-- attributes one after the other
abbrev pub attributes_commands : (ℕ → Command) → List Attr → List Command
attributes_commands code [] = []
attributes_commands code (attr ∷ more) = attribute_commands code attr ++ attributes_commands code more

-- the classes that a pen sets
abbrev pub pen_commands : (ℕ → Command) → Pen → List Command
pen_commands code p = attributes_commands code (attributes_of p)

-- a pen with attributes set one after the other
abbrev pub pen_with_all : List Attr → Pen → Pen
pen_with_all [] p = p
pen_with_all (attr ∷ more) p = pen_with_all more (pen_with attr p)
