-- The attributes of rows and of the screen are valid commands.
use Rattle.std.proofs.Common.{◌≡◌, ℕ, ◌+◌, ◌%◌, ◌≤◌, ◌<◌, true, false, IfSome, Option, None, Some}
use Rattle.std.proofs.Common.{List, [], ◌∷◌, ◌++◌, inl, inr, arith}
use Rattle.std.specs.List.{AllByRecursion}
use Rattle.cept_codes.specs.declared.attribute.Attr.{Attr}
use Rattle.cept_codes.specs.declared.attribute.Attr.TheVariants as attrs
use Rattle.cept_codes.specs.declared.attribute.Flash.{Flash}
use Rattle.cept_codes.specs.declared.attribute.Flash.TheVariants as flashes
use Rattle.cept_codes.specs.declared.attribute.Pen.{Pen}
use Rattle.cept_codes.specs.declared.attribute.Size.{Size}
use Rattle.cept_codes.specs.declared.attribute.Size.TheVariants as sizes
use Rattle.cept_codes.specs.declared.command.Command.{Command}
use Rattle.cept_codes.specs.declared.command.Command.TheVariants as commands
use Rattle.cept_codes.specs.Attribute.{IsEntry, IsRowPen, IsScreenPen, IsValidPen}
use Rattle.cept_codes.specs.Command.{IsC1, IsScreenC1, IsValidCommand}
use Rattle.cept_profile.specs.Valid.{AllValid}
use Rattle.cept_writer.specs.AttributeCommands.{attribute_commands, attributes_commands, attributes_of, class_attributes}
use Rattle.cept_writer.specs.AttributeCommands.{flash_commands, pen_commands, size_code}
use Rattle.cept_writer.proofs.StrokesByPart.{all_append}

joined : (cs ds : List Command) → AllValid cs → AllValid ds → AllValid (cs ++ ds)
joined = all_append IsValidCommand

-- ---- C1 codes

-- of the classes but the size
low_code : (n : ℕ) → n < 12 → IsScreenC1 n
low_code n low = ((omega (arith, low), λ e. absurd (omega (arith, low, e))), inl low)

middle_code : (n : ℕ) → 15 < n → n < 27 → IsScreenC1 n
middle_code n low high = ((omega (arith, high), λ e. absurd (omega (arith, high, e))), inr low)

high_code : (n : ℕ) → 27 < n → n < 32 → IsScreenC1 n
high_code n low high = ((high, λ e. absurd (omega (arith, low, e))), inr (omega (arith, low)))

-- of sizes
size_is : (size : Size) → IsC1 (size_code size)
size_is sizes.Normal = (omega arith, λ e. absurd (omega (arith, e)))
size_is sizes.High = (omega arith, λ e. absurd (omega (arith, e)))
size_is sizes.Wide = (omega arith, λ e. absurd (omega (arith, e)))
size_is sizes.Both = (omega arith, λ e. absurd (omega (arith, e)))

-- ---- attributes

-- colours are entries, and a size has a code there
abbrev IsWritable : (ℕ → Command) → Attr → Type 0
IsWritable code (attrs.Fore e) = IsEntry e
IsWritable code (attrs.Back e) = IsEntry e
IsWritable code (attrs.Size size) = IsValidCommand (code (size_code size))
IsWritable code _ = Unit {0}

module _ (code : ℕ → Command) (fits : (n : ℕ) → IsScreenC1 n → IsValidCommand (code n)) where
  flash_valid : (f : Flash) → AllValid (flash_commands code f)
  flash_valid flashes.Plain = (fits 8 (low_code 8 (omega arith)), tt)
  flash_valid flashes.Steady = (fits 9 (low_code 9 (omega arith)), tt)
  flash_valid flashes.Inverted = (omega arith, tt)
  flash_valid flashes.Reduced = (omega arith, tt)
  flash_valid flashes.Fast1 = (omega arith, tt)
  flash_valid flashes.Fast2 = (omega arith, tt)
  flash_valid flashes.Fast3 = (omega arith, tt)

  attribute_valid : (attr : Attr) → IsWritable code attr → AllValid (attribute_commands code attr)
  attribute_valid (attrs.Fore e) is = (omega (arith, is), (fits (0 + e % 8) (low_code (0 + e % 8) (omega arith)), tt))
  attribute_valid (attrs.Back e) is =
      (omega (arith, is), (fits (16 + e % 8) (middle_code (16 + e % 8) (omega arith) (omega arith)), tt))
  attribute_valid attrs.NoBack is = (fits 30 (high_code 30 (omega arith) (omega arith)), tt)
  attribute_valid (attrs.Flash f) is = flash_valid f
  attribute_valid (attrs.Conceal true) is = (fits 24 (middle_code 24 (omega arith) (omega arith)), tt)
  attribute_valid (attrs.Conceal false) is = (fits 31 (high_code 31 (omega arith) (omega arith)), tt)
  attribute_valid (attrs.Lined true) is = (fits 26 (middle_code 26 (omega arith) (omega arith)), tt)
  attribute_valid (attrs.Lined false) is = (fits 25 (middle_code 25 (omega arith) (omega arith)), tt)
  attribute_valid (attrs.Boxed true) is = (fits 11 (low_code 11 (omega arith)), tt)
  attribute_valid (attrs.Boxed false) is = (fits 10 (low_code 10 (omega arith)), tt)
  attribute_valid (attrs.Size size) is = (is, tt)
  attribute_valid (attrs.Invert true) is = (fits 29 (high_code 29 (omega arith) (omega arith)), tt)
  attribute_valid (attrs.Invert false) is = (fits 28 (high_code 28 (omega arith) (omega arith)), tt)

  attributes_valid : (list : List Attr) → AllByRecursion (IsWritable code) list → AllValid (attributes_commands code list)
  attributes_valid [] all = tt
  attributes_valid (attr ∷ more) all =
      joined (attribute_commands code attr) (attributes_commands code more) (attribute_valid attr all.0)
      (attributes_valid more all.1)

  class_writable : {X : Type 0} (attr : X → Attr) (o : Option X) → IfSome o (λ x. IsWritable code (attr x))
      → AllByRecursion (IsWritable code) (class_attributes attr o)
  class_writable attr None is = tt
  class_writable attr (Some x) is = (is, tt)

  free_writable : {X : Type 0} (attr : X → Attr) (o : Option X) → ((x : X) → IsWritable code (attr x))
      → AllByRecursion (IsWritable code) (class_attributes attr o)
  free_writable attr None is = tt
  free_writable attr (Some x) is = (is x, tt)

  pen_valid : (p : Pen) → IsValidPen p → IfSome p.size (λ size. IsValidCommand (code (size_code size)))
      → AllValid (pen_commands code p)
  unfolding attributes_of
  pen_valid p is sized =
      attributes_valid (attributes_of p)
      (all_append (IsWritable code) _ _ (class_writable (λ e. attrs.Fore e) p.fore is.fore)
      (all_append (IsWritable code) _ _ (class_writable (λ e. attrs.Back e) p.back is.back)
      (all_append (IsWritable code) _ _ (free_writable (λ f. attrs.Flash f) p.flash (λ f. tt))
      (all_append (IsWritable code) _ _ (free_writable (λ b. attrs.Conceal b) p.conceal (λ b. tt))
      (all_append (IsWritable code) _ _ (free_writable (λ b. attrs.Lined b) p.lined (λ b. tt))
      (all_append (IsWritable code) _ _ (free_writable (λ b. attrs.Boxed b) p.boxed (λ b. tt))
      (all_append (IsWritable code) _ _ (class_writable (λ s. attrs.Size s) p.size sized)
      (free_writable (λ b. attrs.Invert b) p.invert (λ b. tt)))))))))

-- where every size has a code
all_sizes : (code : ℕ → Command) → ((size : Size) → IsValidCommand (code (size_code size))) → (o : Option Size)
    → IfSome o (λ size. IsValidCommand (code (size_code size)))
all_sizes code valid None = tt
all_sizes code valid (Some size) = valid size

-- where none is set
no_size : (code : ℕ → Command) (o : Option Size) → o ≡ None → IfSome o (λ size. IsValidCommand (code (size_code size)))
no_size code None e = tt
no_size code (Some size) e = absurd cc

-- ---- rows, the screen and the settings

pub row_valid : (r : ℕ) (pen : Pen) → 1 ≤ r → r ≤ 24 → IsRowPen pen
    → AllValid (commands.Position r 1 ∷ pen_commands (λ n. commands.FullRow n) pen)
row_valid r pen low high is = (
  record { from_top = low; to_bottom = high; from_left = omega arith; to_right = omega arith },
  pen_valid (λ n. commands.FullRow n) (λ n fits. fits.0) pen is.valid
      (all_sizes (λ n. commands.FullRow n) size_is pen.size),
)

pub screen_valid : (pen : Pen) → IsScreenPen pen → AllValid (pen_commands (λ n. commands.FullScreen n) pen)
screen_valid pen is =
    pen_valid (λ n. commands.FullScreen n) (λ n fits. fits) pen is.row.valid
    (no_size (λ n. commands.FullScreen n) pen.size is.size)
