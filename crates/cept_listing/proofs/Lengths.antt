-- How long the texts of items are at most.
use Rattle.std.proofs.Common.{◌≡◌, ◌⊎◌, ℕ, ◌+◌, ◌/◌, ◌%◌, ◌^◌, ◌<◌, ◌≤◌, Bool, true, false, zero, suc, List, [], ◌∷◌}
use Rattle.std.proofs.Common.{◌++◌, ◌&&◌, nat_le, length, length-append, decimal, codes, arith, inl, inr, refl}
use Rattle.std.proofs.lemmas.Bool.{and_parts}
use Rattle.std.proofs.lemmas.Bool.Decides.{nat_tests}
use Rattle.std.proofs.lemmas.Fmt.{length-decimal-le}
use Rattle.std.specs.Prelude.{IsTrue}
use Rattle.cept_codes.specs.Command.{IsGraphic, IsValidCommand, IsValidItem, IsValidSaid}
use Rattle.cept_codes.specs.Look.{is_pattern_size, is_plane_count}
use Rattle.cept_codes.specs.declared.command.C1Set.{C1Set}
use Rattle.cept_codes.specs.declared.command.C1Set.TheVariants as c1_sets
use Rattle.cept_codes.specs.declared.command.Command.{Command}
use Rattle.cept_codes.specs.declared.command.Command.TheVariants as commands
use Rattle.cept_codes.specs.declared.item.Item.{Item}
use Rattle.cept_codes.specs.declared.item.Reason.{Reason}
use Rattle.cept_codes.specs.declared.item.Reason.TheVariants as reasons
use Rattle.cept_codes.specs.declared.item.Said.{Said}
use Rattle.cept_codes.specs.declared.item.Said.TheVariants as said
use Rattle.cept_codes.specs.declared.look.Paint.TheVariants as paints
use Rattle.cept_codes.specs.declared.look.Rgb.{Rgb}
use Rattle.cept_report.specs.Text.{form_text, named_reason, paint_text, set_letter, spaced}
use Rattle.cept_listing.specs.Listing.{c1_set_text, c1_text, code_text, command_text, item_line, said_text}
use Rattle.cept_listing.specs.Names.{designation_names, flash_names, name_of, parallel_names, serial_names}

-- ---- numbers and names

few : (n : ℕ) → n < 100 → length (decimal n) ≤ 2
few n h = length-decimal-le 2 n (omega arith) (omega arith) (omega arith)

single : (n : ℕ) → n < 10 → length (decimal n) ≤ 1
single n h = length-decimal-le 1 n (omega arith) (omega arith) (omega arith)

-- each of these names has so many bytes at most
are_short : ℕ → List (List ℕ) → Bool
are_short k [] = true
are_short k (name ∷ names) = nat_le (length name) k && are_short k names

name_short : (k : ℕ) (names : List (List ℕ)) → are_short k names ≡ true → (n : ℕ) → length (name_of names n) ≤ k
unfolding are_short
name_short k [] t n = omega arith
name_short k (name ∷ names) t zero =
    let first = (and_parts (nat_le (length name) k) (are_short k names) t).0 in grind (arith, nat_tests)
name_short k (name ∷ names) t (suc n) =
    name_short k names (and_parts (nat_le (length name) k) (are_short k names) t).1 n

serial_short : (n : ℕ) → length (name_of serial_names n) ≤ 3
unfolding are_short
serial_short n = name_short 3 serial_names refl n

parallel_short : (n : ℕ) → length (name_of parallel_names n) ≤ 3
unfolding are_short
parallel_short n = name_short 3 parallel_names refl n

flash_short : (n : ℕ) → length (name_of flash_names n) ≤ 3
unfolding are_short
flash_short n = name_short 3 flash_names refl n

designation_short : (n : ℕ) → length (name_of designation_names n) ≤ 4
unfolding are_short
designation_short n = name_short 4 designation_names refl n

-- ---- names with their parameters

numbered : (name : List ℕ) (n : ℕ) → n < 100 → length (name ++ decimal n) ≤ length name + 2
numbered name n h = omega (arith, few n h, length-append name (decimal n))

one : (name : List ℕ) (n : ℕ) → n < 100 → length (spaced (name ∷ decimal n ∷ [])) ≤ length name + 3
one name n h = omega (arith, few n h, length-append name (32 ∷ decimal n))

two : (name : List ℕ) (a b : ℕ) → a < 100 → b < 100
    → length (spaced (name ∷ decimal a ∷ decimal b ∷ [])) ≤ length name + 6
two name a b low high = omega (
  arith,
  few a low,
  few b high,
  length-append name (32 ∷ decimal a ++ 32 ∷ decimal b),
  length-append (decimal a) (32 ∷ decimal b),
)

code_short : (code : ℕ) → code < 256 → length (code_text code) ≤ 5
code_short code h = omega (
  arith,
  few (code / 16) (omega arith),
  few (code % 16) (omega arith),
  length-append (decimal (code / 16)) (47 ∷ decimal (code % 16)),
)

coded : (name : List ℕ) (code : ℕ) → code < 256 → length (spaced (name ∷ code_text code ∷ [])) ≤ length name + 6
coded name code h = omega (arith, code_short code h, length-append name (32 ∷ code_text code))

-- a name, a code and a text
coded_with : (name : List ℕ) (code : ℕ) (text : List ℕ) → code < 256
    → length (spaced (name ∷ code_text code ∷ text ∷ [])) ≤ length name + 7 + length text
coded_with name code text h = omega (
  arith,
  code_short code h,
  length-append name (32 ∷ code_text code ++ 32 ∷ text),
  length-append (code_text code) (32 ∷ text),
)

set_short : (name : List ℕ) (set : C1Set) → length (spaced (name ∷ c1_set_text set ∷ [])) ≤ length name + 9
set_short name c1_sets.Serial = omega (arith, length-append name (32 ∷ codes "serial"))
set_short name c1_sets.Parallel = omega (arith, length-append name (32 ∷ codes "parallel"))

form_short : (w h planes : ℕ) → w < 100 → h < 100 → planes < 10 → length (form_text w h planes) ≤ 7
form_short w h planes a b c = omega (
  arith,
  few w a,
  few h b,
  single planes c,
  length-append (decimal w) (120 ∷ decimal h ++ 120 ∷ decimal planes),
  length-append (decimal h) (120 ∷ decimal planes),
)

sizes : (w h : ℕ) → IsTrue (is_pattern_size w h) → (w < 100) × (h < 100)
sizes w h t = (grind (arith, nat_tests), grind (arith, nat_tests))

planes_few : (planes : ℕ) → IsTrue (is_plane_count planes) → planes < 10
planes_few planes t = grind (arith, nat_tests)

graphic_small : (b : ℕ) → IsGraphic b → b < 256
graphic_small b (inl left) = omega (arith, left.1)
graphic_small b (inr right) = omega (arith, right.1)

c1_short : (n : ℕ) → n < 32
    → length (spaced (codes "C1" ∷ c1_text n ∷ name_of serial_names n ∷ name_of parallel_names n ∷ [])) ≤ 26
c1_short n h = omega (
  arith,
  serial_short n,
  parallel_short n,
  code_short (0x80 + n) (omega arith),
  length-append (c1_text n) (32 ∷ name_of serial_names n ++ 32 ∷ name_of parallel_names n),
  length-append (name_of serial_names n) (32 ∷ name_of parallel_names n),
)

attribute_short : (name : List ℕ) (n : ℕ) → n < 32
    → length (spaced (name ∷ c1_text n ∷ name_of parallel_names n ∷ [])) ≤ length name + 10
attribute_short name n h =
    omega (arith, parallel_short n, coded_with name (0x80 + n) (name_of parallel_names n) (omega arith))

designated : (g : ℕ) (letter : ℕ) → length (spaced (name_of designation_names g ∷ (letter ∷ []) ∷ [])) ≤ 6
designated g letter =
    omega (arith, designation_short g, length-append (name_of designation_names g) (32 ∷ letter ∷ []))

format_short : (r : ℕ) (word : List ℕ) → r < 100
    → length (spaced (codes "FORMAT" ∷ decimal r ∷ word ∷ [])) ≤ 10 + length word
format_short r word h = omega (arith, few r h, length-append (decimal r) (32 ∷ word))

colour_short : (i : ℕ) (c : Rgb) → i < 100
    → length (spaced (codes "COLOUR" ∷ decimal i ∷ paint_text (paints.Ink c) ∷ [])) ≤ 13
colour_short i c h = omega (arith, few i h, length-append (decimal i) (32 ∷ paint_text (paints.Ink c)))

rows_few : (r : ℕ) → (r ≡ 24) ⊎ (r ≡ 20) → r < 100
rows_few r (inl is) = omega (arith, is)
rows_few r (inr is) = omega (arith, is)

revision_few : (r : ℕ) → (r ≡ 1) ⊎ (r ≡ 2) → r < 100
revision_few r (inl is) = omega (arith, is)
revision_few r (inr is) = omega (arith, is)

-- ---- commands

unfoldable command_short : (command : Command) → IsValidCommand command → length (command_text command) ≤ 26
unfolding command_text
command_short commands.Nul v = omega arith
command_short commands.Skipped v = omega arith
command_short commands.Back v = omega arith
command_short commands.Forward v = omega arith
command_short commands.Down v = omega arith
command_short commands.Up v = omega arith
command_short commands.Clear v = omega arith
command_short commands.Return v = omega arith
command_short commands.Home v = omega arith
command_short commands.CursorOn v = omega arith
command_short commands.CursorOff v = omega arith
command_short commands.Cancel v = omega arith
command_short (commands.LockLeft g) v = omega (arith, numbered (codes "LS") g (omega (arith, v)))
command_short (commands.LockRight g) v =
    omega (arith, few g (omega (arith, v.1)), length-append (decimal g) (codes "R"))
command_short (commands.Single g) v = omega (arith, numbered (codes "SS") g (omega (arith, v.1)))
command_short (commands.Repeat n) v = omega (arith, one (codes "RPT") n (omega (arith, v)))
command_short (commands.Position r c) v =
    omega (arith, two (codes "APA") r c (omega (arith, v.to_bottom)) (omega (arith, v.to_right)))
command_short (commands.Graphic b) v = omega (arith, coded (codes "GRAPHIC") b (graphic_small b v))
command_short (commands.C1 n) v = c1_short n v.0
command_short (commands.DesignateC1 s) v = omega (arith, set_short (codes "C1D") s)
command_short (commands.Designate g s) v = omega (arith, designated g (set_letter s))
command_short (commands.Table k) v = omega (arith, numbered (codes "CT") (k + 1) (omega (arith, v)))
command_short (commands.FlashMode k) v = omega (arith, flash_short k)
command_short commands.StopConceal v = omega arith
command_short commands.ScrollUp v = omega arith
command_short commands.ScrollDown v = omega arith
command_short (commands.Implicit true) v = omega arith
command_short (commands.Implicit false) v = omega arith
command_short (commands.Protect true) v = omega arith
command_short (commands.Protect false) v = omega arith
command_short (commands.Marked true) v = omega arith
command_short (commands.Marked false) v = omega arith
command_short (commands.AreaCreate a b) v =
    omega (arith, two (codes "CSA") a b (omega (arith, v.1, v.2)) (omega (arith, v.2)))
command_short (commands.AreaDelete a b) v =
    omega (arith, two (codes "DSA") a b (omega (arith, v.1, v.2)) (omega (arith, v.2)))
command_short (commands.FullScreen n) v = omega (arith, attribute_short (codes "SCREEN") n v.0.0)
command_short (commands.FullRow n) v = omega (arith, attribute_short (codes "ROW") n v.0)
command_short (commands.ColourHeader true) v = omega arith
command_short (commands.ColourHeader false) v = omega arith
command_short commands.ColourDefaults v = omega arith
command_short (commands.ColourStart i) v = omega (arith, one (codes "COLOUR-START") i (omega (arith, v)))
command_short (commands.Entry i c) v = omega (arith, colour_short i c (omega (arith, v.0)))
command_short (commands.Dclut i k) v = omega (arith, two (codes "DCLUT") i k (omega (arith, v.0)) (omega (arith, v.1)))
command_short (commands.DrcsHeader true f) v =
    let size = sizes f.w f.h v.size in
    omega (arith, form_short f.w f.h f.planes size.0 size.1 (planes_few f.planes v.planes))
command_short (commands.DrcsHeader false f) v =
    let size = sizes f.w f.h v.size in
    omega (arith, form_short f.w f.h f.planes size.0 size.1 (planes_few f.planes v.planes))
command_short (commands.DrcsStart c) v = omega (arith, coded (codes "DRCS-START") c (omega (arith, v.1)))
command_short (commands.DrcsPattern c p) v =
    let size = sizes p.w p.h v.2.size in
    omega (
      arith,
      form_short p.w p.h p.planes size.0 size.1 (planes_few p.planes v.2.planes),
      coded_with (codes "DRCS") c (form_text p.w p.h p.planes) (omega (arith, v.1)),
    )
command_short (commands.Format r true) v = omega (arith, format_short r (codes "wrap") (rows_few r v))
command_short (commands.Format r false) v = omega (arith, format_short r (codes "no-wrap") (rows_few r v))
command_short (commands.ServiceBreak r) v = omega (arith, one (codes "SERVICE-BREAK") r (omega (arith, v.1)))
command_short commands.ServiceEnd v = omega arith
command_short (commands.FullDefaults s) v = omega (arith, set_short (codes "FULL-DEFAULTS") s)
command_short (commands.ControlDefaults s) v = omega (arith, set_short (codes "CONTROL-DEFAULTS") s)
command_short (commands.Revision r) v = omega (arith, one (codes "REVISION") r (revision_few r v))

reason_short : (reason : Reason) → length (named_reason reason).1 ≤ 17
unfolding named_reason
reason_short reasons.UnassignedControl = omega arith
reason_short reasons.UnknownEscape = omega arith
reason_short reasons.UnknownCsi = omega arith
reason_short reasons.UnknownUnit = omega arith
reason_short reasons.BadParameter = omega arith
reason_short reasons.Interrupted = omega arith
reason_short reasons.Truncated = omega arith

said_short : (s : Said) → IsValidSaid s → length (said_text s) ≤ 26
unfolding said_text
said_short (said.Command command) v = command_short command v
said_short (said.Refused reason) v = omega (arith, reason_short reason)

-- ---- lines

line_short : (item : Item) (k : ℕ) → IsValidItem item → item.len < 256 → length (decimal item.at) ≤ k
    → length (item_line item) ≤ k + 32
line_short item k v len at =
    let digits = length-decimal-le 3 item.len (omega arith) (omega (arith, len)) (omega (arith, len)) in
    let rest = decimal item.len ++ 32 ∷ said_text item.what in
    omega (
      arith,
      at,
      digits,
      said_short item.what v,
      length-append (decimal item.at) (32 ∷ rest),
      length-append (decimal item.len) (32 ∷ said_text item.what),
      length-append (decimal item.at ++ 32 ∷ rest) (10 ∷ []),
    )

pub any_line_short : (item : Item) → IsValidItem item → item.at < 2 ^ 64 → item.len < 256
    → length (item_line item) ≤ 52
any_line_short item v at len =
    line_short item 20 v len (length-decimal-le 20 item.at (omega arith) (omega (arith, at)) at)

pub page_line_short : (item : Item) → IsValidItem item → item.at ≤ 2 ^ 24 → item.len < 256
    → length (item_line item) ≤ 40
page_line_short item v at len =
    line_short item 8 v len (length-decimal-le 8 item.at (omega arith) (omega (arith, at)) (omega (arith, at)))
