-- The commands of a piece are valid, and equal signs before a cell are fewer than its column.
use Rattle.std.proofs.Common.{◌≡◌, ℕ, zero, suc, ◌+◌, ◌/◌, ◌%◌, ◌≤◌, Bool, true, false, cond, eqb, ◌&&◌, List, [], ◌∷◌}
use Rattle.std.proofs.Common.{◌++◌, ap, ◌∙◌, arith, inl, inr}
use Rattle.std.proofs.lemmas.Bool.{and_parts, cases_Bool, eqb-true}
use Rattle.cept_codes.specs.declared.cell.Cell.{Cell}
use Rattle.cept_codes.specs.declared.cell.What.{What}
use Rattle.cept_codes.specs.declared.cell.What.TheVariants as whats
use Rattle.cept_codes.specs.declared.command.Command.{Command}
use Rattle.cept_codes.specs.declared.command.Command.TheVariants as commands
use Rattle.cept_codes.specs.declared.glyph.Glyph.{Glyph}
use Rattle.cept_codes.specs.Cell.{IsValidWhat}
use Rattle.cept_codes.specs.Command.{IsValidCommand}
use Rattle.cept_codes.specs.Glyph.{IsValidGlyph}
use Rattle.cept_codes.specs.Place.{OnScreen, place_of}
use Rattle.cept_parser.specs.Spelling.{AreTextual, IsTextual}
use Rattle.cept_parser.proofs.TextualLemmas.{textual-append}
use Rattle.cept_profile.specs.Valid.{AllValid}
use Rattle.cept_writer.specs.declared.link.Link.{Link}
use Rattle.cept_writer.specs.declared.link.Link.TheVariants as links
use Rattle.cept_writer.specs.SegmentCommands.{PlacedCell, is_next_place, is_same_protection, is_shorter_repeated}
use Rattle.cept_writer.specs.SegmentCommands.{is_written_on, manner_commands, unit_commands}
use Rattle.cept_writer.specs.SegmentPieces.{beginning_of, closing_before, copies_after, copies_before, ending_of}
use Rattle.cept_writer.specs.PageCommands.{cell_numbered}
use Rattle.cept_writer.specs.SegmentPieces.{link_to, link_within, opening_after, piece_numbered, piece_of, piece_with, placed}
use Rattle.cept_writer.specs.SegmentPieces.{protection_off, protection_on, run_before, run_in, run_of, units_of}
use Rattle.cept_writer.proofs.CompactSpelled.{closing_textual, manner_textual, opening_textual, unit_textual}
use Rattle.cept_writer.proofs.PageSpelled.{marker_textual}

textual_valid : (c : Command) → IsTextual c → IsValidCommand c
textual_valid (commands.Revision revision) h = h
textual_valid (commands.Format rows wrap) h = h
textual_valid (commands.Table k) h = h
textual_valid (commands.C1 n) h = h
textual_valid (commands.FlashMode k) h = h
textual_valid commands.StopConceal h = tt
textual_valid (commands.FullScreen n) h = h
textual_valid (commands.FullRow n) h = h
textual_valid (commands.Position r c) h = h
textual_valid (commands.Protect on) h = tt
textual_valid (commands.DesignateC1 set) h = tt
textual_valid (commands.Graphic b) h = inl h
textual_valid (commands.LockLeft g) h = omega (arith, h)
textual_valid (commands.Designate g set) h = h
textual_valid (commands.Single g) h = h
textual_valid (commands.Repeat n) h = h
textual_valid (commands.AreaCreate a b) h = h
textual_valid (commands.Implicit on) h = tt
textual_valid _ h = absurd h

all_textual_valid : (cs : List Command) → AreTextual cs → AllValid cs
all_textual_valid [] all = tt
all_textual_valid (c ∷ cs) all = (textual_valid c all.0, all_textual_valid cs all.1)

units_textual : (n : ℕ) (g : Glyph) → IsValidGlyph g → AreTextual (units_of n g)
units_textual zero g is = unit_textual g.set g.code g.accent is.code is.accent
units_textual (suc n) g is =
    textual-append (unit_commands g) (units_of n g) (unit_textual g.set g.code g.accent is.code is.accent)
    (units_textual n g is)

run_textual : (n : ℕ) (g : Glyph) → n ≤ 63 → IsValidGlyph g → AreTextual (run_of n g)
run_textual n g few is = by_test (is_shorter_repeated n g) where
  by_test : (shorter : Bool)
      → AreTextual (cond shorter (unit_commands g ++ commands.Repeat n ∷ []) (units_of n g))
  by_test true =
      textual-append (unit_commands g) (commands.Repeat n ∷ []) (unit_textual g.set g.code g.accent is.code is.accent)
      (few, tt)
  by_test false = units_textual n g is

run_in_textual : (n : ℕ) (w : What) → n ≤ 63 → IsValidWhat w → AreTextual (run_in n w)
run_in_textual n whats.Blank few is = tt
run_in_textual n (whats.Serial g) few is = run_textual n g few is
run_in_textual n (whats.Parallel g pen) few is = run_textual n g few is.0
run_in_textual n (whats.Marker m) few is = marker_textual m is

run_before_textual : (n : ℕ) (w : What) (after : Link) → n ≤ 63 → IsValidWhat w → AreTextual (run_before n w after)
run_before_textual n w links.Equal few is = tt
run_before_textual n w links.Apart few is = run_in_textual n w few is
run_before_textual n w links.Segment few is = run_in_textual n w few is
run_before_textual n w links.Set few is = run_in_textual n w few is

on_textual : (protected : Bool) → AreTextual (protection_on protected)
on_textual true = (tt, tt)
on_textual false = tt

beginning_textual : (before : Link) (a : PlacedCell) → OnScreen a.place.row a.place.column → IsValidWhat a.cell.what
    → AreTextual (beginning_of before a)
beginning_textual links.Apart a on is = (
  on,
  textual-append (protection_on a.cell.protected) (manner_commands a.cell.what) (on_textual a.cell.protected)
      (manner_textual a.cell.what is),
)
beginning_textual links.Segment a on is = tt
beginning_textual links.Set a on is = tt
beginning_textual links.Equal a on is = tt

opening_after_textual : (before : Link) (w : What) → AreTextual (opening_after before w)
opening_after_textual links.Apart whats.Blank = tt
opening_after_textual links.Apart (whats.Serial g) = opening_textual g.set
opening_after_textual links.Apart (whats.Parallel g pen) = opening_textual g.set
opening_after_textual links.Apart (whats.Marker m) = tt
opening_after_textual links.Segment whats.Blank = tt
opening_after_textual links.Segment (whats.Serial g) = opening_textual g.set
opening_after_textual links.Segment (whats.Parallel g pen) = opening_textual g.set
opening_after_textual links.Segment (whats.Marker m) = tt
opening_after_textual links.Set w = tt
opening_after_textual links.Equal w = tt

closing_before_textual : (w : What) (after : Link) → AreTextual (closing_before w after)
closing_before_textual whats.Blank links.Apart = tt
closing_before_textual (whats.Serial g) links.Apart = closing_textual g.set
closing_before_textual (whats.Parallel g pen) links.Apart = closing_textual g.set
closing_before_textual (whats.Marker m) links.Apart = tt
closing_before_textual whats.Blank links.Segment = tt
closing_before_textual (whats.Serial g) links.Segment = closing_textual g.set
closing_before_textual (whats.Parallel g pen) links.Segment = closing_textual g.set
closing_before_textual (whats.Marker m) links.Segment = tt
closing_before_textual w links.Set = tt
closing_before_textual w links.Equal = tt

ending_textual : (a : PlacedCell) (after : Link) → AreTextual (ending_of a after)
ending_textual a links.Apart = off a.cell.protected where
  off : (protected : Bool) → AreTextual (protection_off protected)
  off true = (tt, tt)
  off false = tt
ending_textual a links.Segment = tt
ending_textual a links.Set = tt
ending_textual a links.Equal = tt

piece_of_valid : (before : Link) (n : ℕ) (a : PlacedCell) (after : Link) → n ≤ 63
    → OnScreen a.place.row a.place.column → IsValidWhat a.cell.what → AllValid (piece_of before n a after)
piece_of_valid before n a after few on is =
    all_textual_valid (piece_of before n a after)
    (textual-append (beginning_of before a) _ (beginning_textual before a on is)
    (textual-append (opening_after before a.cell.what) _ (opening_after_textual before a.cell.what)
    (textual-append (run_before n a.cell.what after) _ (run_before_textual n a.cell.what after few is)
    (textual-append (closing_before a.cell.what after) (ending_of a after) (closing_before_textual a.cell.what after)
    (ending_textual a after)))))

pub piece_valid : (before : Link) (n : ℕ) (a : PlacedCell) (after : Link) (w : What) → n ≤ 63
    → OnScreen a.place.row a.place.column → IsValidWhat a.cell.what → AllValid (piece_with before n a after w)
piece_valid before n a after whats.Blank few on is = tt
piece_valid before n a after (whats.Serial g) few on is = piece_of_valid before n a after few on is
piece_valid before n a after (whats.Parallel g pen) few on is = piece_of_valid before n a after few on is
piece_valid before n a after (whats.Marker m) few on is = piece_of_valid before n a after few on is

-- ---- copies

-- equal signs stand in one row
pub copies_low : (cells : List (List Cell)) (n : ℕ) → copies_before cells n ≤ n % 40
unfolding copies_before
copies_low cells zero = omega arith
copies_low cells (suc n) =
    elim (cases_Bool (is_next_place (place_of n) (place_of (suc n)))) [
      | inl e ↦
          let parts = and_parts (eqb (n / 40 + 1) (suc n / 40 + 1)) (eqb (n % 40 + 1 + 1) (suc n % 40 + 1)) e in
          let column = eqb-true (n % 40 + 1 + 1) (suc n % 40 + 1) parts.1 in
          let before = copies_low cells n in
          let most = at_most (link_to cells (suc n)) (copies_before cells n) in
          omega (arith, column, before, most)
      | inr e ↦
          let apart : link_to cells (suc n) ≡ links.Apart =
          ap (λ (t : Bool). cond (t && (is_same_protection (placed cells n).cell.protected (placed cells (suc n)).cell.protected
          && is_written_on (placed cells n).cell.what (placed cells (suc n)).cell.what))
          (link_within (placed cells n).cell.what (placed cells (suc n)).cell.what) links.Apart) e in
          let none : copies_after (copies_before cells n) (link_to cells (suc n)) ≡ 0 =
          ap (copies_after (copies_before cells n)) apart in
          omega (arith, none)
    ] where
      at_most : (link : Link) (k : ℕ) → copies_after k link ≤ k + 1
      at_most links.Apart k = omega arith
      at_most links.Segment k = omega arith
      at_most links.Set k = omega arith
      at_most links.Equal k = omega arith

-- the piece of a cell that was read is that of its number
pub piece_is : (cells : List (List Cell)) (n : ℕ) (before : Link) (copies : ℕ) (x : Cell) (after : Link)
    → x ≡ cell_numbered cells n → before ≡ link_to cells n → copies ≡ copies_before cells n
    → after ≡ link_to cells (n + 1)
    → piece_with before copies (record { place = place_of n; cell = x }) after x.what ≡ piece_numbered cells n
piece_is cells n before copies x after is from many to =
    let e : n + 1 ≡ suc n = omega arith in
    ap (λ (y : Cell). piece_with before copies (record { place = place_of n; cell = y }) after y.what) is
    ∙ ap (λ (l : Link). piece_with l copies (placed cells n) after (cell_numbered cells n).what) from
    ∙ ap (λ (k : ℕ). piece_with (link_to cells n) k (placed cells n) after (cell_numbered cells n).what) many
    ∙ ap (λ (l : Link). piece_with (link_to cells n) (copies_before cells n) (placed cells n) l (cell_numbered cells n).what)
    (to ∙ ap (link_to cells) e)
