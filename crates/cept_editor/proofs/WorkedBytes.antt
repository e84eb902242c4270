-- Worked cases of `raw`, by computing: bytes that a parser reads whole, and bytes of which one is refused.
use Rattle.std.proofs.Common.{◌≡◌, [], ◌∷◌, codes, Some, Ok, Err, refl}
use Rattle.cept_codes.specs.declared.command.Command.TheVariants as commands
use Rattle.cept_codes.specs.declared.line_reason.LineReason.TheVariants as reasons
use Rattle.cept_parser.specs.Controls as controls
use Rattle.cept_parser.specs.Grammar as grammar
use Rattle.cept_parser.specs.Items as reads
use Rattle.cept_editor.specs.Meaning.{Edit, hex_bytes, line_meaning}
use Rattle.cept_editor.specs.Table.{row_of}

means-raw : line_meaning (codes "raw 0b") ≡ Ok (Some (Edit (commands.Up ∷ [])))
unfolding line_meaning row_of hex_bytes reads.reading_within reads.reading_by reads.front reads.longest_beginning_within reads.closing_items grammar.unit grammar.fits grammar.grows controls.one_byte
means-raw = refl

refuses-raw : line_meaning (codes "raw 1C") ≡ Err reasons.BadBytes
unfolding line_meaning row_of hex_bytes reads.reading_within reads.reading_by reads.front reads.longest_beginning_within reads.closing_items grammar.unit grammar.fits grammar.grows controls.one_byte
refuses-raw = refl
