-- Worked cases: texts, by computing.
use Rattle.std.proofs.Common.{◌≡◌, true, [], ◌∷◌, codes, refl}
use Rattle.std.specs.Char.{encode_utf8}
use Rattle.std.specs.Fmt.{digits}
use Rattle.cept_codes.specs.declared.glyph.SetId.TheVariants.{P}
use Rattle.cept_codes.specs.declared.look.Look.{Look}
use Rattle.cept_codes.specs.declared.look.Paint.TheVariants as paints
use Rattle.cept_codes.specs.declared.look.Shape.TheVariants as shapes
use Rattle.cept_codes.specs.Look.{blank_look}
use Rattle.cept_charsets.specs.Rendition.{mark}
use Rattle.cept_report.specs.Screen.{shape_sign, look_sign, cell_text}
use Rattle.cept_codes.specs.declared.line_reason.LineReason.TheVariants as line_reasons
use Rattle.cept_report.specs.Text.{look_text, shape_text, nothing_line, script_fault_line, load_line}
use Rattle.cept_report.specs.Text.{named_line_reason}

-- an a with diaeresis, white on magenta
abbrev pub umlaut : Look
umlaut = record blank_look {
  shape = shapes.Char (record { set = P; code = 0x61; accent = 0x48 });
  back =
      paints.Ink (record { r = 15; g = 0; b = 15 });
}

pub accent_is_reported : look_text umlaut ≡ codes "P61+48 11.00 FFF F0F S---"
unfolding shape_text
accent_is_reported = refl

pub blank_cell_is_not_reported : cell_text (record { row = 24; column = 40 }) blank_look ≡ []
unfolding cell_text
blank_cell_is_not_reported = refl

-- the sign and its mark
pub accent_is_shown : look_sign umlaut ≡ 0x61 ∷ 0xCC ∷ 0x88 ∷ []
unfolding look_sign shape_sign mark encode_utf8
accent_is_shown = refl

pub concealed_is_a_space : look_sign (record umlaut { conceal = true }) ≡ codes " "
unfolding look_sign
concealed_is_a_space = refl

pub lower_part_is_a_space : look_sign (record umlaut { dy = 1; h = 2 }) ≡ codes " "
unfolding look_sign
lower_part_is_a_space = refl

pub picture_behind_is_reported : look_text (record blank_look { back = paints.Video; lined = true })
    ≡ codes "- 11.00 FFF --- S-l-"
unfolding shape_text
picture_behind_is_reported = refl

pub undo_without_an_edit_is_reported : nothing_line 66 ≡ codes "66 nothing\n"
unfolding digits
undo_without_an_edit_is_reported = refl

pub fault_of_a_script_is_reported : script_fault_line 2 line_reasons.BadNumber
    ≡ codes "script line 2: 3 BadNumber\n"
unfolding named_line_reason digits
fault_of_a_script_is_reported = refl

pub loaded_page_is_reported : load_line 140003 20001 7 ≡ codes "bytes 140003 items 20001 paints 7\n"
unfolding digits
loaded_page_is_reported = refl
