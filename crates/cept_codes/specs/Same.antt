-- Equality (own): what `==` answers on the values of this crate. That it says whether two values are the same is a law
-- of `law::equality`.
use Rattle.std.specs.Prelude.{Bool}
use Rattle.cept_codes.specs.declared.glyph.SetId.{SetId}
use Rattle.cept_codes.specs.declared.glyph.Glyph.{Glyph}
use Rattle.cept_codes.specs.declared.glyph.Read.{Read}
use Rattle.cept_codes.specs.declared.attribute.Size.{Size}
use Rattle.cept_codes.specs.declared.attribute.Flash.{Flash}
use Rattle.cept_codes.specs.declared.attribute.Attr.{Attr}
use Rattle.cept_codes.specs.declared.attribute.Pen.{Pen}
use Rattle.cept_codes.specs.declared.attribute.Full.{Full}
use Rattle.cept_codes.specs.declared.cell.Marker.{Marker}
use Rattle.cept_codes.specs.declared.cell.What.{What}
use Rattle.cept_codes.specs.declared.cell.Cell.{Cell}
use Rattle.cept_codes.specs.declared.cell.RowCells.{RowCells}
use Rattle.cept_codes.specs.declared.look.Rgb.{Rgb}
use Rattle.cept_codes.specs.declared.look.Paint.{Paint}
use Rattle.cept_codes.specs.declared.look.Pattern.{Pattern}
use Rattle.cept_codes.specs.declared.look.Inks.{Inks}
use Rattle.cept_codes.specs.declared.look.Shape.{Shape}
use Rattle.cept_codes.specs.declared.look.Part.{Part}
use Rattle.cept_codes.specs.declared.look.Look.{Look}
use Rattle.cept_codes.specs.declared.command.C1Set.{C1Set}
use Rattle.cept_codes.specs.declared.command.Up.{Up}
use Rattle.cept_codes.specs.declared.command.Form.{Form}
use Rattle.cept_codes.specs.declared.command.Command.{Command}
use Rattle.cept_codes.specs.declared.item.Reason.{Reason}
use Rattle.cept_codes.specs.declared.item.Said.{Said}
use Rattle.cept_codes.specs.declared.item.Item.{Item}
use Rattle.cept_codes.specs.declared.line_reason.LineReason.{LineReason}
use Rattle.cept_codes.specs.declared.stroke.Stroke.{Stroke}
use Rattle.cept_codes.specs.declared.memory.NoMemory.{NoMemory}
use Rattle.cept_codes.specs.Place.{Place}
use Rattle.cept_codes.specs.contracts.memory.NoMemoryPartialEq.TheImpl.{ghosts as no_memory_comparison}
use Rattle.cept_codes.specs.contracts.position.PosPartialEq.TheImpl.{ghosts as place_comparison}
use Rattle.cept_codes.specs.contracts.glyph.SetIdPartialEq.TheImpl.{ghosts as set_comparison}
use Rattle.cept_codes.specs.contracts.glyph.GlyphPartialEq.TheImpl.{ghosts as glyph_comparison}
use Rattle.cept_codes.specs.contracts.glyph.ReadPartialEq.TheImpl.{ghosts as read_comparison}
use Rattle.cept_codes.specs.contracts.attribute.SizePartialEq.TheImpl.{ghosts as size_comparison}
use Rattle.cept_codes.specs.contracts.attribute.FlashPartialEq.TheImpl.{ghosts as flash_comparison}
use Rattle.cept_codes.specs.contracts.attribute.AttrPartialEq.TheImpl.{ghosts as attr_comparison}
use Rattle.cept_codes.specs.contracts.attribute.PenPartialEq.TheImpl.{ghosts as pen_comparison}
use Rattle.cept_codes.specs.contracts.attribute.FullPartialEq.TheImpl.{ghosts as full_comparison}
use Rattle.cept_codes.specs.contracts.cell.MarkerPartialEq.TheImpl.{ghosts as marker_comparison}
use Rattle.cept_codes.specs.contracts.cell.WhatPartialEq.TheImpl.{ghosts as what_comparison}
use Rattle.cept_codes.specs.contracts.cell.CellPartialEq.TheImpl.{ghosts as cell_comparison}
use Rattle.cept_codes.specs.contracts.cell.RowCellsPartialEq.TheImpl.{ghosts as row_comparison}
use Rattle.cept_codes.specs.contracts.look.RgbPartialEq.TheImpl.{ghosts as rgb_comparison}
use Rattle.cept_codes.specs.contracts.look.PaintPartialEq.TheImpl.{ghosts as paint_comparison}
use Rattle.cept_codes.specs.contracts.look.PatternPartialEq.TheImpl.{ghosts as pattern_comparison}
use Rattle.cept_codes.specs.contracts.look.InksPartialEq.TheImpl.{ghosts as inks_comparison}
use Rattle.cept_codes.specs.contracts.look.ShapePartialEq.TheImpl.{ghosts as shape_comparison}
use Rattle.cept_codes.specs.contracts.look.PartPartialEq.TheImpl.{ghosts as part_comparison}
use Rattle.cept_codes.specs.contracts.look.LookPartialEq.TheImpl.{ghosts as look_comparison}
use Rattle.cept_codes.specs.contracts.command.C1SetPartialEq.TheImpl.{ghosts as c1_set_comparison}
use Rattle.cept_codes.specs.contracts.command.UpPartialEq.TheImpl.{ghosts as way_comparison}
use Rattle.cept_codes.specs.contracts.command.FormPartialEq.TheImpl.{ghosts as form_comparison}
use Rattle.cept_codes.specs.contracts.command.CommandPartialEq.TheImpl.{ghosts as command_comparison}
use Rattle.cept_codes.specs.contracts.item.ReasonPartialEq.TheImpl.{ghosts as reason_comparison}
use Rattle.cept_codes.specs.contracts.item.SaidPartialEq.TheImpl.{ghosts as said_comparison}
use Rattle.cept_codes.specs.contracts.item.ItemPartialEq.TheImpl.{ghosts as item_comparison}
use Rattle.cept_codes.specs.contracts.line_reason.LineReasonPartialEq.TheImpl.{ghosts as line_reason_comparison}
use Rattle.cept_codes.specs.contracts.stroke.StrokePartialEq.TheImpl.{ghosts as stroke_comparison}

-- what `==` answers on places
abbrev pub same_place : Place → Place → Bool
same_place = place_comparison.eq

-- on sizes
abbrev pub same_size : Size → Size → Bool
same_size = size_comparison.eq

-- on ways to flash
abbrev pub same_flash : Flash → Flash → Bool
same_flash = flash_comparison.eq

-- on attributes
abbrev pub same_attr : Attr → Attr → Bool
same_attr = attr_comparison.eq

-- on pens
abbrev pub same_pen : Pen → Pen → Bool
same_pen = pen_comparison.eq

-- on full attributes
abbrev pub same_full : Full → Full → Bool
same_full = full_comparison.eq

-- on sets
abbrev pub same_set : SetId → SetId → Bool
same_set = set_comparison.eq

-- on signs
abbrev pub same_glyph : Glyph → Glyph → Bool
same_glyph = glyph_comparison.eq

-- on what graphic bytes give
abbrev pub same_read : Read → Read → Bool
same_read = read_comparison.eq

-- on markers
abbrev pub same_marker : Marker → Marker → Bool
same_marker = marker_comparison.eq

-- on what stands in cells
abbrev pub same_what : What → What → Bool
same_what = what_comparison.eq

-- on cells
abbrev pub same_cell : Cell → Cell → Bool
same_cell = cell_comparison.eq

-- on rows of cells
abbrev pub same_row : RowCells → RowCells → Bool
same_row = row_comparison.eq

-- on colours
abbrev pub same_rgb : Rgb → Rgb → Bool
same_rgb = rgb_comparison.eq

-- on paints
abbrev pub same_paint : Paint → Paint → Bool
same_paint = paint_comparison.eq

-- on patterns
abbrev pub same_pattern : Pattern → Pattern → Bool
same_pattern = pattern_comparison.eq

-- on inks
abbrev pub same_inks : Inks → Inks → Bool
same_inks = inks_comparison.eq

-- on shapes
abbrev pub same_shape : Shape → Shape → Bool
same_shape = shape_comparison.eq

-- on parts
abbrev pub same_part : Part → Part → Bool
same_part = part_comparison.eq

-- on looks: whether they are the same (law `looks_compare_by_their_fields`)
abbrev pub same_look : Look → Look → Bool
same_look = look_comparison.eq

-- on C1 sets
abbrev pub same_c1_set : C1Set → C1Set → Bool
same_c1_set = c1_set_comparison.eq

-- on ways to scroll
abbrev pub same_way : Up → Up → Bool
same_way = way_comparison.eq

-- on forms of patterns
abbrev pub same_form : Form → Form → Bool
same_form = form_comparison.eq

-- on commands
abbrev pub same_command : Command → Command → Bool
same_command = command_comparison.eq

-- on reasons
abbrev pub same_reason : Reason → Reason → Bool
same_reason = reason_comparison.eq

-- on what items say
abbrev pub same_said : Said → Said → Bool
same_said = said_comparison.eq

-- on items
abbrev pub same_item : Item → Item → Bool
same_item = item_comparison.eq

-- on reasons of lines
abbrev pub same_line_reason : LineReason → LineReason → Bool
same_line_reason = line_reason_comparison.eq

-- on strokes
abbrev pub same_stroke : Stroke → Stroke → Bool
same_stroke = stroke_comparison.eq

-- on out of memory
abbrev pub same_no_memory : NoMemory → NoMemory → Bool
same_no_memory = no_memory_comparison.eq
