-- Attributes of rows and of the screen, colour entries (in four tables of eight: ETS 300 072), the DCLUT and the
-- downloaded patterns; which there are, and what sets and unsets each, is this profile's own. An entry is what the last
-- stroke says that says anything of it, else its value at the start.
use Rattle.std.specs.Prelude.{ℕ, Option, Some, None, List, [], ◌∷◌, ◌==◌, if◌then◌else◌}
use Rattle.cept_codes.specs.declared.attribute.Pen.{Pen}
use Rattle.cept_codes.specs.declared.look.Paint.{Paint}
use Rattle.cept_codes.specs.declared.look.Pattern.{Pattern}
use Rattle.cept_codes.specs.declared.stroke.Stroke.{Stroke}
use Rattle.cept_codes.specs.declared.stroke.Stroke.TheVariants as strokes
use Rattle.cept_codes.specs.Attribute.{unset_pen}
use Rattle.cept_codes.specs.Look.{black_paint}
pub use Rattle.cept_codes.specs.PatternTable.{list_of_codes, pattern_in}
use Rattle.cept_codes.specs.Table.{entry, list_by_index}
use Rattle.cept_profile.specs.Colours.{default_paint}
use Rattle.cept_profile.specs.Cells.{shifted}
use Rattle.cept_profile.specs.Pens.{pen_with}

-- ---- one more stroke

-- the attributes of row r after a stroke, by those before it
abbrev pub row_pen_after : Stroke → (ℕ → Pen) → ℕ → Pen
row_pen_after (strokes.RowAttr row attr) was r = if row == r then pen_with attr (was r) else was r
row_pen_after strokes.Wipe was r = unset_pen
-- rows that are carried take them along, as their cells
row_pen_after (strokes.Carry first last way) was r = shifted way first last unset_pen was r
-- any other sets and unsets none, also where a shift moves the cells
row_pen_after _ was r = was r

-- the attributes of the screen after a stroke, by those before it
abbrev pub screen_pen_after : Pen → Stroke → Pen
screen_pen_after was (strokes.ScreenAttr attr) = pen_with attr was
screen_pen_after was strokes.ScreenClear = unset_pen
screen_pen_after was _ = was

-- the paint of the colour entry i: the defaults give each its own
abbrev pub paint_after : Stroke → (ℕ → Paint) → ℕ → Paint
paint_after (strokes.Colour j paint) was i = if j == i then paint else was i
paint_after strokes.ColourDefaults was i = default_paint i
paint_after _ was i = was i

-- the DCLUT entry i, which at the start names the colour entry of its own number
abbrev pub dclut_after : Stroke → (ℕ → ℕ) → ℕ → ℕ
dclut_after (strokes.Dclut j colour) was i = if j == i then colour else was i
dclut_after strokes.ColourDefaults was i = i
dclut_after _ was i = was i

-- the pattern of a code: it is defined, or with all others deleted
abbrev pub pattern_after : Stroke → (ℕ → Option Pattern) → ℕ → Option Pattern
pattern_after (strokes.Drcs code pattern) was d = if code == d then Some pattern else was d
pattern_after strokes.DrcsClear was d = None
pattern_after _ was d = was d

-- a part of the page after the strokes, the last first, by what each makes of what the earlier ones left
abbrev pub left_by : {X : Type 0} → (Stroke → X → X) → X → List Stroke → X
left_by after first [] = first
left_by after first (stroke ∷ earlier) = after stroke (left_by after first earlier)

-- ---- the lists of them

-- a list with an entry for each of the 24 rows, by its number
abbrev pub list_of_rows : {X : Type 0} → (ℕ → X) → List X
list_of_rows f = list_by_index 1 24 f

-- for each of the 32 colour entries
abbrev pub list_of_colours : {X : Type 0} → (ℕ → X) → List X
list_of_colours f = list_by_index 0 32 f

-- for each of the four entries of the DCLUT
abbrev pub list_of_dclut : {X : Type 0} → (ℕ → X) → List X
list_of_dclut f = list_by_index 0 4 f

-- the attributes of row r
abbrev pub row_pen_in : List Pen → ℕ → Pen
row_pen_in pens r = entry unset_pen 1 pens r

-- the paint of the colour entry i
abbrev pub paint_in : List Paint → ℕ → Paint
paint_in paints i = entry black_paint 0 paints i

-- the colour entry that the entry i of the DCLUT names
abbrev pub dclut_in : List ℕ → ℕ → ℕ
dclut_in dclut i = entry 0 0 dclut i

-- the attributes of all rows after one stroke
abbrev pub row_pens_after : List Pen → Stroke → List Pen
row_pens_after pens stroke = list_of_rows (row_pen_after stroke (row_pen_in pens))

-- the paints of all colour entries
abbrev pub paints_after : List Paint → Stroke → List Paint
paints_after paints stroke = list_of_colours (paint_after stroke (paint_in paints))

-- the DCLUT
abbrev pub dclut_list_after : List ℕ → Stroke → List ℕ
dclut_list_after dclut stroke = list_of_dclut (dclut_after stroke (dclut_in dclut))

-- the patterns of all codes
abbrev pub patterns_after : List (Option Pattern) → Stroke → List (Option Pattern)
patterns_after patterns stroke = list_of_codes (pattern_after stroke (pattern_in patterns))

-- a part of the page after several strokes
unfoldable pub part_after_all : {X : Type 0} → (X → Stroke → X) → X → List Stroke → X
part_after_all after part [] = part
part_after_all after part (stroke ∷ more) = part_after_all after (after part stroke) more
