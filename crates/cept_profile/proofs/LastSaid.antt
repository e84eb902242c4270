-- Attributes of rows and of the screen: what one stroke after the other makes of them is what was said of them last.
use Rattle.std.proofs.Common.{◌≡◌, ℕ, Bool, true, false, cond, eqb, Option, Some, None, unwrap_or, List, [], ◌∷◌}
use Rattle.std.proofs.Common.{reverse, refl, sym, ◌∙◌, ap}
use Rattle.std.specs.List.{AllByRecursion}
use Rattle.std.proofs.lemmas.List.{reverse-reverse}
use Rattle.cept_codes.specs.declared.attribute.Attr.{Attr}
use Rattle.cept_codes.specs.declared.attribute.Attr.TheVariants as attrs
use Rattle.cept_codes.specs.declared.attribute.Pen.{Pen}
use Rattle.cept_codes.specs.declared.command.Command.{Command}
use Rattle.cept_codes.specs.declared.stroke.Stroke.{Stroke}
use Rattle.cept_codes.specs.declared.stroke.Stroke.TheVariants as strokes
use Rattle.cept_codes.specs.Stroke.{IsValidStroke}
use Rattle.cept_profile.specs.LastSaid.{pen_by_class, attributes_row, row_class, row_attributes, screen_attributes}
use Rattle.cept_profile.specs.PageParts.{list_of_rows, row_pen_after, screen_pen_after}
use Rattle.cept_profile.specs.Pens.{pen_with, fore_in, back_in, flash_in, conceal_in, lined_in, boxed_in, size_in}
use Rattle.cept_profile.specs.Pens.{invert_in}
use Rattle.cept_profile.specs.State.{Page, page_after, blank_page, state}
use Rattle.cept_profile.specs.Strokes.{strokes_back, strokes_in}
use Rattle.cept_profile.proofs.CarriedRows.{pen_of_row, row_pen_after-from}
use Rattle.cept_profile.proofs.OneMoreState.{page_back-drawn}
use Rattle.cept_profile.proofs.PartsByStrokes.{row_pen_back, screen_pen_back}

-- ---- an attribute says of each class what a pen with it has

-- each class by what an attribute says of it, where it counts, else as in the pen
abbrev pub pen_said : Bool → Attr → Pen → Pen
pen_said counts attr p = record {
  fore = unwrap_or (cond counts (fore_in attr) None) p.fore;
  back = unwrap_or (cond counts (back_in attr) None) p.back;
  flash = unwrap_or (cond counts (flash_in attr) None) p.flash;
  conceal = unwrap_or (cond counts (conceal_in attr) None) p.conceal;
  lined = unwrap_or (cond counts (lined_in attr) None) p.lined;
  boxed = unwrap_or (cond counts (boxed_in attr) None) p.boxed;
  size = unwrap_or (cond counts (size_in attr) None) p.size;
  invert = unwrap_or (cond counts (invert_in attr) None) p.invert;
}

pen_said-pen_with : (attr : Attr) (p : Pen) → pen_said true attr p ≡ pen_with attr p
pen_said-pen_with (attrs.Fore e) p = refl
pen_said-pen_with (attrs.Back e) p = refl
pen_said-pen_with attrs.NoBack p = refl
pen_said-pen_with (attrs.Flash f) p = refl
pen_said-pen_with (attrs.Conceal b) p = refl
pen_said-pen_with (attrs.Lined b) p = refl
pen_said-pen_with (attrs.Boxed b) p = refl
pen_said-pen_with (attrs.Size s) p = refl
pen_said-pen_with (attrs.Invert b) p = refl

pen_said-cond : (counts : Bool) (attr : Attr) (p : Pen) → pen_said counts attr p ≡ cond counts (pen_with attr p) p
pen_said-cond true attr p = pen_said-pen_with attr p
pen_said-cond false attr p = refl

-- ---- one more stroke

-- the attributes of the row that a row was, or of none
abbrev pub attributes_of : List Stroke → Option ℕ → Pen
attributes_of strokes row = pen_by_class (λ X class. row_class class strokes row)

attributes_of-row : (earlier : List Stroke) (row : Option ℕ) → attributes_of earlier row
    ≡ pen_of_row row (row_attributes earlier)
attributes_of-row [] None = refl
attributes_of-row (stroke ∷ earlier) None = refl
attributes_of-row earlier (Some r) = refl

row_attributes-more : (stroke : Stroke) (earlier : List Stroke) (r : ℕ) → row_attributes (stroke ∷ earlier) r
    ≡ row_pen_after stroke (row_attributes earlier) r
row_attributes-more (strokes.RowAttr row attr) earlier r = pen_said-cond (eqb row r) attr (row_attributes earlier r)
row_attributes-more strokes.Wipe earlier r = refl
row_attributes-more (strokes.Carry first last way) earlier r =
    attributes_of-row earlier (attributes_row (strokes.Carry first last way) r)
    ∙ sym (row_pen_after-from first last r way (row_attributes earlier))
row_attributes-more _ earlier r = refl

screen_attributes-more : (stroke : Stroke) (earlier : List Stroke) → screen_attributes (stroke ∷ earlier)
    ≡ screen_pen_after (screen_attributes earlier) stroke
screen_attributes-more (strokes.ScreenAttr attr) earlier = pen_said-pen_with attr (screen_attributes earlier)
screen_attributes-more _ earlier = refl

-- ---- all strokes

row_pen_back-said : (strokes : List Stroke) (r : ℕ) → row_pen_back strokes r ≡ row_attributes strokes r
row_pen_back-said [] r = refl
row_pen_back-said (stroke ∷ earlier) r =
    (λ i. row_pen_after stroke (λ q. row_pen_back-said earlier q i) r) ∙ sym (row_attributes-more stroke earlier r)

screen_pen_back-said : (strokes : List Stroke) → screen_pen_back strokes ≡ screen_attributes strokes
screen_pen_back-said [] = refl
screen_pen_back-said (stroke ∷ earlier) =
    ap (λ (was : Pen). screen_pen_after was stroke) (screen_pen_back-said earlier)
    ∙ sym (screen_attributes-more stroke earlier)

-- ---- pages

-- the strokes of a history, the last first
last_first : (history : List Command) → strokes_back (reverse history) ≡ reverse (strokes_in history)
last_first history = sym (reverse-reverse (strokes_back (reverse history)))

pub row_pens-said : (history : List Command)
    → (state history).page.row_pens ≡ list_of_rows (row_attributes (reverse (strokes_in history)))
row_pens-said history =
    (λ i. list_of_rows (λ r. row_pen_back-said (strokes_back (reverse history)) r i))
    ∙ ap (λ (all : List Stroke). list_of_rows (row_attributes all)) (last_first history)

pub screen_pen-said : (history : List Command)
    → (state history).page.screen_pen ≡ screen_attributes (reverse (strokes_in history))
screen_pen-said history =
    screen_pen_back-said (strokes_back (reverse history)) ∙ ap screen_attributes (last_first history)

pub row_pens-drawn : (strokes : List Stroke) → AllByRecursion IsValidStroke strokes
    → (page_after blank_page strokes).row_pens ≡ list_of_rows (row_attributes (reverse strokes))
row_pens-drawn strokes valid =
    ap (λ (p : Page). p.row_pens) (sym (page_back-drawn strokes valid))
    ∙ (λ i. list_of_rows (λ r. row_pen_back-said (reverse strokes) r i))

pub screen_pen-drawn : (strokes : List Stroke) → AllByRecursion IsValidStroke strokes
    → (page_after blank_page strokes).screen_pen ≡ screen_attributes (reverse strokes)
screen_pen-drawn strokes valid =
    ap (λ (p : Page). p.screen_pen) (sym (page_back-drawn strokes valid)) ∙ screen_pen_back-said (reverse strokes)
