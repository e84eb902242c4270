-- The strokes of a written page, part by part, and control after it: as at the start but for what cells leave, with the
-- revision, the format, the area and implicit scrolling of the core. No row moves while a page is written, since the area
-- and implicit scrolling come last; so the revision of the rules changes no stroke.
use Rattle.std.proofs.Common.{◌≡◌, ℕ, ◌≤◌, ◌<◌, ◌⊎◌, Bool, true, false, cond, IfSome, Option, None, Some, List, []}
use Rattle.std.proofs.Common.{◌∷◌, ◌++◌, flat_map, map, refl, sym, subst, inl, inr, arith}
use Rattle.std.specs.List.{AllByRecursion, range_with_len}
use Rattle.std.proofs.lemmas.Bool.{cases_lt}
use Rattle.std.proofs.lemmas.List.{append-nil}
use Rattle.cept_codes.specs.declared.attribute.Attr.{Attr}
use Rattle.cept_codes.specs.declared.attribute.Attr.TheVariants as attrs
use Rattle.cept_codes.specs.declared.attribute.Flash.{Flash}
use Rattle.cept_codes.specs.declared.attribute.Pen.{Pen}
use Rattle.cept_codes.specs.declared.command.C1Set.TheVariants as c1sets
use Rattle.cept_codes.specs.declared.command.Command.{Command}
use Rattle.cept_codes.specs.declared.command.Command.TheVariants as commands
use Rattle.cept_codes.specs.declared.look.Paint.{Paint}
use Rattle.cept_codes.specs.declared.look.Paint.TheVariants as paints
use Rattle.cept_codes.specs.declared.look.Pattern.{Pattern}
use Rattle.cept_codes.specs.declared.stroke.Stroke.{Stroke}
use Rattle.cept_codes.specs.declared.stroke.Stroke.TheVariants as strokes
use Rattle.cept_codes.specs.Attribute.{IsPlainFlash, IsRowPen, unset_pen}
use Rattle.cept_codes.specs.Same.{same_paint}
use Rattle.cept_profile.specs.Colours.{default_paint}
use Rattle.cept_profile.specs.Control.{ControlState, initial_control}
use Rattle.cept_profile.specs.PageParts.{dclut_in, paint_in, pattern_in, row_pen_in}
use Rattle.cept_profile.specs.State.{Core}
use Rattle.cept_writer.specs.AttributeCommands.{attributes_of, class_attributes, pen_commands}
use Rattle.cept_writer.specs.PageCommands.{area_commands, at_row, dclut_commands, first_commands}
use Rattle.cept_writer.specs.PageCommands.{implicit_commands, is_default_dclut}
use Rattle.cept_writer.specs.PageCommands.{row_commands, rows_below, screen_commands, with_colour_header}
use Rattle.cept_writer.proofs.AttributesSet.{HasCode, Strikes, row_strikes, screen_strikes}
use Rattle.cept_writer.proofs.CellsWritten.{hand_at, position-hand_at, puts_below}
use Rattle.cept_writer.proofs.Drawing.{Draws, draws_joined, draws_silent}
use Rattle.cept_writer.proofs.StrokesByPart.{all_append}
use Rattle.cept_writer.proofs.Resting.{AlwaysRests, Fixed, Hand, Rests, control_at_rest, fixed_of, rests_none, rests_range}

-- ---- the strokes of a page

abbrev pub entry_strokes : ℕ → Paint → List Stroke
entry_strokes i paints.Video = []
entry_strokes i (paints.Ink c) =
    cond (same_paint (paints.Ink c) (default_paint i)) [] (strokes.Colour i (paints.Ink c) ∷ [])

unfoldable pub entries_strokes : List Paint → ℕ → List Stroke
entries_strokes defined n = flat_map (λ i. entry_strokes i (paint_in defined i)) (range_with_len 0 n)

abbrev pub dclut_strokes : List ℕ → List Stroke
dclut_strokes dclut =
    cond (is_default_dclut dclut) [] (strokes.Dclut 0 (dclut_in dclut 0) ∷ strokes.Dclut 1 (dclut_in dclut 1)
    ∷ strokes.Dclut 2 (dclut_in dclut 2) ∷ strokes.Dclut 3 (dclut_in dclut 3) ∷ [])

abbrev pub pattern_strokes : ℕ → Option Pattern → List Stroke
pattern_strokes code None = []
pattern_strokes code (Some pattern) = strokes.Drcs code pattern ∷ []

unfoldable pub patterns_strokes : List (Option Pattern) → ℕ → List Stroke
patterns_strokes patterns n = flat_map (λ code. pattern_strokes code (pattern_in patterns code)) (range_with_len 0x21 n)

abbrev pub screen_strokes : Pen → List Stroke
screen_strokes pen = map (λ attr. strokes.ScreenAttr attr) (attributes_of pen)

abbrev pub row_strokes_of : ℕ → Pen → List Stroke
row_strokes_of r pen = map (λ attr. strokes.RowAttr r attr) (attributes_of pen)

unfoldable pub rows_strokes : List Pen → ℕ → List Stroke
rows_strokes pens n = flat_map (λ r. row_strokes_of r (row_pen_in pens r)) (range_with_len 1 n)

-- those of the reset and the format
abbrev pub first_strokes : ℕ → List Stroke
first_strokes rows =
    strokes.Format 24 ∷ strokes.Wipe ∷ strokes.ScreenClear ∷ strokes.ColourDefaults ∷ strokes.DrcsClear
    ∷ strokes.Format rows ∷ strokes.Wipe ∷ []

unfoldable pub page_strokes : Core → List Stroke
page_strokes k =
    first_strokes k.rows ++ (entries_strokes k.page.paints 32 ++ (dclut_strokes k.page.dclut
    ++ (patterns_strokes k.page.patterns 94 ++ (screen_strokes k.page.screen_pen ++ (rows_strokes k.page.row_pens 24
    ++ puts_below k.page.cells 960)))))

-- ---- attributes that have codes

class_coded : {X : Type 0} (attr : X → Attr) (o : Option X) → ((x : X) → HasCode (attr x))
    → AllByRecursion HasCode (class_attributes attr o)
class_coded attr None has = tt
class_coded attr (Some x) has = (has x, tt)

flash_coded : (o : Option Flash) → IfSome o IsPlainFlash → AllByRecursion HasCode (class_attributes (λ f. attrs.Flash f) o)
flash_coded None is = tt
flash_coded (Some f) is = (is, tt)

pub attributes_coded : (p : Pen) → IsRowPen p → AllByRecursion HasCode (attributes_of p)
unfolding attributes_of
attributes_coded p is =
    all_append HasCode _ _ (class_coded (λ e. attrs.Fore e) p.fore (λ e. tt))
    (all_append HasCode _ _ (class_coded (λ e. attrs.Back e) p.back (λ e. tt))
    (all_append HasCode _ _ (flash_coded p.flash is.flash)
    (all_append HasCode _ _ (class_coded (λ b. attrs.Conceal b) p.conceal (λ b. tt))
    (all_append HasCode _ _ (class_coded (λ b. attrs.Lined b) p.lined (λ b. tt))
    (all_append HasCode _ _ (class_coded (λ b. attrs.Boxed b) p.boxed (λ b. tt))
    (all_append HasCode _ _ (class_coded (λ s. attrs.Size s) p.size (λ s. tt))
    (class_coded (λ b. attrs.Invert b) p.invert (λ b. tt))))))))

-- ---- each part

module _ (fixed : Fixed) where
  pub headed : (cs : List Command) (made : List Stroke) → AlwaysRests fixed cs made
      → AlwaysRests fixed (with_colour_header cs) made
  headed [] made rests v = rests v
  headed (c ∷ cs) made rests v =
      let there = rests v in
      record {
        hand = there.hand;
        draws = draws_silent _ (control_at_rest fixed v) _ (commands.ColourHeader false) (c ∷ cs) _ refl refl there.draws;
      }

  pub dclut_rests : (dclut : List ℕ) → AlwaysRests fixed (dclut_commands dclut) (dclut_strokes dclut)
  dclut_rests dclut v = by_test (is_default_dclut dclut) where
    by_test : (same : Bool) → Rests fixed v (cond same [] (commands.ColourHeader true ∷ commands.ColourStart 0
        ∷ commands.Dclut 0 (dclut_in dclut 0) ∷ commands.Dclut 1 (dclut_in dclut 1)
        ∷ commands.Dclut 2 (dclut_in dclut 2) ∷ commands.Dclut 3 (dclut_in dclut 3) ∷ []))
        (cond same [] (strokes.Dclut 0 (dclut_in dclut 0) ∷ strokes.Dclut 1 (dclut_in dclut 1)
        ∷ strokes.Dclut 2 (dclut_in dclut 2) ∷ strokes.Dclut 3 (dclut_in dclut 3) ∷ []))
    by_test true = rests_none fixed v
    by_test false = record { hand = v; draws = record { control = refl; strokes = refl } }

  pub screen_rests : (pen : Pen) → IsRowPen pen → AlwaysRests fixed (screen_commands pen) (screen_strokes pen)
  screen_rests pen is v =
      let there = screen_strikes fixed v (attributes_of pen) (attributes_coded pen is) in
      record { hand = record v { table = there.table }; draws = there.draws }

  -- a position before what isn't empty
  at_row_rests : (r : ℕ) (cs : List Command) (made : List Stroke) → r ≤ fixed.rows
      → ((v : Hand) → Strikes fixed (hand_at v (record { row = r; column = 1 })) made cs)
      → AlwaysRests fixed (at_row r cs) made
  at_row_rests r [] made within there v =
      record { hand = v; draws = record { control = refl; strokes = (there v).draws.strokes } }
  at_row_rests r (c ∷ cs) made within there v = record {
    hand = record (hand_at v (record { row = r; column = 1 })) { table = (there v).table };
    draws = draws_silent _ (control_at_rest fixed (hand_at v (record { row = r; column = 1 }))) _
        (commands.Position r 1) (c ∷ cs) _ (position-hand_at fixed v (record { row = r; column = 1 }) within) refl
        (there v).draws;
  }

  unset_rests : (r : ℕ) → AlwaysRests fixed (row_commands r unset_pen) (row_strokes_of r unset_pen)
  unfolding attributes_of
  unset_rests r v = rests_none fixed v

  row_rests : (r : ℕ) (pen : Pen) → (r ≤ fixed.rows) ⊎ (pen ≡ unset_pen) → IsRowPen pen
      → AlwaysRests fixed (row_commands r pen) (row_strokes_of r pen)
  row_rests r pen (inl within) is =
      at_row_rests r (pen_commands (λ n. commands.FullRow n) pen) (row_strokes_of r pen) within
      (λ v. row_strikes fixed (hand_at v (record { row = r; column = 1 })) (attributes_of pen) (attributes_coded pen is))
  row_rests r pen (inr unset) is =
      subst (λ (p : Pen). AlwaysRests fixed (row_commands r p) (row_strokes_of r p)) (sym unset) (unset_rests r)

  pub rows_rest : (pens : List Pen) → ((r : ℕ) → 1 ≤ r → r ≤ 24 → IsRowPen (row_pen_in pens r))
      → ((r : ℕ) → 1 ≤ r → r ≤ 24 → fixed.rows < r → row_pen_in pens r ≡ unset_pen)
      → AlwaysRests fixed (rows_below pens 24) (rows_strokes pens 24)
  unfolding rows_below rows_strokes
  rows_rest pens valid past =
      rests_range fixed (λ r. row_commands r (row_pen_in pens r)) (λ r. row_strokes_of r (row_pen_in pens r)) 1 25
      (λ r low high. row_rests r (row_pen_in pens r) (elim (cases_lt fixed.rows r)
      [ inl more ↦ inr (past r low (omega (arith, high)) more) | inr within ↦ inl within ])
      (valid r low (omega (arith, high)))) 1 24 (omega arith) (omega arith)

-- ---- the page

-- control with an area and implicit scrolling
abbrev pub control_with_settings : Core → Hand → ControlState
control_with_settings k v = record (control_at_rest (fixed_of k) v) { area = k.area; implicit = k.implicit }

pub settles : (k : Core) (v : Hand) (area : Option (ℕ × ℕ)) (implicit : Bool)
    → Draws (control_at_rest (fixed_of k) v) (area_commands area ++ implicit_commands implicit) []
    (record (control_at_rest (fixed_of k) v) { area = area; implicit = implicit })
settles k v None false = record { control = refl; strokes = refl }
settles k v None true = record { control = refl; strokes = refl }
settles k v (Some area) false = record { control = refl; strokes = refl }
settles k v (Some area) true = record { control = refl; strokes = refl }

-- from the start the commands make the strokes of the page and leave its settings
pub record PageDraws (k : Core) (cs : List Command) : Type 0 where
  pub hand : Hand
  pub draws : Draws initial_control cs (page_strokes k) (control_with_settings k hand)

-- the hand after the reset and the format
abbrev pub first_hand : Hand
first_hand = record {
  row = 1;
  column = 1;
  c1 = c1sets.Parallel;
  last = None;
  pen = unset_pen;
  fast = 0;
  run = false;
  step = 1;
  table = 0;
}

-- the commands with which the page begins
abbrev FirstDraws : Core → Type 0
FirstDraws k = Draws initial_control (first_commands k) (first_strokes k.rows) (control_at_rest (fixed_of k) first_hand)

pub first_draws : (k : Core) → (k.revision ≡ 1) ⊎ (k.revision ≡ 2) → FirstDraws k
first_draws k (inl e) =
    subst (λ (n : ℕ). FirstDraws (record k { revision = n })) (sym e) (record { control = refl; strokes = refl })
first_draws k (inr e) =
    subst (λ (n : ℕ). FirstDraws (record k { revision = n })) (sym e) (record { control = refl; strokes = refl })

-- commands that make no stroke come last
pub ends : (s t u : ControlState) (cs ds : List Command) (p : List Stroke) → Draws s cs p t → Draws t ds [] u
    → Draws s (cs ++ ds) p u
ends s t u cs ds p a b =
    subst (λ (q : List Stroke). Draws s (cs ++ ds) q u) (append-nil p) (draws_joined s t u cs ds p [] a b)
