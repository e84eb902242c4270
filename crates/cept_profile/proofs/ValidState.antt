-- Valid states: the initial state is valid, and every valid command keeps it valid.
use Rattle.std.proofs.Common.{◌≡◌, ℕ, inl, inr, None, List, [], ◌∷◌, reverse, refl, sym, ◌∙◌, ap, subst, arith}
use Rattle.std.proofs.Common.{◌⊎◌, ◌≤◌}
use Rattle.std.specs.List.{AllByRecursion}
use Rattle.std.proofs.lemmas.List.{reverse-append, reverse-reverse}
use Rattle.cept_codes.specs.declared.command.Command.{Command}
use Rattle.cept_codes.specs.declared.stroke.Stroke.{Stroke}
use Rattle.cept_codes.specs.declared.stroke.Stroke.TheVariants as strokes
use Rattle.cept_codes.specs.Attribute.{IsScreenPen, unset_pen}
use Rattle.cept_codes.specs.Cell.{blank_cell}
use Rattle.cept_codes.specs.Command.{IsValidCommand}
use Rattle.cept_profile.specs.Cells.{cells_after_all}
use Rattle.cept_profile.specs.Control.{control_after}
use Rattle.cept_profile.specs.Control.{initial_working}
use Rattle.cept_profile.specs.Colours.{default_paint}
use Rattle.cept_profile.specs.PageParts.{row_pens_after, screen_pen_after, paints_after, dclut_list_after}
use Rattle.cept_profile.specs.PageParts.{dclut_in, list_of_codes, list_of_colours, list_of_dclut, paint_in, pattern_in}
use Rattle.cept_profile.specs.PageParts.{part_after_all, patterns_after}
use Rattle.cept_profile.specs.State.{Page, State, blank_page, core_of, page_after, state, state_after}
use Rattle.cept_profile.specs.State.{Core}
use Rattle.cept_profile.specs.Strokes.{strokes_of}
use Rattle.cept_profile.specs.Valid.{AllValid, IsValidControl, IsValidCore, IsValidState}
use Rattle.cept_profile.proofs.OneMoreState.{AllByRecursion-reverse, state-one_more}
use Rattle.cept_profile.proofs.ValidControl.{IsValidControl-initial_control, IsValidControl-control_after}
use Rattle.cept_profile.proofs.ValidControl.{IsValidWorking-initial_control}
use Rattle.cept_profile.proofs.ValidPage.{IsSafe, IsSafe-strokes_of, LeadsTo}
use Rattle.cept_profile.proofs.ValidPage.{AreValidCells-blank_cell, AreValidTables, AreValidTables-table}
use Rattle.cept_profile.proofs.ValidPage.{AreValidTables-cells_after_all}
use Rattle.cept_profile.proofs.ValidParts.{kept_after_all, AreValidRowPens, AreValidRowPens-after, AreValidRowPens-list}
use Rattle.cept_profile.proofs.ValidParts.{AreValidPaints, AreValidPaints-after, AreValidPaints-list, IsValidDclut}
use Rattle.cept_profile.proofs.ValidParts.{IsPaintOf-default_paint, IsRowPen-unset_pen, IsScreenPen-after}
use Rattle.cept_profile.proofs.ValidParts.{IsScreenPen-unset_pen, IsValidDclut-after, IsValidDclut-list}
use Rattle.cept_profile.proofs.ValidParts.{AreValidPatterns, AreValidPatterns-after, AreValidPatterns-list}

-- a valid page of a format of so many rows: nothing after its last row
pub record IsValidPageOf (rows : ℕ) (p : Page) : Type 0 where
  pub cells : AreValidTables rows p.cells
  pub row_pens : AreValidRowPens rows p.row_pens
  pub screen_pen : IsScreenPen p.screen_pen
  pub paints : AreValidPaints p.paints
  pub dclut : IsValidDclut p.dclut
  pub patterns : AreValidPatterns p.patterns

-- a valid state is valid control with a valid page of its format
pub IsValidState-parts : (s : State) → IsValidControl s.control → IsValidPageOf s.control.rows s.page → IsValidState s
IsValidState-parts s control page = assumption

pub IsValidPageOf-state : (s : State) → IsValidState s → IsValidPageOf s.control.rows s.page
IsValidPageOf-state s is = assumption

IsValidPageOf-start : IsValidPageOf 24 blank_page
IsValidPageOf-start = record {
  cells = AreValidTables-table 24 (λ r c. blank_cell) (AreValidCells-blank_cell 24);
  row_pens = AreValidRowPens-list 24 (λ r. unset_pen) (λ r top bottom. IsRowPen-unset_pen)
      (λ r top bottom past. refl);
  screen_pen = IsScreenPen-unset_pen;
  paints = AreValidPaints-list default_paint IsPaintOf-default_paint;
  dclut = IsValidDclut-list (λ i. i) (λ i low. omega arith);
  patterns = AreValidPatterns-list (λ d. None) (λ d low high. tt);
}

pub IsValidState-start : IsValidState (state [])
IsValidState-start = IsValidState-parts (state []) IsValidControl-initial_control IsValidPageOf-start

-- safe strokes keep a page valid
IsValidPageOf-page_after : (rows : ℕ) (p : Page) (all : List Stroke) → IsValidPageOf rows p
    → AllByRecursion (IsSafe rows) all → IsValidPageOf rows (page_after p all)
IsValidPageOf-page_after rows p all is safe = assumption (AreValidTables-cells_after_all rows p.cells all is.cells safe, kept_after_all (AreValidRowPens rows) (IsSafe rows) row_pens_after (AreValidRowPens-after rows) p.row_pens all is.row_pens safe, kept_after_all IsScreenPen (IsSafe rows) screen_pen_after (IsScreenPen-after rows) p.screen_pen all is.screen_pen safe, kept_after_all AreValidPaints (IsSafe rows) paints_after (AreValidPaints-after rows) p.paints all is.paints safe, kept_after_all IsValidDclut (IsSafe rows) dclut_list_after (IsValidDclut-after rows) p.dclut all is.dclut safe, kept_after_all AreValidPatterns (IsSafe rows) patterns_after (AreValidPatterns-after rows) p.patterns all is.patterns safe)

-- a page that is wiped is one of any format
IsValidPageOf-wiped : (rows after r : ℕ) (p : Page) → IsValidPageOf rows p
    → IsValidPageOf after (page_after p (strokes.Format r ∷ strokes.Wipe ∷ []))
unfolding cells_after_all part_after_all
IsValidPageOf-wiped rows after r p is = record {
  cells = AreValidTables-table after (λ r c. blank_cell) (AreValidCells-blank_cell after);
  row_pens = AreValidRowPens-list after (λ r. unset_pen) (λ r top bottom. IsRowPen-unset_pen)
      (λ r top bottom past. refl);
  screen_pen = is.screen_pen;
  paints = AreValidPaints-list (paint_in (list_of_colours (paint_in p.paints)))
      (AreValidPaints-list (paint_in p.paints) is.paints.valid).valid;
  dclut = IsValidDclut-list (dclut_in (list_of_dclut (dclut_in p.dclut)))
      (IsValidDclut-list (dclut_in p.dclut) is.dclut.valid).valid;
  patterns = AreValidPatterns-list (pattern_in (list_of_codes (pattern_in p.patterns)))
      (AreValidPatterns-list (pattern_in p.patterns) is.patterns.valid).valid;
}

-- and safe strokes go on from there
page_after-anew : (p : Page) (r : ℕ) (rest : List Stroke)
    → page_after p (strokes.Format r ∷ strokes.Wipe ∷ rest)
    ≡ page_after (page_after p (strokes.Format r ∷ strokes.Wipe ∷ [])) rest
unfolding cells_after_all part_after_all
page_after-anew p r rest = refl

IsValidPageOf-leads_to : (before after : ℕ) (p : Page) (xs : List Stroke) → IsValidPageOf before p
    → LeadsTo before after xs → IsValidPageOf after (page_after p xs)
IsValidPageOf-leads_to before after p xs is (inl (safe, same)) =
    subst (λ (rows : ℕ). IsValidPageOf rows (page_after p xs)) (sym same)
    (IsValidPageOf-page_after before p xs is safe)
IsValidPageOf-leads_to before after p xs is (inr anew) =
    subst (IsValidPageOf after)
    (sym (ap (page_after p) anew.is ∙ page_after-anew p after anew.rest))
    (IsValidPageOf-page_after after (page_after p (strokes.Format after ∷ strokes.Wipe ∷ [])) anew.rest
    (IsValidPageOf-wiped before after after p is) anew.safe)

pub IsValidState-state_after : (s : State) (command : Command) → IsValidState s → IsValidCommand command
    → IsValidState (state_after s command)
IsValidState-state_after s command is valid =
    IsValidState-parts (state_after s command) (IsValidControl-control_after s.control command is.control valid)
    (IsValidPageOf-leads_to s.control.rows (control_after s.control command).rows s.page
    (strokes_of s.control command) (IsValidPageOf-state s is) (IsSafe-strokes_of s.control command is.control valid))

-- its core is valid
pub IsValidCore-core_of : (s : State) → IsValidState s → IsValidCore (core_of s)
IsValidCore-core_of s is = assumption

-- ---- lists of valid commands

-- the state after commands that are given newest first
IsValidState-back : (newest_first : List Command) → AllValid newest_first → IsValidState (state (reverse newest_first))
IsValidState-back [] all = IsValidState-start
IsValidState-back (command ∷ earlier) all =
    subst IsValidState
    (sym (ap state (reverse-append (command ∷ []) earlier)
    ∙ state-one_more (reverse earlier) command (AllByRecursion-reverse IsValidCommand earlier all.1) all.0))
    (IsValidState-state_after (state (reverse earlier)) command (IsValidState-back earlier all.1) all.0)

pub IsValidState-state : (history : List Command) → AllValid history → IsValidState (state history)
IsValidState-state history all =
    subst (λ h. IsValidState (state h)) (reverse-reverse history)
    (IsValidState-back (reverse history) (AllByRecursion-reverse IsValidCommand history all))

-- ---- a core has a state

-- 24 or 20 rows have a first one
some_rows : (rows : ℕ) → (rows ≡ 24) ⊎ (rows ≡ 20) → 1 ≤ rows
some_rows rows format = elim format [ inl e ↦ omega (arith, e) | inr e ↦ omega (arith, e) ]

-- the state at the first place with what is seen of this core
abbrev state_of_core : Core → State
state_of_core k = record {
  page = k.page;
  control = record {
    working = initial_working;
    rows = k.rows;
    wrap = k.wrap;
    area = k.area;
    implicit = k.implicit;
    revision = k.revision;
    kept = None;
  };
}

pub IsValidCore-of_state : (k : Core) → IsValidCore k → (s : State) × IsValidState s × (core_of s ≡ k)
IsValidCore-of_state k is = (
  state_of_core k,
  assumption (IsValidWorking-initial_control, some_rows k.rows is.rows),
  refl,
)
