-- Commands that define something and do something else besides: full defaults alone, which wipe all rows. So every command
-- may resolve the rows in its reach and no others.
use Rattle.std.proofs.Common.{option_to_list, map}
use Rattle.std.proofs.Common.{◌≡◌, ℕ, ◌+◌, ◌==◌, ◌||◌, ◌&&◌, not, cond, Bool, true, false, List, [], ◌∷◌, ◌++◌}
use Rattle.std.proofs.Common.{Option, Some, None, ◌⊎◌, inl, inr, zero, suc, refl, sym, ap, ◌∙◌, arith}
use Rattle.std.proofs.Math.Bool.{or-false}
use Rattle.std.specs.List.{count_by, list_any, range_with_len}
use Rattle.std.proofs.lemmas.Bool.{and_from, cases_Bool, eq-eqb, or_left, true≢false}
use Rattle.std.proofs.lemmas.Bool.Decides.{nat_tests}
use Rattle.cept_codes.specs.declared.attribute.Attr.{Attr}
use Rattle.cept_codes.specs.declared.cell.Marker.{Marker}
use Rattle.cept_codes.specs.declared.cell.Marker.TheVariants as markers
use Rattle.cept_codes.specs.declared.command.C1Set.{C1Set}
use Rattle.cept_codes.specs.declared.command.C1Set.TheVariants as c1sets
use Rattle.cept_codes.specs.declared.command.Command.{Command}
use Rattle.cept_codes.specs.declared.command.Command.TheVariants as commands
use Rattle.cept_codes.specs.declared.command.Up.{Up}
use Rattle.cept_codes.specs.declared.command.Up.TheVariants as ways
use Rattle.cept_codes.specs.declared.glyph.Glyph.{Glyph}
use Rattle.cept_codes.specs.declared.stroke.Stroke.{Stroke}
use Rattle.cept_codes.specs.declared.stroke.Stroke.TheVariants as strokes
use Rattle.cept_profile.specs.Control.{ControlState, Working, control_after, state_for_effect}
use Rattle.cept_profile.specs.Edges.{Edges, edges_of}
use Rattle.cept_profile.specs.Motions.{area_in_force, strokes_of_scroll}
use Rattle.cept_profile.specs.Motions.{scrolling_area}
use Rattle.cept_profile.specs.MovedRows.{row_before}
use Rattle.cept_profile.specs.Pens.{c1_function, flash_of}
use Rattle.cept_profile.specs.Reach.{is_reached, is_reached_from, is_written, reaches, rows_in_reach}
use Rattle.cept_codes.specs.declared.glyph.Read.{Read}
use Rattle.cept_codes.specs.declared.glyph.Read.TheVariants as reads
use Rattle.cept_profile.specs.State.{Core, State, core_of, state_after}
use Rattle.cept_profile.specs.Strokes.{strokes_of}
use Rattle.cept_profile.specs.Writing.{control_after_shift, graphic_read, sign_with_accent}
use Rattle.cept_profile.proofs.Laws.{above_strokes, back_strokes, below_strokes, by_above_strokes, by_back_strokes}
use Rattle.cept_profile.proofs.Laws.{by_below_strokes, by_on_strokes, control_after_copies, control_effect, flashing, on_strokes}
use Rattle.cept_profile.proofs.Laws.{strokes_of_copies, strokes_of_function, strokes_of_marker, strokes_of_read}
use Rattle.cept_profile.proofs.Laws.{revealing, strokes_of_repeat, strokes_of_sign, strokes_when}
use Rattle.cept_profile.proofs.Laws.{is_reached-by, reaches-by, rows_in_reach-counted}
use Rattle.cept_profile.proofs.Laws.{effect_of_copies-more, effect_of_copies-none}
use Rattle.cept_redraw.specs.Resolved.{are_same_edges, defines, is_same_area, may_resolve, mixes, one_else}
use Rattle.cept_redraw.specs.Resolved.{rows_resolved_by}

-- ---- strokes that define nothing

abbrev DefinesNothing : List Stroke → Type 0
DefinesNothing xs = list_any defines xs ≡ false

none-append : (xs ys : List Stroke) → DefinesNothing xs → DefinesNothing ys → DefinesNothing (xs ++ ys)
none-append [] ys none more = more
none-append (x ∷ xs) ys none more =
    elim (cases_Bool (defines x)) [
      | inl so ↦ absurd (true≢false (sym (or_left (defines x) (list_any defines xs) so) ∙ none))
      | inr not_so ↦
          let rest : DefinesNothing xs = ap (λ b. b || list_any defines xs) (sym not_so) ∙ none in
          ap (λ b. b || list_any defines (xs ++ ys)) not_so ∙ none-append xs ys rest more
    ]

none-cond : (b : Bool) (xs ys : List Stroke) → DefinesNothing xs → DefinesNothing ys → DefinesNothing (cond b xs ys)
none-cond true xs ys first second = first
none-cond false xs ys first second = second

none-one : (b : Bool) (x y : Stroke) → defines x ≡ false → defines y ≡ false → DefinesNothing (cond b x y ∷ [])
none-one true x y first second = ap (λ b. b || false) first
none-one false x y first second = ap (λ b. b || false) second

none-scroll : (s : ControlState) (way : Up) (area : Option (ℕ × ℕ)) → DefinesNothing (strokes_of_scroll s way area)
none-scroll s way None = refl
none-scroll s way (Some area) = none-one (s.revision == 2) (strokes.Carry area.0 area.1 way) (strokes.Shift area.0 area.1 way) refl refl

none-below : (s : ControlState) (c : ℕ) → DefinesNothing (below_strokes s c)
none-below s c = by_below_strokes DefinesNothing s c refl (none-scroll s ways.Up (scrolling_area s))

none-above : (s : ControlState) (c : ℕ) → DefinesNothing (above_strokes s c)
none-above s c = by_above_strokes DefinesNothing s c refl (none-scroll s ways.Down (scrolling_area s))

none-on : (s : ControlState) (n : ℕ) → DefinesNothing (on_strokes s n)
none-on s n = by_on_strokes DefinesNothing s n refl (none-scroll s ways.Up (scrolling_area s))

none-back : (s : ControlState) → DefinesNothing (back_strokes s)
none-back s = by_back_strokes DefinesNothing s refl (none-scroll s ways.Down (scrolling_area s))

none-sign : (s : ControlState) (g : Glyph) → DefinesNothing (strokes_of_sign s g)
none-sign s g = none-on s _

none-read : (s : ControlState) (read : Read) → DefinesNothing (strokes_of_read s read)
none-read s (reads.Accent code) = refl
none-read s (reads.Glyph g) = none-sign s (sign_with_accent g.set g.code s.working.accent)

none-copies : (n : ℕ) (s : ControlState) (g : Glyph) → DefinesNothing (strokes_of_copies n s g)
none-copies zero s g = ap (λ (made : Working × List Stroke). list_any defines made.1) (effect_of_copies-none s g)
none-copies (suc n) s g =
    let next : n + 1 ≡ suc n = omega arith in
    ap (λ m. list_any defines (strokes_of_copies m s g)) (sym next)
    ∙ ap (λ (made : Working × List Stroke). list_any defines made.1) (effect_of_copies-more n s g)
    ∙ none-append (strokes_of_copies n s g) (strokes_of_sign (control_after_copies n s g) g) (none-copies n s g)
    (none-sign (control_after_copies n s g) g)

none-repeat : (n : ℕ) (s : ControlState) (last : Option Glyph) → DefinesNothing (strokes_of_repeat n s last)
none-repeat n s None = refl
none-repeat n s (Some g) = none-copies n s g

none-marker : (s : ControlState) (m : Marker) → DefinesNothing (strokes_of_marker s m)
none-marker s m = none-on s 1

none-function : (c1 : C1Set) (function : Option (Attr × Marker)) (fast : ℕ) (s : ControlState)
    → DefinesNothing (strokes_of_function c1 function fast s)
none-function c1sets.Parallel None fast s = refl
none-function c1sets.Parallel (Some function) fast s = refl
none-function c1sets.Serial None fast s = refl
none-function c1sets.Serial (Some function) fast s = none-marker s function.1

none-screen : (function : Option (Attr × Marker))
    → DefinesNothing (map (λ f. strokes.ScreenAttr f.0) (option_to_list function))
none-screen None = refl
none-screen (Some function) = refl

none-row : (r : ℕ) (function : Option (Attr × Marker))
    → DefinesNothing (map (λ f. strokes.RowAttr r f.0) (option_to_list function))
none-row r None = refl
none-row r (Some function) = refl

-- ---- three kinds of commands

-- its strokes define nothing; or they all define something, and the edges stay; or they write in all rows
abbrev Kind : ControlState → Command → Type 0
Kind s command =
    DefinesNothing (strokes_when s command)
    ⊎ (((one_else (strokes_when s command) ≡ false) × (edges_of (control_effect s command) ≡ edges_of s))
    ⊎ ((r : ℕ) → is_written (strokes_when s command) r ≡ true))

kind : (s : ControlState) (command : Command) → Kind s command
unfolding one_else is_written row_before
kind s commands.Back = inl (none-back s)
kind s commands.Forward = inl (none-on s 1)
kind s commands.Down = inl (none-below s s.working.column)
kind s commands.Up = inl (none-above s s.working.column)
kind s commands.Clear = inl refl
kind s (commands.Graphic byte) = inl (none-read (control_after_shift s) (graphic_read s byte))
kind s (commands.Repeat n) = inl (none-repeat n s s.working.last)
kind s commands.Cancel = inl refl
kind s (commands.C1 n) = inl (none-function s.working.c1 (c1_function s.working.table n) _ s)
kind s (commands.FlashMode k) =
    inl (none-function s.working.c1 (flashing (flash_of k s.working.fast)) _ s)
kind s commands.StopConceal = inl (none-function s.working.c1 revealing _ s)
kind s (commands.FullScreen n) = inl (none-screen (c1_function s.working.table n))
kind s (commands.FullRow n) = inl (none-row s.working.row (c1_function s.working.table n))
kind s commands.ColourDefaults = inr (inl (refl, refl))
kind s (commands.Entry i colour) = inr (inl (refl, refl))
kind s (commands.Dclut i entry) = inr (inl (refl, refl))
kind s (commands.DrcsHeader true form) = inr (inl (refl, refl))
kind s (commands.DrcsHeader false form) = inl refl
kind s (commands.DrcsPattern code pattern) = inr (inl (refl, refl))
kind s commands.ScrollUp = inl (none-scroll s ways.Up (area_in_force s))
kind s commands.ScrollDown = inl (none-scroll s ways.Down (area_in_force s))
kind s (commands.Format rows wrap) = inl refl
kind s (commands.FullDefaults set) = inr (inr (λ r. refl))
kind s commands.Nul = inl refl
kind s commands.Skipped = inl refl
kind s commands.Return = inl refl
kind s commands.Home = inl refl
kind s commands.CursorOn = inl refl
kind s commands.CursorOff = inl refl
kind s (commands.LockLeft g) = inl refl
kind s (commands.LockRight g) = inl refl
kind s (commands.Single g) = inl refl
kind s (commands.Position r c) = inl refl
kind s (commands.DesignateC1 set) = inl refl
kind s (commands.Designate g set) = inl refl
kind s (commands.Table k) = inl refl
kind s (commands.Implicit on) = inl refl
kind s (commands.Protect on) = inl refl
kind s (commands.Marked on) = inl refl
kind s (commands.AreaCreate first last) = inl refl
kind s (commands.AreaDelete first last) = inl refl
kind s (commands.ColourHeader dclut) = inl refl
kind s (commands.ColourStart i) = inl refl
kind s (commands.DrcsStart code) = inl refl
kind s (commands.ServiceBreak row) = inl refl
kind s commands.ServiceEnd = inl refl
kind s (commands.ControlDefaults set) = inl refl
kind s (commands.Revision revision) = inl refl

-- ---- a command that mixes writes in all rows

area_itself : (area : Option (ℕ × ℕ)) → is_same_area area area ≡ true
area_itself None = refl
area_itself (Some area) = grind (arith, nat_tests)

edges_alike : (edges others : Edges) → edges ≡ others → are_same_edges edges others ≡ true
edges_alike edges others same =
    ap (are_same_edges edges) (sym same)
    ∙ and_from (edges.rows == edges.rows) (is_same_area edges.area edges.area) (eq-eqb edges.rows edges.rows refl)
    (area_itself edges.area)

written : (s : ControlState) (command : Command)
    → mixes (edges_of s) (edges_of (control_after s command)) (strokes_of s command) ≡ true → (r : ℕ)
    → is_written (strokes_of s command) r ≡ true
unfolding mixes
written s command mixed r =
    let start : ControlState = state_for_effect s command in
    let xs : List Stroke = strokes_when start command in
    let after : Edges = edges_of (control_effect start command) in
    elim (kind start command) [
      | inl none ↦ absurd (true≢false (sym mixed ∙ ap (λ b. b && (one_else xs || not (are_same_edges (edges_of s) after))) none))
      | inr (inl same) ↦
          let equal : are_same_edges (edges_of s) after ≡ true = edges_alike (edges_of s) after (sym same.1) in
          let neither : (one_else xs || not (are_same_edges (edges_of s) after)) ≡ false = λ i. same.0 i || not (equal i) in
          absurd (true≢false (sym mixed ∙ ap (λ b. list_any defines xs && b) neither ∙ never (list_any defines xs)))
      | inr (inr all) ↦ all r
    ]
  where
    never : (b : Bool) → (b && false) ≡ false
    never true = refl
    never false = refl

-- a row in which strokes write is reached
reached : (before after : Core) (xs : List Stroke) (r : ℕ) → is_written xs r ≡ true → is_reached before after xs r ≡ true
reached before after xs r so = is_reached-by before after xs r ∙ by_row (row_before xs r)
  where
    by_row : (found : Option ℕ) → is_reached_from before after xs found r ≡ true
    by_row None = refl
    by_row (Some q) = or_left _ _ (or_left _ _ (or_left _ _ so))

-- ---- the bound

-- a command may resolve as many rows between the states before and after it as are in its reach
pub resolved-in_reach : (s : State) (command : Command)
    → rows_resolved_by (core_of s) (core_of (state_after s command)) (strokes_of s.control command)
    ≡ rows_in_reach s command
unfolding rows_resolved_by may_resolve
resolved-in_reach s command =
    let old : Core = core_of s in
    let new : Core = core_of (state_after s command) in
    let xs : List Stroke = strokes_of s.control command in
    let both : Bool = mixes (edges_of s.control) (edges_of (control_after s.control command)) xs in
    let same : (r : ℕ) → may_resolve old new xs r ≡ reaches s command r = λ r.
    elim (cases_Bool both) [
      | inl so ↦
          let is : is_reached old new xs r ≡ true = reached old new xs r (written s.control command so r) in
          or_left (is_reached old new xs r) both is ∙ sym is ∙ sym (reaches-by s command r)
      | inr none ↦
          ap (λ b. is_reached old new xs r || b) none ∙ or-false (is_reached old new xs r) ∙ sym (reaches-by s command r)
    ] in
    (λ i. count_by (λ r. same r i) (range_with_len 1 24)) ∙ sym (rows_in_reach-counted s command)
