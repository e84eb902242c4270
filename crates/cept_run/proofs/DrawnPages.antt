-- A drawing on a page: what its commands change is painted, and leads to what remains.
use Rattle.std.proofs.Common.{◌≡◌, ℕ, ◌+◌, Bool, false, List, [], ◌∷◌, ◌++◌, length, map, take}
use Rattle.std.proofs.Common.{refl, sym, ap, ◌∙◌, subst, append_assoc, append-nil, length-append, arith}
use Rattle.std.proofs.Math.Seq.{take-append_seam}
use Rattle.std.specs.List.{enumerate_from}
use Rattle.cept_codes.specs.declared.command.C1Set.TheVariants as c1sets
use Rattle.cept_codes.specs.declared.command.Command.{Command}
use Rattle.cept_codes.specs.declared.command.Command.TheVariants as commands
use Rattle.cept_codes.specs.declared.look.Look.{Look}
use Rattle.cept_codes.specs.Place.{Place}
use Rattle.cept_editor.specs.Events.{paints}
use Rattle.cept_editor.specs.Made.{AreStill}
use Rattle.cept_editor.specs.Stepping.{event_from, edit_events}
use Rattle.cept_plot.specs.declared.figure.Figure.{Figure}
use Rattle.cept_plot.specs.Commands.{IsDrawnOn, drawn}
use Rattle.cept_plot.specs.Drawings.{points_after_all}
use Rattle.cept_plot.specs.Lit.{is_lit}
use Rattle.cept_plot.specs.Painted.{ArePaintedInTurn, changes_of_all}
use Rattle.cept_repaint.specs.InTurn.{state_after_all}
use Rattle.cept_plot.specs.Points.{OnField, is_in_field}
use Rattle.cept_plot.proofs.Laws.{drawn_on as drawn_by, drawn_valid, drawn_same, point_after}
use Rattle.cept_profile.specs.Changes.{changes_between, grid_with_paints}
use Rattle.cept_profile.specs.Look.{grid, looks_of}
use Rattle.cept_profile.specs.State.{Core, State, state, state_after, core, core_of}
use Rattle.cept_profile.specs.Valid.{AllValid, IsValidState}
use Rattle.cept_profile.proofs.Laws.{state-one_more, IsValidState-start, IsValidState-state_after}
use Rattle.cept_repaint.specs.GlassState.{GlassState, Lists}
use Rattle.cept_run.specs.Events.{Figures, drawing_commands, remaining_after}
use Rattle.cept_run.specs.Reporting.{Draws}

-- ---- commands, one after the other

all_valid_append : (first second : List Command) → AllValid first → AllValid second → AllValid (first ++ second)
all_valid_append [] second valid more = more
all_valid_append (c ∷ first) second valid more = (valid.0, all_valid_append first second valid.1 more)

-- the state after them
state_of_all : (h cs : List Command) → AllValid h → AllValid cs → state (h ++ cs) ≡ state_after_all (state h) cs
unfolding state_after_all
state_of_all h [] valid more = ap state (append-nil h)
state_of_all h (c ∷ cs) valid more =
    ap state (sym (append_assoc h (c ∷ []) cs))
    ∙ state_of_all (h ++ c ∷ []) cs (all_valid_append h (c ∷ []) valid (more.0, tt)) more.1
    ∙ ap (λ (s : State). state_after_all s cs) (state-one_more h c valid more.0)

valid_after_all : (s : State) (cs : List Command) → IsValidState s → AllValid cs → IsValidState (state_after_all s cs)
unfolding state_after_all
valid_after_all s [] is valid = is
valid_after_all s (c ∷ cs) is valid =
    valid_after_all (state_after s c) cs (IsValidState-state_after s c is valid.0) valid.1

valid_state : (h : List Command) → AllValid h → IsValidState (state h)
valid_state h valid =
    subst IsValidState (sym (state_of_all [] h tt valid)) (valid_after_all (state []) h IsValidState-start valid)

-- ---- what they change

-- the changes of the commands from the n-th on
changes_on : (h front rest whole : List Command) (n : ℕ) → whole ≡ front ++ rest → n ≡ length front
    → AllValid (h ++ front) → AllValid rest
    → paints (map (λ (numbered : ℕ × Command). event_from false 0 (h ++ take numbered.0 whole)
    (h ++ take (numbered.0 + 1) whole)) (enumerate_from n rest)) ≡ changes_of_all (state (h ++ front)) rest
unfolding paints changes_of_all
changes_on h front [] whole n split counted valid more = refl
changes_on h front (c ∷ rest) whole n split counted valid more =
    let longer : whole ≡ (front ++ c ∷ []) ++ rest = split ∙ sym (append_assoc front (c ∷ []) rest) in
    let next_count : n + 1 ≡ length (front ++ c ∷ []) = omega (arith, counted, length-append front (c ∷ [])) in
    let before : take n whole ≡ front = (λ i. take (counted i) (split i)) ∙ take-append_seam front (c ∷ rest) in
    let after : take (n + 1) whole ≡ front ++ c ∷ [] =
    (λ i. take (next_count i) (longer i)) ∙ take-append_seam (front ++ c ∷ []) rest in
    let together : (h ++ front) ++ c ∷ [] ≡ h ++ (front ++ c ∷ []) = append_assoc h front (c ∷ []) in
    let step : state (h ++ (front ++ c ∷ [])) ≡ state_after (state (h ++ front)) c =
    ap state (sym together) ∙ state-one_more (h ++ front) c valid more.0 in
    let to : state (h ++ take (n + 1) whole) ≡ state_after (state (h ++ front)) c =
    ap (λ (l : List Command). state (h ++ l)) after ∙ step in
    let others = changes_on h (front ++ c ∷ []) rest whole (n + 1) longer next_count
    (subst AllValid together (all_valid_append (h ++ front) (c ∷ []) valid (more.0, tt))) more.1
    ∙ ap (λ (s : State). changes_of_all s rest) step in
    λ i. changes_between (grid (h ++ before i)) (looks_of (core_of (to i))) ++ others i

events_paint : (h cs : List Command) → AllValid h → AllValid cs
    → paints (edit_events false 0 h cs) ≡ changes_of_all (state h) cs
unfolding edit_events
events_paint h cs valid more =
    changes_on h [] cs cs 0 refl refl (subst AllValid (sym (append-nil h)) valid) more
    ∙ ap (λ (l : List Command). changes_of_all (state l) cs) (append-nil h)

-- the first command alone makes other commands
moves : (h : List Command) (k : Core) (f : ℕ → ℕ → Bool) → AreStill (edit_events false 0 h (drawn k f)) → ⊥
unfolding edit_events
moves h k f still =
    let first = commands.ControlDefaults c1sets.Parallel in
    absurd (omega (arith, ap length still.0, length-append h (first ∷ []), length-append h []))

-- ---- a drawing on a page

pub drawn_on : (figures : List Figure) (old new : State) (before after : GlassState) (was now : List ℕ) (from to : ℕ)
    → ((x y : ℕ) → OnField x y → is_lit was x y ≡ is_in_field (core_of old) x y)
    → ((x y : ℕ) → OnField x y → is_lit now x y ≡ points_after_all (is_lit was) figures x y)
    → ArePaintedInTurn (drawn (core_of old) (is_lit now)) old new before after from to
    → Draws figures old before new after
drawn_on figures old new before after was now from to first points painted page valid is =
    let k = core_of old in
    let f = points_after_all (is_in_field (core page)) figures in
    let cs = drawing_commands page figures in
    let same : drawn k (is_lit now) ≡ cs =
    drawn_same k (is_lit now) (points_after_all (is_in_field k) figures)
    (λ x y on. points x y on ∙ point_after (is_lit was) (is_in_field k) figures x y (first x y on))
    ∙ ap (λ (s : State). drawn (core_of s) (points_after_all (is_in_field (core_of s)) figures)) is in
    let ready : ArePaintedInTurn cs old new before after from to =
    subst (λ (l : List Command). ArePaintedInTurn l old new before after from to) same painted in
    let all : AllValid cs = drawn_valid (core page) f in
    let events : changes_of_all old cs ≡ paints (edit_events false 0 page cs) =
    ap (λ (s : State). changes_of_all s cs) is ∙ sym (events_paint page cs valid all) in
    record {
      valid = all_valid_append page cs valid all;
      is = ready.goes_on page valid is;
      painted = record {
        listed = subst (λ (xs : List (Place × Look)). Lists before.paints xs after.paints) events ready.told;
        over = ready.shown ∙ ap (grid_with_paints before.grid) events;
        untouched = λ still. absurd (moves page (core page) f still);
      };
    }

-- what remains is the page with the points of the drawing on it
pub page_drawn : (page : List Command) (figures : List Figure) → AllValid page
    → IsDrawnOn (core page) (points_after_all (is_in_field (core page)) figures)
    (core (remaining_after page (Figures figures)))
page_drawn page figures valid =
    let f = points_after_all (is_in_field (core page)) figures in
    subst (λ (s : State). IsDrawnOn (core page) f (core_of s))
    (sym (state_of_all page (drawing_commands page figures) valid (drawn_valid (core page) f)))
    (drawn_by (state page) (valid_state page valid) f)
