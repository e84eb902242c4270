-- A state after old values were put back, by its parts.
use Rattle.std.proofs.Common.{◌≡◌, ◌≤◌, ◌||◌, List, [], Option, unwrap_or, sym, ap, subst, ◌∙◌, arith}
use Rattle.std.specs.List.{range_with_len}
use Rattle.std.proofs.lemmas.List.FromFn.{length-range_with_len}
use Rattle.std.proofs.lemmas.List.Sums.{count_by-le-length}
use Rattle.cept_profile.specs.Control.{ControlState}
use Rattle.cept_codes.specs.declared.look.Look.{Look}
use Rattle.cept_profile.specs.Edges.{Edges, edges_of}
use Rattle.cept_profile.specs.Look.{looks_of}
use Rattle.cept_profile.specs.OldValues.{OldValues, page_unwound, unwound}
use Rattle.cept_profile.specs.State.{Page, State, core_of}
use Rattle.cept_profile.specs.Valid.{IsValidPage, IsValidState}
use Rattle.cept_delta.specs.Noted.{notes_row, notes_screen}
use Rattle.cept_redraw.specs.Renewed.{rows_renewed}
use Rattle.cept_profile.specs.RowsFromAbove.{is_covered_otherwise}
use Rattle.cept_redraw.specs.Restored.{is_unwound, rows_unwound}
use Rattle.cept_repaint.specs.Kept.{state_of_parts}
use Rattle.cept_repaint.specs.Applied.{rows_restored}
use Rattle.cept_repaint.proofs.KeptAfter.{same_state}

pub state_unwound : (p : Page) (c : ControlState) (old : OldValues) (q : Page) (d : ControlState)
    (noted : Option ControlState) (s : State) → q ≡ page_unwound p old → d ≡ unwrap_or noted c → noted ≡ old.control
    → state_of_parts p c ≡ s → state_of_parts q d ≡ unwound s old
state_unwound p c old q d noted s eq ed en es =
    same_state q (page_unwound p old) d (unwrap_or old.control c) eq
    (ed ∙ ap (λ (o : Option ControlState). unwrap_or o c) en)
    ∙ ap (λ (t : State). unwound t old) es

-- it is valid where that to which it unwinds is
pub valid_unwound : (s t : State) → s ≡ t → IsValidState t → IsValidState s
valid_unwound s t e valid = subst (λ (u : State). IsValidState u) (sym e) valid

-- and so is the page
pub valid_page_unwound : (s t : State) (old : OldValues) → s ≡ t → IsValidState (unwound t old)
    → IsValidPage (page_unwound s.page old)
valid_page_unwound s t old e valid =
    (subst (λ (u : State). IsValidState (unwound u old)) (sym e) valid).page

-- the rows that are resolved, in the words of the two states
pub rows_restored-of : (old : OldValues) (s t u : State) (before after : Edges) (was now : List (List Look)) → s ≡ t
    → before ≡ edges_of s.control → after ≡ edges_of u.control → was ≡ looks_of (core_of s) → now ≡ looks_of (core_of u)
    → rows_unwound old before after was now ≡ rows_restored old (core_of t) (core_of u)
rows_restored-of old s t u before after was now e eb ea ew en =
    (λ i. rows_unwound old (eb i) (ea i) (ew i) (en i))
    ∙ ap (λ (x : State). rows_restored old (core_of x) (core_of u)) e

-- as many rows are renewed between the looks that are kept as between those of two states
pub renewed-kept : (s t u : State) (was now : List (List Look)) → was ≡ looks_of (core_of s) → s ≡ t
    → now ≡ looks_of (core_of u)
    → rows_renewed [] was now ≡ rows_renewed [] (looks_of (core_of t)) (looks_of (core_of u))
renewed-kept s t u was now kept e looks =
    let first : was ≡ looks_of (core_of t) = kept ∙ ap (λ (x : State). looks_of (core_of x)) e in
    λ i. rows_renewed [] (first i) (looks i)

-- ---- how many rows

-- all at most
pub rows_unwound-le : (old : OldValues) (before after : Edges) (was now : List (List Look))
    → rows_unwound old before after was now ≤ 24
unfolding rows_unwound
rows_unwound-le old before after was now =
    omega (
      arith,
      count_by-le-length (λ r. is_unwound old before after r || is_covered_otherwise was r now r) (range_with_len 1 24),
      length-range_with_len 1 24,
    )

-- as many whatever is noted of control
pub rows_unwound-control : (old : OldValues) (control : Option ControlState) (noted : OldValues) (before after : Edges)
    (was now : List (List Look)) → noted ≡ record old { control = control }
    → rows_unwound noted before after was now ≡ rows_unwound old before after was now
unfolding rows_unwound is_unwound notes_row notes_screen
rows_unwound-control old control noted before after was now is =
    ap (λ (v : OldValues). rows_unwound v before after was now) is
