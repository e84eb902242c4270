-- States by their parts, and what is kept of them at the start and after a command.
use Rattle.std.proofs.Common.{◌≡◌, Bool, true, false, List, [], refl, sym, ap, subst, ◌∙◌, inl, inr}
use Rattle.std.proofs.lemmas.Bool.{cases_Bool}
use Rattle.cept_codes.specs.declared.command.Command.{Command}
use Rattle.cept_codes.specs.declared.look.Look.{Look}
use Rattle.cept_codes.specs.declared.stroke.Stroke.{Stroke}
use Rattle.cept_codes.specs.Command.{IsValidCommand}
use Rattle.cept_profile.specs.Changes.{differences}
use Rattle.cept_profile.specs.Control.{ControlState, control_after}
use Rattle.cept_profile.specs.Edges.{Edges, edges_of}
use Rattle.cept_profile.specs.Look.{looks_of}
use Rattle.cept_profile.specs.State.{Page, State, core_of, page_after, state_after}
use Rattle.cept_profile.specs.Strokes.{strokes_of}
use Rattle.cept_profile.specs.Valid.{IsValidState}
use Rattle.cept_profile.proofs.Laws.{IsValidState-state_after}
use Rattle.cept_profile.specs.Reach.{rows_in_reach}
use Rattle.cept_page.proofs.Laws.{page_after-none}
use Rattle.cept_redraw.specs.Kept.{AreEdges, AreLooksOn, core_on}
use Rattle.cept_redraw.specs.Named.{AreNamed, AreNamedOn, NamesOfRows}
use Rattle.cept_redraw.specs.Renewed.{rows_renewed}
use Rattle.cept_redraw.specs.Resolved.{rows_resolved_by}
use Rattle.cept_redraw.proofs.Laws.{AreNamed-alike, AreLooksOn-one}
use Rattle.cept_repaint.specs.Kept.{IsKept}
use Rattle.cept_repaint.specs.Applied.{rows_renewed_by}
use Rattle.cept_repaint.proofs.MixedCommands.{resolved-in_reach}
use Rattle.cept_profile.proofs.Laws.{looks_of-alike}

-- two states of the same page and the same control are the same
pub same_state : (p q : Page) (c d : ControlState) → p ≡ q → c ≡ d
    → (let s : State = record { page = p; control = c } in s) ≡ (let t : State = record { page = q; control = d } in t)
same_state p q c d e f = λ i. record { page = e i; control = f i }

-- the looks of a state are those of its page and of its edges
pub AreLooksOn-state : (s : State) (looks : List (List Look)) (edges : Edges) → edges ≡ edges_of s.control
    → looks ≡ looks_of (core_of s) → AreLooksOn looks s.page edges
AreLooksOn-state s looks edges same e = AreLooksOn-one looks s.page edges (core_of s) (sym same) e

-- and its edges those of a core
pub AreEdges-state : (s : State) (edges : Edges) → edges ≡ edges_of s.control → AreEdges edges
AreEdges-state s edges same = (core_of s, sym same)

-- the state after a command, by its strokes
pub state_after-drawn : (p : Page) (c : ControlState) (command : Command) (q : Page) (d : ControlState)
    (strokes : List Stroke) → strokes ≡ strokes_of c command → q ≡ page_after p strokes → d ≡ control_after c command
    → (let s : State = record { page = q; control = d } in s) ≡ state_after (record { page = p; control = c }) command
state_after-drawn p c command q d strokes es eq ed =
    same_state q (page_after p (strokes_of c command)) d (control_after c command)
    (eq ∙ ap (λ (xs : List Stroke). page_after p xs) es) ed

-- what is kept after it
pub IsKept-state_after : {p : Page} {c : ControlState} {kept : List (List Look)}
    {names : NamesOfRows} → IsKept (record { page = p; control = c }) kept names
    → (command : Command) → IsValidCommand command
    → (q : Page) (d : ControlState) (next : List (List Look)) (more : NamesOfRows)
    → (let s : State = record { page = q; control = d } in s)
    ≡ state_after (record { page = p; control = c }) command
    → next ≡ looks_of (core_of (record { page = q; control = d }))
    → AreNamed more (core_of (record { page = q; control = d })) → IsKept (record { page = q; control = d }) next more
IsKept-state_after {p} {c} {kept} {names} is command valid q d next more whole looks named = record {
  valid = subst (λ (s : State). IsValidState s) (sym whole)
      (IsValidState-state_after (record { page = p; control = c }) command is.valid valid);
  looks = looks;
  named = named;
}

-- the names that are known of a state are those of its page and of its edges
pub AreNamedOn-state : (s : State) (names : NamesOfRows) (edges : Edges) → edges ≡ edges_of s.control
    → AreNamed names (core_of s) → AreNamedOn names s.page edges
AreNamedOn-state s names edges same are k also =
    AreNamed-alike names (core_of s) (core_on k s.page) refl refl refl
    (also ∙ same) are

-- and back
pub AreNamed-drawn : (q : Page) (d : ControlState) (after : Edges) (names : NamesOfRows) → after ≡ edges_of d
    → AreNamedOn names q after → AreNamed names (core_of (record { page = q; control = d }))
AreNamed-drawn q d after names ea named = named (core_of (record { page = q; control = d })) (sym ea)

-- the looks after it are those of its page and of its edges
pub looks_of-drawn : (q : Page) (d : ControlState) (after : Edges) (next : List (List Look)) → after ≡ edges_of d
    → AreLooksOn next q after → next ≡ looks_of (core_of (record { page = q; control = d }))
looks_of-drawn q d after next ea looks = looks (core_of (record { page = q; control = d })) (sym ea)

-- as many rows as its strokes may resolve between two cores are in reach of a command in its state
pub resolved-of : {p : Page} {c : ControlState} (command : Command) (q : Page) (d : ControlState)
    (strokes : List Stroke) → strokes ≡ strokes_of c command
    → (let s : State = record { page = q; control = d } in s) ≡ state_after (record { page = p; control = c }) command
    → (s : State) → (let was : State = record { page = p; control = c } in was) ≡ s
    → rows_resolved_by (core_of (record { page = p; control = c })) (core_of (record { page = q; control = d })) strokes
    ≡ rows_in_reach s command
resolved-of {p} {c} command q d strokes es whole s e =
    (λ i. rows_resolved_by (core_of (record { page = p; control = c })) (core_of (whole i)) (es i))
    ∙ resolved-in_reach (record { page = p; control = c }) command ∙ ap (λ (t : State). rows_in_reach t command) e

-- and as many as its strokes renew between the looks that are kept, the command renews
pub renewed-of : {p : Page} {c : ControlState} (command : Command) (q : Page) (d : ControlState)
    (strokes : List Stroke) → strokes ≡ strokes_of c command
    → (let s : State = record { page = q; control = d } in s) ≡ state_after (record { page = p; control = c }) command
    → (was now : List (List Look)) → was ≡ looks_of (core_of (record { page = p; control = c }))
    → now ≡ looks_of (core_of (record { page = q; control = d }))
    → (s : State) → (let was : State = record { page = p; control = c } in was) ≡ s
    → rows_renewed strokes was now ≡ rows_renewed_by s command
renewed-of {p} {c} command q d strokes es whole was now ew en s e =
    (λ i. rows_renewed (es i) (ew i) (en i))
    ∙ ap (λ (t : State). rows_renewed (strokes_of c command) (looks_of (core_of (record { page = p; control = c })))
    (looks_of (core_of t))) whole
    ∙ ap (λ (t : State). rows_renewed_by t command) e

-- marks are the differences of two states' looks, where both are kept
pub marks-kept : (s t u : State) (was now : List (List Look)) (marks : List Bool) → was ≡ looks_of (core_of s) → s ≡ t
    → now ≡ looks_of (core_of u) → marks ≡ differences was now
    → marks ≡ differences (looks_of (core_of t)) (looks_of (core_of u))
marks-kept s t u was now marks kept e looks m =
    m ∙ ap (λ (g : List (List Look)). differences g now) (kept ∙ ap (λ (x : State). looks_of (core_of x)) e)
    ∙ ap (differences (looks_of (core_of t))) looks

-- the state after a command without strokes
pub state_after-still : (p : Page) (c : ControlState) (command : Command) (d : ControlState)
    → d ≡ control_after c command → strokes_of c command ≡ []
    → (let s : State = record { page = p; control = d } in s) ≡ state_after (record { page = p; control = c }) command
state_after-still p c command d e none = state_after-drawn p c command p d [] (sym none) (sym (page_after-none p [] refl)) e

-- the looks stay where the page and its edges do
pub looks_of-still : (p : Page) (c d : ControlState) → edges_of d ≡ edges_of c
    → looks_of (core_of (record { page = p; control = d })) ≡ looks_of (core_of (record { page = p; control = c }))
looks_of-still p c d e =
    looks_of-alike (core_of (record { page = p; control = d })) (core_of (record { page = p; control = c })) refl e

-- what is kept where a command without strokes is taken or not
pub IsKept-still : {p : Page} {c : ControlState} {kept : List (List Look)}
    {names : NamesOfRows} → IsKept (record { page = p; control = c }) kept names
    → (command : Command) → IsValidCommand command → (d : ControlState) (taken : Bool)
    → (taken ≡ true → d ≡ control_after c command) → (taken ≡ true → strokes_of c command ≡ [])
    → (taken ≡ false → d ≡ c) → edges_of d ≡ edges_of c → IsKept (record { page = p; control = d }) kept names
IsKept-still {p} {c} {kept} {names} is command valid d taken after none left edges =
    elim (cases_Bool taken) [
      | inl t ↦ IsKept-state_after is command valid p d kept names
          (state_after-still p c command d (after t) (none t))
          (is.looks ∙ sym (looks_of-still p c d edges))
          (AreNamed-alike names (core_of (record { page = p; control = c })) (core_of (record { page = p; control = d }))
          refl refl refl edges is.named)
      | inr f ↦ subst (λ (e : ControlState). IsKept (record { page = p; control = e }) kept names) (sym (left f)) is
    ]
