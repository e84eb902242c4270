-- What commands make of control and which strokes they make, from a state of control on; control never sees a page, so
-- that lists are taken piece by piece.
use Rattle.std.proofs.Common.{◌≡◌, List, [], ◌∷◌, ◌++◌, reverse, refl, sym, ◌∙◌, ap, append_assoc}
use Rattle.std.proofs.lemmas.List.{append-nil, reverse-append}
use Rattle.cept_codes.specs.declared.command.Command.{Command}
use Rattle.cept_codes.specs.declared.stroke.Stroke.{Stroke}
use Rattle.cept_profile.specs.Control.{ControlState, control_after, control_back}
use Rattle.cept_profile.specs.Strokes.{strokes_back, strokes_of}

-- control after commands
abbrev pub control_along : ControlState → List Command → ControlState
control_along s [] = s
control_along s (command ∷ more) = control_along (control_after s command) more

-- the strokes of commands
abbrev pub strokes_along : ControlState → List Command → List Stroke
strokes_along s [] = []
strokes_along s (command ∷ more) = strokes_of s command ++ strokes_along (control_after s command) more

-- from control s the commands make these strokes and leave control t
pub record Draws (s : ControlState) (commands : List Command) (made : List Stroke) (t : ControlState) : Type 0 where
  pub control : control_along s commands ≡ t
  pub strokes : strokes_along s commands ≡ made

pub draws_none : (s : ControlState) → Draws s [] [] s
draws_none s = record { control = refl; strokes = refl }

-- one command before others
pub draws_then : (s t u : ControlState) (command : Command) (more : List Command) (made rest : List Stroke)
    → control_after s command ≡ t → strokes_of s command ≡ made → Draws t more rest u
    → Draws s (command ∷ more) (made ++ rest) u
draws_then s t u command more made rest control strokes d = record {
  control = ap (λ (w : ControlState). control_along w more) control ∙ d.control;
  strokes =
      ap (λ (w : ControlState). strokes_of s command ++ strokes_along w more) control
      ∙ ap (λ (w : List Stroke). w ++ strokes_along t more) strokes
      ∙ ap (λ (w : List Stroke). made ++ w) d.strokes;
}

-- one command that makes no stroke before others
pub draws_silent : (s t u : ControlState) (command : Command) (more : List Command) (rest : List Stroke)
    → control_after s command ≡ t → strokes_of s command ≡ [] → Draws t more rest u → Draws s (command ∷ more) rest u
draws_silent s t u command more rest control strokes d = draws_then s t u command more [] rest control strokes d

-- one command alone
pub draws_one : (s t : ControlState) (command : Command) (made : List Stroke) → control_after s command ≡ t
    → strokes_of s command ≡ made → Draws s (command ∷ []) made t
draws_one s t command made control strokes =
    record { control = control; strokes = append-nil (strokes_of s command) ∙ strokes }

along-append : (s : ControlState) (cs ds : List Command) → control_along s (cs ++ ds) ≡ control_along (control_along s cs) ds
along-append s [] ds = refl
along-append s (c ∷ cs) ds = along-append (control_after s c) cs ds

strokes_along-append : (s : ControlState) (cs ds : List Command)
    → strokes_along s (cs ++ ds) ≡ strokes_along s cs ++ strokes_along (control_along s cs) ds
strokes_along-append s [] ds = refl
strokes_along-append s (c ∷ cs) ds =
    ap (λ (w : List Stroke). strokes_of s c ++ w) (strokes_along-append (control_after s c) cs ds)
    ∙ sym (append_assoc (strokes_of s c) (strokes_along (control_after s c) cs)
    (strokes_along (control_along (control_after s c) cs) ds))

-- commands after commands
pub draws_joined : (s t u : ControlState) (cs ds : List Command) (p q : List Stroke) → Draws s cs p t → Draws t ds q u
    → Draws s (cs ++ ds) (p ++ q) u
draws_joined s t u cs ds p q a b = record {
  control = along-append s cs ds ∙ ap (λ (w : ControlState). control_along w ds) a.control ∙ b.control;
  strokes =
      strokes_along-append s cs ds
      ∙ ap (λ (w : ControlState). strokes_along s cs ++ strokes_along w ds) a.control
      ∙ ap (λ (w : List Stroke). w ++ strokes_along t ds) a.strokes
      ∙ ap (λ (w : List Stroke). p ++ w) b.strokes;
}

-- ---- histories, which are looked back over

-- the newest of the commands comes first
front_moved : {X : Type 0} (c : X) (cs earlier : List X) → reverse (c ∷ cs) ++ earlier ≡ reverse cs ++ (c ∷ earlier)
front_moved c cs earlier =
    ap (λ all. all ++ earlier) (reverse-append (c ∷ []) cs) ∙ append_assoc (reverse cs) (c ∷ []) earlier

control_back-along : (cs earlier : List Command)
    → control_back (reverse cs ++ earlier) ≡ control_along (control_back earlier) cs
control_back-along [] earlier = refl
control_back-along (c ∷ cs) earlier = ap control_back (front_moved c cs earlier) ∙ control_back-along cs (c ∷ earlier)

strokes_back-along : (cs earlier : List Command) → strokes_back (reverse cs ++ earlier)
    ≡ reverse (strokes_along (control_back earlier) cs) ++ strokes_back earlier
strokes_back-along [] earlier = refl
strokes_back-along (c ∷ cs) earlier =
    let s : ControlState = control_back earlier in
    ap strokes_back (front_moved c cs earlier) ∙ strokes_back-along cs (c ∷ earlier)
    ∙ sym (append_assoc (reverse (strokes_along (control_after s c) cs)) (reverse (strokes_of s c)) (strokes_back earlier))
    ∙ ap (λ (w : List Stroke). w ++ strokes_back earlier)
    (sym (reverse-append (strokes_of s c) (strokes_along (control_after s c) cs)))

-- what commands leave that are drawn from the start
pub control_of_drawn : (cs : List Command) (made : List Stroke) (t : ControlState) → Draws (control_back []) cs made t
    → control_back (reverse cs) ≡ t
control_of_drawn cs made t d =
    ap control_back (sym (append-nil (reverse cs))) ∙ control_back-along cs [] ∙ d.control

pub strokes_of_drawn : (cs : List Command) (made : List Stroke) (t : ControlState) → Draws (control_back []) cs made t
    → strokes_back (reverse cs) ≡ reverse made
strokes_of_drawn cs made t d =
    ap strokes_back (sym (append-nil (reverse cs))) ∙ strokes_back-along cs []
    ∙ append-nil (reverse (strokes_along (control_back []) cs)) ∙ ap reverse d.strokes
