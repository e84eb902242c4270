-- The number of rows: control and the strokes tell the same.
use Rattle.std.proofs.Common.{◌≡◌, ℕ, List, [], ◌∷◌, ◌++◌, reverse, inl, inr, refl, sym, ◌∙◌, ap, append_assoc}
use Rattle.std.specs.List.{AllByRecursion}
use Rattle.std.proofs.lemmas.List.{reverse-append, reverse-reverse}
use Rattle.cept_codes.specs.declared.command.Command.{Command}
use Rattle.cept_codes.specs.declared.stroke.Stroke.{Stroke}
use Rattle.cept_codes.specs.declared.stroke.Stroke.TheVariants as strokes
use Rattle.cept_codes.specs.Command.{IsValidCommand}
use Rattle.cept_profile.specs.Control.{control, control_after, control_back}
use Rattle.cept_profile.specs.LastSaid.{format_back}
use Rattle.cept_profile.specs.Strokes.{strokes_back, strokes_in, strokes_of}
use Rattle.cept_profile.specs.Valid.{AllValid}
use Rattle.cept_profile.proofs.OneMoreState.{AllByRecursion-reverse, IsValidControl-control_back}
use Rattle.cept_profile.proofs.ValidPage.{IsSafe, IsSafe-strokes_of, LeadsTo}

-- a stroke that is safe in a format sets none
format_back-safe_one : (rows : ℕ) (stroke : Stroke) (earlier : List Stroke) → IsSafe rows stroke
    → format_back (stroke ∷ earlier) ≡ format_back earlier
format_back-safe_one rows (strokes.Format count) earlier safe = absurd safe
format_back-safe_one rows stroke earlier safe = refl

format_back-safe : (rows : ℕ) (xs earlier : List Stroke) → AllByRecursion (IsSafe rows) xs
    → format_back (reverse xs ++ earlier) ≡ format_back earlier
format_back-safe rows [] earlier safe = refl
format_back-safe rows (x ∷ xs) earlier safe =
    ap (λ (all : List Stroke). format_back (all ++ earlier)) (reverse-append (x ∷ []) xs)
    ∙ ap format_back (append_assoc (reverse xs) (x ∷ []) earlier)
    ∙ format_back-safe rows xs (x ∷ earlier) safe.1 ∙ format_back-safe_one rows x earlier safe.0

-- strokes that begin a format anew set it
format_back-anew : (rows : ℕ) (rest earlier : List Stroke) → AllByRecursion (IsSafe rows) rest
    → format_back (reverse (strokes.Format rows ∷ strokes.Wipe ∷ rest) ++ earlier) ≡ rows
format_back-anew rows rest earlier safe =
    ap (λ (all : List Stroke). format_back (all ++ earlier))
    (reverse-append (strokes.Format rows ∷ strokes.Wipe ∷ []) rest)
    ∙ ap format_back (append_assoc (reverse rest) (strokes.Wipe ∷ strokes.Format rows ∷ []) earlier)
    ∙ format_back-safe rows rest (strokes.Wipe ∷ strokes.Format rows ∷ earlier) safe

format_back-leads_to : (before after : ℕ) (xs earlier : List Stroke) → LeadsTo before after xs
    → format_back earlier ≡ before → format_back (reverse xs ++ earlier) ≡ after
format_back-leads_to before after xs earlier (inl (safe, same)) was =
    format_back-safe before xs earlier safe ∙ was ∙ sym same
format_back-leads_to before after xs earlier (inr anew) was =
    ap (λ (all : List Stroke). format_back (reverse all ++ earlier)) anew.is
    ∙ format_back-anew after anew.rest earlier anew.safe

rows-control_back : (newest_first : List Command) → AllValid newest_first
    → format_back (strokes_back newest_first) ≡ (control_back newest_first).rows
rows-control_back [] all = refl
rows-control_back (command ∷ earlier) all =
    format_back-leads_to (control_back earlier).rows (control_after (control_back earlier) command).rows
    (strokes_of (control_back earlier) command) (strokes_back earlier)
    (IsSafe-strokes_of (control_back earlier) command (IsValidControl-control_back earlier all.1) all.0)
    (rows-control_back earlier all.1)

pub rows-control : (history : List Command) → AllValid history
    → format_back (reverse (strokes_in history)) ≡ (control history).rows
rows-control history all =
    ap format_back (reverse-reverse (strokes_back (reverse history)))
    ∙ rows-control_back (reverse history) (AllByRecursion-reverse IsValidCommand history all)
