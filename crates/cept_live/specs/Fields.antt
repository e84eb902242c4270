-- How the fields of a decoder go together (this project's own). Private clauses alone cite this file.
use Rattle.std.specs.Prelude.{◌≡◌, ℕ, Bool, false, Option, None}
use Rattle.std.specs.Option.{IfSome}
use Rattle.cept_parser.specs.State.{ParserState}
use Rattle.cept_profile.specs.State.{State}
use Rattle.cept_undo.specs.Past.{IsBetweenEdits}
use Rattle.cept_live.specs.declared.edits.Editing.{Editing}
use Rattle.cept_live.specs.Live.{IsPhase}

-- the page has ended where the parser has, and the phase is one of six; no edit is begun, and while the page goes on none
-- was made
pub record IsInStep (parser : ParserState) (screen : State) (phase : Option ℕ) (ended : Bool) (edits : Option Editing)
    : Type 0 where
  pub ended_is : parser.finished ≡ ended
  pub valid : IsPhase phase
  pub between : IfSome edits (λ e. IsBetweenEdits e.undo screen)
  pub unedited : ended ≡ false → edits ≡ None
