-- The events of a run: what is done at one item of a page, at one command of an edit, at an undo or a redo, or at the end.
-- Each has the commands that remain before it and after it, and a text. The texts are put, and the changes from the one to
-- the other are painted. This project's own.
use Rattle.std.specs.Prelude.{ℕ, List}
use Rattle.std.specs.List.{flat_map}
use Rattle.cept_codes.specs.declared.command.Command.{Command}
use Rattle.cept_codes.specs.declared.look.Look.{Look}
use Rattle.cept_codes.specs.Place.{Place}
use Rattle.cept_profile.specs.Changes.{changes_between}
use Rattle.cept_profile.specs.Look.{grid}

-- the commands that remain before it and after it, and what is put
pub record Event : Type 0 where
  pub before : List Command
  pub after : List Command
  pub text : List ℕ

-- an event that changes nothing: these commands remain, and this text is put
abbrev pub still_event : List Command → List ℕ → Event
still_event commands text = record { before = commands; after = commands; text = text }

-- the places whose look it changes, in reading order, each with its look after it
abbrev pub event_changes : Event → List (Place × Look)
event_changes e = changes_between (grid e.before) (grid e.after)

-- all texts in order
unfoldable pub report : List Event → List ℕ
report events = flat_map (λ e. e.text) events

-- all changes in order
unfoldable pub paints : List Event → List (Place × Look)
paints events = flat_map event_changes events
