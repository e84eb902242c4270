-- What a display shows that is kept as it is told (this project's own), and what the phases of flashing change on it: a place
-- shows its look as it was fed, until a phase begins after that.
use Rattle.std.specs.Prelude.{◌≡◌, ℕ, ◌≤◌, ◌<◌, Bool, Option, Some, None, IfSome, IsNone, List, [], ◌∷◌, length}
use Rattle.std.specs.Prelude.{if◌then◌else◌}
use Rattle.std.specs.List.{flat_map}
use Rattle.cept_codes.specs.declared.look.Look.{Look}
use Rattle.cept_codes.specs.Look.{blank_look}
use Rattle.cept_codes.specs.Place.{Place, number}
use Rattle.cept_codes.specs.Table.{table, value_at}
use Rattle.cept_flash.specs.Phases.{frame, look_at_phase, next_phase}
use Rattle.cept_profile.specs.Changes.{changes_between}
use Rattle.cept_profile.specs.Look.{looks_of}
use Rattle.cept_profile.specs.State.{core_of}
use Rattle.cept_redraw.specs.Marks.{is_marked, no_marks}
use Rattle.cept_live.specs.declared.notice.Notice.{Notice}
use Rattle.cept_live.specs.Live.{LiveState, Stays, Tells}
use Rattle.cept_live.specs.Notices.{Saying, Change, Refusal, change_sayings}

-- a look at a phase, but as it is where it was renewed since the phase began, or where nothing flashes
abbrev pub look_shown : Option ℕ → Bool → Look → Look
look_shown None renewed look = look
look_shown (Some phase) renewed look = if renewed then look else look_at_phase look phase

-- the looks of a grid, so shown
unfoldable pub shown_of : List (List Look) → Option ℕ → List Bool → List (List Look)
shown_of g phase renewed = table (λ r c. look_shown phase (is_marked renewed (number r c)) (value_at blank_look g r c))

-- what a display shows that is kept as a decoder tells
abbrev pub shown : LiveState → List (List Look)
shown live = shown_of (looks_of (core_of live.screen)) live.phase live.renewed

-- the places with their looks that sayings tell
abbrev pub look_said : Saying → List (Place × Look)
look_said (Change at place look) = (place, look) ∷ []
look_said (Refusal at length reason) = []

abbrev pub looks_said : List Saying → List (Place × Look)
looks_said sayings = flat_map look_said sayings

-- the phase after this one, and the first before any
abbrev pub phase_after : Option ℕ → ℕ
phase_after None = 0
phase_after (Some phase) = next_phase phase

-- a phase begins over what was shown: the places that are shown otherwise at the phase are told in a list of notices from its
-- start on, with their looks at the phase, and nothing else is changed but the phase
pub record Begins (old : LiveState) (before : List (List Look)) (phase : ℕ) (list : List Notice) (new : LiveState) (to : ℕ)
    (now : List Notice) : Type 0 where
  pub enough : 960 ≤ length list
  pub valid : phase < 6
  pub live : new ≡ record old { phase = Some phase; renewed = no_marks }
  pub tells : Tells list 0 (change_sayings old.parser.place
      (changes_between before (frame (looks_of (core_of old.screen)) phase))) to now

-- what becomes of a phase that is to begin: it begins, or the list has no room for what it may change, and nothing happens
pub record PhaseDone (old : LiveState) (before : List (List Look)) (phase : ℕ) (list : List Notice) (notices : Option ℕ)
    (new : LiveState) (now : List Notice) : Type 0 where
  pub begins : IfSome notices (λ to. Begins old before phase list new to now)
  pub cause : IsNone notices → length list < 960
  pub stays : IsNone notices → Stays old list new now
