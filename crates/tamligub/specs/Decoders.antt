-- What calls do to a decoder that C keeps. This project's own.
use Rattle.std.specs.Prelude.{◌≡◌, ◌⊎◌, ◌↔◌, ◌<◌, ℕ, true, false, List, length}
use Rattle.cept_codes.specs.declared.look.Look.{Look}
use Rattle.cept_codes.specs.Look.{blank_look}
use Rattle.cept_codes.specs.Place.{Place, OnScreen}
use Rattle.cept_codes.specs.Table.{table}
use Rattle.cept_live.specs.declared.notice.Notice.{Notice}
use Rattle.cept_live.specs.EditLines.{Counts}
use Rattle.cept_live.specs.Live.{Ends, LiveState, TakesNoMore}
use Rattle.cept_live.specs.Notices.{change_notice}
use Rattle.cept_live.specs.Shown.{Begins, phase_after, shown}
use Rattle.cept_live.specs.Written.{IsPut}
use Rattle.cept_profile.specs.Changes.{look_at}
use Rattle.cept_profile.specs.Look.{looks_of}
use Rattle.cept_profile.specs.State.{State, core_of}
use Rattle.cept_writer.specs.CompactCommands.{page_text}
use Rattle.tamligub.specs.Called.{PutsNone}
use Rattle.tamligub.specs.declared.handle.Decoder.{Decoder}

-- ---- what is left as it was

-- a decoder is open, or not, as it was, and one that is open is in the state that it was in
pub record IsKept (old new : Decoder) : Type 0 where
  pub is_open : new.is_open ≡ old.is_open
  pub state : old.is_open ≡ true → new.block.value ≡ old.block.value

-- nothing is done: the decoder is kept, the list stays, and it has no notice
pub record IsRefused (old new : Decoder) (list now : List Notice) (notices : ℕ) : Type 0 where
  pub kept : IsKept old new
  pub stays : now ≡ list
  pub none : notices ≡ 0

-- ---- why nothing is done

-- no byte is taken: no decoder is open, it takes no more, or the list has no room for what one byte may change
abbrev pub TakesNone : Decoder → List Notice → Type 0
TakesNone decoder list = (decoder.is_open ≡ false) ⊎ (TakesNoMore decoder.block.value ⊎ (length list < 1920))

-- a page can't end: no decoder is open, it has ended, or the list has no room for what its end may change
abbrev pub CannotEnd : Decoder → List Notice → Type 0
CannotEnd decoder list =
    (decoder.is_open ≡ false) ⊎ ((decoder.block.value.parser.finished ≡ true) ⊎ (length list < 1920))

-- there is no look: no decoder is open, or there is no such place
abbrev pub HasNoLook : Place → Decoder → Type 0
HasNoLook place decoder = (decoder.is_open ≡ false) ⊎ ¬ (OnScreen place.row place.column)

-- no phase can begin: no decoder is open, or the list has no room for what a phase may change
abbrev pub CannotFlash : Decoder → List Notice → Type 0
CannotFlash decoder list = (decoder.is_open ≡ false) ⊎ (length list < 960)

-- ---- what calls answer

-- something is done with an open decoder and told in a list of notices; or 1 is answered, exactly for such a cause, and nothing
-- is done
pub record DoneOrRefused (Does : LiveState → List Notice → LiveState → ℕ → List Notice → Type 0)
    (CannotDo : Decoder → List Notice → Type 0) (old new : Decoder) (list now : List Notice) (notices answer : ℕ) : Type 0 where
  pub done : answer ≡ 0 → (old.is_open ≡ true) × Does old.block.value list new.block.value notices now
  pub refused : (answer ≡ 0) ⊎ ((answer ≡ 1) × IsRefused old new list now notices)
  pub cause : (answer ≡ 1) ↔ CannotDo old list
  pub is_open : new.is_open ≡ old.is_open

-- something is told of an open decoder; or 1 is answered, exactly for such a cause, and what was to tell it stays. The decoder
-- is kept
pub record ToldOrRefused {A : Type 0} (told : LiveState → A) (HasNone : Decoder → Type 0) (old new : Decoder) (was now : A)
    (answer : ℕ) : Type 0 where
  pub told_is : answer ≡ 0 → (old.is_open ≡ true) × (now ≡ told old.block.value)
  pub refused : (answer ≡ 0) ⊎ ((answer ≡ 1) × (now ≡ was))
  pub cause : (answer ≡ 1) ↔ HasNone old
  pub kept : IsKept old new

-- so many states of an open decoder are counted, none where none is open. The decoder is kept
pub record CountsOf (states : LiveState → List State) (old new : Decoder) (answer : ℕ) : Type 0 where
  pub counts : old.is_open ≡ true → Counts answer (states old.block.value)
  pub closed : old.is_open ≡ false → answer ≡ 0
  pub kept : IsKept old new

-- ---- what is told

-- the look of a state at a place, after all bytes that were taken
abbrev pub notice_at : Place → LiveState → Notice
notice_at place live = change_notice live.parser.place place (look_at (looks_of (core_of live.screen)) place)

-- a display before anything is shown
abbrev pub blank_display : List (List Look)
blank_display = table (λ _ _. blank_look)

-- what is done: the page ends; the first phase of flashing begins over a blank display; the next over what is shown
abbrev pub PageEnds : LiveState → List Notice → LiveState → ℕ → List Notice → Type 0
PageEnds old list new to now = Ends old list 0 new to now

abbrev pub FlashStarts : LiveState → List Notice → LiveState → ℕ → List Notice → Type 0
FlashStarts old list new to now = Begins old blank_display 0 list new to now

abbrev pub FlashTurns : LiveState → List Notice → LiveState → ℕ → List Notice → Type 0
FlashTurns old list new to now = Begins old (shown old) (phase_after old.phase) list new to now

-- the page of a state, as bytes
abbrev pub page_of : LiveState → List ℕ
page_of live = page_text (core_of live.screen)

-- no decoder is open
abbrev pub IsClosed : Decoder → Type 0
IsClosed decoder = decoder.is_open ≡ false

-- no decoder is open whose page goes on
abbrev pub HasNoSnapshot : Decoder → Type 0
HasNoSnapshot decoder = (decoder.is_open ≡ false) ⊎ (decoder.block.value.parser.finished ≡ true)

-- an answer about a text: 0, it was put; 5, there is no room for it; 6, there was no memory; in the last two cases nothing was put
pub record AnswersText (text old new : List ℕ) (put answer : ℕ) : Type 0 where
  pub answers : (answer ≡ 0) ⊎ ((answer ≡ 5) ⊎ (answer ≡ 6))
  pub whole : answer ≡ 0 → IsPut text old put new
  pub longer : answer ≡ 5 → length old < length text
  pub none : (answer ≡ 0) ⊎ ((new ≡ old) × (put ≡ 0))

-- a text of an open decoder was put, or not for one of the causes above; 1 is answered exactly where there is no such text, and
-- nothing was put. The decoder is kept
pub record PutsTextOf (text : LiveState → List ℕ) (HasNone : Decoder → Type 0) (decoder after : Decoder) (old new : List ℕ)
    (put answer : ℕ) : Type 0 where
  pub answers : (answer ≡ 1) ⊎ ((decoder.is_open ≡ true) × AnswersText (text decoder.block.value) old new put answer)
  pub cause : (answer ≡ 1) ↔ HasNone decoder
  pub none : answer ≡ 1 → PutsNone old new put
  pub kept : IsKept decoder after

-- these bytes are the snapshot of a decoder that was fed: it is open again in the state that it was in, or there is no memory
abbrev pub IsRestored : LiveState → Decoder → ℕ → Type 0
IsRestored live decoder answer =
    (answer ≡ 6) ⊎ ((answer ≡ 0) × ((decoder.is_open ≡ true) × (decoder.block.value ≡ live)))
