-- A page that is converted piece by piece, and how its conversion ends. This project's own. Private clauses alone cite
-- this file.
use Rattle.std.specs.Prelude.{◌≡◌, ◌≢◌, ◌⊎◌, ℕ, ◌^◌, ◌≤◌, min, Bool, true, false, List, ◌++◌, length, take}
use Rattle.std.specs.Prelude.{Result, Ok, Err}
use Rattle.cept_outside.specs.Causes.{Rose}
use Rattle.cept_outside.specs.ShelfState.{ShelfState}
use Rattle.cept_outside.specs.SinkState.{SinkState, Gains, GainsPart}
use Rattle.cept_seven.specs.Seven.{ends_right}
use Rattle.cept_seven.specs.Eight.{Leads}
use Rattle.cept_run.specs.declared.page.Stop.{Stop}
use Rattle.cept_run.specs.declared.page.Stop.TheVariants as stops
use Rattle.cept_run.specs.declared.converting.Path.{Path}
use Rattle.cept_run.specs.declared.converting.Path.TheVariants as paths
use Rattle.cept_run.specs.declared.words.BytesAction.{BytesAction}
use Rattle.cept_run.specs.declared.words.BytesAction.TheVariants as actions
use Rattle.cept_run.specs.Outside.{PutsWhole, PutsUnflushed}
use Rattle.cept_run.specs.Taking.{AreLeft, TakesWhole, TakesUnread, TakesTooMany, TakesFront}
use Rattle.cept_run.specs.Converted.{converted, converted_front, readable_front, can_end_there}

-- a path stands after these bytes, all of which were read
abbrev pub IsAfter : BytesAction → List ℕ → Path → Type 0
IsAfter actions.Seven b (paths.Seven form) = form ≡ ends_right b
IsAfter actions.Eight b (paths.Eight form) = Leads b form
IsAfter _ b _ = ⊥

-- a piece after bytes was converted into this text: all of it, or up to a byte that can't be read
abbrev pub Converts : BytesAction → List ℕ → List ℕ → List ℕ → Bool → Path → Type 0
Converts action b piece text read path =
    (converted_front action (b ++ piece) ≡ converted_front action b ++ text)
    × (read ≡ true → IsAfter action (b ++ piece) path)
    × (read ≡ false → readable_front action (b ++ piece) ≢ b ++ piece)

-- what is put of these bytes, the front of a page, was put
pub record PutsConverted (action : BytesAction) (b : List ℕ) (before now : SinkState) : Type 0 where
  pub put : Gains before (converted_front action b) now
  pub stays : now.faults ≡ before.faults

-- they were converted, and what is put of them was put
pub record HasConverted (action : BytesAction) (b : List ℕ) (path : Path) (before now : SinkState) : Type 0 where
  pub stands : IsAfter action b path
  pub puts : PutsConverted action b before now

-- a part of what is put of them was put, and the sink failed
pub record ConvertsPart (action : BytesAction) (b : List ℕ) (before after : SinkState) : Type 0 where
  pub cause : Rose before.faults after.faults
  pub later : before.faults ≤ after.faults
  pub put : GainsPart before (converted_front action b) after

-- a piece was converted and put, by what was answered
abbrev pub PieceConverted : {X : Type 0} → BytesAction → List ℕ → SinkState → Result X Stop → Path → SinkState → Type 0
PieceConverted action b before (Ok _) path after = HasConverted action b path before after
PieceConverted action b before (Err stops.NotSeven) path after =
    PutsConverted action b before after × (readable_front action b ≢ b)
PieceConverted action b before (Err stops.WriteFault) path after = ConvertsPart action b before after
PieceConverted action b before (Err _) path after = ⊥

-- the page ends after these bytes, which were converted
abbrev pub EndConverted : BytesAction → List ℕ → SinkState → Result Bool Stop → SinkState → Type 0
EndConverted action b before (Ok refused) after =
    PutsWhole (converted action b) before after × (can_end_there action b ≡ true) × (refused ≡ false)
EndConverted action b before (Err stops.NotSeven) after =
    PutsConverted action b before after × (can_end_there action b ≡ false)
EndConverted action b before (Err stops.WriteFault) after =
    PutsUnflushed (converted action b) before after × (can_end_there action b ≡ true)
EndConverted action b before (Err _) after = ⊥

-- ---- a page of a shelf

-- it was converted to its end
pub record ConvertsWhole (action : BytesAction) (before : ShelfState) (start : SinkState) (after : ShelfState)
    (now : SinkState) : Type 0 where
  pub bytes : List ℕ
  pub takes : TakesWhole (AreLeft before) (2 ^ 24) bytes before after
  pub read : readable_front action bytes ≡ bytes
  pub can_end : can_end_there action bytes ≡ true
  pub put : PutsWhole (converted action bytes) start now

-- the shelf failed
pub record ConvertsUnread (action : BytesAction) (before : ShelfState) (start : SinkState) (after : ShelfState)
    (now : SinkState) : Type 0 where
  pub takes : TakesUnread (2 ^ 24) before after
  pub bytes : List ℕ
  pub taken : after.taken ≡ length bytes
  pub known : (page : List ℕ) → AreLeft before page → bytes ≡ take after.taken page
  pub read : readable_front action bytes ≡ bytes
  pub puts : PutsConverted action bytes start now

-- it has more than 2^24 bytes
pub record ConvertsTooLong (action : BytesAction) (before : ShelfState) (start : SinkState) (after : ShelfState)
    (now : SinkState) : Type 0 where
  pub takes : TakesTooMany (AreLeft before) (2 ^ 24) before after
  pub bytes : List ℕ
  pub count : length bytes ≡ 2 ^ 24
  pub known : (page : List ℕ) → AreLeft before page → bytes ≡ take (2 ^ 24) page
  pub read : readable_front action bytes ≡ bytes
  pub puts : PutsConverted action bytes start now

-- a byte of it can't be read, or it can't end where it does
pub record ConvertsNot (action : BytesAction) (before : ShelfState) (start : SinkState) (after : ShelfState)
    (now : SinkState) : Type 0 where
  pub bytes : List ℕ
  pub count : length bytes ≡ min after.taken (2 ^ 24)
  pub known : (page : List ℕ) → AreLeft before page → bytes ≡ take (min after.taken (2 ^ 24)) page
  pub cause : (readable_front action bytes ≢ bytes)
      ⊎ (TakesWhole (AreLeft before) (2 ^ 24) bytes before after × (readable_front action bytes ≡ bytes)
      × (can_end_there action bytes ≡ false))
  pub puts : PutsConverted action bytes start now
  pub stays : after.faults ≡ before.faults

-- the sink failed in the midst of it
pub record ConvertsCut (action : BytesAction) (before : ShelfState) (start : SinkState) (after : ShelfState)
    (now : SinkState) : Type 0 where
  pub bytes : List ℕ
  pub takes : TakesFront bytes before after
  pub cut : ConvertsPart action (take (min after.taken (2 ^ 24)) bytes) start now

-- the sink failed at its end
pub record ConvertsCutAtEnd (action : BytesAction) (before : ShelfState) (start : SinkState) (after : ShelfState)
    (now : SinkState) : Type 0 where
  pub bytes : List ℕ
  pub takes : TakesWhole (AreLeft before) (2 ^ 24) bytes before after
  pub read : readable_front action bytes ≡ bytes
  pub can_end : can_end_there action bytes ≡ true
  pub cut : PutsUnflushed (converted action bytes) start now

-- how its conversion ends
abbrev pub PageConverted : BytesAction → ShelfState → SinkState → Result Bool Stop → ShelfState → SinkState → Type 0
PageConverted action before start (Ok refused) after now = ConvertsWhole action before start after now × (refused ≡ false)
PageConverted action before start (Err stops.ReadFault) after now = ConvertsUnread action before start after now
PageConverted action before start (Err stops.TooLong) after now = ConvertsTooLong action before start after now
PageConverted action before start (Err stops.NotSeven) after now = ConvertsNot action before start after now
PageConverted action before start (Err stops.WriteFault) after now =
    ConvertsCut action before start after now ⊎ ConvertsCutAtEnd action before start after now
PageConverted action before start (Err _) after now = ⊥
