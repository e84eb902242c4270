-- A shelf: files under names, one of them selected at a time, whose bytes are taken from the front. This
-- project's own.
use Rattle.std.specs.Prelude.{◌≡◌, ℕ, ◌+◌, ◌-◌, ◌^◌, ◌<◌, ◌≤◌, min, Bool, true, false, List, [], take, drop, length}
use Rattle.std.specs.Prelude.{Option, Some, None, option_and_then, is_some, IsSome, Result, OnOk, OnErr, IfOk}
use Rattle.std.specs.Io.KnownBytes.{prepend_known}

-- what a shelf means
pub record ShelfState : Type 0 where
  -- the bytes under each name, where they are told; a name that isn't on the shelf has none
  pub files : Option (List ℕ → Option (List ℕ))
  -- the name that is selected, if one is, where that is told
  pub selected : Option (Option (List ℕ))
  -- the selected bytes that are left, where that is told
  pub left : Option (List ℕ)
  -- how many bytes were taken since the selection, up to the greatest u64
  pub taken : ℕ
  -- a take since the selection answered that nothing is left
  pub ended : Bool
  -- how many selections missed their file, where the shelf counts them: a number that never falls
  pub missed : ℕ
  -- the count of faults, which never falls: no call fails where it doesn't rise
  pub faults : ℕ

-- a shelf that tells that it has no file
abbrev pub empty_shelf : ShelfState
empty_shelf = record {
  files = Some (λ _. None);
  selected = Some None;
  left = Some [];
  taken = 0;
  ended = false;
  missed = 0;
  faults = 0;
}

-- the bytes that the shelf tells under a name
abbrev pub bytes_under : ShelfState → List ℕ → Option (List ℕ)
bytes_under s name = option_and_then (λ (files : List ℕ → Option (List ℕ)). files name) s.files

-- the shelf tells these bytes under the name, and tells its selection
pub record Holds (s : ShelfState) (name bytes : List ℕ) : Type 0 where
  pub under : bytes_under s name ≡ Some bytes
  pub tells : is_some s.left ≡ true

-- the shelf tells its files, and none has this name
pub record Lacks (s : ShelfState) (name : List ℕ) : Type 0 where
  pub tells : is_some s.files ≡ true
  pub under : bytes_under s name ≡ None

-- no name is selected and no bytes are left, where that is told
pub record SelectsNothing (s : ShelfState) : Type 0 where
  pub chosen : (name : Option (List ℕ)) → s.selected ≡ Some name → name ≡ None
  pub rest : (bytes : List ℕ) → s.left ≡ Some bytes → bytes ≡ []

-- the files stay, and whether they and the selection are told
pub record KeepsFiles (old new : ShelfState) : Type 0 where
  pub files : new.files ≡ old.files
  pub tells_selected : is_some new.selected ≡ is_some old.selected
  pub tells_left : is_some new.left ≡ is_some old.left

-- a selection ends the former one, its file's bytes are left, and no take has answered yet
pub record Selects {X E : Type 0} (old : ShelfState) (name : List ℕ) (result : Result X E) (new : ShelfState)
    : Type 0 where
  pub keeps : KeepsFiles old new
  pub found : OnOk result ((bytes : List ℕ) → Holds old name bytes
      → (new.selected ≡ Some (Some name)) × (new.left ≡ Some bytes))
  pub absent : OnOk result (Lacks old name → SelectsNothing new)
  pub untold : OnOk result (old.files ≡ None → (chosen : Option (List ℕ)) → new.selected ≡ Some chosen
      → chosen ≡ Some name)
  pub failed : OnErr result (SelectsNothing new)
  pub taken : new.taken ≡ 0
  pub ended : new.ended ≡ false
  pub missed : old.missed ≤ new.missed
  pub missed_stays : IsSome (bytes_under old name) → new.missed ≡ old.missed

-- bytes move from what is left to the front of the slice; zero means the end, and a failure moves nothing
pub record Takes {E : Type 0} (old : ShelfState) (into : List ℕ) (result : Result ℕ E) (new : ShelfState) : Type 0 where
  pub keeps : KeepsFiles old new
  pub selected : new.selected ≡ old.selected
  pub missed : new.missed ≡ old.missed
  pub within : IfOk result (λ n. n ≤ length into)
  pub moved : IfOk result (λ n. old.left ≡ prepend_known (take n into) new.left)
  pub taken : IfOk result (λ n. new.taken ≡ min (old.taken + n) (2 ^ 64 - 1))
  pub end : IfOk result (λ n. n ≡ 0 → (bytes : List ℕ) → old.left ≡ Some bytes → bytes ≡ [])
  pub ended : IfOk result (λ n. n ≡ 0 → new.ended ≡ true)
  pub goes_on : IfOk result (λ n. 0 < n → new.ended ≡ old.ended)
  pub failed : OnErr result ((new.left ≡ old.left) × (new.taken ≡ old.taken) × (new.ended ≡ old.ended))

-- the name that is selected is on the shelf, its bytes without those taken are left, no more were taken than it has, and
-- none are left where a take has answered so
pub record IsSound (s : ShelfState) : Type 0 where
  pub together : is_some s.selected ≡ is_some s.left
  pub left : (name : List ℕ) → s.selected ≡ Some (Some name) → is_some s.files ≡ true
      → (bytes : List ℕ) × (bytes_under s name ≡ Some bytes) × (s.left ≡ Some (drop s.taken bytes))
  pub within : (name bytes : List ℕ) → s.selected ≡ Some (Some name) → bytes_under s name ≡ Some bytes
      → s.taken ≤ length bytes
  pub nothing : s.selected ≡ Some None → (s.left ≡ Some []) × (s.taken ≡ 0)
  pub ended : s.ended ≡ true → (bytes : List ℕ) → s.left ≡ Some bytes → bytes ≡ []
