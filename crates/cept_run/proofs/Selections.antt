-- What is selected, and what is then left.
use Rattle.std.proofs.Common.{◌≡◌, ◌≢◌, ◌⊎◌, inl, inr, ℕ, Bool, true, false, List, [], take}
use Rattle.std.proofs.Common.{Option, Some, None, is_some, Ok, refl, sym, ◌∙◌, ap}
use Rattle.std.specs.Prelude.{option_and_then}
use Rattle.std.proofs.lemmas.Option.{same_Some}
use Rattle.cept_outside.specs.ShelfState.{ShelfState, Holds, Lacks, SelectsNothing, KeepsFiles, Selects, IsSound}
use Rattle.cept_outside.specs.ShelfState.{bytes_under}
use Rattle.cept_outside.specs.SinkState.{SinkState, HasPut, Gains, GainsPart}
use Rattle.cept_run.specs.declared.run.Status.{Status}
use Rattle.cept_run.specs.declared.run.Status.TheVariants as statuses
use Rattle.cept_run.specs.Course.{Gives}

-- ---- the selection

-- a told name is told before a selection and after it, and so are its bytes
known_left : (before mid : ShelfState) (chosen : Option (List ℕ)) → IsSound before → KeepsFiles before mid
    → mid.selected ≡ Some chosen → is_some before.left ≡ true
known_left before mid chosen sound keeps is =
    sym sound.together ∙ sym keeps.tells_selected ∙ ap is_some is

-- what is selected under a name, by what is told under it
selected_by : (before mid : ShelfState) (name : List ℕ) (files : Option (List ℕ → Option (List ℕ)))
    (under : Option (List ℕ)) (chosen : Option (List ℕ)) → before.files ≡ files → bytes_under before name ≡ under
    → is_some before.left ≡ true → mid.selected ≡ Some chosen
    → ((bytes : List ℕ) → Holds before name bytes → (mid.selected ≡ Some (Some name)) × (mid.left ≡ Some bytes))
    → (Lacks before name → SelectsNothing mid)
    → (before.files ≡ None → (chosen : Option (List ℕ)) → mid.selected ≡ Some chosen → chosen ≡ Some name)
    → (chosen ≡ None) ⊎ (chosen ≡ Some name)
selected_by before mid name None under chosen no_files is tells now found absent untold =
    inr (untold no_files chosen now)
selected_by before mid name (Some files) (Some bytes) chosen are is tells now found absent untold =
    let h : Holds before name bytes = record { under = is; tells = tells } in
    inr (same_Some chosen (Some name) (sym now ∙ (found bytes h).0))
selected_by before mid name (Some files) None chosen are is tells now found absent untold =
    let l : Lacks before name = record { tells = ap is_some are; under = is } in
    inl ((absent l).chosen chosen now)

-- after a selection that succeeded, no other name is selected
pub selected_is : {X E : Type 0} (before mid : ShelfState) (name : List ℕ) (x : X) → IsSound before
    → Selects {X = X} {E = E} before name (Ok x) mid
    → (chosen : Option (List ℕ)) → mid.selected ≡ Some chosen → (chosen ≡ None) ⊎ (chosen ≡ Some name)
selected_is before mid name x sound selects chosen is =
    selected_by before mid name before.files (bytes_under before name) chosen refl refl
    (known_left before mid chosen sound selects.keeps is) is selects.found selects.absent selects.untold

-- where it isn't the name itself, no name is selected
pub nothing_selected : (chosen : Option (List ℕ)) (name : List ℕ) → (chosen ≡ None) ⊎ (chosen ≡ Some name)
    → chosen ≢ Some name → chosen ≡ None
nothing_selected chosen name (inl none) other = none
nothing_selected chosen name (inr is) other = absurd (other is)

-- of a name that is known to be missing, no bytes are left
pub missing_left : {X E : Type 0} (before mid : ShelfState) (name : List ℕ) (x : X)
    → Selects {X = X} {E = E} before name (Ok x) mid
    → Lacks before name → is_some before.left ≡ true → mid.left ≡ Some []
missing_left before mid name x selects lacks tells =
    nothing_left mid.left (selects.keeps.tells_left ∙ tells) (selects.absent lacks).rest
  where
    nothing_left : (left : Option (List ℕ)) → is_some left ≡ true
        → ((bytes : List ℕ) → left ≡ Some bytes → bytes ≡ []) → left ≡ Some []
    nothing_left None reported rest = cc
    nothing_left (Some bytes) reported rest = ap Some (rest bytes refl)

-- of a name under which these bytes are given, these are left
pub given_left : {X E : Type 0} (before mid : ShelfState) (name bytes : List ℕ) (x : X)
    → Selects {X = X} {E = E} before name (Ok x) mid → Gives before name bytes → mid.left ≡ Some bytes
given_left before mid name bytes x selects (inl holds) = (selects.found bytes holds).1
given_left before mid name bytes x selects (inr lacks) =
    missing_left before mid name x selects lacks.0 lacks.1 ∙ ap Some (sym lacks.2)

-- what is held and given, where the files stay
pub under_same : (before mid : ShelfState) (name : List ℕ) → KeepsFiles before mid
    → bytes_under mid name ≡ bytes_under before name
under_same before mid name keeps =
    ap (λ (files : Option (List ℕ → Option (List ℕ))). option_and_then (λ (f : List ℕ → Option (List ℕ)). f name) files)
    keeps.files

pub holds_still : (before mid : ShelfState) (name bytes : List ℕ) → KeepsFiles before mid → Holds before name bytes
    → Holds mid name bytes
holds_still before mid name bytes keeps holds = record {
  under = under_same before mid name keeps ∙ holds.under;
  tells = keeps.tells_left ∙ holds.tells;
}

pub gives_still : (before mid : ShelfState) (name bytes : List ℕ) → KeepsFiles before mid → Gives before name bytes
    → Gives mid name bytes
gives_still before mid name bytes keeps (inl holds) = inl (holds_still before mid name bytes keeps holds)
gives_still before mid name bytes keeps (inr lacks) = inr (
  record {
    tells = ap is_some keeps.files ∙ lacks.0.tells;
    under = under_same before mid name keeps ∙ lacks.0.under;
  },
  keeps.tells_left ∙ lacks.1,
  lacks.2,
)

-- ---- what was put

pub put_either : {X : Type 0} (text : List ℕ) (s t : SinkState) → GainsPart s text t ⊎ (Gains s text t × X) → HasPut s t
put_either text s t (inl part) = record { part = take part.size text; gains = part.gains }
put_either text s t (inr all) = record { part = text; gains = all.0 }

-- the run ended with a flush
abbrev pub is_flushed : Status → Bool
is_flushed statuses.Done = true
is_flushed statuses.Refusals = true
is_flushed statuses.Script = true
is_flushed _ = false

unflushed_unless : (status : Status) → status ≢ statuses.Done → status ≢ statuses.Refusals → status ≢ statuses.Script
    → is_flushed status ≡ false
unflushed_unless statuses.Done done refusals other = absurd (done refl)
unflushed_unless statuses.Refusals done refusals other = absurd (refusals refl)
unflushed_unless statuses.Usage done refusals other = refl
unflushed_unless statuses.Script done refusals other = absurd (other refl)
unflushed_unless statuses.ReadFault done refusals other = refl
unflushed_unless statuses.WriteFault done refusals other = refl
unflushed_unless statuses.NoMemory done refusals other = refl
unflushed_unless statuses.TooLong done refusals other = refl
unflushed_unless statuses.NotSeven done refusals other = refl

-- bytes were put and nothing flushed; or the run ended with a flush, and the sink kept its room
abbrev pub EndsPut : Status → SinkState → SinkState → Type 0
EndsPut status s t = HasPut s t ⊎ ((is_flushed status ≡ true) × (t.room ≡ s.room))

pub put_unless : (status : Status) (s t : SinkState) → EndsPut status s t → status ≢ statuses.Done
    → status ≢ statuses.Refusals → status ≢ statuses.Script → (part : List ℕ) × Gains s part t
put_unless status s t (inl put) done refusals other = (put.part, put.gains)
put_unless status s t (inr ended) done refusals other =
    let no : false ≡ true = sym (unflushed_unless status done refusals other) ∙ ended.0 in
    cc

pub room_kept : (status : Status) (s t : SinkState) → EndsPut status s t → t.room ≡ s.room
room_kept status s t (inl put) = put.gains.room
room_kept status s t (inr ended) = ended.1
