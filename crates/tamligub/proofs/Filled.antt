-- A run over a shelf of two files and a slice, as a call, and what is no run.
use Rattle.std.proofs.Common.{◌≡◌, ℕ, ◌<◌, Bool, true, false, cond, List, [], ◌∷◌, ◌++◌, Some, None, codes}
use Rattle.std.proofs.Common.{option_map, is_some, length, take, drop, refl, sym, ap, subst, ◌∙◌, arith, length-take}
use Rattle.std.proofs.Common.{take-append-drop, bytes_eq}
use Rattle.std.proofs.lemmas.Option.{none-some}
use Rattle.cept_outside.specs.ShelfState.{ShelfState, bytes_under, empty_shelf}
use Rattle.cept_outside.specs.SinkState.{SinkState, empty_sink}
use Rattle.cept_outside.specs.SliceSink.{IsFilled}
use Rattle.cept_outside.specs.Slices.{bytes_in}
use Rattle.cept_outside.specs.declared.slice_shelf.SliceFile.{SliceFile}
use Rattle.cept_profile.specs.Look.{grid}
use Rattle.cept_run.specs.Outside.{Outside}
use Rattle.cept_run.specs.Run.{Runs}
use Rattle.cept_run.specs.declared.run.Status.{Status}
use Rattle.cept_run.specs.declared.run.Status.TheVariants as statuses
use Rattle.cept_run.specs.Words.{request_of}
use Rattle.tamligub.specs.Called.{Holding, HasRun, RunsOn, file_in}
use Rattle.tamligub.specs.Words.{words_for}

-- ---- the shelf

-- the shelf of these two files
abbrev pub shelf_of : SliceFile → SliceFile → ShelfState
shelf_of first second = record empty_shelf { files = Some (bytes_in (first ∷ second ∷ [])) }

bytes_by : (first second : SliceFile) (b c : Bool)
    → option_map (λ (file : SliceFile). file.bytes.now) (cond b (Some first) (cond c (Some second) None))
    ≡ cond b (Some first.bytes.now) (cond c (Some second.bytes.now) None)
bytes_by first second true c = refl
bytes_by first second false true = refl
bytes_by first second false false = refl

module _ (first second : SliceFile) (first_is : first.name.now ≡ codes "page") (second_is : second.name.now ≡ codes "script") where
  two_files : (name : List ℕ) → bytes_under (shelf_of first second) name ≡ file_in first.bytes.now second.bytes.now name
  two_files name =
      bytes_by first second (bytes_eq first.name.now name) (bytes_eq second.name.now name)
      ∙ ap (λ f. cond (bytes_eq f name) (Some first.bytes.now) (cond (bytes_eq second.name.now name) (Some second.bytes.now) None)) first_is
      ∙ ap (λ s. cond (bytes_eq (codes "page") name) (Some first.bytes.now) (cond (bytes_eq s name) (Some second.bytes.now) None)) second_is

  pub runs_on : (word : List ℕ) (given number : ℕ) (start : SinkState) (before after : Outside) (status : Status)
      → before.shelf ≡ shelf_of first second → after.shelf.faults ≡ after.shelf.missed → before.glass.grid ≡ grid []
      → before.sink ≡ start → Runs (words_for word given number) before after status
      → RunsOn word given number first.bytes.now second.bytes.now start after.sink status
  runs_on word given number start before after status fresh missed blank begins runs =
      let files : (name : List ℕ) → bytes_under before.shelf name ≡ file_in first.bytes.now second.bytes.now name =
      λ name. ap (λ (s : ShelfState). bytes_under s name) fresh ∙ two_files name in
      let tells : is_some before.shelf.left ≡ true = ap (λ (s : ShelfState). is_some s.left) fresh in
      record {
        before = before;
        after = after;
        has_page = record { under = files (codes "page"); tells = tells };
        has_script = record { under = files (codes "script"); tells = tells };
        files = files;
        faultless = ap (λ (s : ShelfState). s.faults) fresh;
        unmissed = ap (λ (s : ShelfState). s.missed) fresh;
        missed = missed;
        blank = blank;
        before_sink = begins;
        after_sink = refl;
        runs = runs;
      }

-- ---- words that are no request

-- such words end with status 2, and nothing is touched
pub runs_unasked : (words : List (List ℕ)) (before : Outside) → request_of words ≡ None
    → Runs words before before statuses.Usage
runs_unasked words before none = record {
  usage = ((λ e. none), (λ e. refl));
  untouched = λ e. refl;
  request = λ request asked. absurd (none-some request (sym none ∙ asked));
  completes = λ request page asks few short shelf sink. absurd (none-some request (sym none ∙ asks.asked));
}

-- ---- the slice

module _ (old new : List ℕ) (put : ℕ) (end : SinkState) (filled : IsFilled old new put)
    (bytes : end.bytes ≡ Some (take put new)) where
  long : length (take put new) ≡ put
  long = omega (arith, length-take put new, filled.within)

  pub held : Holding (take put new) old new put
  held = record {
    front = sym (take-append-drop put new) ∙ ap (λ l. take put new ++ l) (filled.rest ∙ ap (λ n. drop n old) (sym long));
    count = sym long;
  }

  -- where a run was over the slice
  pub has_run : (word : List ℕ) (given number : ℕ) (page script : List ℕ) (status : Status) (start mid : SinkState)
      (answer : Status) → start ≡ empty_sink (length old) → end ≡ mid → status ≡ answer
      → RunsOn word given number page script start mid answer → (0 < end.faults → put ≡ length old)
      → HasRun word given number page script old new put status
  has_run word given number page script status start mid answer fresh same is runs full = record {
    end = end;
    runs = subst (λ (s : SinkState). RunsOn word given number page script s end status) fresh
        (subst (λ (e : SinkState). RunsOn word given number page script start e status) (sym same)
        (subst (λ (a : Status). RunsOn word given number page script start mid a) (sym is) runs));
    text = take put new;
    is = bytes;
    full = λ some. long ∙ full some;
    within = omega (arith, long, filled.within, filled.room);
    holding = held;
  }
