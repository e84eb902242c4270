-- A page that was fed, and lines of a script made after it: the editor that they make.
use Rattle.std.proofs.Common.{◌≡◌, ℕ, List, [], ◌∷◌, refl, sym, ap, ◌∙◌}
use Rattle.std.specs.List.{AllByRecursion}
use Rattle.cept_editor.specs.Applying.{editor_after_step, editor_after_steps}
use Rattle.cept_editor.specs.Kept.{EditorState, StandsAfter, editor_after, kept, none_kept}
use Rattle.cept_editor.specs.Meaning.{Edit, IsValidStep, Step, UndoRedo}
use Rattle.cept_editor.proofs.Laws.{StandsAfter-start, editor_after-steps, idle_undo_redo}
use Rattle.cept_parser.specs.Items.{commands}
use Rattle.cept_live.specs.declared.lines.Lined.{Lined}
use Rattle.cept_live.specs.declared.lines.Lined.TheVariants as answers
use Rattle.cept_live.specs.declared.notice.Notice.{Notice}
use Rattle.cept_live.specs.EditLines.{AreStepsOf, IsStepOf, StepDone, editor_of}
use Rattle.cept_live.specs.Live.{Ends, HasFed, LiveState}

-- where it stands before the first line
pub StandsAfter-ended : (old new : LiveState) (list now : List Notice) (from to : ℕ) (bytes : List ℕ)
    → Ends old list from new to now → HasFed old bytes → StandsAfter (editor_of new) (commands bytes) none_kept
StandsAfter-ended old new list now from to bytes ends has =
    let stands = ends.stands bytes has in
    StandsAfter-start (editor_of new) (commands bytes) stands.valid stands.is (ends.past ∙ has.past) (ends.future ∙ has.future)

-- ---- one line

step_done : (step : Step) (old new : LiveState) (list now : List Notice) (answer : Lined)
    → StepDone step old list answer new now → (answer ≡ answers.NoMemory → ⊥)
    → (editor_of new ≡ editor_after_step (editor_of old) step) × IsValidStep step
step_done step old new list now (answers.Made notices) done some = (done.made, done.valid)
step_done (UndoRedo which) old new list now answers.Nothing done some =
    (ap editor_of done.1.live ∙ sym (idle_undo_redo (editor_of old) which done.0), tt)
step_done (Edit cs) old new list now answers.Nothing done some = absurd done.0
step_done step old new list now answers.NoMemory done some = absurd (some refl)
step_done step old new list now answers.Early done some = absurd done
step_done step old new list now (answers.Bad reason) done some = absurd done
step_done step old new list now answers.TooLong done some = absurd done

pub made-by : (step : Step) (old new : LiveState) → IsStepOf step old new
    → editor_of new ≡ editor_after_step (editor_of old) step
made-by step old new made = (step_done step old new made.list made.now made.answer made.done made.memory).0

-- ---- all lines

all_made : (steps : List Step) (old new : LiveState) → AreStepsOf steps old new
    → (editor_of new ≡ editor_after_steps (editor_of old) steps) × AllByRecursion IsValidStep steps
unfolding AreStepsOf editor_after_steps
all_made [] old new is = (ap editor_of is, tt)
all_made (step ∷ more) old new (mid, made, rest) =
    let first = step_done step old mid made.list made.now made.answer made.done made.memory in
    let later = all_made more mid new rest in (
      later.0 ∙ ap (λ (e : EditorState). editor_after_steps e more) first.0,
      (first.1, later.1),
    )

-- the screen, the states behind it and those ahead of it are those of the commands that remain
pub edited : (old mid new : LiveState) (list now : List Notice) (from to : ℕ) (bytes : List ℕ) (steps : List Step)
    → HasFed old bytes → Ends old list from mid to now → AreStepsOf steps mid new
    → editor_of new ≡ editor_after (commands bytes) (kept steps)
edited old mid new list now from to bytes steps has ends are =
    let stands = ends.stands bytes has in
    let all = all_made steps mid new are in
    all.0 ∙ editor_after-steps (editor_of mid) (commands bytes) steps stands.valid all.1 stands.is (ends.past ∙ has.past)
    (ends.future ∙ has.future)
