-- Worked cases: lines that stand for nothing, and bytes that wait.
use Rattle.std.proofs.Common.{◌≡◌, List, [], ◌∷◌, false, arith, refl}
use Rattle.cept_editor.specs.Meaning.{line_meaning}
use Rattle.cept_profile.specs.State.{state}
use Rattle.cept_live.specs.declared.lines.Lined.{Lined}
use Rattle.cept_live.specs.declared.lines.Lined.TheVariants as answers
use Rattle.cept_live.specs.declared.notice.Notice.{Notice}
use Rattle.cept_live.specs.EditLines.{IsReady, LineDone}
use Rattle.cept_live.specs.Live.{LiveState, live_start, parser_start}
use Rattle.cept_live.specs.States.{control_record, state_record}

empty_line_makes_nothing : (old new : LiveState) (list now : List Notice) (answer : Lined) → IsReady old list
    → LineDone [] old list answer new now → answer ≡ answers.Nothing
unfolding line_meaning
empty_line_makes_nothing old new list now answer ready done = (done.meant ready (omega arith)).0

comment_makes_nothing : (old new : LiveState) (list now : List Notice) (answer : Lined) → IsReady old list
    → LineDone (0x23 ∷ 0x41 ∷ []) old list answer new now → answer ≡ answers.Nothing
unfolding line_meaning
comment_makes_nothing old new list now answer ready done = (done.meant ready (omega arith)).0

-- 376 bytes were fed, of which two wait
waiting_bytes_are_counted : state_record (record live_start {
  parser = record parser_start { place = 376; pending = 0x1B ∷ 0x22 ∷ [] };
}) ≡ control_record 376 2 false (state []).control
waiting_bytes_are_counted = refl
