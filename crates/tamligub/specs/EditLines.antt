-- What a call answers that makes a line of a script. This project's own.
use Rattle.std.specs.Prelude.{◌≡◌, ℕ, List}
use Rattle.cept_codes.specs.declared.line_reason.LineReason.{LineReason}
use Rattle.cept_codes.specs.declared.line_reason.LineReason.TheVariants as reasons
use Rattle.cept_live.specs.declared.lines.Lined.{Lined}
use Rattle.cept_live.specs.declared.lines.Lined.TheVariants as answers
use Rattle.cept_live.specs.declared.notice.Notice.{Notice}
use Rattle.cept_live.specs.EditLines.{LineDone}
use Rattle.cept_live.specs.Live.{LiveState}

-- the number of a reason
abbrev pub fault_number : LineReason → ℕ
fault_number reasons.UnknownWord = 1
fault_number reasons.WrongCount = 2
fault_number reasons.BadNumber = 3
fault_number reasons.BadText = 4
fault_number reasons.BadHex = 5
fault_number reasons.BadBytes = 6

-- the answer of a line
abbrev pub line_answer : Lined → ℕ
line_answer (answers.Made notices) = 0
line_answer answers.Early = 1
line_answer answers.Nothing = 2
line_answer (answers.Bad reason) = 3
line_answer answers.NoMemory = 6
line_answer answers.TooLong = 7

-- the number of its notices
abbrev pub line_notices : Lined → ℕ
line_notices (answers.Made notices) = notices
line_notices answers.Early = 0
line_notices answers.Nothing = 0
line_notices (answers.Bad reason) = 0
line_notices answers.NoMemory = 0
line_notices answers.TooLong = 0

-- the number of its reason
abbrev pub line_fault : Lined → ℕ
line_fault (answers.Made notices) = 0
line_fault answers.Early = 0
line_fault answers.Nothing = 0
line_fault (answers.Bad reason) = fault_number reason
line_fault answers.NoMemory = 0
line_fault answers.TooLong = 0

-- what became of the line is told by three numbers
pub record AnswersLine (line : List ℕ) (old : LiveState) (list : List Notice) (answer notices reason : ℕ) (new : LiveState)
    (now : List Notice) : Type 0 where
  pub lined : Lined
  pub done : LineDone line old list lined new now
  pub answer_is : answer ≡ line_answer lined
  pub notices_are : notices ≡ line_notices lined
  pub reason_is : reason ≡ line_fault lined
