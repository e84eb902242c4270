-- Worked cases: bounds of what a decoder takes.
use Rattle.std.proofs.Common.{◌≡◌, ℕ, List, length, true, false, arith, sym, true≢false, ◌∙◌, inl, inr}
use Rattle.cept_live.specs.declared.lines.Lined.{Lined}
use Rattle.cept_live.specs.declared.lines.Lined.TheVariants as answers
use Rattle.cept_live.specs.declared.notice.Notice.{Notice}
use Rattle.cept_live.specs.EditLines.{IsReady, LineDone, MeaningDone}
use Rattle.cept_live.specs.Live.{LiveState, TakesNoMore}
use Rattle.cept_editor.specs.Meaning.{line_meaning}

-- a line of 1,048,576 bytes is looked at, one of a byte more is too long
longest_line_is_meant : (line : List ℕ) (old new : LiveState) (list now : List Notice) (answer : Lined)
    → length line ≡ 1048576 → IsReady old list → LineDone line old list answer new now
    → MeaningDone (line_meaning line) old list answer new now
longest_line_is_meant line old new list now answer size ready done = done.meant ready (omega (arith, size))

longer_line_is_too_long : (line : List ℕ) (old new : LiveState) (list now : List Notice) (answer : Lined)
    → length line ≡ 1048577 → IsReady old list → LineDone line old list answer new now → answer ≡ answers.TooLong
longer_line_is_too_long line old new list now answer size ready done = (done.too_long ready (omega (arith, size))).0

-- the last byte that is taken is the 4,294,967,296th
last_byte_is_taken : (live : LiveState) → live.parser.finished ≡ false → live.parser.place ≡ 4294967295 → TakesNoMore live → ⊥
last_byte_is_taken live running place (inl finished) = true≢false (sym finished ∙ running)
last_byte_is_taken live running place (inr many) = omega (arith, place, many)

-- a list of 960 notices has room for a line
places_are_room : (old : LiveState) (list : List Notice) → old.parser.finished ≡ true → length list ≡ 960 → IsReady old list
places_are_room old list finished size = record { finished = finished; enough = omega (arith, size) }
