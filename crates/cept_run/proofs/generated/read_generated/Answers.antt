use Rattle.std.proofs.Common.{◌+◌, ◌++◌, length, sym, ◌∙◌, ap, arith}
use Rattle.std.proofs.lemmas.Result.{err_from_is_err_and}
use Rattle.cept_run.proofs.GeneratedPages.{read_nothing_yet, read_length, read_piece, cut_in_piece}
use Rattle.cept_run.proofs.GeneratedPages.{count_of_page, reported_to_end, cut_at_last}
use Rattle.cept_run.proofs.generated.read_generated.Goals as goal

pub loop-piece-init : goal.loop-piece-init
loop-piece-init g c = read_nothing_yet _ _ _ _ _ c.new-generator.ensures (c.requires.fresh _)

pub read_piece-requires-clause-few : goal.read_piece-requires-clause-few
read_piece-requires-clause-few g c =
    let has = c.loop-piece.invariant in
    omega (
      arith,
      has.read.parser.place,
      has.count_is,
      read_length _ _ _ _ c.as_slice.result.now _ _ _ _ has
          (c.in-Some.ensures.next ∙ ap (λ l. l ++ c.next.new.self) (sym c.as_slice.ensures.value)),
      c.generated_pages_are_short.ensures.bytes c.args.number,
    )

pub loop-piece-preserved : goal.loop-piece-preserved
loop-piece-preserved g c =
    let has = c.loop-piece.invariant in
    read_piece _ _ _ _ c.as_slice.result.now _ _ _ _ has
    (c.in-Some.ensures.next ∙ ap (λ l. l ++ c.next.new.self) (sym c.as_slice.ensures.value)) _ _ _
    (ap (λ n. c.loop-piece.bytes + n) (c.len.ensures.value ∙ sym (ap length c.as_slice.ensures.value)))
    c.in_ok-read_piece.ensures.running
    (c.in_ok-read_piece.ensures.read _ has.front _ has.read)

pub returns-in_err-read_piece : goal.returns-in_err-read_piece
returns-in_err-read_piece g c =
    let has = c.loop-piece.invariant in
    let piece = c.as_slice.result.now in
    rw (err_from_is_err_and c.from_residual.result c.from_residual.ensures.1).1 (cut_in_piece _ _ _ _ piece _ _ _ _ has
    (c.in-Some.ensures.next ∙ ap (λ l. l ++ c.next.new.self) (sym c.as_slice.ensures.value)) _ _
    (c.reading_goes_on.ensures.bytes (has.front ++ piece) c.next.new.self)
    (c.in_err-read_piece.ensures.cut _ has.front _ has.read))

pub finish-requires-clause-few : goal.finish-requires-clause-few
finish-requires-clause-few g c =
    let has = c.loop-piece.invariant in
    omega (
      arith,
      has.read.parser.place,
      has.count_is,
      count_of_page _ _ _ _ _ _ _ has c.in_default.ensures.next.0,
      c.generated_pages_are_short.ensures.bytes c.args.number,
    )

pub returns-in_err-finish : goal.returns-in_err-finish
returns-in_err-finish g c =
    let has = c.loop-piece.invariant in
    rw (err_from_is_err_and c.from_residual-in_err-finish.result c.from_residual-in_err-finish.ensures.1).1
    (cut_at_last _ _ _ _ _ _ _ has c.in_default.ensures.next.0 _ (c.in_err-finish.ensures.cut _ has.front _ has.read))

pub returns : goal.returns
returns g c =
    let has = c.loop-piece.invariant in (
      count_of_page _ _ _ _ _ _ _ has c.in_default.ensures.next.0,
      reported_to_end _ _ _ _ _ _ _ has c.in_default.ensures.next.0 c.finish.new.self _
          (c.in_ok-finish.ensures.reported _ has.front _ has.read),
    )
