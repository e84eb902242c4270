use Rattle.std.proofs.Common.{◌∙◌, ap, sym, ◌++◌}
use Rattle.std.proofs.lemmas.Result.{err_from_is_err_and}
use Rattle.cept_run.proofs.GeneratedPages.{put_nothing_yet, put_piece, put_part, put_to_last}
use Rattle.cept_run.proofs.generated.put_pieces.Goals as goal

pub loop-piece-init : goal.loop-piece-init
loop-piece-init g c = put_nothing_yet _ _ _ c.new-generator.ensures

pub loop-piece-preserved : goal.loop-piece-preserved
loop-piece-preserved g c = put_piece _ _ _ _ _ _ _ c.loop-piece.invariant
    (c.in-Some.ensures.next ∙ ap (λ l. l ++ c.next.new.self) (sym c.as_slice.ensures.value)) c.in_ok-put_all.ensures.puts

pub returns-in_err-put_all : goal.returns-in_err-put_all
returns-in_err-put_all g c =
    rw (err_from_is_err_and c.from_residual.result c.from_residual.ensures.1).1 (put_part _ _ _ _ _ _ _
    c.loop-piece.invariant (c.in-Some.ensures.next ∙ ap (λ l. l ++ c.next.new.self) (sym c.as_slice.ensures.value))
    c.in_err-put_all.ensures.puts)

pub returns : goal.returns
returns g c = put_to_last _ _ _ _ c.loop-piece.invariant c.in_default.ensures.next.0
