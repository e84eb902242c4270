use Rattle.std.proofs.Common.{◌≡◌, ◌≤◌, refl, sym, ◌∙◌, ap, arith, [], ◌+◌, ◌^◌, min, take, drop, length}
use Rattle.std.proofs.Common.{◌++◌, length-append, Some}
use Rattle.std.proofs.lemmas.List.{length-take-le}
use Rattle.std.proofs.lemmas.Result.{err_from_is_err_and}
use Rattle.cept_outside.proofs.Laws.{all_taken}
use Rattle.cept_run.proofs.PagesInPieces.{KeepsShelf-none, keeps_shelf_more, Rose-since, front_with, left_more}
use Rattle.cept_run.proofs.PagesInPieces.{front_of_piece, taken_there}
use Rattle.cept_run.proofs.ConvertedPieces.{after_read, nothing_converted, piece_stopped, page_ended}
use Rattle.cept_run.proofs.converting.convert_page.Goals as goal

pub loop-count-init : goal.loop-count-init
loop-count-init g c = record {
  few = omega arith;
  taken = c.requires.selected;
  unended = c.requires.unended;
  keeps = KeepsShelf-none (g.F.Shelf.state c.args.shelf.now);
  stays = refl;
  come = record {
    bytes = [];
    count = refl;
    so = nothing_converted c.args.action _ _ c.new-path.ensures;
    known = λ page is. (refl, is);
  };
}

pub loop-count-preserved : goal.loop-count-preserved
loop-count-preserved g c =
    let so_far = c.loop-count.invariant in
    let come = so_far.come in
    let all : c.min-fitting.result ≡ c.in-Ok.count = omega arith in
    let within : c.min-fitting.result ≤ length c.take.new.into = omega (arith, c.in-Ok.ensures.takes.within) in
    record {
      few = omega arith;
      taken = omega (arith, c.in-Ok.ensures.takes.taken);
      unended = c.in-Ok.ensures.takes.goes_on (omega (arith, c.if-count-eq0.false)) ∙ so_far.unended;
      keeps = keeps_shelf_more _ _ _ _ _ so_far.keeps c.take.ensures.takes c.take.ensures.cause.later;
      stays = c.in-Ok.ensures.cause.stays ∙ so_far.stays;
      come = record {
        bytes = come.bytes ++ take c.min-fitting.result c.take.new.into;
        count = omega (
          arith,
          length-append come.bytes (take c.min-fitting.result c.take.new.into),
          come.count,
          length-take-le c.min-fitting.result c.take.new.into within,
        );
        so = c.in_ok-put_piece.ensures c.args.action come.bytes _ come.so;
        known = λ page is.
            let known = come.known page is in
            let moved = sym known.1 ∙ c.in-Ok.ensures.takes.moved in (
              front_with page c.take.new.into come.bytes c.loop-count.place c.in-Ok.count c.min-fitting.result _
                  known.0 moved c.in-Ok.ensures.takes.within (omega arith),
              left_more page c.take.new.into c.loop-count.place c.in-Ok.count _ moved c.in-Ok.ensures.takes.within
                  ∙ ap (λ k. Some (drop (c.loop-count.place + k) page)) (sym all),
            );
      };
    }

pub returns-in_default-clause-ends : goal.returns-in_default-clause-ends
returns-in_default-clause-ends g c =
    let come = c.loop-count.invariant.come in
    let taken = c.in_default.ensures.takes.failed.1 ∙ c.loop-count.invariant.taken in
    record {
      takes = record {
        cause = Rose-since _ _ _ c.loop-count.invariant.stays c.in_default.ensures.cause.failed;
        few = omega (arith, taken, c.loop-count.invariant.few);
        unended = c.in_default.ensures.takes.failed.2 ∙ c.loop-count.invariant.unended;
      };
      bytes = come.bytes;
      taken = taken ∙ sym come.count;
      known = λ page is. (come.known page is).0 ∙ ap (λ k. take k page) (sym taken);
      read = after_read c.args.action come.bytes _ come.so.stands;
      puts = come.so.puts;
    }

pub returns-then-count-eq0-clause-ends : goal.returns-then-count-eq0-clause-ends
returns-then-count-eq0-clause-ends g c =
    let come = c.loop-count.invariant.come in
    page_ended c.args.action _ _ _ _ come.bytes (record {
      known = λ page is.
          let known = come.known page is in
          known.0 ∙ all_taken page c.loop-count.place (c.in-Ok.ensures.takes.end c.if-count-eq0.true _ known.1);
      taken = record {
        taken = omega (arith, c.in-Ok.ensures.takes.taken, come.count, c.loop-count.invariant.taken, c.if-count-eq0.true, c.loop-count.invariant.few);
        ended = c.in-Ok.ensures.takes.ended c.if-count-eq0.true;
      };
      few = omega (arith, come.count, c.loop-count.invariant.few);
      stays = c.in-Ok.ensures.cause.stays ∙ c.loop-count.invariant.stays;
    }) (after_read c.args.action come.bytes _ come.so.stands) c.put_end.result
    (c.put_end.ensures c.args.action come.bytes _ come.so)

pub returns-in_err-put_piece-clause-ends : goal.returns-in_err-put_piece-clause-ends
returns-in_err-put_piece-clause-ends g c =
    let so_far = c.loop-count.invariant in
    let come = so_far.come in
    let k = c.loop-count.place + c.min-fitting.result in
    let front = come.bytes ++ take c.min-fitting.result c.take.new.into in
    let bytes = come.bytes ++ take c.in-Ok.count c.take.new.into in
    let within : c.in-Ok.count ≤ length c.take.new.into = omega (arith, c.in-Ok.ensures.takes.within) in
    let fits : c.min-fitting.result ≤ c.in-Ok.count = omega arith in
    let taken : (g.F.Shelf.state c.take.new.self).taken ≡ c.loop-count.place + c.in-Ok.count =
    omega (arith, c.in-Ok.ensures.takes.taken, within, so_far.taken, so_far.few) in
    let limit : min (g.F.Shelf.state c.take.new.self).taken (2 ^ 24) ≡ k = omega (arith, taken, so_far.few) in
    let part : front ≡ take k bytes =
    sym (front_of_piece come.bytes c.take.new.into c.loop-count.place c.in-Ok.count c.min-fitting.result come.count fits)
    in
    let p = err_from_is_err_and c.from_residual.result c.from_residual.ensures.1 in
    rw (p.1, p.2) (piece_stopped c.args.action _ _ _ _ bytes front _
    (record {
      taken = omega (
        arith,
        taken,
        length-append come.bytes (take c.in-Ok.count c.take.new.into),
        come.count,
        length-take-le c.in-Ok.count c.take.new.into within,
      );
      known = λ page is.
          let known = come.known page is in
          let moved = sym known.1 ∙ c.in-Ok.ensures.takes.moved in (
            omega (
              arith,
              taken,
              taken_there page c.take.new.into c.loop-count.place c.in-Ok.count _ moved c.in-Ok.ensures.takes.within,
              c.if-count-eq0.false,
            ),
            front_with page c.take.new.into come.bytes c.loop-count.place c.in-Ok.count c.in-Ok.count _ known.0 moved
                c.in-Ok.ensures.takes.within (omega arith) ∙ ap (λ m. take m page) (sym taken),
          );
      unended = c.in-Ok.ensures.takes.goes_on (omega (arith, c.if-count-eq0.false)) ∙ so_far.unended;
      stays = c.in-Ok.ensures.cause.stays ∙ so_far.stays;
    })
    (part ∙ ap (λ m. take m bytes) (sym limit))
    (omega (
      arith,
      limit,
      length-append come.bytes (take c.min-fitting.result c.take.new.into),
      come.count,
      length-take-le c.min-fitting.result c.take.new.into (omega (arith, within, fits)),
    ))
    (λ page is.
    let known = come.known page is in
    front_with page c.take.new.into come.bytes c.loop-count.place c.in-Ok.count c.min-fitting.result _ known.0
    (sym known.1 ∙ c.in-Ok.ensures.takes.moved) c.in-Ok.ensures.takes.within fits ∙ ap (λ m. take m page) (sym limit))
    _ (c.in_err-put_piece.ensures c.args.action come.bytes _ come.so))

pub returns-then-fitting-count-clause-ends : goal.returns-then-fitting-count-clause-ends
returns-then-fitting-count-clause-ends g c =
    let come = c.loop-count.invariant.come in
    let limit : c.loop-count.place + c.min-fitting.result ≡ 2 ^ 24 = omega arith in
    let within : c.min-fitting.result ≤ length c.take.new.into = omega (arith, c.in-Ok.ensures.takes.within) in
    let bytes = come.bytes ++ take c.min-fitting.result c.take.new.into in
    let so = c.in_ok-put_piece.ensures c.args.action come.bytes _ come.so in
    record {
      takes = record {
        cause = omega (arith, c.in-Ok.ensures.takes.taken);
        longer = λ page is.
            let known = come.known page is in
            omega (
              arith,
              taken_there page c.take.new.into c.loop-count.place c.in-Ok.count _
                  (sym known.1 ∙ c.in-Ok.ensures.takes.moved) c.in-Ok.ensures.takes.within,
            );
        stays = c.in-Ok.ensures.cause.stays ∙ c.loop-count.invariant.stays;
      };
      bytes = bytes;
      count = omega (
        arith,
        length-append come.bytes (take c.min-fitting.result c.take.new.into),
        come.count,
        length-take-le c.min-fitting.result c.take.new.into within,
        limit,
      );
      known = λ page is.
          let known = come.known page is in
          front_with page c.take.new.into come.bytes c.loop-count.place c.in-Ok.count c.min-fitting.result _ known.0
          (sym known.1 ∙ c.in-Ok.ensures.takes.moved) c.in-Ok.ensures.takes.within (omega arith)
          ∙ ap (λ k. take k page) limit;
      read = after_read c.args.action bytes _ so.stands;
      puts = so.puts;
    }
