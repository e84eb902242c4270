use Rattle.std.proofs.Common.{◌≡◌, ◌≤◌, refl, sym, ◌∙◌, ap, arith, [], ◌+◌, ◌^◌, min, inl, inr, take, drop, length}
use Rattle.std.proofs.Common.{◌++◌, take-append-drop, length-append, Some}
use Rattle.std.proofs.lemmas.List.{length-take-le}
use Rattle.std.proofs.lemmas.Result.{err_from_is_err_and}
use Rattle.cept_parser.specs.Items.{items}
use Rattle.cept_outside.proofs.Laws.{all_taken}
use Rattle.cept_editor.specs.Made.{output_of}
use Rattle.cept_run.proofs.PagesInPieces.{KeepsShelf-none, keeps_shelf_more, Rose-since, front_with, left_more}
use Rattle.cept_run.proofs.PagesInPieces.{front_of_piece, taken_there, more_items}
use Rattle.cept_run.proofs.page.read_page.Goals as goal

pub loop-count-init : goal.loop-count-init
loop-count-init g c = record {
  few = omega arith;
  running = (c.requires.fresh (output_of (g.T.Sink.state c.args.sink.now) (g.G.Glass.state c.args.glass.now))).parser.running;
  taken = c.requires.selected;
  unended = c.requires.unended;
  keeps = KeepsShelf-none (g.F.Shelf.state c.args.shelf.now);
  stays = refl;
  come = record { bytes = []; count = refl; read = c.requires.fresh _; known = λ page is. (refl, is) };
}

pub read_piece-requires-clause-few : goal.read_piece-requires-clause-few
read_piece-requires-clause-few g c =
    let come = c.loop-count.invariant.come in
    omega (
      arith,
      come.read.parser.place,
      come.count,
      c.loop-count.invariant.few,
      length-take-le c.min-fitting.result c.take.new.into
          (let e : c.min-fitting.result ≤ length c.take.new.into = omega (arith, c.in-Ok.ensures.takes.within) in e),
    )

pub finish-requires-clause-few : goal.finish-requires-clause-few
finish-requires-clause-few g c =
    let come = c.loop-count.invariant.come in
    omega (arith, come.read.parser.place, come.count, c.loop-count.invariant.few)

pub loop-count-preserved : goal.loop-count-preserved
loop-count-preserved g c =
    let so_far = c.loop-count.invariant in
    let come = so_far.come in
    let all : c.min-fitting.result ≡ c.in-Ok.count = omega arith in
    let within : c.min-fitting.result ≤ length c.take.new.into = omega (arith, c.in-Ok.ensures.takes.within) in
    record {
      few = omega arith;
      running = c.in_ok-read_piece.ensures.running;
      taken = omega (arith, c.in-Ok.ensures.takes.taken);
      unended = c.in-Ok.ensures.takes.goes_on (omega (arith, c.if-count-eq0.false)) ∙ so_far.unended;
      keeps = keeps_shelf_more _ _ _ _ _ so_far.keeps c.take.ensures.takes c.take.ensures.cause.later;
      stays = c.in-Ok.ensures.cause.stays ∙ so_far.stays;
      come = record {
        bytes = come.bytes ++ take c.min-fitting.result c.take.new.into;
        count = omega (
          arith,
          length-append come.bytes (take c.min-fitting.result c.take.new.into),
          come.count,
          length-take-le c.min-fitting.result c.take.new.into within,
        );
        read = c.in_ok-read_piece.ensures.read _ come.bytes _ come.read;
        known = λ page is.
            let known = come.known page is in
            let moved = sym known.1 ∙ c.in-Ok.ensures.takes.moved in (
              front_with page c.take.new.into come.bytes c.loop-count.place c.in-Ok.count c.min-fitting.result _
                  known.0 moved c.in-Ok.ensures.takes.within (omega arith),
              left_more page c.take.new.into c.loop-count.place c.in-Ok.count _ moved c.in-Ok.ensures.takes.within
                  ∙ ap (λ k. Some (drop (c.loop-count.place + k) page)) (sym all),
            );
      };
    }

pub returns-in_default-clause-ends : goal.returns-in_default-clause-ends
returns-in_default-clause-ends g c =
    let come = c.loop-count.invariant.come in
    let taken = c.in_default.ensures.takes.failed.1 ∙ c.loop-count.invariant.taken in
    record {
      takes = record {
        cause = Rose-since _ _ _ c.loop-count.invariant.stays c.in_default.ensures.cause.failed;
        few = omega (arith, taken, c.loop-count.invariant.few);
        unended = c.in_default.ensures.takes.failed.2 ∙ c.loop-count.invariant.unended;
      };
      bytes = come.bytes;
      known = λ page is. (come.known page is).0 ∙ ap (λ k. take k page) (sym taken);
      made = come.read.reported.made;
      stays = come.read.reported.stays;
      taken = taken ∙ sym come.count;
    }

pub returns-in_err-finish-clause-ends : goal.returns-in_err-finish-clause-ends
returns-in_err-finish-clause-ends g c =
    let come = c.loop-count.invariant.come in
    let p = err_from_is_err_and c.from_residual.result c.from_residual.ensures.1 in
    rw (p.1, p.2) (inr (record {
      bytes = come.bytes;
      takes = record {
        taken = record {
          taken = omega (arith, c.in-Ok.ensures.takes.taken, come.count, c.loop-count.invariant.taken, c.if-count-eq0.true, c.loop-count.invariant.few);
          ended = c.in-Ok.ensures.takes.ended c.if-count-eq0.true;
        };
        known = λ page is.
            let known = come.known page is in
            known.0 ∙ all_taken page c.loop-count.place (c.in-Ok.ensures.takes.end c.if-count-eq0.true _ known.1);
        few = omega (arith, come.count, c.loop-count.invariant.few);
        stays = c.in-Ok.ensures.cause.stays ∙ c.loop-count.invariant.stays;
      };
      cut = c.in_err-finish.ensures.cut _ come.bytes _ come.read;
    }))

pub returns-then-count-eq0-clause-ends : goal.returns-then-count-eq0-clause-ends
returns-then-count-eq0-clause-ends g c =
    let come = c.loop-count.invariant.come in
    record {
      bytes = come.bytes;
      count_is = sym come.count;
      takes = record {
        taken = record {
          taken = omega (arith, c.in-Ok.ensures.takes.taken, come.count, c.loop-count.invariant.taken, c.if-count-eq0.true, c.loop-count.invariant.few);
          ended = c.in-Ok.ensures.takes.ended c.if-count-eq0.true;
        };
        known = λ page is.
            let known = come.known page is in
            known.0 ∙ all_taken page c.loop-count.place (c.in-Ok.ensures.takes.end c.if-count-eq0.true _ known.1);
        few = omega (arith, come.count, c.loop-count.invariant.few);
        stays = c.in-Ok.ensures.cause.stays ∙ c.loop-count.invariant.stays;
      };
      reported = c.in_ok-finish.ensures.reported _ come.bytes _ come.read;
    }

pub returns-in_err-read_piece-clause-ends : goal.returns-in_err-read_piece-clause-ends
returns-in_err-read_piece-clause-ends g c =
    let so_far = c.loop-count.invariant in
    let come = so_far.come in
    let k = c.loop-count.place + c.min-fitting.result in
    let front = come.bytes ++ take c.min-fitting.result c.take.new.into in
    let bytes = come.bytes ++ take c.in-Ok.count c.take.new.into in
    let within : c.in-Ok.count ≤ length c.take.new.into = omega (arith, c.in-Ok.ensures.takes.within) in
    let fits : c.min-fitting.result ≤ c.in-Ok.count = omega arith in
    let taken : (g.F.Shelf.state c.take.new.self).taken ≡ c.loop-count.place + c.in-Ok.count =
    omega (arith, c.in-Ok.ensures.takes.taken, within, so_far.taken, so_far.few) in
    let limit : min (g.F.Shelf.state c.take.new.self).taken (2 ^ 24) ≡ k = omega (arith, taken, so_far.few) in
    let part : front ≡ take k bytes =
    sym (front_of_piece come.bytes c.take.new.into c.loop-count.place c.in-Ok.count c.min-fitting.result come.count fits)
    in
    let p = err_from_is_err_and c.from_residual-in_err-read_piece.result c.from_residual-in_err-read_piece.ensures.1
    in
    rw (p.1, p.2) (inl (record {
      bytes = bytes;
      takes = record {
        taken = omega (
          arith,
          taken,
          length-append come.bytes (take c.in-Ok.count c.take.new.into),
          come.count,
          length-take-le c.in-Ok.count c.take.new.into within,
        );
        known = λ page is.
            let known = come.known page is in
            let moved = sym known.1 ∙ c.in-Ok.ensures.takes.moved in (
              omega (
                arith,
                taken,
                taken_there page c.take.new.into c.loop-count.place c.in-Ok.count _ moved c.in-Ok.ensures.takes.within,
                c.if-count-eq0.false,
              ),
              front_with page c.take.new.into come.bytes c.loop-count.place c.in-Ok.count c.in-Ok.count _ known.0 moved
                  c.in-Ok.ensures.takes.within (omega arith) ∙ ap (λ m. take m page) (sym taken),
            );
        unended = c.in-Ok.ensures.takes.goes_on (omega (arith, c.if-count-eq0.false)) ∙ so_far.unended;
        stays = c.in-Ok.ensures.cause.stays ∙ so_far.stays;
      };
      front = items front;
      front_is = ap items (part ∙ ap (λ m. take m bytes) (sym limit));
      are = more_items front (drop k bytes) bytes _ (ap (λ b. b ++ drop k bytes) part ∙ take-append-drop k bytes)
          (c.reading_goes_on.ensures.bytes front (drop k bytes));
      there = λ page is.
          let known = come.known page is in
          let told = front_with page c.take.new.into come.bytes c.loop-count.place c.in-Ok.count c.min-fitting.result _
          known.0 (sym known.1 ∙ c.in-Ok.ensures.takes.moved) c.in-Ok.ensures.takes.within fits in
          more_items front (drop k page) page _ (ap (λ b. b ++ drop k page) told ∙ take-append-drop k page)
          (c.reading_goes_on.ensures.bytes front (drop k page));
      cut = c.in_err-read_piece.ensures.cut _ come.bytes _ come.read;
    }))

pub returns-then-fitting-count-clause-ends : goal.returns-then-fitting-count-clause-ends
returns-then-fitting-count-clause-ends g c =
    let come = c.loop-count.invariant.come in
    let limit : c.loop-count.place + c.min-fitting.result ≡ 2 ^ 24 = omega arith in
    let within : c.min-fitting.result ≤ length c.take.new.into = omega (arith, c.in-Ok.ensures.takes.within) in
    let read = c.in_ok-read_piece.ensures.read _ come.bytes _ come.read in
    record {
      takes = record {
        cause = omega (arith, c.in-Ok.ensures.takes.taken);
        longer = λ page is.
            let known = come.known page is in
            omega (
              arith,
              taken_there page c.take.new.into c.loop-count.place c.in-Ok.count _
                  (sym known.1 ∙ c.in-Ok.ensures.takes.moved) c.in-Ok.ensures.takes.within,
            );
        stays = c.in-Ok.ensures.cause.stays ∙ c.loop-count.invariant.stays;
      };
      bytes = come.bytes ++ take c.min-fitting.result c.take.new.into;
      count = omega (
        arith,
        length-append come.bytes (take c.min-fitting.result c.take.new.into),
        come.count,
        length-take-le c.min-fitting.result c.take.new.into within,
        limit,
      );
      known = λ page is.
          let known = come.known page is in
          front_with page c.take.new.into come.bytes c.loop-count.place c.in-Ok.count c.min-fitting.result _ known.0
          (sym known.1 ∙ c.in-Ok.ensures.takes.moved) c.in-Ok.ensures.takes.within (omega arith)
          ∙ ap (λ k. take k page) limit;
      made = read.reported.made;
      stays = read.reported.stays;
    }
