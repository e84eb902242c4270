use Rattle.std.proofs.Common.{◌≤◌, ℕ, List, subst, refl, sym, ◌∙◌, ap, arith, take, length}
use Rattle.std.proofs.Common.{length-append}
use Rattle.std.proofs.lemmas.List.{length-take-le}
use Rattle.cept_outside.proofs.Laws.{all_taken}
use Rattle.cept_run.proofs.PagesInPieces.{KeepsShelf-none, keeps_shelf_more, Rose-since, HasTaken, HasTaken-none, HasTaken-more, taken_there}
use Rattle.cept_run.proofs.script.take_script.Goals as goal

pub loop-count-init : goal.loop-count-init
loop-count-init g c = record {
  few = omega (arith, ap length c.new-script.ensures.items);
  taken = c.requires.selected ∙ sym (ap length c.new-script.ensures.items);
  unended = c.requires.unended;
  keeps = KeepsShelf-none (g.F.Shelf.state c.args.shelf.now);
  stays = refl;
  come = HasTaken-none _ _ c.new-script.ensures.items;
}

pub loop-count-preserved : goal.loop-count-preserved
loop-count-preserved g c =
    let so_far = c.loop-count.invariant in
    let more = HasTaken-more (g.F.Shelf.state c.args.shelf.now) (g.F.Shelf.state c.loop-count.shelf)
    (g.F.Shelf.state c.take.new.self) c.loop-count.script.items c.take.new.into c.in-Ok.count so_far.come
    c.in-Ok.ensures.takes.moved c.in-Ok.ensures.takes.within in
    let now = c.in-Ok-extend_from_slice.ensures.items in
    let within : c.in-Ok.count ≤ length c.take.new.into = omega (arith, c.in-Ok.ensures.takes.within) in
    record {
      few = omega (
        arith,
        ap length now,
        length-append c.loop-count.script.items (take c.in-Ok.count c.take.new.into),
        length-take-le c.in-Ok.count c.take.new.into within,
        c.len.ensures,
        so_far.few,
      );
      taken = omega (
        arith,
        ap length now,
        length-append c.loop-count.script.items (take c.in-Ok.count c.take.new.into),
        length-take-le c.in-Ok.count c.take.new.into within,
        c.in-Ok.ensures.takes.taken,
        so_far.taken,
        so_far.few,
      );
      unended = c.in-Ok.ensures.takes.goes_on (omega (arith, c.if-count-eq0.false)) ∙ so_far.unended;
      keeps = keeps_shelf_more _ _ _ _ _ so_far.keeps c.take.ensures.takes c.take.ensures.cause.later;
      stays = c.in-Ok.ensures.cause.stays ∙ so_far.stays;
      come = subst (λ (b : List ℕ). HasTaken (g.F.Shelf.state c.args.shelf.now) b (g.F.Shelf.state c.take.new.self))
          (sym now) more;
    }

pub returns-in_default-clause-stopped : goal.returns-in_default-clause-stopped
returns-in_default-clause-stopped g c =
    let taken = c.in_default.ensures.takes.failed.1 ∙ c.loop-count.invariant.taken in
    record {
      cause = Rose-since _ _ _ c.loop-count.invariant.stays c.in_default.ensures.cause.failed;
      few = omega (arith, taken, c.loop-count.invariant.few);
      unended = c.in_default.ensures.takes.failed.2 ∙ c.loop-count.invariant.unended;
    }

pub returns-then-count-eq0-clause-whole : goal.returns-then-count-eq0-clause-whole
returns-then-count-eq0-clause-whole g c =
    let so_far = c.loop-count.invariant in
    record {
      known = λ script is.
          let known = so_far.come.known script is in
          known.0 ∙ all_taken script (length c.loop-count.script.items)
          (c.in-Ok.ensures.takes.end c.if-count-eq0.true _ known.1);
      taken = record {
        taken = omega (arith, c.in-Ok.ensures.takes.taken, so_far.taken, so_far.few);
        ended = c.in-Ok.ensures.takes.ended c.if-count-eq0.true;
      };
      few = so_far.few;
      stays = c.in-Ok.ensures.cause.stays ∙ so_far.stays;
    }

pub returns-then-count-len-clause-stopped : goal.returns-then-count-len-clause-stopped
returns-then-count-len-clause-stopped g c =
    let so_far = c.loop-count.invariant in
    record {
      cause = omega (arith, c.in-Ok.ensures.takes.taken, so_far.taken);
      longer = λ script is.
          let known = so_far.come.known script is in
          omega (
            arith,
            taken_there script c.take.new.into (length c.loop-count.script.items) c.in-Ok.count _
                (sym known.1 ∙ c.in-Ok.ensures.takes.moved) c.in-Ok.ensures.takes.within,
          );
      stays = c.in-Ok.ensures.cause.stays ∙ so_far.stays;
    }

pub returns-in_default-extend_from_slice-clause-stopped : goal.returns-in_default-extend_from_slice-clause-stopped
returns-in_default-extend_from_slice-clause-stopped g c =
    c.in-Ok.ensures.cause.stays ∙ c.loop-count.invariant.stays
