use Rattle.std.proofs.Common.{Some, rules, refl, ap, ◌++◌, take, drop, ◌+◌, ◌∙◌, sym, arith}
use Rattle.cept_outside.specs.Slices.{chosen_bytes_in}
use Rattle.cept_outside.proofs.SlicesFilled.{moved_front}
use Rattle.cept_outside.proofs.slice_shelf.SliceShelfShelf.take.Goals as goal

pub returns-else-count-eq0-clause-takes : goal.returns-else-count-eq0-clause-takes
returns-else-count-eq0-clause-takes c =
    let shelf = c.args.self.now in
    let bytes = chosen_bytes_in shelf.chosen in
    let count = c.move_front-count.result in
    record {
      keeps = search rules;
      selected = refl;
      missed = refl;
      within = search rules;
      moved = ap Some (moved_front shelf.at count bytes c.left.result.now c.args.into.now c.left.ensures.left
          (omega (arith, c.move_front-count.ensures.count))
          ∙ ap (λ l. take count l ++ drop (shelf.at + count) bytes) (sym c.move_front-count.ensures.moved));
      taken = search rules;
      end = search rules;
      ended = search rules;
      goes_on = λ _. refl;
      failed = search rules;
    }
