use Rattle.std.proofs.Common.{◌≡◌, ◌-◌, ℕ, List, Some, arith, take, drop, length, sym, ap, ◌∙◌}
use Rattle.std.proofs.lemmas.List.{length-drop, length-take, take_all}
use Rattle.cept_control.proofs.control.Control.of_bytes.Goals as goal

pub slice_bounds-working_of-end : goal.slice_bounds-working_of-end
slice_bounds-working_of-end c = omega (arith, length-take 27 c.args.bytes.now)

pub working_of-working-requires : goal.working_of-working-requires
working_of-working-requires c = omega (arith, length-take 27 c.args.bytes.now)

pub returns : goal.returns
returns c =
    let all = c.args.bytes.now in
    let rest : take (length all - 33) (drop 33 all) ≡ drop 33 all =
    take_all (length all - 33) (drop 33 all) (omega (arith, length-drop 33 all)) in
    record {
      back = λ state valid bytes.
          ap Some (
          c.control_of.ensures state valid
          (sym (c.working_of-working.ensures.back state.working valid.working (ap (λ (xs : List ℕ). take 27 xs) bytes)))
          (ap (λ (xs : List ℕ). take 6 (drop 27 xs)) bytes)
          (sym (c.kept_of-kept.ensures.back state.kept valid.kept (ap (λ (xs : List ℕ). drop 33 xs) bytes ∙ sym rest)))
          );
    }
