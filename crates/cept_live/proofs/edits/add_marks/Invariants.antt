use Rattle.std.proofs.Common.{◌≡◌, ℕ, ◌≤◌, ◌-◌, List}
use Rattle.cept_codes.specs.declared.look.Look.{Look}
use Rattle.cept_live.specs.Renewed.{marked_with}
use Rattle.cept_live.proofs.SayingsTold.{sayings_below}
use Rattle.cept_live.proofs.edits.add_marks.Given as goal

abbrev pub invariant-loop-place : goal.invariant-loop-place
invariant-loop-place l = record {
  within : l.number ≤ 960;
  marked : (at : ℕ) (g : List (List Look)) → l.all ≡ marked_with l.fn.all (sayings_below at l.marks g l.number);
}

abbrev pub decreases-loop-place : goal.decreases-loop-place
decreases-loop-place l = 960 - l.number
