use Rattle.std.proofs.Common.{◌≢◌, List, [], ◌∷◌, ◌++◌, OnErr, ap, subst}
use Rattle.cept_codes.specs.declared.look.Look.{Look}
use Rattle.cept_codes.specs.Place.{Place}
use Rattle.cept_profile.specs.Changes.{marked_looks}
use Rattle.cept_profile.specs.Look.{looks_of}
use Rattle.cept_profile.specs.State.{core_of}
use Rattle.cept_editor.proofs.AppliedInTurn.{made_from, lines_there, one_more_differs}
use Rattle.cept_editor.proofs.editor.apply_command.Goals as goal

pub returns-clause-applies : goal.returns-clause-applies
returns-clause-applies g c =
    let one = c.apply.ensures.applied in record {
      applied = one;
      made = λ history valid is. made_from c.args.listing.now.listed c.args.listing.now.line history (history ++ c.args.command ∷ [])
          c.args.screen.now c.apply.new.screen c.apply.new.marks _ (g.T.Sink.state c.args.listing.now.sink.now)
          (g.T.Sink.state c.put_changes_if.new.sink) (g.G.Glass.state c.args.glass.now)
          (g.G.Glass.state c.apply.new.glass) is (one.goes_on history valid is)
          (one_more_differs history c.args.command) one.repainted
          (rw c.from-label.ensures at c.put_changes_if.ensures.puts);
    }

pub returns-clause-shown : goal.returns-clause-shown
returns-clause-shown g c =
    let looks = looks_of (core_of c.apply.new.screen) in
    subst (λ (xs : List (Place × Look)). OnErr c.put_changes_if.result (xs ≢ []))
    (ap (λ m. marked_looks m looks) c.apply.ensures.applied.repainted.marks)
    (lines_there c.args.listing.now.listed c.args.listing.now.line (marked_looks c.apply.new.marks looks) c.put_changes_if.result
    (g.T.Sink.state c.args.listing.now.sink.now) (g.T.Sink.state c.put_changes_if.new.sink)
    (rw c.from-label.ensures at c.put_changes_if.ensures.puts))
