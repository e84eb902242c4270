use Rattle.std.proofs.Common.{◌≡◌, ◌+◌, Bool, not, List, subst, ◌∙◌, sym, ap}
use Rattle.std.specs.Option.{IfSome}
use Rattle.cept_codes.specs.declared.look.Look.{Look}
use Rattle.cept_codes.specs.Look.{blank_look}
use Rattle.cept_codes.specs.Place.{Place, number, place_of}
use Rattle.cept_codes.specs.Same.{same_look}
use Rattle.cept_codes.proofs.Laws.{number-place_of}
use Rattle.cept_flash.specs.Phases.{look_at_phase}
use Rattle.cept_profile.specs.Changes.{look_at}
use Rattle.cept_flash.proofs.MarkedInTurn.{AreMarkedBelow, AreMarkedBelow-left, AreMarkedBelow-marked, AreMarkedBelow-none}
use Rattle.cept_flash.proofs.ShownPlaces.{is_shown, shown_differ}
use Rattle.cept_flash.proofs.blink.mark_shown.Goals as goal
use Rattle.cept_flash.proofs.blink.mark_shown.Goals.{then-not-is_blank, else-not-is_blank}

pub loop-n-init : goal.loop-n-init
loop-n-init c = AreMarkedBelow-none (is_shown c.args.kept.now.rows) c.clear.new.self c.clear.ensures

pub loop-n-preserved : goal.loop-n-preserved
loop-n-preserved c =
    let here : c.unwrap-at.result ≡ place_of c.loop-n.n =
    subst (λ o. IfSome o (λ (p : Place). p ≡ place_of c.loop-n.n)) c.unwrap-at.ensures c.from_number.ensures.place in
    let blank : c.is_blank.result ≡ same_look (look_at_phase (look_at c.args.kept.now.rows (place_of c.loop-n.n)) 0) blank_look =
    c.is_blank.ensures
    ∙ ap (λ (l : Look). same_look l blank_look) c.look_at_phase.ensures.look
    ∙ ap (λ (l : Look). same_look (look_at_phase l 0) blank_look)
    (c.shown_look.ensures.look ∙ ap (look_at c.args.kept.now.rows) here) in
    elim c.if-not-is_blank.branch [
      | then-not-is_blank w ↦
          AreMarkedBelow-marked c.if-not-is_blank.marks c.loop-n.n
          (number c.unwrap-at.result.row c.unwrap-at.result.column) c.loop-n.invariant
          (ap (λ (p : Place). number p.row p.column) here ∙ number-place_of c.loop-n.n) c.loop-n-test.true
          (w.marks-is ∙ w.mark.ensures) (ap not (sym blank ∙ w.if-not-is_blank.true))
      | else-not-is_blank w ↦
          subst (λ (m : List Bool). AreMarkedBelow (is_shown c.args.kept.now.rows) m (c.loop-n.n + 1)) (sym w.marks-is)
          (AreMarkedBelow-left c.loop-n.n c.loop-n.invariant (ap not (sym blank ∙ w.if-not-is_blank.false)))
    ]

pub returns : goal.returns
returns c = shown_differ c.args.kept.now.rows c.loop-n.marks c.loop-n.n c.loop-n-test.false c.loop-n.invariant
