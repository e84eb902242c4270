use Rattle.std.proofs.Common.{◌≡◌, ◌+◌, Bool, List, ap, subst, sym, ◌∙◌}
use Rattle.cept_codes.specs.Table.{list_by_index}
use Rattle.cept_profile.specs.Changes.{differences}
use Rattle.cept_profile.specs.State.{Page}
use Rattle.cept_profile.specs.Valid.{IsValidPage}
use Rattle.cept_page.specs.Parts.{pens_of}
use Rattle.cept_page.specs.Behind.{page_behind}
use Rattle.cept_redraw.specs.declared.followed_rows.Followed.{Followed}
use Rattle.cept_redraw.specs.declared.picture.Picture.{Picture}
use Rattle.cept_redraw.specs.inside.Due.{followed, is_altered, rows_due}
use Rattle.cept_redraw.specs.Kept.{AreLooksOn, core_on}
use Rattle.cept_redraw.specs.Named.{AreNamedOn, NamesOfRows}
use Rattle.cept_redraw.specs.inside.Named.{AreJustRemembered, IsStill}
use Rattle.cept_redraw.proofs.FollowedRows.{came-followed, row_from-followed}
use Rattle.cept_redraw.proofs.NamesAfter.{AreNamedOn-drawn}
use Rattle.cept_redraw.proofs.RestingRows.{AreStill, OtherRowsStay-still, rows_due-still}
use Rattle.cept_redraw.proofs.RowsDue.{freed-altered}
use Rattle.cept_redraw.proofs.WalkedRows.{OtherRowsStay-drawn}
use Rattle.cept_redraw.proofs.picture.Picture.redraw_rows.Given as given
use Rattle.cept_redraw.proofs.picture.Picture.redraw_rows.Goals as goal
use Rattle.cept_redraw.proofs.picture.Picture.redraw_rows.Goals.{then-one_moved, else-one_moved}

pub move_rows-requires-clause-came : goal.move_rows-requires-clause-came
move_rows-requires-clause-came g c =
    came-followed c.follow_rows-rows.result c.args.strokes.now c.follow_rows-rows.ensures c.requires.may.strokes.each

pub move_rows-requires-clause-freed : goal.move_rows-requires-clause-freed
move_rows-requires-clause-freed g c =
    freed-altered c.draw_altering-altered.result c.follow_rows-rows.result c.args.strokes.now
    (pens_of c.args.self.now.page) c.args.before.now (pens_of c.draw_altering-altered.new.page) c.args.after.now
    c.draw_altering-altered.ensures.altered c.follow_rows-rows.ensures

pub move_rows-requires-clause-low : goal.move_rows-requires-clause-low
move_rows-requires-clause-low g c r q low high came =
    c.requires.may.strokes.low r q low high
    (sym (row_from-followed c.follow_rows-rows.result c.args.strokes.now c.follow_rows-rows.ensures r low high) ∙ came)

pub move_rows-requires-clause-may : goal.move_rows-requires-clause-may
move_rows-requires-clause-may g c = record {
  none = c.requires.none;
  others =
      record {
        valid = subst (λ (p : Page). IsValidPage p) (sym c.draw_altering-altered.ensures.drawn)
            c.requires.may.strokes.valid;
        of_core = c.requires.may.to;
        stay = λ k same.
            OtherRowsStay-drawn c.args.self.now.page c.draw_altering-altered.new.page c.args.strokes.now
            c.args.before.now c.args.after.now c.args.self.now.looks c.draw_altering-altered.result
            c.follow_rows-rows.result
            c.requires.may.kept.valid c.requires.may.strokes.each c.requires.may.kept.of_core c.requires.may.kept.looks
            c.draw_altering-altered.ensures.drawn
            c.draw_altering-altered.ensures.altered
            c.follow_rows-rows.ensures k same;
      };
}

pub refresh_rows-requires-clause-may : goal.refresh_rows-requires-clause-may
refresh_rows-requires-clause-may g c = record {
  none = c.requires.none;
  others =
      let are : AreStill c.draw_altering-altered.result c.follow_rows-rows.result = record {
        freed = freed-altered c.draw_altering-altered.result c.follow_rows-rows.result c.args.strokes.now
            (pens_of c.args.self.now.page) c.args.before.now (pens_of c.draw_altering-altered.new.page)
            c.args.after.now c.draw_altering-altered.ensures.altered c.follow_rows-rows.ensures;
        still = c.one_moved.ensures c.if-one_moved.false;
      } in
      record {
        valid = subst (λ (p : Page). IsValidPage p) (sym c.draw_altering-altered.ensures.drawn)
            c.requires.may.strokes.valid;
        of_core = c.requires.may.to;
        stay = λ k same.
            OtherRowsStay-still are c.args.self.now.looks (core_on k c.draw_altering-altered.new.page)
            (OtherRowsStay-drawn c.args.self.now.page c.draw_altering-altered.new.page c.args.strokes.now
            c.args.before.now c.args.after.now c.args.self.now.looks c.draw_altering-altered.result
            c.follow_rows-rows.result
            c.requires.may.kept.valid c.requires.may.strokes.each c.requires.may.kept.of_core c.requires.may.kept.looks
            c.draw_altering-altered.ensures.drawn
            c.draw_altering-altered.ensures.altered
            c.follow_rows-rows.ensures k same);
      };
}

-- the page is the one on which the strokes were drawn
page_is : (g : given.Over) (c : goal.After-forget_rows g) → c.if-one_moved.self.page ≡ c.draw_altering-altered.new.page
page_is g c =
    elim c.if-one_moved.branch [
      | then-one_moved w ↦ ap (λ (p : Picture). p.page) w.self-is ∙ w.move_rows.ensures.rest.page
      | else-one_moved w ↦ ap (λ (p : Picture). p.page) w.self-is ∙ w.refresh_rows.ensures.rest.page
    ]

-- and the names are those from before
names_are : (g : given.Over) (c : goal.After-forget_rows g) → c.if-one_moved.self.names ≡ c.args.self.now.names
names_are g c =
    elim c.if-one_moved.branch [
      | then-one_moved w ↦ ap (λ (p : Picture). p.names) w.self-is ∙ w.move_rows.ensures.rest.names
      | else-one_moved w ↦ ap (λ (p : Picture). p.names) w.self-is ∙ w.refresh_rows.ensures.rest.names
    ]

looks_are : (g : given.Over) (c : goal.After-forget_rows g)
    → AreLooksOn c.if-one_moved.self.looks c.if-one_moved.self.page c.args.after.now
looks_are g c =
    elim c.if-one_moved.branch [
      | then-one_moved w ↦
          subst (λ (p : Picture). AreLooksOn p.looks p.page c.args.after.now) (sym w.self-is)
          w.move_rows.ensures.refreshed.looks
      | else-one_moved w ↦
          subst (λ (p : Picture). AreLooksOn p.looks p.page c.args.after.now) (sym w.self-is)
          w.refresh_rows.ensures.refreshed.looks
    ]

marks_are : (g : given.Over) (c : goal.After-forget_rows g)
    → c.if-one_moved.marks ≡ differences c.args.self.now.looks c.if-one_moved.self.looks
marks_are g c =
    elim c.if-one_moved.branch [
      | then-one_moved w ↦
          w.marks-is ∙ w.move_rows.ensures.refreshed.marks
          ∙ ap (λ (p : Picture). differences c.args.self.now.looks p.looks) (sym w.self-is)
      | else-one_moved w ↦
          w.marks-is ∙ w.refresh_rows.ensures.refreshed.marks
          ∙ ap (λ (p : Picture). differences c.args.self.now.looks p.looks) (sym w.self-is)
    ]

pub returns-clause-redrawn : goal.returns-clause-redrawn
returns-clause-redrawn g c =
    let valid : IsValidPage c.draw_altering-altered.new.page =
    subst (λ (p : Page). IsValidPage p) (sym c.draw_altering-altered.ensures.drawn) c.requires.may.strokes.valid in
    let looks : AreLooksOn c.if-one_moved.self.looks c.draw_altering-altered.new.page c.args.after.now =
    subst (λ (p : Page). AreLooksOn c.if-one_moved.self.looks p c.args.after.now) (page_is g c) (looks_are g c) in
    let altered = c.draw_altering-altered.ensures.altered in
    record {
      page = page_is g c ∙ c.draw_altering-altered.ensures.drawn;
      kept = record {
        valid = subst (λ (p : Page). IsValidPage p) (sym (page_is g c)) valid;
        of_core = c.requires.may.to;
        looks = looks_are g c;
        named = AreNamedOn-drawn c.args.self.now.page c.if-one_moved.self.page c.args.strokes.now c.args.before.now
            c.args.after.now c.args.self.now.looks c.if-one_moved.self.looks c.if-one_moved.self.names
            c.forget_rows.new.self c.draw_altering-altered.result c.follow_rows-rows.result c.if-one_moved.marks
            c.requires.may.kept.valid (subst (λ (p : Page). IsValidPage p) (sym (page_is g c)) valid)
            c.requires.may.strokes.each c.requires.may.kept.of_core
            (subst (λ (n : NamesOfRows). AreNamedOn n c.args.self.now.page c.args.before.now) (sym (names_are g c))
            c.requires.may.kept.named)
            c.requires.may.kept.looks (looks_are g c) (page_is g c ∙ c.draw_altering-altered.ensures.drawn)
            (altered ∙ ap (λ (p : Page). list_by_index 1 24 (is_altered c.args.strokes.now
            (pens_of c.args.self.now.page) c.args.before.now (pens_of p) c.args.after.now)) (sym (page_is g c)))
            c.follow_rows-rows.ensures (marks_are g c) c.forget_rows.ensures.remembered;
      };
      marks = marks_are g c;
    }

pub returns-clause-noted : goal.returns-clause-noted
returns-clause-noted g c = record {
  unwound = ap (λ (p : Page). page_behind (g.N.Noter.noted c.draw_altering-altered.new.noter) p) (page_is g c)
      ∙ c.draw_altering-altered.ensures.unwound;
  noted = c.draw_altering-altered.ensures.noted;
}

pub returns-clause-rows : goal.returns-clause-rows
returns-clause-rows g c =
    let altered = c.draw_altering-altered.ensures.altered
    ∙ ap (λ (p : Page). list_by_index 1 24 (is_altered c.args.strokes.now (pens_of c.args.self.now.page)
    c.args.before.now (pens_of p) c.args.after.now)) (sym (page_is g c)) in
    record {
      cost = elim c.if-one_moved.branch [
        | then-one_moved w ↦
            w.steps-is ∙ w.move_rows.ensures.refreshed.cost
            ∙ (λ i. c.args.steps.now + rows_due (altered i) (c.follow_rows-rows.ensures i) c.args.self.now.looks
            (sym w.self-is i).looks)
        | else-one_moved w ↦
            let are : AreStill c.draw_altering-altered.result c.follow_rows-rows.result = record {
              freed = freed-altered c.draw_altering-altered.result c.follow_rows-rows.result c.args.strokes.now
                  (pens_of c.args.self.now.page) c.args.before.now (pens_of c.draw_altering-altered.new.page)
                  c.args.after.now
                  c.draw_altering-altered.ensures.altered c.follow_rows-rows.ensures;
              still = c.one_moved.ensures w.if-one_moved.false;
            } in
            w.steps-is ∙ w.refresh_rows.ensures.refreshed.cost
            ∙ ap (λ n. c.args.steps.now + n) (rows_due-still are c.args.self.now.looks w.refresh_rows.new.self.looks)
            ∙ (λ i. c.args.steps.now + rows_due (altered i) (c.follow_rows-rows.ensures i) c.args.self.now.looks
            (sym w.self-is i).looks)
      ];
      -- of just the rows that are still the names stay known
      remembered =
          subst (λ (n : NamesOfRows). AreJustRemembered n c.forget_rows.new.self (λ r. IsStill (list_by_index 1 24
          (is_altered c.args.strokes.now (pens_of c.args.self.now.page) c.args.before.now
          (pens_of c.if-one_moved.self.page) c.args.after.now)) (list_by_index 1 24 (followed c.args.strokes.now))
          c.if-one_moved.marks r)) (names_are g c)
          (subst (λ (rows : List Followed). AreJustRemembered c.if-one_moved.self.names c.forget_rows.new.self
          (λ r. IsStill (list_by_index 1 24 (is_altered c.args.strokes.now (pens_of c.args.self.now.page)
          c.args.before.now (pens_of c.if-one_moved.self.page) c.args.after.now)) rows c.if-one_moved.marks r))
          c.follow_rows-rows.ensures
          (subst (λ (flags : List Bool). AreJustRemembered c.if-one_moved.self.names c.forget_rows.new.self
          (λ r. IsStill flags c.follow_rows-rows.result c.if-one_moved.marks r)) altered c.forget_rows.ensures));
    }
