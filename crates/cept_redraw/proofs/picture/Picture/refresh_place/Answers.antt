use Rattle.std.proofs.Common.{◌≡◌, ℕ, true, false, refl, sym, ap, ◌∙◌}
use Rattle.cept_profile.specs.Changes.{grid_with_paint, look_at}
use Rattle.cept_profile.specs.State.{Page}
use Rattle.cept_rows.specs.Source.{Source, look_by_itself}
use Rattle.cept_redraw.specs.inside.Kept.{is_other_look, look_alone, source_of}
use Rattle.cept_redraw.proofs.OnePlace.{looks-refreshed}
use Rattle.cept_redraw.proofs.Refreshed.{IsRefreshed-marks, IsRefreshed-place}
use Rattle.cept_redraw.proofs.picture.Picture.refresh_place.Goals as goal

-- what the row is made of
source : (page : Page) {made : Source} {row place : ℕ} → made ≡ source_of page row false → row ≡ place
    → made ≡ source_of page place false
source page {made} {row} {place} is same = is ∙ ap (λ n. source_of page n false) same

pub returns-then-resolve_alone-clause-kept : goal.returns-then-resolve_alone-clause-kept
returns-then-resolve_alone-clause-kept g c = λ k others.
    let on = c.resolve_alone.ensures.on_screen in
    let refreshed = IsRefreshed-place c.args.self.now.looks c.resolve_alone.new.self c.args.marks.now c.mark.new.self
    c.args.place (look_alone c.args.self.now.page c.args.place) true c.places_by_type.ensures on
    (sym c.if-resolve_alone.true ∙ (c.resolve_alone.ensures.differs ∙ ap (λ (s : Source). is_other_look (look_at c.args.self.now.looks c.args.place)
    (look_by_itself s c.args.place.column)) (source c.args.self.now.page c.row_source-source.ensures c.in_row-2.ensures.row))) (c.resolve_alone.ensures.looks ∙ ap (λ (s : Source). grid_with_paint c.args.self.now.looks c.args.place
    (look_by_itself s c.args.place.column)) (source c.args.self.now.page c.row_source-source.ensures c.in_row-2.ensures.row)) c.mark.ensures in
    looks-refreshed c.args.self.now.page k c.args.self.now.looks c.resolve_alone.new.self c.args.marks.now c.mark.new.self
    c.args.place c.requires.valid on c.requires.alone refreshed others

pub returns-then-resolve_alone-clause-marks : goal.returns-then-resolve_alone-clause-marks
returns-then-resolve_alone-clause-marks g c =
    let fresh = look_alone c.args.self.now.page c.args.place in
    let refreshed = IsRefreshed-place c.args.self.now.looks c.resolve_alone.new.self c.args.marks.now c.mark.new.self
    c.args.place fresh true c.places_by_type.ensures c.resolve_alone.ensures.on_screen
    (sym c.if-resolve_alone.true ∙ (c.resolve_alone.ensures.differs ∙ ap (λ (s : Source). is_other_look (look_at c.args.self.now.looks c.args.place)
    (look_by_itself s c.args.place.column)) (source c.args.self.now.page c.row_source-source.ensures c.in_row-2.ensures.row))) (c.resolve_alone.ensures.looks ∙ ap (λ (s : Source). grid_with_paint c.args.self.now.looks c.args.place
    (look_by_itself s c.args.place.column)) (source c.args.self.now.page c.row_source-source.ensures c.in_row-2.ensures.row)) c.mark.ensures in
    IsRefreshed-marks (λ _ _. fresh) c.args.self.now.looks c.resolve_alone.new.self c.args.marks.now c.mark.new.self _ _
    c.requires.none refreshed

pub returns-else-resolve_alone-clause-kept : goal.returns-else-resolve_alone-clause-kept
returns-else-resolve_alone-clause-kept g c = λ k others.
    let on = c.resolve_alone.ensures.on_screen in
    let refreshed = IsRefreshed-place c.args.self.now.looks c.resolve_alone.new.self c.args.marks.now c.args.marks.now
    c.args.place (look_alone c.args.self.now.page c.args.place) false c.places_by_type.ensures on
    (sym c.if-resolve_alone.false ∙ (c.resolve_alone.ensures.differs ∙ ap (λ (s : Source). is_other_look (look_at c.args.self.now.looks c.args.place)
    (look_by_itself s c.args.place.column)) (source c.args.self.now.page c.row_source-source.ensures c.in_row-2.ensures.row))) (c.resolve_alone.ensures.looks ∙ ap (λ (s : Source). grid_with_paint c.args.self.now.looks c.args.place
    (look_by_itself s c.args.place.column)) (source c.args.self.now.page c.row_source-source.ensures c.in_row-2.ensures.row)) refl in
    looks-refreshed c.args.self.now.page k c.args.self.now.looks c.resolve_alone.new.self c.args.marks.now c.args.marks.now
    c.args.place c.requires.valid on c.requires.alone refreshed others

pub returns-else-resolve_alone-clause-marks : goal.returns-else-resolve_alone-clause-marks
returns-else-resolve_alone-clause-marks g c =
    let fresh = look_alone c.args.self.now.page c.args.place in
    let refreshed = IsRefreshed-place c.args.self.now.looks c.resolve_alone.new.self c.args.marks.now c.args.marks.now
    c.args.place fresh false c.places_by_type.ensures c.resolve_alone.ensures.on_screen
    (sym c.if-resolve_alone.false ∙ (c.resolve_alone.ensures.differs ∙ ap (λ (s : Source). is_other_look (look_at c.args.self.now.looks c.args.place)
    (look_by_itself s c.args.place.column)) (source c.args.self.now.page c.row_source-source.ensures c.in_row-2.ensures.row))) (c.resolve_alone.ensures.looks ∙ ap (λ (s : Source). grid_with_paint c.args.self.now.looks c.args.place
    (look_by_itself s c.args.place.column)) (source c.args.self.now.page c.row_source-source.ensures c.in_row-2.ensures.row)) refl in
    IsRefreshed-marks (λ _ _. fresh) c.args.self.now.looks c.resolve_alone.new.self c.args.marks.now c.args.marks.now _ _
    c.requires.none refreshed
