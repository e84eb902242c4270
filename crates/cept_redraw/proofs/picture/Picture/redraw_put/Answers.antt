use Rattle.std.proofs.Common.{◌≡◌, ◌⊎◌, ℕ, true, false, cond, inl, inr, [], ◌∷◌, Bool, refl, sym, ap, subst, ◌∙◌, arith}
use Rattle.cept_codes.specs.declared.cell.Cell.{Cell}
use Rattle.cept_codes.specs.declared.stroke.Stroke.TheVariants as strokes
use Rattle.cept_codes.specs.Place.{Place}
use Rattle.cept_profile.specs.Edges.{Edges, edges_of}
use Rattle.cept_profile.specs.State.{Page, page_after}
use Rattle.cept_profile.specs.Valid.{IsValidPage}
use Rattle.cept_page.specs.MarkedRows.{IsPutAmongSigns}
use Rattle.cept_page.specs.Behind.{page_behind}
use Rattle.cept_redraw.specs.inside.Due.{FollowsBeside, LeftStays}
use Rattle.cept_redraw.specs.Kept.{AreLooksOn, core_on}
use Rattle.cept_redraw.specs.Named.{AreNamedOn}
use Rattle.cept_control.specs.SignWithin.{put_alone}
use Rattle.cept_redraw.specs.Picture.{AreTicksOf, IsKeptOn, IsRedrawn}
use Rattle.cept_redraw.proofs.AloneRows.{OthersStay-put}
use Rattle.cept_redraw.proofs.BesideOfColumns.{FollowsBeside-put}
use Rattle.cept_redraw.proofs.DrawnPictures.{AreOthersKept-put, AreTicksOf-put}
use Rattle.cept_redraw.proofs.DrawnPictures.{IsNotedAlong-one, IsRedrawn-put}
use Rattle.cept_redraw.proofs.LeftOfColumns.{LeftStays-put}
use Rattle.cept_redraw.proofs.NamesAfter.{AreNamedOn-put}
use Rattle.cept_redraw.proofs.OnePlace.{IsPutAlone-drawn, page_after-put_alone}
use Rattle.cept_redraw.proofs.RowsDue.{put-resolved}
use Rattle.cept_redraw.proofs.RowsRenewed.{rows_renewed-put}
use Rattle.cept_redraw.proofs.picture.Picture.redraw_put.Goals as goal

-- ---- a place

pub refresh_place-requires-clause-valid : goal.refresh_place-requires-clause-valid
refresh_place-requires-clause-valid g c =
    subst (λ (p : Page). IsValidPage p)
    (sym (page_after-put_alone c.args.self.now.page c.put.new.self (put_alone c.args.put.now) c.args.put.now.place
    c.args.put.now.cell refl c.put.ensures.drawn)) c.requires.strokes.valid

pub returns-then-put : goal.returns-then-put
returns-then-put g c = record {
  redrawn =
      let put = c.args.put.now in
      let drawn = page_after-put_alone c.args.self.now.page c.put.new.self (put_alone c.args.put.now) put.place put.cell
      refl c.put.ensures.drawn in
      let after = c.refresh_place.ensures.page ∙ drawn in
      let alone = IsPutAlone-drawn c.args.self.now.page c.put.new.self (put_alone c.args.put.now) put.place put.cell
      refl c.put.ensures.drawn c.refresh_place.ensures.on_screen (c.put.ensures.before c.if-put.true)
      (c.put.ensures.after c.if-put.true) c.requires.kept.valid c.requires.strokes.each c.requires.strokes.valid in
      let valid : IsValidPage c.put.new.self = subst (λ (p : Page). IsValidPage p) (sym drawn) c.requires.strokes.valid in
      let still = sym c.refresh_place.ensures.page in
      record {
        page = after;
        kept = record {
          valid = subst (λ (p : Page). IsValidPage p) (sym after) c.requires.strokes.valid;
          of_core = c.requires.kept.of_core;
          looks = subst (λ (p : Page). AreLooksOn c.refresh_place.new.self.looks p (edges_of c.args.control.now)) still
              (λ k same. c.refresh_place.ensures.kept k
              (OthersStay-put c.args.self.now.page c.put.new.self k c.args.self.now.looks put.place
              (c.requires.kept.looks k same) alone));
          named = subst (λ (p : Page). AreNamedOn c.refresh_place.new.self.names p (edges_of c.args.control.now)) still
              (AreNamedOn-put c.args.self.now.page c.put.new.self (put_alone c.args.put.now) put.place put.cell
              (edges_of c.args.control.now) c.args.self.now.looks c.args.self.now.names c.refresh_place.new.self.names
              c.requires.kept.valid valid c.requires.strokes.each c.requires.kept.of_core c.requires.kept.named
              c.requires.kept.looks refl drawn
              (λ k same. OthersStay-put c.args.self.now.page c.put.new.self k c.args.self.now.looks put.place
              (c.requires.kept.looks k same) alone)
              c.refresh_place.ensures.remembered.remembered);
        };
        marks = c.refresh_place.ensures.marks;
      };
  ticks =
      let put = c.args.put.now in
      let alone = IsPutAlone-drawn c.args.self.now.page c.put.new.self (put_alone c.args.put.now) put.place put.cell
      refl c.put.ensures.drawn c.refresh_place.ensures.on_screen (c.put.ensures.before c.if-put.true)
      (c.put.ensures.after c.if-put.true) c.requires.kept.valid c.requires.strokes.each c.requires.strokes.valid in
      let core = c.requires.kept.of_core.0 in
      let others = OthersStay-put c.args.self.now.page c.put.new.self core c.args.self.now.looks put.place
      (c.requires.kept.looks core c.requires.kept.of_core.1) alone in
      record {
        cost = λ k m ek em. omega (
          arith,
          c.refresh_place.ensures.cost,
          put-resolved put.place put.cell (put_alone c.args.put.now) (core_on k c.args.self.now.page)
              (core_on m c.refresh_place.new.self.page) refl c.refresh_place.ensures.on_screen,
        );
        least = omega (
          arith,
          c.refresh_place.ensures.cost,
          rows_renewed-put put.place put.cell (put_alone c.args.put.now) c.args.self.now.looks
              c.refresh_place.new.self.looks (core_on core c.put.new.self) refl
              (c.refresh_place.ensures.kept core others) others,
        );
      };
  noted =
      IsNotedAlong-one {x = strokes.Put c.args.put.now.place c.args.put.now.cell} (put_alone c.args.put.now) refl
      (ap (λ (p : Page). page_behind (g.N.Noter.noted c.put.new.noter) p) c.refresh_place.ensures.page
      ∙ c.put.ensures.unwound) c.put.ensures.noted;
}

-- ---- a row from a place on

-- the column past which nothing looks otherwise by itself
until_is : {p : Page} {place : Place} {cell : Cell} (among : Bool) (column until : ℕ) → until ≡ cond among column 41
    → column ≡ place.column → (among ≡ true → IsPutAmongSigns p place cell)
    → ((until ≡ place.column) × IsPutAmongSigns p place cell) ⊎ (until ≡ 41)
until_is true column until e here signs = inl (e ∙ here, signs refl)
until_is false column until e here signs = inr e

pub refresh_put-requires : goal.refresh_put-requires
refresh_put-requires g c = record {
  from_top = omega (arith, c.row-row.ensures.row, c.row-row.ensures.on_screen.from_top);
  to_bottom = omega (arith, c.row-row.ensures.row, c.row-row.ensures.on_screen.to_bottom);
  from_left = omega (arith, c.col-from.ensures.column, c.col-from.ensures.on_screen.from_left);
  to_right = omega (arith, c.col-from.ensures.column, c.col-from.ensures.on_screen.to_right);
  none = c.clear.ensures;
  around =
      let put = c.args.put.now in
      let drawn = page_after-put_alone c.args.self.now.page c.put.new.self (put_alone c.args.put.now) put.place put.cell
      refl c.put.ensures.drawn ∙ ap (page_after c.args.self.now.page) refl in
      record {
        left = λ k same.
            subst (λ (q : Page). LeftStays c.row-row.result c.col-from.result c.args.self.now.looks (core_on k q))
            (sym drawn)
            (λ r column on left.
            LeftStays-put c.rows_show_what_stands_to_the_left.ensures c.args.self.now.page c.requires.kept.valid k
            put.place put.cell c.args.self.now.looks (c.requires.kept.looks k (same ∙ c.edges-edges.ensures)) r column
            on (omega (arith, left, c.row-row.ensures.row, c.col-from.ensures.column)));
        beside = λ k same.
            subst (λ (q : Page). FollowsBeside c.row-row.result c.last_otherwise-until.result c.args.self.now.looks
            (core_on k q)) (sym drawn)
            (subst (λ n. FollowsBeside n c.last_otherwise-until.result c.args.self.now.looks
            (core_on k (page_after c.args.self.now.page (strokes.Put put.place put.cell ∷ []))))
            (sym c.row-row.ensures.row)
            (FollowsBeside-put c.places_show_what_is_beside_them.ensures c.args.self.now.page c.requires.kept.valid k
            put.place put.cell c.last_otherwise-until.result c.row-row.ensures.on_screen
            (until_is c.puts_among_signs-among.result c.col-from.result c.last_otherwise-until.result
            c.last_otherwise-until.ensures c.col-from.ensures.column c.puts_among_signs-among.ensures)
            c.args.self.now.looks (c.requires.kept.looks k (same ∙ c.edges-edges.ensures))));
      };
  others =
      AreOthersKept-put (subst (λ (e : Edges). IsKeptOn c.args.self.now e) (sym c.edges-edges.ensures) c.requires.kept)
      c.requires.strokes c.args.put.now.place c.args.put.now.cell refl c.put.new.self
      (page_after-put_alone c.args.self.now.page c.put.new.self (put_alone c.args.put.now) c.args.put.now.place
      c.args.put.now.cell refl c.put.ensures.drawn) c.row-row.result c.row-row.ensures.row;
}

pub returns-else-put : goal.returns-else-put
returns-else-put g c = record {
  redrawn =
      subst (λ (e : Edges). IsRedrawn (put_alone c.args.put.now) e c.args.self.now c.refresh_put.new.self c.refresh_put.new.marks)
      c.edges-edges.ensures
      (IsRedrawn-put (subst (λ (e : Edges). IsKeptOn c.args.self.now e) (sym c.edges-edges.ensures) c.requires.kept)
      c.requires.strokes c.args.put.now.place c.args.put.now.cell refl
      (c.refresh_put.ensures.page
      ∙ page_after-put_alone c.args.self.now.page c.put.new.self (put_alone c.args.put.now) c.args.put.now.place
      c.args.put.now.cell refl c.put.ensures.drawn) c.row-row.result c.row-row.ensures.row
      c.refresh_put.new.marks c.refresh_put.ensures.refreshed c.refresh_put.ensures.remembered.remembered);
  ticks =
      subst (λ (e : Edges). AreTicksOf (put_alone c.args.put.now) e e c.args.self.now c.refresh_put.new.self c.args.steps.now
      c.refresh_put.new.steps) c.edges-edges.ensures
      (AreTicksOf-put (subst (λ (e : Edges). IsKeptOn c.args.self.now e) (sym c.edges-edges.ensures) c.requires.kept)
      c.requires.strokes c.args.put.now.place c.args.put.now.cell refl
      (c.refresh_put.ensures.page
      ∙ page_after-put_alone c.args.self.now.page c.put.new.self (put_alone c.args.put.now) c.args.put.now.place
      c.args.put.now.cell refl c.put.ensures.drawn) c.row-row.result c.row-row.ensures.row
      c.refresh_put.new.marks c.refresh_put.ensures.refreshed);
  noted =
      IsNotedAlong-one {x = strokes.Put c.args.put.now.place c.args.put.now.cell} (put_alone c.args.put.now) refl
      (ap (λ (p : Page). page_behind (g.N.Noter.noted c.put.new.noter) p) c.refresh_put.ensures.page
      ∙ c.put.ensures.unwound) c.put.ensures.noted;
}
