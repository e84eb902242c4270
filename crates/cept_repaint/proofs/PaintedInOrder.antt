-- Marked places painted one after the other, in reading order.
use Rattle.std.proofs.Common.{◌≡◌, ℕ, ◌+◌, ◌≤◌, Bool, false, Option, List, [], ◌∷◌, ◌++◌, sym, ap, subst, ◌∙◌}
use Rattle.std.proofs.Common.{append_assoc, arith}
use Rattle.std.proofs.lemmas.List.{append-nil}
use Rattle.cept_codes.specs.declared.look.Look.{Look}
use Rattle.cept_codes.specs.Place.{Place, number}
use Rattle.cept_codes.proofs.Laws.{place_of-number, number-lt}
use Rattle.cept_profile.specs.Changes.{look_at, marked_looks, marked_looks_below, grid_with_paint, grid_with_paints}
use Rattle.cept_profile.proofs.Laws.{grid_with_paints-append, marked_looks_below-none, marked_looks_below-next}
use Rattle.cept_profile.proofs.Laws.{marked_looks_below-unmarked, marked_looks_below-whole}
use Rattle.cept_redraw.specs.Marks.{is_marked, IsFirstFrom}
use Rattle.cept_repaint.specs.inside.Applied.{PaintsAll}
use Rattle.cept_repaint.specs.GlassState.{GlassState, Lists, Paints}

-- the first marked place from `from` on comes next
listed_below_first : (marks : List Bool) (g : List (List Look)) (from : ℕ) (p : Place) → IsFirstFrom marks from p
    → marked_looks_below marks g (number p.row p.column + 1) ≡ marked_looks_below marks g from ++ (p, look_at g p) ∷ []
listed_below_first marks g from p is =
    marked_looks_below-next marks g from (number p.row p.column) is.at_least is.first is.marked
    ∙ ap (λ (q : Place). marked_looks_below marks g from ++ (q, look_at g q) ∷ []) (place_of-number p is.on_screen)

-- one paint at the end of a painting
pub painted_all_push : (g : List (List Look)) (xs : List (Place × Look)) (p : Place) (l : Look)
    → grid_with_paints g (xs ++ (p, l) ∷ []) ≡ grid_with_paint (grid_with_paints g xs) p l
unfolding grid_with_paints
painted_all_push g xs p l = grid_with_paints-append g xs ((p, l) ∷ [])

pub Lists-none : (o : Option (List (Place × Look))) → Lists o [] o
Lists-none o = record { told = λ now e. (now, e, sym (append-nil now)) }

pub Lists-more : {before mid after : Option (List (Place × Look))} {xs ys : List (Place × Look)} → Lists before xs mid
    → Lists mid ys after → Lists before (xs ++ ys) after
Lists-more {xs = xs} {ys = ys} a b = record {
  told = λ now e.
      let first = b.told now e in
      let start = a.told first.0 first.1 in
      (start.0, start.1, first.2 ∙ ap (λ (l : List (Place × Look)). l ++ ys) start.2 ∙ append_assoc start.0 xs ys);
}

-- the marked places below `from` are painted and told, and no others
pub record PaintedSoFar (marks : List Bool) (looks : List (List Look)) (old now : GlassState) (from : ℕ) : Type 0 where
  pub within : from ≤ 960
  pub grid : now.grid ≡ grid_with_paints old.grid (marked_looks_below marks looks from)
  pub listed : Lists old.paints (marked_looks_below marks looks from) now.paints

pub PaintedSoFar-none : (marks : List Bool) (looks : List (List Look)) (s : GlassState) → PaintedSoFar marks looks s s 0
unfolding grid_with_paints
PaintedSoFar-none marks looks s = record {
  within = omega arith;
  grid = ap (λ (l : List (Place × Look)). grid_with_paints s.grid l) (sym (marked_looks_below-none marks looks));
  listed = subst (λ (l : List (Place × Look)). Lists s.paints l s.paints)
      (sym (marked_looks_below-none marks looks)) (Lists-none s.paints);
}

pub PaintedSoFar-more : {marks : List Bool} {looks : List (List Look)} {old now : GlassState} {from : ℕ}
    → PaintedSoFar marks looks old now from → (p : Place) (next : GlassState) (n : ℕ) → IsFirstFrom marks from p
    → Paints now p (look_at looks p) next → n ≡ number p.row p.column → PaintedSoFar marks looks old next (n + 1)
PaintedSoFar-more {marks} {looks} {old} {now} {from} s p next n is paints e =
    let below = number-lt p.row p.column is.on_screen in
    let more : marked_looks_below marks looks (n + 1) ≡ marked_looks_below marks looks from ++ (p, look_at looks p)
    ∷ [] = ap (λ k. marked_looks_below marks looks (k + 1)) e ∙ listed_below_first marks looks from p is in
    record {
      within = omega arith;
      grid = paints.grid ∙ ap (λ (t : List (List Look)). grid_with_paint t p (look_at looks p)) s.grid
          ∙ sym (painted_all_push old.grid (marked_looks_below marks looks from) p (look_at looks p))
          ∙ ap (λ (l : List (Place × Look)). grid_with_paints old.grid l) (sym more);
      listed = subst (λ (l : List (Place × Look)). Lists old.paints l next.paints) (sym more)
          (Lists-more s.listed paints.listed);
    }

-- no marked place is left
whole_list : {marks : List Bool} {looks : List (List Look)} {old now : GlassState} {from : ℕ}
    → PaintedSoFar marks looks old now from → ((n : ℕ) → from ≤ n → is_marked marks n ≡ false)
    → marked_looks_below marks looks from ≡ marked_looks marks looks
whole_list {marks} {looks} {from = from} s none =
    sym (marked_looks_below-unmarked marks looks from 960 s.within (λ k at_least _. none k at_least))
    ∙ marked_looks_below-whole marks looks

pub PaintedSoFar-grid : {marks : List Bool} {looks : List (List Look)} {old now : GlassState} {from : ℕ}
    → PaintedSoFar marks looks old now from → ((n : ℕ) → from ≤ n → is_marked marks n ≡ false) → now.grid
    ≡ grid_with_paints old.grid (marked_looks marks looks)
PaintedSoFar-grid {old =
    old} s none = s.grid ∙ ap (λ (l : List (Place × Look)). grid_with_paints old.grid l) (whole_list s none)

pub PaintedSoFar-marked_looks : {marks : List Bool} {looks : List (List Look)} {old now : GlassState} {from : ℕ}
    → PaintedSoFar marks looks old now from → ((n : ℕ) → from ≤ n → is_marked marks n ≡ false)
    → Lists old.paints (marked_looks marks looks) now.paints
PaintedSoFar-marked_looks {old =
    old} {now = now} s none = subst (λ (l : List (Place × Look)). Lists old.paints l now.paints)
    (whole_list s none) s.listed

pub PaintsAll-walked : {marks : List Bool} {looks : List (List Look)} {old now : GlassState} {from : ℕ}
    → PaintedSoFar marks looks old now from → ((n : ℕ) → from ≤ n → is_marked marks n ≡ false)
    → PaintsAll old (marked_looks marks looks) now
PaintsAll-walked s none = record { shown = PaintedSoFar-grid s none; told = PaintedSoFar-marked_looks s none }
