-- Figures drawn one after the other.
use Rattle.std.proofs.Common.{◌≡◌, ℕ, ◌+◌, ◌<◌, suc, Bool, List, [], ◌∷◌, drop, get_or, length, if◌then◌else◌}
use Rattle.std.proofs.Common.{sym, ap, ◌∙◌, arith}
use Rattle.std.proofs.Math.Seq.{drop-cons}
use Rattle.cept_plot.specs.declared.figure.Figure.{Figure}
use Rattle.cept_plot.specs.Drawings.{points_after_all}
use Rattle.cept_plot.specs.Figures.{adds, is_of_figure, points_after}
use Rattle.cept_plot.specs.Lit.{is_lit}
use Rattle.cept_plot.specs.Points.{OnField}

-- a point after figures depends on that point before them alone
pub same_before : (was now : ℕ → ℕ → Bool) (list : List Figure) (x y : ℕ) → was x y ≡ now x y
    → points_after_all was list x y ≡ points_after_all now list x y
same_before was now [] x y e = e
same_before was now (f ∷ list) x y e =
    same_before (points_after was f) (points_after now f) list x y
    (ap (λ t. if is_of_figure f x y then adds f else t) e)

-- the figures from this index on lead from these points to those after all
abbrev pub AreLeft : List ℕ → List ℕ → List Figure → ℕ → Type 0
AreLeft start now list i = (x y : ℕ) → OnField x y
    → points_after_all (is_lit now) (drop i list) x y ≡ points_after_all (is_lit start) list x y

pub AreLeft-more : (start now next : List ℕ) (list items : List Figure) (i : ℕ) (d : Figure)
    → AreLeft start now list i → items ≡ list → i < length items
    → ((x y : ℕ) → OnField x y → is_lit next x y ≡ points_after (is_lit now) (get_or items i d) x y)
    → AreLeft start next list (i + 1)
AreLeft-more start now next list items i d left same below drawn x y on =
    let long : length items ≡ length list = ap (λ (l : List Figure). length l) same in
    let e : suc i ≡ i + 1 = omega arith in
    let cut : drop i list ≡ get_or list i d ∷ drop (i + 1) list =
    drop-cons list i d (omega (arith, below, long)) ∙ ap (λ k. get_or list i d ∷ drop k list) e in
    same_before (is_lit next) (points_after (is_lit now) (get_or list i d)) (drop (i + 1) list) x y
    (drawn x y on ∙ ap (λ (l : List Figure). points_after (is_lit now) (get_or l i d) x y) same)
    ∙ sym (ap (λ (fs : List Figure). points_after_all (is_lit now) fs x y) cut) ∙ left x y on
