-- A row painted one column after the other, on a tape.
use Rattle.std.proofs.Common.{◌≡◌, ℕ, ◌+◌, Bool, true, false, List, [], ◌∷◌, ◌++◌, get_or, refl, sym, ap, ◌∙◌}
use Rattle.cept_codes.specs.declared.look.Look.{Look}
use Rattle.cept_codes.specs.Place.{Place}
use Rattle.cept_profile.specs.Changes.{look_at}
use Rattle.cept_repaint.specs.GlassState.{flagged_looks, place_with_look}
use Rattle.cept_repaint.specs.Tape.{Tape, tape_after, tape_after_all}
use Rattle.cept_repaint.proofs.PaintedRows.{flag_read, flagged_below, flagged_below-all, flagged_below-none}
use Rattle.cept_repaint.proofs.PaintedRows.{flagged_below-set, flagged_below-unset}

-- one paint after several
after_all-push : (t : Tape) (xs : List (Place × Look)) (p : Place) (l : Look)
    → tape_after_all t (xs ++ (p, l) ∷ []) ≡ tape_after (tape_after_all t xs) p l
unfolding tape_after_all
after_all-push t [] p l = refl
after_all-push t (x ∷ xs) p l = after_all-push (tape_after t x.0 x.1) xs p l

pub taped-none : (flags : List Bool) (r : ℕ) (looks : List (List Look)) (t : Tape)
    → t ≡ tape_after_all t (flagged_below flags r looks 0)
unfolding tape_after_all
taped-none flags r looks t = ap (tape_after_all t) (sym (flagged_below-none flags r looks))

-- a flagged column
pub taped-more : (flags : List Bool) (r : ℕ) (looks : List (List Look)) (old now next : Tape) (n : ℕ) (p : Place)
    → now ≡ tape_after_all old (flagged_below flags r looks n) → get_or flags n false ≡ true → p.row ≡ r
    → p.column ≡ n + 1 → next ≡ tape_after now p (look_at looks p)
    → next ≡ tape_after_all old (flagged_below flags r looks (n + 1))
taped-more flags r looks old now next n p so_far flagged row column paints =
    let here : (p, look_at looks p) ≡ place_with_look looks r (n + 1) =
    λ i. let q : Place = record { row = row i; column = column i } in (q, look_at looks q) in
    paints ∙ ap (λ (t : Tape). tape_after t p (look_at looks p)) so_far
    ∙ sym (after_all-push old (flagged_below flags r looks n) p (look_at looks p))
    ∙ ap (λ (x : Place × Look). tape_after_all old (flagged_below flags r looks n ++ x ∷ [])) here
    ∙ ap (tape_after_all old) (sym (flagged_below-set flags r looks n (flag_read flags n ∙ flagged)))

-- and one that isn't flagged
pub taped-left : (flags : List Bool) (r : ℕ) (looks : List (List Look)) (old now : Tape) (n : ℕ)
    → now ≡ tape_after_all old (flagged_below flags r looks n) → get_or flags n false ≡ false
    → now ≡ tape_after_all old (flagged_below flags r looks (n + 1))
taped-left flags r looks old now n so_far unflagged =
    so_far ∙ ap (tape_after_all old) (sym (flagged_below-unset flags r looks n (flag_read flags n ∙ unflagged)))

pub taped-all : (flags : List Bool) (r : ℕ) (looks : List (List Look)) (old now : Tape) (n : ℕ)
    → now ≡ tape_after_all old (flagged_below flags r looks n) → n ≡ 40
    → now ≡ tape_after_all old (flagged_looks flags r looks)
taped-all flags r looks old now n so_far all =
    so_far
    ∙ ap (tape_after_all old) (ap (flagged_below flags r looks) all ∙ flagged_below-all flags r looks)
