-- Optional parts, taken off one after another.
use Rattle.std.proofs.Common.{◌≡◌, ℕ, Bool, true, false, cond, List, [], ◌∷◌, refl, sym, ◌∙◌}
use Rattle.cept_parser.specs.declared.fit.Fit.{Fit}
use Rattle.cept_parser.specs.Bytes.{contains, optional}
use Rattle.cept_parser.specs.inside.Fit.{bytes_after}

same_choice : (F : List ℕ → Fit) (b : Bool) (u v : List ℕ) → cond b (F u) (F v) ≡ F (cond b u v)
same_choice F true u v = refl
same_choice F false u v = refl

-- a part is taken off
part_off : (p q : List ℕ) (parts : List (List ℕ)) (u : List ℕ)
    → optional (p ∷ q ∷ parts) u ≡ optional (q ∷ parts) (bytes_after p u)
part_off p q parts [] = refl
part_off p q parts (a ∷ u) = same_choice (optional (q ∷ parts)) (contains p a) u (a ∷ u)

pub four_parts : (p q s t : List ℕ) (u r v z : List ℕ) (w : Fit) → r ≡ bytes_after p u → v ≡ bytes_after q r
    → z ≡ bytes_after s v → w ≡ optional (t ∷ []) z → w ≡ optional (p ∷ q ∷ s ∷ t ∷ []) u
four_parts p q s t u r v z w e f g h =
    h ∙ rw (g, f, e) (sym (part_off p q (s ∷ t ∷ []) u ∙ part_off q s (t ∷ []) (bytes_after p u)
    ∙ part_off s t [] (bytes_after q (bytes_after p u))))
