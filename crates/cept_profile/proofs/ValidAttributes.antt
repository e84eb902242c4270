-- Valid attributes of codes: what a C1 code sets, in the pen, in a row and on the whole screen.
use Rattle.std.proofs.Common.{◌≡◌, ◌⊎◌, ℕ, ◌≤◌, ◌<◌, Bool, true, false, cond, eqb, ltb, Option, Some, None, arith}
use Rattle.std.specs.Prelude.{IfSome}
use Rattle.std.proofs.lemmas.Bool.{cond_both, eqb-true, ltb-true}
use Rattle.cept_codes.specs.declared.attribute.Attr.{Attr}
use Rattle.cept_codes.specs.declared.attribute.Attr.TheVariants as attrs
use Rattle.cept_codes.specs.declared.cell.Marker.{Marker}
use Rattle.cept_codes.specs.Attribute.{IsRowAttr, IsScreenAttr, IsValidAttr}
use Rattle.cept_codes.specs.Cell.{IsValidMarker}
use Rattle.cept_codes.specs.Command.{IsScreenC1}
use Rattle.cept_profile.specs.Pens.{c1_function}

-- an attribute that a C1 code can set: the sizes have codes of their own
abbrev pub IsOfCode : ℕ → Attr → Type 0
IsOfCode n (attrs.Size size) = (12 ≤ n) × (n ≤ 15)
IsOfCode n attr = IsRowAttr attr

IsRowAttr-of_code : (n : ℕ) (attr : Attr) → IsOfCode n attr → IsRowAttr attr
IsRowAttr-of_code n (attrs.Size size) is = tt
IsRowAttr-of_code n _ is = is

IsScreenAttr-of_code : (n : ℕ) (attr : Attr) → (n < 12) ⊎ (15 < n) → IsOfCode n attr → IsScreenAttr attr
IsScreenAttr-of_code n (attrs.Size size) other is = absurd (omega (arith, other, is))
IsScreenAttr-of_code n _ other is = is

pub IsValidAttr-row : (attr : Attr) → IsRowAttr attr → IsValidAttr attr
IsValidAttr-row (attrs.Flash f) is = tt
IsValidAttr-row _ is = is

IfSome-weaker : {X : Type 0} (P Q : X → Type 0) → ((x : X) → P x → Q x) → (o : Option X) → IfSome o P → IfSome o Q
IfSome-weaker P Q gives None is = tt
IfSome-weaker P Q gives (Some x) is = gives x is

-- a function of a C1 code
abbrev IsFunction : ℕ → Attr × Marker → Type 0
IsFunction n function = IsOfCode n function.0 × IsValidMarker function.1

-- one, or none, of a choice
IsFunction-choice : (n : ℕ) (test : Bool) (x y : Option (Attr × Marker)) → (test ≡ true → IfSome x (IsFunction n))
    → (test ≡ false → IfSome y (IsFunction n)) → IfSome (cond test x y) (IsFunction n)
IsFunction-choice n test x y holds fails = cond_both test x y (λ a. IfSome a (IsFunction n)) holds fails

-- a code of a size
IsSizeCode : (n k : ℕ) → 12 ≤ k → k ≤ 15 → eqb n k ≡ true → (12 ≤ n) × (n ≤ 15)
IsSizeCode n k low high e = let same = eqb-true n k e in (omega arith, omega arith)

IsFunction-c1_function : (table n : ℕ) → table ≤ 3 → IfSome (c1_function table n) (IsFunction n)
IsFunction-c1_function table n low =
    IsFunction-choice n (ltb n 8) _ _ (λ e. let below = ltb-true n 8 e in (omega arith, omega arith))
    (λ _. IsFunction-choice n (eqb n 8) _ _ (λ _. (tt, tt))
    (λ _. IsFunction-choice n (eqb n 9) _ _ (λ _. (tt, tt))
    (λ _. IsFunction-choice n (eqb n 10) _ _ (λ _. (tt, tt))
    (λ _. IsFunction-choice n (eqb n 11) _ _ (λ _. (tt, tt))
    (λ _. IsFunction-choice n (eqb n 12) _ _ (λ e. (IsSizeCode n 12 (omega arith) (omega arith) e, tt))
    (λ _. IsFunction-choice n (eqb n 13) _ _ (λ e. (IsSizeCode n 13 (omega arith) (omega arith) e, tt))
    (λ _. IsFunction-choice n (eqb n 14) _ _ (λ e. (IsSizeCode n 14 (omega arith) (omega arith) e, tt))
    (λ _. IsFunction-choice n (eqb n 15) _ _ (λ e. (IsSizeCode n 15 (omega arith) (omega arith) e, tt))
    (λ _. IsFunction-choice n (ltb n 24) _ _ (λ e. let below = ltb-true n 24 e in (omega arith, omega arith))
    (λ _. IsFunction-choice n (eqb n 24) _ _ (λ _. (tt, tt))
    (λ _. IsFunction-choice n (eqb n 25) _ _ (λ _. (tt, tt))
    (λ _. IsFunction-choice n (eqb n 26) _ _ (λ _. (tt, tt))
    (λ _. IsFunction-choice n (eqb n 28) _ _ (λ _. (tt, tt))
    (λ _. IsFunction-choice n (eqb n 29) _ _ (λ _. (tt, tt))
    (λ _. IsFunction-choice n (eqb n 30) _ _ (λ _. (tt, tt))
    (λ _. IsFunction-choice n (eqb n 31) _ _ (λ _. (tt, tt))
    (λ _. tt)))))))))))))))))

-- its attribute and its marker
pub HasRowAttr-c1_function : (table n : ℕ) → table ≤ 3 → IfSome (c1_function table n) (λ f. IsRowAttr f.0)
HasRowAttr-c1_function table n low =
    IfSome-weaker (IsFunction n) (λ f. IsRowAttr f.0) (λ f is. IsRowAttr-of_code n f.0 is.0) (c1_function table n)
    (IsFunction-c1_function table n low)

pub HasScreenAttr-c1_function : (table n : ℕ) → table ≤ 3 → IsScreenC1 n
    → IfSome (c1_function table n) (λ f. IsScreenAttr f.0)
HasScreenAttr-c1_function table n low valid =
    IfSome-weaker (IsFunction n) (λ f. IsScreenAttr f.0) (λ f is. IsScreenAttr-of_code n f.0 valid.1 is.0)
    (c1_function table n) (IsFunction-c1_function table n low)

pub HasValidAttr-c1_function : (table n : ℕ) → table ≤ 3 → IfSome (c1_function table n) (λ f. IsValidAttr f.0)
HasValidAttr-c1_function table n low =
    IfSome-weaker (λ f. IsRowAttr f.0) (λ f. IsValidAttr f.0) (λ f is. IsValidAttr-row f.0 is) (c1_function table n)
    (HasRowAttr-c1_function table n low)

pub HasValidMarker-c1_function : (table n : ℕ) → table ≤ 3 → IfSome (c1_function table n) (λ f. IsValidMarker f.1)
HasValidMarker-c1_function table n low =
    IfSome-weaker (IsFunction n) (λ f. IsValidMarker f.1) (λ f is. is.1) (c1_function table n)
    (IsFunction-c1_function table n low)
