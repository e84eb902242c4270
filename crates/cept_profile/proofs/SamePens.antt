-- Pens that compare as equal are the same.
use Rattle.std.proofs.Common.{◌≡◌, ◌==◌, Bool, true, Option, Some, None, refl, ap, rules}
use Rattle.std.specs.Option.{option_eq}
use Rattle.std.proofs.lemmas.Bool.{and_parts, eqb-true}
use Rattle.cept_codes.specs.declared.attribute.Flash.{Flash}
use Rattle.cept_codes.specs.declared.attribute.Pen.{Pen}
use Rattle.cept_codes.specs.declared.attribute.Size.{Size}
use Rattle.cept_codes.specs.Same.{same_flash, same_pen, same_size}
use mathlib.Core.Bool.{beq}

option-same : {X : Type 0} (eq : X → X → Bool) → ((x y : X) → eq x y ≡ true → x ≡ y) → (a b : Option X)
    → option_eq eq a b ≡ true → a ≡ b
option-same eq one None None same = refl
option-same eq one None (Some y) same = absurd (cc)
option-same eq one (Some x) None same = absurd (cc)
option-same eq one (Some x) (Some y) same = ap Some (one x y same)

flag-same : (a b : Bool) → beq a b ≡ true → a ≡ b
flag-same a b same = search rules

flash-same : (a b : Flash) → same_flash a b ≡ true → a ≡ b
flash-same a b same = search rules

size-same : (a b : Size) → same_size a b ≡ true → a ≡ b
size-same a b same = search rules

pub pen-same : (a b : Pen) → same_pen a b ≡ true → a ≡ b
pen-same a b same =
    let f = and_parts (option_eq (◌==◌) a.fore b.fore) _ same in
    let g = and_parts (option_eq (◌==◌) a.back b.back) _ f.1 in
    let h = and_parts (option_eq same_flash a.flash b.flash) _ g.1 in
    let j = and_parts (option_eq beq a.conceal b.conceal) _ h.1 in
    let k = and_parts (option_eq beq a.lined b.lined) _ j.1 in
    let l = and_parts (option_eq beq a.boxed b.boxed) _ k.1 in
    let m = and_parts (option_eq same_size a.size b.size) _ l.1 in
    λ i. record {
      fore = option-same (◌==◌) eqb-true a.fore b.fore f.0 i;
      back = option-same (◌==◌) eqb-true a.back b.back g.0 i;
      flash = option-same same_flash flash-same a.flash b.flash h.0 i;
      conceal = option-same beq flag-same a.conceal b.conceal j.0 i;
      lined = option-same beq flag-same a.lined b.lined k.0 i;
      boxed = option-same beq flag-same a.boxed b.boxed l.0 i;
      size = option-same same_size size-same a.size b.size m.0 i;
      invert = option-same beq flag-same a.invert b.invert m.1 i;
    }
