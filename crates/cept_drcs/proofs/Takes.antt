-- Which bytes continue a pattern, a kind of bytes each.
use Rattle.std.proofs.Common.{◌≡◌, ℕ, ◌-◌, ◌<◌, ◌==◌, nat_lt, cond, Bool, true, false, ◌&&◌, ◌||◌}
use Rattle.std.proofs.Common.{refl, sym, ◌∙◌, arith}
use Rattle.std.proofs.lemmas.Bool.Decides.{nat_tests}
use Rattle.std.proofs.lemmas.Bool.{and_parts, ltb-true, cond-true, cond-false}
use Rattle.std.proofs.Math.Bool.{and-true}
use Rattle.cept_drcs.specs.Block.{has_pixels}
use Rattle.cept_drcs.specs.Adding.{is_sign, may_come, adds}
use Rattle.cept_drcs.specs.Cut.{is_opener}
use Rattle.cept_drcs.specs.Loading.{plane_of}
use Rattle.cept_drcs.specs.Loading.{Loading, takes, loading_after, room, before, loading_with}
use Rattle.cept_drcs.specs.Kept.{IsFed}

pub pixels_open : (a : ℕ) → has_pixels a ≡ true → is_opener a ≡ false
pixels_open a t = grind (arith, nat_tests)

pixels_first : (a : ℕ) → has_pixels a ≡ true → (a == 0x30) ≡ false
pixels_first a t = grind (arith, nat_tests)

pixels_test : (begun : Bool) (a r : ℕ) (opens : Bool) → has_pixels a ≡ true
    → cond begun (cond (is_opener a) opens (may_come r a)) (a == 0x30) ≡ (begun && nat_lt 0 r)
pixels_test true a r opens t = simp (pixels_open a t, t, and-true)
pixels_test false a r opens t = pixels_first a t

pub takes_pixels : (l : Loading) (a : ℕ) → has_pixels a ≡ true → takes l a ≡ (l.begun && nat_lt 0 (room l))
unfolding takes
takes_pixels l a t =
    pixels_test l.begun a (room l) (nat_lt l.plane (plane_of a) && nat_lt (plane_of a) l.form.planes) t

pub takes_first : (l : Loading) (a : ℕ) → l.begun ≡ false → takes l a ≡ (a == 0x30)
unfolding takes
takes_first l a b = simp b

pub takes_opener : (l : Loading) (a : ℕ) → l.begun ≡ true → is_opener a ≡ true
    → takes l a ≡ (nat_lt l.plane (plane_of a) && nat_lt (plane_of a) l.form.planes)
unfolding takes
takes_opener l a b t = simp (b, t)

sign_test : (has sign more : Bool) → has ≡ false → (more && (has || sign)) ≡ (sign && more)
sign_test true sign more h = cc
sign_test false true more h = and-true more
sign_test false false true h = refl
sign_test false false false h = refl

pub takes_sign : (l : Loading) (a : ℕ) → l.begun ≡ true → is_opener a ≡ false → has_pixels a ≡ false
    → takes l a ≡ (is_sign a && nat_lt 0 (room l))
unfolding takes
takes_sign l a b t p =
    simp (b, t) (sign_test (has_pixels a) (is_sign a) (nat_lt 0 (room l)) p)

-- what an opener that continues the pattern opens
pub opener_later : (l : Loading) (a : ℕ) → l.begun ≡ true → is_opener a ≡ true → takes l a ≡ true → l.plane < a - 0x30
opener_later l a b t h =
    ltb-true l.plane (a - 0x30)
    (and_parts (nat_lt l.plane (plane_of a)) (nat_lt (plane_of a) l.form.planes) (sym (takes_opener l a b t) ∙ h)).0

pub opener_is_plane : (l : Loading) (a : ℕ) → l.begun ≡ true → is_opener a ≡ true → takes l a ≡ true
    → a - 0x30 < l.form.planes
opener_is_plane l a b t h =
    ltb-true (a - 0x30) l.form.planes
    (and_parts (nat_lt l.plane (plane_of a)) (nat_lt (plane_of a) l.form.planes) (sym (takes_opener l a b t) ∙ h)).1

-- ---- bytes with pixels fed

pub fed_pixels : (l new : Loading) (a : ℕ) (more : Bool) → has_pixels a ≡ true → more ≡ (l.begun && nat_lt 0 (room l))
    → more ≡ true → new ≡ loading_with l (adds l.form.w (room l) (before l) l.half a) → IsFed l a true new
unfolding loading_after
fed_pixels l new a more p em m en =
    let takes_it : takes l a ≡ true = takes_pixels l a p ∙ sym em ∙ m in
    let begun : l.begun ≡ true = (and_parts l.begun (nat_lt 0 (room l)) (sym em ∙ m)).0 in
    let drawn_now : loading_after l a ≡ loading_with l (adds l.form.w (room l) (before l) l.half a) = simp (begun, pixels_open a p) in
    assumption (sym takes_it, en ∙ sym (cond-true (takes l a) (loading_after l a) l takes_it ∙ drawn_now))

pub unfed_pixels : (l : Loading) (a : ℕ) (more : Bool) → has_pixels a ≡ true → more ≡ (l.begun && nat_lt 0 (room l))
    → more ≡ false → IsFed l a false l
unfed_pixels l a more p em m =
    let refused : takes l a ≡ false = takes_pixels l a p ∙ sym em ∙ m in
    record { taken_is = sym refused; state = sym (cond-false (takes l a) (loading_after l a) l refused) }
