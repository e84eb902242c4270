-- Copies of a sign: one more, and how many strokes they make.
use Rattle.std.proofs.Common.{◌≡◌, ℕ, ◌+◌, ◌*◌, ◌≤◌, zero, suc, None, [], ◌++◌, length, refl, ap, arith}
use Rattle.std.proofs.Common.{length-append, add-one}
use Rattle.cept_codes.specs.declared.glyph.Glyph.{Glyph}
use Rattle.cept_profile.specs.Control.{ControlState, control_with}
use Rattle.cept_profile.specs.Motions.{scrolling_area}
use Rattle.cept_profile.specs.Writing.{effect_of_copies, effect_of_sign}
use Rattle.cept_profile.proofs.Halves.{columns_of_sign, control_after_copies, strokes_of_copies, strokes_of_sign}
use Rattle.cept_profile.proofs.MotionStrokes.{length-on_strokes, on_strokes-none}

pub effect_of_copies-none : (s : ControlState) (g : Glyph) → effect_of_copies 0 s g ≡ (s.working, [])
unfolding effect_of_copies
effect_of_copies-none s g = refl

pub effect_of_copies-more : (n : ℕ) (s : ControlState) (g : Glyph)
    → (let before = effect_of_copies n s g in let more = effect_of_sign (control_with s before.0) g in
    effect_of_copies (n + 1) s g ≡ (more.0, before.1 ++ more.1))
unfolding effect_of_copies
effect_of_copies-more n s g = ap (λ (m : ℕ). effect_of_copies m s g) (add-one n)

-- each copy is one stroke, and one more where its step scrolls
pub length-strokes_of_copies : (n : ℕ) (s : ControlState) (g : Glyph) → length (strokes_of_copies n s g) ≤ 2 * n
unfolding effect_of_copies
length-strokes_of_copies zero s g = omega arith
length-strokes_of_copies (suc n) s g =
    omega (
      arith,
      length-strokes_of_copies n s g,
      length-append (strokes_of_copies n s g) (strokes_of_sign (control_after_copies n s g) g),
      length-on_strokes (control_after_copies n s g) (columns_of_sign (control_after_copies n s g)),
    )

-- one alone where no area scrolls
pub length-strokes_of_copies-unscrolled : (n : ℕ) (s : ControlState) (g : Glyph) → scrolling_area s ≡ None
    → length (strokes_of_copies n s g) ≡ n
unfolding effect_of_copies
length-strokes_of_copies-unscrolled zero s g none = refl
length-strokes_of_copies-unscrolled (suc n) s g none =
    omega (
      arith,
      length-strokes_of_copies-unscrolled n s g none,
      length-append (strokes_of_copies n s g) (strokes_of_sign (control_after_copies n s g) g),
      ap length
          (on_strokes-none (control_after_copies n s g) (columns_of_sign (control_after_copies n s g)) none),
    )
