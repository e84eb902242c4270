-- What a byte adds to a block: it stays within the lines that are left, and there is more of it than before.
use Rattle.std.proofs.Common.{◌≡◌, ℕ, ◌+◌, ◌-◌, ◌*◌, ◌^◌, ◌<◌, ◌≤◌, min, replicate, true, List, [], ◌∷◌, ◌++◌}
use Rattle.std.proofs.Common.{inl, inr, length, cond, ◌==◌, Option, Some, None, refl, sym, subst, ◌∙◌, arith, append-nil}
use Rattle.std.proofs.lemmas.Bool.{cases_Bool, and_parts, cond_both, leb-true, ltb-true}
use Rattle.std.proofs.lemmas.Nat.{pow_pos}
use Rattle.std.proofs.lemmas.List.{length-append, length-replicate}
use Rattle.cept_codes.specs.declared.command.Form.{Form}
use Rattle.cept_drcs.specs.Bytes.{is_between}
use Rattle.cept_drcs.specs.Block.{BlockPart, blank, sign_lines, has_pixels, six, with_byte}
use Rattle.cept_drcs.specs.Adding.{adds, whole}
use Rattle.cept_drcs.specs.Adding.{may_come, part_after_byte, part_after_bytes, last_line}

-- how many half lines there are
abbrev pub halves : Option ℕ → ℕ
halves None = 0
halves (Some l) = 1

-- what is added is within the lines that are left, and more than the half line that it completes
pub record Measured (room : ℕ) (half : Option ℕ) (d : BlockPart) : Type 0 where
  pub within : length d.lines + halves d.half ≤ room
  pub more : halves half < 2 * length d.lines + halves d.half

-- what is said of the same line so many times holds of the lines of a sign
pub sign_cases : (w room before a : ℕ) (P : List ℕ → Type 0)
    → ((n l : ℕ) → n ≤ room → (0 < room → 0 < n) → (before < 2 ^ w → l < 2 ^ w) → P (replicate n l))
    → P (sign_lines w room before a)
sign_cases w room before a P h =
    let z = pow_pos w in
    cond_both (is_between 0x21 0x2A a) _ _ P (λ t. let few = leb-true 0x21 a (and_parts _ _ t).0 in
    h (min (a - 0x20) room) before (omega arith) (λ r. omega arith) (λ b. b)) (λ _.
    cond_both (a == 0x20) _ _ P (λ _. h room 0 (omega arith) (λ r. r) (λ _. z)) (λ _.
    cond_both (a == 0x2C) _ _ P (λ _. h (min 1 room) 0 (omega arith) (λ r. omega arith) (λ _. z)) (λ _.
    cond_both (a == 0x2D) _ _ P (λ _. h (min 1 room) (2 ^ w - 1) (omega arith) (λ r. omega arith) (λ _. omega arith)) (λ _.
    cond_both (a == 0x2E) _ _ P (λ _. h room before (omega arith) (λ r. r) (λ b. b)) (λ _.
    h room (2 ^ w - 1) (omega arith) (λ r. r) (λ _. omega arith))))))

-- a sign has a line where one is left, and no more than are left
record Counted (room : ℕ) (ls : List ℕ) : Type 0 where
  pub most : length ls ≤ room
  pub some : 0 < room → 0 < length ls

sign_counted : (w room before a : ℕ) → Counted room (sign_lines w room before a)
sign_counted w room before a =
    sign_cases w room before a (Counted room) (λ n l m s _. let e = length-replicate {A = ℕ} n l in
    record { most = omega arith; some = λ r. let k = s r in omega arith })

-- a half line alone
abbrev pub half_line : ℕ → BlockPart
half_line l = record { lines = []; half = Some l }

pixels_alone : (w room a : ℕ) → 0 < room → Measured room None (cond (w == 6) (whole (six a ∷ [])) (half_line (six a)))
pixels_alone w room a h =
    elim (cases_Bool (w == 6)) [
      | inl t ↦ simp t (record { within = omega arith; more = omega arith })
      | inr t ↦ simp t (record { within = omega arith; more = omega arith })
    ]

pub adds_measured : (w room before : ℕ) (half : Option ℕ) (a : ℕ) → 0 < room
    → Measured room half (adds w room before half a)
unfolding adds
adds_measured w room before None a h =
    let n = (sign_counted w room before a).most in
    let m = (sign_counted w room before a).some h in
    elim (cases_Bool (has_pixels a)) [
      | inl t ↦ simp t (pixels_alone w room a h)
      | inr t ↦ simp t (record { within = omega arith; more = omega arith })
    ]
adds_measured w room before (Some l) a h =
    let n = (sign_counted w (room - 1) l a).most in
    elim (cases_Bool (has_pixels a)) [
      | inl t ↦ simp t (record { within = omega arith; more = omega arith })
      | inr t ↦ simp t (record { within = omega arith; more = omega arith })
    ]

-- a block that has no more lines than its plane: a half line has room too
pub record IsWithin (f : Form) (d : BlockPart) : Type 0 where
  pub room : length d.lines + halves d.half ≤ f.h

pub blank_within : (f : Form) → IsWithin f blank
blank_within f = record { room = omega arith }

pub may_come_room : (room a : ℕ) → may_come room a ≡ true → 0 < room
may_come_room room a h = ltb-true 0 room (and_parts _ _ h).0

-- what a byte adds to a block
pub draw_measured : (f : Form) (d : BlockPart) (a : ℕ) → may_come (f.h - length d.lines) a ≡ true
    → Measured (f.h - length d.lines) d.half (adds f.w (f.h - length d.lines) (last_line d.lines) d.half a)
draw_measured f d a h = adds_measured f.w _ (last_line d.lines) d.half a (may_come_room _ a h)

by_half : (f : Form) (ls : List ℕ) (half : Option ℕ) (a : ℕ)
    → (let more = adds f.w (f.h - length ls) (last_line ls) half a in
    with_byte f ls half a ≡ record { lines = ls ++ more.lines; half = more.half })
unfolding with_byte adds
by_half f ls None a =
    elim (cases_Bool (has_pixels a)) [
      | inl t ↦ elim (cases_Bool (f.w == 6)) [ inl w ↦ rw (t, w) refl | inr w ↦ rw (t, w, append-nil) refl ]
      | inr t ↦ rw t refl
    ]
by_half f ls (Some l) a = elim (cases_Bool (has_pixels a)) [ inl t ↦ rw t refl | inr t ↦ rw t refl ]

-- a block with a byte more is with what the byte adds
pub part_is : (f : Form) (d : BlockPart) (a : ℕ)
    → (let more = adds f.w (f.h - length d.lines) (last_line d.lines) d.half a in
    part_after_byte f d a ≡ record { lines = d.lines ++ more.lines; half = more.half })
part_is f d a = by_half f d.lines d.half a

pub draw_within : (f : Form) (d : BlockPart) (a : ℕ) → IsWithin f d → may_come (f.h - length d.lines) a ≡ true
    → IsWithin f (part_after_byte f d a)
draw_within f d a w h =
    let m = draw_measured f d a h in
    let more = adds f.w (f.h - length d.lines) (last_line d.lines) d.half a in
    let n = length-append d.lines more.lines in
    let drawn : IsWithin f (record { lines = d.lines ++ more.lines; half = more.half }) = record { room = omega arith } in
    subst (IsWithin f) (sym (part_is f d a)) drawn

-- bytes in two parts
pub part_after_bytes-append : (f : Form) (d : BlockPart) (u v : List ℕ) → part_after_bytes f d (u ++ v) ≡ part_after_bytes f (part_after_bytes f d u) v
part_after_bytes-append f d [] v = refl
part_after_bytes-append f d (a ∷ u) v = part_after_bytes-append f (part_after_byte f d a) u v

pub part_after_bytes-one : (f : Form) (d : BlockPart) (a : ℕ) → part_after_bytes f d (a ∷ []) ≡ part_after_byte f d a
part_after_bytes-one f d a = refl

-- a block with a byte more
pub part_after_bytes-more : (f : Form) (d : BlockPart) (u : List ℕ) (a : ℕ) → part_after_bytes f d (u ++ a ∷ []) ≡ part_after_byte f (part_after_bytes f d u) a
part_after_bytes-more f d u a = part_after_bytes-append f d u (a ∷ []) ∙ part_after_bytes-one f (part_after_bytes f d u) a
