-- Patterns of bytes are valid: each line has as many bits as the form is wide, and the lines are within its planes.
use Rattle.std.proofs.Common.{◌≡◌, ℕ, zero, suc, ◌+◌, ◌-◌, ◌*◌, ◌^◌, ◌<◌, ◌≤◌, true, ◌⊎◌, ◌==◌}
use Rattle.std.proofs.Common.{List, [], ◌∷◌, ◌++◌, length, replicate, drop, slice_index, cond, Option, Some}
use Rattle.std.proofs.Common.{None, inl, inr}
use Rattle.std.proofs.Common.{option_to_list, IsTrue, sym, ap, ◌∙◌, subst, pow_pos, pow_mono, pow-add, arith}
use Rattle.std.proofs.Common.{add-zero, add-mul, one-mul, mul_assoc, mul-le-mul_right, mul_comm, suc-mul}
use Rattle.std.proofs.lemmas.Bool.{cases_Bool, both_ways, eq-eqb, ne_eqb}
use Rattle.std.proofs.lemmas.Bool.Decides.{nat_tests}
use Rattle.std.proofs.lemmas.List.{length-append}
use Rattle.cept_codes.specs.declared.command.Form.{Form}
use Rattle.cept_codes.specs.declared.look.Pattern.{Pattern}
use Rattle.cept_codes.specs.Command.{IsValidForm}
use Rattle.cept_codes.specs.Look.{IsValidPattern, is_pattern_size}
use Rattle.cept_drcs.specs.Block.{blank, has_pixels, sign_lines, six}
use Rattle.cept_drcs.specs.Adding.{adds, part_after_bytes, whole}
use Rattle.cept_drcs.specs.Cut.{Block, is_opener}
use Rattle.cept_drcs.specs.Loading.{plane_of}
use Rattle.cept_drcs.specs.Unit.{is_pattern, lines_from, pattern}
use Rattle.cept_drcs.specs.Loading.{pattern_of}
use Rattle.cept_drcs.specs.Loading.{Loading, fresh, loading_after, load, all_lines, above, room, before, loading_at_plane, loading_with, Leads}
use Rattle.cept_drcs.proofs.Cuts.{pattern_is}
use Rattle.cept_drcs.proofs.BlockLemmas.{half_line, sign_cases}
use Rattle.cept_drcs.proofs.Bridge.{next_plane, length-closed_lines}
use Rattle.cept_drcs.proofs.Reading.{Ends, ended, leads_pattern, pattern_of_leads, no_pattern}
use Rattle.cept_drcs.proofs.Numbers.{load_form, loading_after-form, led}
use Rattle.cept_drcs.proofs.WordBits.{length-words, word_below, clear_behind}

-- ---- lines of a width

abbrev pub AreLines : ℕ → List ℕ → Type 0
AreLines w [] = Unit {0}
AreLines w (l ∷ ls) = (l < 2 ^ w) × AreLines w ls

lines_append : (w : ℕ) (a b : List ℕ) → AreLines w a → AreLines w b → AreLines w (a ++ b)
lines_append w [] b x y = y
lines_append w (l ∷ a) b x y = (x.0, lines_append w a b x.1 y)

lines_replicate : (w n l : ℕ) → l < 2 ^ w → AreLines w (replicate n l)
lines_replicate w zero l h = tt
lines_replicate w (suc n) l h = (h, lines_replicate w n l h)

lines_drop : (w n : ℕ) (ls : List ℕ) → AreLines w ls → AreLines w (drop n ls)
lines_drop w zero ls x = x
lines_drop w (suc n) [] x = tt
lines_drop w (suc n) (l ∷ ls) x = lines_drop w n ls x.1

line_of : (w n : ℕ) (ls : List ℕ) → AreLines w ls → slice_index ls n < 2 ^ w
line_of w n [] x = pow_pos w
line_of w zero (l ∷ ls) x = x.0
line_of w (suc n) (l ∷ ls) x = line_of w n ls x.1

-- lines of a width are a number of so many bits
lines_below : (w n : ℕ) (ls : List ℕ) → AreLines w ls
    → lines_from w n ls + 2 ^ (n * w) ≤ 2 ^ ((n + length ls) * w)
unfolding lines_from
lines_below w n [] x = let e : 2 ^ ((n + 0) * w) ≡ 2 ^ (n * w) = ap (λ k. 2 ^ (k * w)) (add-zero n) in omega arith
lines_below w n (l ∷ ls) x =
    let i = lines_below w (n + 1) ls x.1 in
    let e : n + suc (length ls) ≡ n + 1 + length ls = omega arith in
    let j : (n + 1) * w ≡ n * w + w = add-mul n 1 w ∙ ap (λ k. n * w + k) (one-mul w) in
    let s : 2 ^ ((n + 1) * w) ≡ 2 ^ (n * w) * 2 ^ w = ap (λ k. 2 ^ k) j ∙ pow-add 2 (n * w) w in
    let m : suc l * 2 ^ (n * w) ≤ 2 ^ w * 2 ^ (n * w) = mul-le-mul_right (2 ^ (n * w)) x.0 in
    let c : 2 ^ (n * w) * 2 ^ w ≡ 2 ^ w * 2 ^ (n * w) = mul_comm (2 ^ (n * w)) (2 ^ w) in
    let t = suc-mul l (2 ^ (n * w)) in
    let g : 2 ^ ((n + suc (length ls)) * w) ≡ 2 ^ ((n + 1 + length ls) * w) = ap (λ k. 2 ^ (k * w)) e in
    omega arith

-- ---- half lines

-- there are half lines of 64 numbers, and only of a width of 12
abbrev IsHalf : ℕ → Option ℕ → Type 0
IsHalf w None = Unit {0}
IsHalf w (Some l) = (l < 64) × (w ≡ 12)

-- lines and a half line
record IsDrawn (w : ℕ) (lines : List ℕ) (half : Option ℕ) : Type 0 where
  pub whole : AreLines w lines
  pub part : IsHalf w half

six_below : (a : ℕ) → six a < 64
six_below a = omega arith

half_below : (w l : ℕ) → IsHalf w (Some l) → l < 2 ^ w
half_below w l h = subst (λ (k : ℕ). l < 2 ^ k) (sym h.1) (omega (arith, h.0))

completed_below : (w l a : ℕ) → IsHalf w (Some l) → l + 64 * six a < 2 ^ w
completed_below w l a h =
    subst (λ (k : ℕ). l + 64 * six a < 2 ^ k) (sym h.1) (omega (arith, h.0, six_below a))

is_wide : (w h : ℕ) → IsTrue (is_pattern_size w h) → (w ≡ 6) ⊎ (w ≡ 12)
is_wide w h t = grind (arith, nat_tests)

half_lines : (w : ℕ) (half : Option ℕ) → IsHalf w half → AreLines w (option_to_list half)
half_lines w None h = tt
half_lines w (Some l) h = (half_below w l h, tt)

sign_drawn : (w room before a : ℕ) → before < 2 ^ w → AreLines w (sign_lines w room before a)
sign_drawn w room before a h =
    sign_cases w room before a (AreLines w) (λ n l _ _ below. lines_replicate w n l (below h))

-- a pattern is of a width
abbrev IsWide : ℕ → Type 0
IsWide w = (w ≡ 6) ⊎ (w ≡ 12)

wide : (f : Form) → IsValidForm f → IsWide f.w
wide f v = let s = v.size in is_wide f.w f.h s

pixels_drawn : (w a : ℕ) → IsWide w
    → let d = cond (w == 6) (whole (six a ∷ [])) (half_line (six a)) in IsDrawn w d.lines d.half
pixels_drawn w a (inl e) =
    let s = six_below a in
    let six_wide : six a < 2 ^ w = subst (λ (k : ℕ). six a < 2 ^ k) (sym e) (omega arith) in
    rw (eq-eqb w 6 e) (record { whole = (six_wide, tt); part = tt })
pixels_drawn w a (inr e) = rw (ne_eqb w 6 (λ n. omega arith)) (record { whole = tt; part = (six_below a, e) })

-- what a byte adds
adds_drawn : (w room before : ℕ) (half : Option ℕ) (a : ℕ) → IsWide w → before < 2 ^ w → IsHalf w half
    → let d = adds w room before half a in IsDrawn w d.lines d.half
unfolding adds
adds_drawn w room before None a v b h =
    elim (cases_Bool (has_pixels a)) [
      | inl t ↦ rw t (pixels_drawn w a v)
      | inr t ↦ rw t (record { whole = sign_drawn w room before a b; part = tt })
    ]
adds_drawn w room before (Some l) a v b h =
    elim (cases_Bool (has_pixels a)) [
      | inl t ↦ rw t (record { whole = (completed_below w l a h, tt); part = tt })
      | inr t ↦ rw t (record {
        whole = (half_below w l h, sign_drawn w (room - 1) l a (half_below w l h));
        part = tt;
      })
    ]

-- a state with such lines
abbrev IsDrawnState : Loading → Type 0
IsDrawnState l = IsDrawn l.form.w l.lines l.half

opened_drawn : (l : Loading) (p : ℕ) → IsDrawnState l → IsDrawnState (loading_at_plane l p)
opened_drawn l p d =
    let w = l.form.w in
    let all = lines_append w l.lines (option_to_list l.half) d.whole (half_lines w l.half d.part) in
    record {
      whole = lines_append w (all_lines l) _ all (lines_replicate w _ 0 (pow_pos w));
      part = tt;
    }

added_drawn : (l : Loading) (a : ℕ) → IsWide l.form.w → IsDrawnState l
    → IsDrawnState (loading_with l (adds l.form.w (room l) (before l) l.half a))
added_drawn l a v d =
    let w = l.form.w in
    let b : before l < 2 ^ w = line_of w _ (drop (above l) l.lines) (lines_drop w (above l) l.lines d.whole) in
    let more = adds_drawn w (room l) (before l) l.half a v b d.part in
    record { whole = lines_append w l.lines _ d.whole more.whole; part = more.part }

taken_drawn : (l : Loading) (a : ℕ) → IsWide l.form.w → IsDrawnState l → IsDrawnState (loading_after l a)
unfolding loading_after
taken_drawn l a v d =
    let opener = cases_Bool (is_opener a) in
    elim (cases_Bool l.begun) [
      | inl t ↦ elim opener [
        | inl o ↦ rw (t, o) (opened_drawn l (plane_of a) d)
        | inr o ↦ rw (t, o) (added_drawn l a v d)
      ]
      | inr t ↦ rw t d
    ]

load_drawn : (l : Loading) (u : List ℕ) → IsWide l.form.w → IsDrawnState l → IsDrawnState (load l u)
unfolding load
load_drawn l [] v d = d
load_drawn l (a ∷ u) v d =
    let w = subst (λ (f : Form). IsWide f.w) (sym (loading_after-form l a)) v in
    load_drawn (loading_after l a) u w (taken_drawn l a v d)

-- ---- the number of a pattern

-- all lines are lines of the form's planes
ends_lines : (f : Form) (l : Loading) (b : Block) → Ends f l b → length (all_lines l) ≤ f.planes * f.h
ends_lines f l b k =
    let d = part_after_bytes f blank b.bytes in
    let z = ap (λ (m : Loading). length (all_lines m)) k.state in
    let c = length-closed_lines (k.above ++ d.lines) d.half in
    let n = length-append k.above d.lines in
    let m = next_plane b.plane f.planes f.h k.plane in
    let e = k.long in
    let r = k.within.room in
    omega arith

-- lines of the form's planes are a number of as many bits as it has pixels
lines_fit : (f : Form) (ls : List ℕ) → AreLines f.w ls → length ls ≤ f.planes * f.h
    → lines_from f.w 0 ls < 2 ^ (f.w * f.h * f.planes)
lines_fit f ls x h =
    let i = lines_below f.w 0 ls x in
    let z = pow_pos (0 * f.w) in
    let e : (0 + length ls) * f.w ≤ f.planes * f.h * f.w = mul-le-mul_right f.w (omega (arith, h)) in
    let m : f.planes * f.h * f.w ≡ f.w * f.h * f.planes = mul_comm (f.planes * f.h) f.w
    ∙ ap (λ k. f.w * k) (mul_comm f.planes f.h) ∙ sym (mul_assoc f.w f.h f.planes) in
    let p : 2 ^ ((0 + length ls) * f.w) ≤ 2 ^ (f.w * f.h * f.planes) = pow_mono (omega (arith, e, m)) in
    omega arith

valid_of : (f : Form) (n : ℕ) → IsValidForm f → n < 2 ^ (f.w * f.h * f.planes) → IsValidPattern (pattern_of f n)
valid_of f n v h = record {
  size = v.size;
  planes = v.planes;
  words = length-words 9 n;
  fits = word_below 9 n;
  clear = λ j l. clear_behind 9 n (f.w * f.h * f.planes) j h l;
}

fresh_drawn : (f : Form) → IsDrawnState (fresh f)
fresh_drawn f = record { whole = tt; part = tt }

pub loaded_lines : (f : Form) (u : List ℕ) → IsValidForm f → AreLines f.w (all_lines (load (fresh f) u))
loaded_lines f u v =
    let l = load (fresh f) u in
    let d : IsDrawnState l = load_drawn (fresh f) u (wide f v) (fresh_drawn f) in
    let all = lines_append l.form.w l.lines (option_to_list l.half) d.whole (half_lines l.form.w l.half d.part) in
    subst (λ (g : Form). AreLines g.w (all_lines l)) (load_form (fresh f) u) all

few_lines : (f : Form) (u : List ℕ) (l : Loading) → Leads f u l → length (all_lines (load (fresh f) u)) ≤ f.planes * f.h
unfolding load
few_lines f [] l k = omega arith
few_lines f (a ∷ u) l k =
    let e = ended f a u (pattern_of_leads f a u l k) in
    ends_lines f (load (fresh f) (a ∷ u)) e.last e.ends

-- the pattern of bytes that lead to a state is valid
pub led_valid : (f : Form) (u : List ℕ) (l : Loading) → Leads f u l → IsValidPattern (pattern f u)
led_valid f u l k =
    let ls = all_lines (load (fresh f) u) in
    let fit = lines_fit f ls (loaded_lines f u k.form) (few_lines f u l k) in
    let v = valid_of f (lines_from f.w 0 ls) k.form fit in
    subst (λ (t : Pattern). IsValidPattern t) (ap (pattern_of f) (led f u k.continue) ∙ sym (pattern_is f u)) v

pub unit_valid : (f : Form) (u : List ℕ) → IsValidForm f → is_pattern f u ≡ true → IsValidPattern (pattern f u)
unit_valid f [] v h = absurd (both_ways _ (no_pattern f) h)
unit_valid f (a ∷ u) v h = led_valid f (a ∷ u) _ (leads_pattern f a u v h)
