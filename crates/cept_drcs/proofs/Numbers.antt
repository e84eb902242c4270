-- The number of a pattern: the lines that are read one by one are those of its blocks.
use Rattle.std.proofs.Common.{◌≡◌, ℕ, zero, suc, ◌+◌, ◌-◌, ◌*◌, ◌^◌, true, false, List, [], ◌∷◌, ◌++◌}
use Rattle.std.proofs.Common.{inl, inr, length, replicate, option_to_list, refl, sym, ap, ◌∙◌, subst}
use Rattle.std.proofs.Common.{zero-mul, add-zero, pow-add, add-mul, one-mul, mul-one, mul_assoc, arith}
use Rattle.std.proofs.lemmas.Bool.{cases_Bool, and_parts, ltb-true, eqb-true}
use Rattle.std.proofs.lemmas.List.{append_assoc}
use Rattle.cept_codes.specs.declared.command.Form.{Form}
use Rattle.cept_drcs.specs.Block.{BlockPart, blank}
use Rattle.cept_drcs.specs.Adding.{part_after_byte, part_after_bytes}
use Rattle.cept_drcs.specs.Cut.{is_opener, blocks}
use Rattle.cept_drcs.specs.Loading.{plane_of}
use Rattle.cept_drcs.proofs.Cuts.{cut, cut_opener, cut_other, pattern_is}
use Rattle.cept_drcs.specs.Unit.{lines_from, blocks_number, pattern}
use Rattle.cept_drcs.specs.Loading.{pattern_of}
use Rattle.cept_drcs.specs.Loading.{Loading, fresh, load, loads, closed_lines, all_lines, loading_after, Leads}
use Rattle.cept_drcs.proofs.BlockLemmas.{IsWithin, blank_within, draw_within}
use Rattle.cept_drcs.proofs.Bridge.{stand, above_next, length-above_next, loads_opener, loads_other, loads_first}
use Rattle.cept_drcs.proofs.Reading.{load_opener, load_other, load_first}

-- ---- lines in two parts

pub lines_from-append : (w n : ℕ) (a b : List ℕ)
    → lines_from w n (a ++ b) ≡ lines_from w n a + lines_from w (n + length a) b
unfolding lines_from
lines_from-append w n [] b = let m = ap (λ k. lines_from w k b) (add-zero n) in omega arith
lines_from-append w n (l ∷ a) b =
    let i = lines_from-append w (n + 1) a b in
    let e : n + 1 + length a ≡ n + suc (length a) = omega arith in
    let m = ap (λ k. lines_from w k b) e in
    omega arith

pub lines_from-zeros : (w n k : ℕ) → lines_from w n (replicate k 0) ≡ 0
unfolding lines_from
lines_from-zeros w n zero = refl
lines_from-zeros w n (suc k) = let i = lines_from-zeros w (n + 1) k in omega (arith, zero-mul (2 ^ (n * w)))

-- lines one place further on are worth a width more
pub lines_shift : (w n : ℕ) (ls : List ℕ) → lines_from w (n + 1) ls ≡ lines_from w n ls * 2 ^ w
unfolding lines_from
lines_shift w n [] = sym (zero-mul (2 ^ w))
lines_shift w n (l ∷ ls) =
    let i = lines_shift w (n + 1) ls in
    let e : (n + 1) * w ≡ n * w + w = add-mul n 1 w ∙ ap (λ k. n * w + k) (one-mul w) in
    let s : 2 ^ ((n + 1) * w) ≡ 2 ^ (n * w) * 2 ^ w = ap (λ k. 2 ^ k) e ∙ pow-add 2 (n * w) w in
    let m : l * 2 ^ ((n + 1) * w) ≡ l * 2 ^ (n * w) * 2 ^ w =
    ap (λ k. l * k) s ∙ sym (mul_assoc l (2 ^ (n * w)) (2 ^ w)) in
    let a = add-mul (l * 2 ^ (n * w)) (lines_from w (n + 1) ls) (2 ^ w) in
    omega arith

-- a line before lines
pub line_more : (w l : ℕ) (ls : List ℕ) → lines_from w 0 (l ∷ ls) ≡ lines_from w 0 ls * 2 ^ w + l
unfolding lines_from
line_more w l ls =
    let s = lines_shift w 0 ls in
    let e : l * 2 ^ (0 * w) ≡ l = ap (λ k. l * 2 ^ k) (zero-mul w) ∙ mul-one l in
    let j : lines_from w (0 + 1) ls ≡ lines_from w 1 ls = refl in
    omega arith

-- lines of a plane after those above it
stand_number : (f : Form) (p : ℕ) (up : List ℕ) (d : BlockPart) → length up ≡ p * f.h
    → lines_from f.w 0 (closed_lines (up ++ d.lines) d.half)
    ≡ lines_from f.w 0 up + lines_from f.w (p * f.h) (closed_lines d.lines d.half)
stand_number f p up d e =
    let z = lines_from-append f.w 0 up (closed_lines d.lines d.half) in
    let m : lines_from f.w (0 + length up) (closed_lines d.lines d.half)
    ≡ lines_from f.w (p * f.h) (closed_lines d.lines d.half) =
    ap (λ k. lines_from f.w k (closed_lines d.lines d.half)) (omega (arith, e)) in
    ap (lines_from f.w 0) (append_assoc up d.lines (option_to_list d.half)) ∙ omega arith

-- lines of 0 after them count for nothing
above_number : (f : Form) (p q : ℕ) (up : List ℕ) (d : BlockPart) → length up ≡ p * f.h
    → lines_from f.w 0 (above_next f q up d)
    ≡ lines_from f.w 0 up + lines_from f.w (p * f.h) (closed_lines d.lines d.half)
above_number f p q up d e =
    let ls = closed_lines (up ++ d.lines) d.half in
    let z = lines_from-append f.w 0 ls (replicate (q * f.h - length ls) 0) in
    let o = lines_from-zeros f.w (0 + length ls) (q * f.h - length ls) in
    let s = stand_number f p up d e in
    omega arith

-- ---- the number of the lines read

load_none : (l : Loading) → load l [] ≡ l
unfolding load
load_none l = refl

-- the number of a block of this plane
abbrev block_number : Form → ℕ → BlockPart → ℕ
block_number f p d = lines_from f.w (p * f.h) (closed_lines d.lines d.half)

-- the number of cut bytes, where this block is drawn so far
abbrev cut_number : Form → ℕ → BlockPart → List ℕ → ℕ
cut_number f p d u = block_number f p (part_after_bytes f d (cut u).front) + blocks_number f (cut u).blocks

cut_number_none : (f : Form) (p : ℕ) (d : BlockPart) → cut_number f p d [] ≡ block_number f p d
unfolding cut blocks blocks_number
cut_number_none f p d = omega arith

cut_number_opener : (f : Form) (p : ℕ) (d : BlockPart) (a : ℕ) (u : List ℕ) → is_opener a ≡ true
    → cut_number f p d (a ∷ u) ≡ block_number f p d + cut_number f (plane_of a) blank u
unfolding blocks_number
cut_number_opener f p d a u t = rw (cut_opener a u t) refl

cut_number_other : (f : Form) (p : ℕ) (d : BlockPart) (a : ℕ) (u : List ℕ) → is_opener a ≡ false
    → cut_number f p d (a ∷ u) ≡ cut_number f p (part_after_byte f d a) u
cut_number_other f p d a u t = rw (cut_other a u t) refl

abbrev pub number : Form → Loading → ℕ
number f l = lines_from f.w 0 (all_lines l)

number_is : (f : Form) (p : ℕ) (up : List ℕ) (d : BlockPart) (u : List ℕ) → length up ≡ p * f.h → IsWithin f d
    → loads (stand f p up d) u ≡ true
    → number f (load (stand f p up d) u) ≡ lines_from f.w 0 up + cut_number f p d u
number_is f p up d [] e w h =
    let s = stand_number f p up d e in
    let z = cut_number_none f p d in
    let n : number f (load (stand f p up d) []) ≡ lines_from f.w 0 (closed_lines (up ++ d.lines) d.half) =
    ap (number f) (load_none (stand f p up d)) in
    omega arith
number_is f p up d (a ∷ u) e w h =
    let Goal : Type 0 = number f (load (stand f p up d) (a ∷ u)) ≡ lines_from f.w 0 up + cut_number f p d (a ∷ u) in
    let opener : is_opener a ≡ true → Goal =
    λ t.
    let q = plane_of a in
    let g = and_parts _ _ (sym (loads_opener f p up d a u t) ∙ h) in
    let l = ltb-true p q (and_parts _ _ g.0).0 in
    let i = number_is f q (above_next f q up d) blank u (length-above_next f p q up d e w l) (blank_within f) g.1 in
    let s = above_number f p q up d e in
    let z = cut_number_opener f p d a u t in
    let n = ap (number f) (load_opener f p up d a u t) in
    omega arith in
    let other : is_opener a ≡ false → Goal =
    λ t.
    let g = and_parts _ _ (sym (loads_other f p up d a u t e) ∙ h) in
    let i = number_is f p up (part_after_byte f d a) u e (draw_within f d a w g.0) g.1 in
    let z = cut_number_other f p d a u t in
    let n = ap (number f) (load_other f p up d a u t e) in
    omega arith in
    elim (cases_Bool (is_opener a)) [ inl t ↦ opener t | inr t ↦ other t ]

-- ---- the pattern of what is read

first_number : (f : Form) (u : List ℕ) → blocks_number f (cut (0x30 ∷ u)).blocks ≡ cut_number f 0 blank u
unfolding blocks_number
first_number f u = rw (cut_opener 0x30 u refl) refl

first_led : (f : Form) (u : List ℕ) → loads (fresh f) (0x30 ∷ u) ≡ true
    → number f (load (fresh f) (0x30 ∷ u)) ≡ blocks_number f (cut (0x30 ∷ u)).blocks
unfolding lines_from
first_led f u h =
    let n = number_is f 0 [] blank u (sym (zero-mul f.h)) (blank_within f) (sym (loads_first f 0x30 u) ∙ h) in
    ap (number f) (load_first f 0x30 u) ∙ n ∙ omega (arith, first_number f u)

number_led : (f : Form) (a : ℕ) (u : List ℕ) → loads (fresh f) (a ∷ u) ≡ true
    → number f (load (fresh f) (a ∷ u)) ≡ blocks_number f (cut (a ∷ u)).blocks
number_led f a u h =
    let Led : ℕ → Type 0 = λ b. loads (fresh f) (b ∷ u) ≡ true
    → number f (load (fresh f) (b ∷ u)) ≡ blocks_number f (cut (b ∷ u)).blocks in
    let first_byte = eqb-true a 0x30 (and_parts _ _ (sym (loads_first f a u) ∙ h)).0 in
    subst Led (sym first_byte) (first_led f u) h

none_led : (f : Form) → number f (load (fresh f) []) ≡ blocks_number f (cut []).blocks
unfolding load lines_from blocks_number cut blocks
none_led f = refl

pub led : (f : Form) (u : List ℕ) → loads (fresh f) u ≡ true
    → number f (load (fresh f) u) ≡ blocks_number f (cut u).blocks
led f [] h = none_led f
led f (a ∷ u) h = number_led f a u h

pub loading_after-form : (l : Loading) (a : ℕ) → (loading_after l a).form ≡ l.form
unfolding loading_after
loading_after-form l a =
    let opener = cases_Bool (is_opener a) in
    elim (cases_Bool l.begun) [
      | inl t ↦ elim opener [ inl o ↦ rw (t, o) refl | inr o ↦ rw (t, o) refl ]
      | inr t ↦ rw t refl
    ]

-- the form stays
pub load_form : (l : Loading) (u : List ℕ) → (load l u).form ≡ l.form
unfolding load
load_form l [] = refl
load_form l (a ∷ u) = load_form (loading_after l a) u ∙ loading_after-form l a

-- the pattern of the lines read is that of the bytes
pub pattern_led : (f : Form) (u : List ℕ) (l : Loading) → Leads f u l
    → pattern_of l.form (lines_from l.form.w 0 (all_lines l)) ≡ pattern f u
pattern_led f u l k =
    let m = load (fresh f) u in
    ap (λ (x : Loading). pattern_of x.form (lines_from x.form.w 0 (all_lines x))) k.state
    ∙ ap (λ (g : Form). pattern_of g (lines_from g.w 0 (all_lines m))) (load_form (fresh f) u)
    ∙ ap (pattern_of f) (led f u k.continue) ∙ sym (pattern_is f u)
