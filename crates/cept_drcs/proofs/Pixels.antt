-- The pixels of a pattern are the bits of the lines of its blocks.
use Rattle.std.proofs.Common.{◌≡◌, ℕ, zero, suc, ◌+◌, ◌-◌, ◌*◌, ◌^◌, ◌<◌, ◌≤◌, true, false, ◌==◌}
use Rattle.std.proofs.Common.{List, [], ◌∷◌, ◌++◌, length, replicate, slice_index, nat_le, cond, le_trans}
use Rattle.std.proofs.Common.{le-add_right, eq-zero-or-pos, IsTrue, inl, inr, option_to_list}
use Rattle.std.proofs.Common.{refl, sym, ap, ◌∙◌, subst, suc-mul, zero-mul}
use Rattle.std.proofs.Common.{arith}
use Rattle.std.proofs.lemmas.Bool.{cases_Bool, cases_lt, cases_order, and_parts, ltb-true, leb-true, eqb-true, eq-eqb}
use Rattle.std.proofs.lemmas.Bool.{ne_eqb}
use Rattle.std.proofs.lemmas.Bool.{both_ways}
use Rattle.std.proofs.lemmas.Bool.Decides.{nat_tests}
use Rattle.std.proofs.lemmas.List.{append_assoc, get_or_append_left, get_or-append-add, get_or-append_right}
use Rattle.std.proofs.lemmas.List.{get_or_past}
use Rattle.std.proofs.lemmas.List.{length-append}
use Rattle.std.proofs.lemmas.Nat.{mul-add-lt, mul-le}
use Rattle.std.proofs.lemmas.Nat.Bits.{bit_at_cat_low, bit_at_cat_high, bit_at-zero}
use Rattle.std.specs.Int.{bit_at}
use Rattle.cept_codes.specs.declared.command.Form.{Form}
use Rattle.cept_codes.specs.declared.look.Pattern.{Pattern}
use Rattle.cept_codes.specs.Command.{IsValidForm}
use Rattle.cept_codes.specs.Look.{pixel, is_pattern_size}
use Rattle.cept_drcs.specs.Block.{BlockPart, blank, block_lines}
use Rattle.cept_drcs.specs.Adding.{part_after_byte, part_after_bytes}
use Rattle.cept_drcs.specs.Cut.{Block, is_opener, blocks}
use Rattle.cept_drcs.proofs.Cuts.{Cut, cut, cut_opener, cut_other, pattern_is}
use Rattle.cept_drcs.specs.Loading.{plane_of}
use Rattle.cept_drcs.specs.Unit.{is_pattern, are_blocks, lines_from, blocks_number, pattern, plane_lines, drawn_pixel}
use Rattle.cept_drcs.specs.Loading.{Loading, fresh, load, loads, closed_lines, all_lines}
use Rattle.cept_drcs.proofs.BlockLemmas.{IsWithin, blank_within, draw_within}
use Rattle.cept_drcs.proofs.Bridge.{stand, above_next, length-above_next, next_plane, length-closed_lines, loads_is}
use Rattle.cept_drcs.proofs.Bridge.{first, loads_opener, loads_other, loads_first}
use Rattle.cept_drcs.proofs.Reading.{load_opener, load_other, load_first, pattern_loads, no_pattern}
use Rattle.cept_drcs.proofs.ValidPatterns.{AreLines, loaded_lines}
use Rattle.cept_drcs.proofs.Numbers.{led, line_more}
use Rattle.cept_drcs.proofs.WordBits.{bit_of-words}
use Rattle.cept_drcs.proofs.Counting.{twelve_lines}
use Rattle.cept_drcs.proofs.Growing.{four_planes}

-- ---- bits of lines

-- bit x of line i is bit x of place i
lines_bit : (w i x : ℕ) (ls : List ℕ) → AreLines w ls → x < w
    → bit_at (lines_from w 0 ls) (i * w + x) ≡ bit_at (slice_index ls i) x
unfolding lines_from
lines_bit w i x [] a h = bit_at-zero (i * w + x) ∙ sym (bit_at-zero x)
lines_bit w zero x (l ∷ ls) a h =
    ap (λ n. bit_at n (0 * w + x)) (line_more w l ls)
    ∙ ap (bit_at (lines_from w 0 ls * 2 ^ w + l)) (omega (arith, zero-mul w))
    ∙ bit_at_cat_low (lines_from w 0 ls) w l x h
lines_bit w (suc i) x (l ∷ ls) a h =
    let e : suc i * w ≡ i * w + w = suc-mul i w in
    ap (λ n. bit_at n (suc i * w + x)) (line_more w l ls)
    ∙ bit_at_cat_high (lines_from w 0 ls) w l (suc i * w + x) a.0 (omega arith)
    ∙ ap (bit_at (lines_from w 0 ls)) (omega arith) ∙ lines_bit w i x ls a.1 h

-- ---- the lines of each plane

slice_of_zeros : (n y : ℕ) → slice_index (replicate n 0) y ≡ 0
slice_of_zeros zero y = refl
slice_of_zeros (suc n) zero = refl
slice_of_zeros (suc n) (suc y) = slice_of_zeros n y

-- lines of 0 after lines are as none
slice_zeros : (ls : List ℕ) (n y : ℕ) → slice_index (ls ++ replicate n 0) y ≡ slice_index ls y
slice_zeros ls n y =
    elim (cases_lt y (length ls)) [
      | inl l ↦ get_or_append_left ls (replicate n 0) 0 y l
      | inr l ↦ get_or-append_right ls (replicate n 0) (length ls) y 0 refl l ∙ slice_of_zeros n (y - length ls)
          ∙ sym (get_or_past ls y 0 l)
    ]

below_none : (p q n : ℕ) → n ≤ p → q < n → (p == q) ≡ false
below_none p q n h l = ne_eqb p q (λ e. omega arith)

-- planes below these blocks have none
none_below : (f : Form) (n q : ℕ) (bs : List Block) → are_blocks f n bs ≡ true → q < n → plane_lines f q bs ≡ []
unfolding are_blocks plane_lines
none_below f n q [] h l = refl
none_below f n q (b ∷ bs) h l =
    let g = and_parts (nat_le n b.plane) _ h in
    let k = and_parts _ (are_blocks f (b.plane + 1) bs) (and_parts _ _ g.1).1 in
    let m : n ≤ b.plane = leb-true n b.plane g.0 in
    let o : q < b.plane + 1 = le_trans l (le_trans m (le-add_right b.plane 1)) in
    rw (below_none b.plane q n m l) (none_below f (b.plane + 1) q bs k.1 o)

-- the lines of an open plane
abbrev closed : BlockPart → List ℕ
closed d = closed_lines d.lines d.half

-- the lines read, in their planes: those above the open plane, its own, and those after it
record Shows (f : Form) (p : ℕ) (up : List ℕ) (d : BlockPart) (u : List ℕ) (y : ℕ) : Type 0 where
  pub above : (q : ℕ) → q < p
      → slice_index (all_lines (load (stand f p up d) u)) (q * f.h + y) ≡ slice_index up (q * f.h + y)
  pub here : slice_index (all_lines (load (stand f p up d) u)) (p * f.h + y)
      ≡ slice_index (closed (part_after_bytes f d (cut u).front)) y
  pub later : (q : ℕ) → p < q → slice_index (all_lines (load (stand f p up d) u)) (q * f.h + y)
      ≡ slice_index (plane_lines f q (cut u).blocks) y

-- the lines of an open plane, and those above it
line_above : (f : Form) (p q y : ℕ) (up : List ℕ) (d : BlockPart) → length up ≡ p * f.h → y < f.h → q < p
    → slice_index (up ++ closed d) (q * f.h + y) ≡ slice_index up (q * f.h + y)
line_above f p q y up d e l m =
    let n = next_plane q p f.h m in
    get_or_append_left up (closed d) 0 (q * f.h + y) (omega arith)

line_here : (f : Form) (p y : ℕ) (up : List ℕ) (d : BlockPart) → length up ≡ p * f.h
    → slice_index (up ++ closed d) (p * f.h + y) ≡ slice_index (closed d) y
line_here f p y up d e =
    ap (λ n. slice_index (up ++ closed d) (n + y)) (sym e) ∙ get_or-append-add up (closed d) y 0

later_line : (f : Form) (p q y : ℕ) (up : List ℕ) (d : BlockPart) → length up ≡ p * f.h → IsWithin f d → p < q
    → slice_index (up ++ closed d) (q * f.h + y) ≡ 0
later_line f p q y up d e w m =
    let n = next_plane p q f.h m in
    let c = length-closed_lines d.lines d.half in
    let r = w.room in
    get_or_past (up ++ closed d) (q * f.h + y) 0 (omega (arith, length-append up (closed d)))

stand_shows : (f : Form) (p : ℕ) (up : List ℕ) (d : BlockPart) (y : ℕ) → length up ≡ p * f.h → IsWithin f d → y < f.h
    → Shows f p up d [] y
unfolding load cut blocks plane_lines
stand_shows f p up d y e w l =
    let s : (n : ℕ) → slice_index (closed_lines (up ++ d.lines) d.half) n ≡ slice_index (up ++ closed d) n =
    λ n. ap (λ ls. slice_index ls n) (append_assoc up d.lines (option_to_list d.half)) in
    record {
      above = λ q m. s (q * f.h + y) ∙ line_above f p q y up d e l m;
      here = s (p * f.h + y) ∙ line_here f p y up d e;
      later = λ q m. s (q * f.h + y) ∙ later_line f p q y up d e w m;
    }

-- the lines above a plane that is opened
above_next_line : (f : Form) (q n : ℕ) (up : List ℕ) (d : BlockPart)
    → slice_index (above_next f q up d) n ≡ slice_index (up ++ closed d) n
above_next_line f q n up d =
    slice_zeros (closed_lines (up ++ d.lines) d.half) _ n
    ∙ ap (λ ls. slice_index ls n) (append_assoc up d.lines (option_to_list d.half))

opener_lines : (f : Form) (a q : ℕ) (u : List ℕ) → is_opener a ≡ true
    → plane_lines f q (cut (a ∷ u)).blocks
    ≡ cond (plane_of a == q) (block_lines f (cut u).front) (plane_lines f q (cut u).blocks)
unfolding plane_lines
opener_lines f a q u t = rw (cut_opener a u t) refl

opener_front : (f : Form) (d : BlockPart) (a : ℕ) (u : List ℕ) → is_opener a ≡ true → part_after_bytes f d (cut (a ∷ u)).front ≡ d
opener_front f d a u t = rw (cut_opener a u t) refl

-- lines of a plane after the open one, where an opener comes
later_opener : (f : Form) (p : ℕ) (up : List ℕ) (d : BlockPart) (a : ℕ) (u : List ℕ) (y q : ℕ) → length up ≡ p * f.h
    → IsWithin f d → is_opener a ≡ true → p < q → are_blocks f (plane_of a + 1) (cut u).blocks ≡ true
    → Shows f (plane_of a) (above_next f (plane_of a) up d) blank u y
    → slice_index (all_lines (load (stand f (plane_of a) (above_next f (plane_of a) up d) blank) u)) (q * f.h + y)
    ≡ slice_index (plane_lines f q (cut (a ∷ u)).blocks) y
later_opener f p up d a u y q e w t m b s =
    let r = plane_of a in
    let Goal : Type 0 = slice_index (all_lines (load (stand f r (above_next f r up d) blank) u)) (q * f.h + y)
    ≡ slice_index (plane_lines f q (cut (a ∷ u)).blocks) y in
    let now = ap (λ ls. slice_index ls y) (opener_lines f a q u t) in
    let other : (r == q) ≡ false
    → slice_index (plane_lines f q (cut u).blocks) y ≡ slice_index (plane_lines f q (cut (a ∷ u)).blocks) y =
    λ n. sym (now ∙ rw n refl) in
    let below : q < r → Goal =
    λ l. s.above q l ∙ above_next_line f r (q * f.h + y) up d ∙ later_line f p q y up d e w m
    ∙ sym (ap (λ ls. slice_index ls y) (none_below f (r + 1) q (cut u).blocks b (omega arith)))
    ∙ other (ne_eqb r q (λ n. omega arith)) in
    let same : q ≡ r → Goal =
    λ n. ap (λ k. slice_index (all_lines (load (stand f r (above_next f r up d) blank) u)) (k * f.h + y)) n
    ∙ s.here ∙ sym (now ∙ rw (eq-eqb r q (sym n)) refl) in
    let further : r < q → Goal = λ l. s.later q l ∙ other (ne_eqb r q (λ n. omega arith)) in
    elim (cases_order q r) [ inl n ↦ same n | inr o ↦ elim o [ inl l ↦ below l | inr l ↦ further l ] ]

opener_shows : (f : Form) (p : ℕ) (up : List ℕ) (d : BlockPart) (a : ℕ) (u : List ℕ) (y : ℕ) → length up ≡ p * f.h
    → IsWithin f d → y < f.h → is_opener a ≡ true → p < plane_of a
    → are_blocks f (plane_of a + 1) (cut u).blocks ≡ true
    → Shows f (plane_of a) (above_next f (plane_of a) up d) blank u y → Shows f p up d (a ∷ u) y
opener_shows f p up d a u y e w l t m b s =
    let r = plane_of a in
    let now : (n : ℕ) → slice_index (all_lines (load (stand f p up d) (a ∷ u))) n
    ≡ slice_index (all_lines (load (stand f r (above_next f r up d) blank) u)) n =
    λ n. ap (λ (x : Loading). slice_index (all_lines x) n) (load_opener f p up d a u t) in
    record {
      above = λ q k. now (q * f.h + y) ∙ s.above q (omega arith) ∙ above_next_line f r (q * f.h + y) up d
          ∙ line_above f p q y up d e l k;
      here = now (p * f.h + y) ∙ s.above p m ∙ above_next_line f r (p * f.h + y) up d ∙ line_here f p y up d e
          ∙ sym (ap (λ (x : BlockPart). slice_index (closed x) y) (opener_front f d a u t));
      later = λ q k. now (q * f.h + y) ∙ later_opener f p up d a u y q e w t k b s;
    }

other_front : (f : Form) (d : BlockPart) (a : ℕ) (u : List ℕ) → is_opener a ≡ false
    → part_after_bytes f d (cut (a ∷ u)).front ≡ part_after_bytes f (part_after_byte f d a) (cut u).front
other_front f d a u t = rw (cut_other a u t) refl

other_shows : (f : Form) (p : ℕ) (up : List ℕ) (d : BlockPart) (a : ℕ) (u : List ℕ) (y : ℕ) → length up ≡ p * f.h
    → is_opener a ≡ false → Shows f p up (part_after_byte f d a) u y → Shows f p up d (a ∷ u) y
other_shows f p up d a u y e t s =
    let now : (n : ℕ) → slice_index (all_lines (load (stand f p up d) (a ∷ u))) n
    ≡ slice_index (all_lines (load (stand f p up (part_after_byte f d a)) u)) n =
    λ n. ap (λ (x : Loading). slice_index (all_lines x) n) (load_other f p up d a u t e) in
    record {
      above = λ q k. now (q * f.h + y) ∙ s.above q k;
      here = now (p * f.h + y) ∙ s.here ∙ sym (ap (λ (x : BlockPart). slice_index (closed x) y) (other_front f d a u t));
      later = λ q k. now (q * f.h + y) ∙ s.later q k
          ∙ sym (ap (λ (c : Cut). slice_index (plane_lines f q c.blocks) y) (cut_other a u t));
    }

shows : (f : Form) (p : ℕ) (up : List ℕ) (d : BlockPart) (u : List ℕ) (y : ℕ) → length up ≡ p * f.h → IsWithin f d
    → y < f.h → loads (stand f p up d) u ≡ true → Shows f p up d u y
shows f p up d [] y e w l h = stand_shows f p up d y e w l
shows f p up d (a ∷ u) y e w l h =
    let opener : is_opener a ≡ true → Shows f p up d (a ∷ u) y =
    λ t.
    let r = plane_of a in
    let g = and_parts _ _ (sym (loads_opener f p up d a u t) ∙ h) in
    let m = ltb-true p r (and_parts _ _ g.0).0 in
    let long = length-above_next f p r up d e w m in
    let none = blank_within f in
    let b = and_parts _ _ (sym (loads_is f r (above_next f r up d) blank u long none) ∙ g.1) in
    opener_shows f p up d a u y e w l t m b.1 (shows f r (above_next f r up d) blank u y long none l g.1) in
    let other : is_opener a ≡ false → Shows f p up d (a ∷ u) y =
    λ t.
    let g = and_parts _ _ (sym (loads_other f p up d a u t e) ∙ h) in
    other_shows f p up d a u y e t (shows f p up (part_after_byte f d a) u y e (draw_within f d a w g.0) l g.1) in
    elim (cases_Bool (is_opener a)) [ inl t ↦ opener t | inr t ↦ other t ]

-- ---- the pixels

-- line y of plane p is line p * h + y of all
abbrev HasLine : Form → List ℕ → ℕ → ℕ → Type 0
HasLine f u p y =
    slice_index (all_lines (load (fresh f) u)) (p * f.h + y) ≡ slice_index (plane_lines f p (cut u).blocks) y

first_line : (f : Form) (u : List ℕ) (p y : ℕ) → y < f.h → loads (first f) u ≡ true → HasLine f (0x30 ∷ u) p y
first_line f u p y l h =
    let s = shows f 0 [] blank u y (sym (zero-mul f.h)) (blank_within f) l h in
    let now = ap (λ (x : Loading). slice_index (all_lines x) (p * f.h + y)) (load_first f 0x30 u) in
    let then = ap (λ ls. slice_index ls y) (opener_lines f 0x30 p u refl) in
    let same : p ≡ 0 → HasLine f (0x30 ∷ u) p y =
    λ e. now ∙ ap (λ k. slice_index (all_lines (load (first f) u)) (k * f.h + y)) e ∙ s.here
    ∙ sym (then ∙ rw (eq-eqb 0 p (sym e)) refl) in
    let further : 0 < p → HasLine f (0x30 ∷ u) p y =
    λ m. now ∙ s.later p m ∙ sym (then ∙ rw (ne_eqb 0 p (λ e. omega arith)) refl) in
    elim (eq-zero-or-pos p) [ inl e ↦ same e | inr m ↦ further m ]

has_line : (f : Form) (a : ℕ) (u : List ℕ) (p y : ℕ) → y < f.h → is_pattern f (a ∷ u) ≡ true → HasLine f (a ∷ u) p y
has_line f a u p y l h =
    let g = and_parts _ _ (sym (loads_first f a u) ∙ pattern_loads f a u h) in
    subst (λ (b : ℕ). HasLine f (b ∷ u) p y) (sym (eqb-true a 0x30 g.0)) (first_line f u p y l g.1)

place_fits : (w h planes p y x : ℕ) → w ≤ 12 → h ≤ 12 → planes ≤ 4 → p < planes → y < h → x < w
    → (p * h + y) * w + x < 64 * 9
place_fits w h planes p y x wide high deep pl yl xl =
    let a = mul-add-lt p h y planes pl yl in
    let b = mul-add-lt (p * h + y) w x (h * planes) a xl in
    let c = mul-le h planes 12 4 high deep in
    let d = mul-le w (h * planes) 12 48 wide (omega arith) in
    omega arith

twelve_wide : (w h : ℕ) → IsTrue (is_pattern_size w h) → w ≤ 12
twelve_wide w h t = grind (arith, nat_tests)

unit_pixel : (f : Form) (a : ℕ) (u : List ℕ) (p y x : ℕ) → IsValidForm f → is_pattern f (a ∷ u) ≡ true → p < f.planes
    → y < f.h → x < f.w → pixel (pattern f (a ∷ u)) p y x ≡ drawn_pixel f (a ∷ u) p y x
unfolding cut
unit_pixel f a u p y x v h pl yl xl =
    let wide = twelve_wide f.w f.h v.size in
    let high = twelve_lines f.w f.h v.size in
    let fit = place_fits f.w f.h f.planes p y x wide high (four_planes f.planes v.planes) pl yl xl in
    let j = (p * f.h + y) * f.w + x in
    ap (λ (t : Pattern). pixel t p y x) (pattern_is f (a ∷ u)) ∙ bit_of-words 9 (blocks_number f (cut (a ∷ u)).blocks) j fit
    ∙ ap (λ n. bit_at n j) (sym (led f (a ∷ u) (pattern_loads f a u h)))
    ∙ lines_bit f.w (p * f.h + y) x (all_lines (load (fresh f) (a ∷ u))) (loaded_lines f (a ∷ u) v) xl
    ∙ ap (λ n. bit_at n x) (has_line f a u p y yl h)

-- each pixel of a pattern is the bit of its column in its line of the plane's block
pub pixel_drawn : (f : Form) (u : List ℕ) (p y x : ℕ) → IsValidForm f → is_pattern f u ≡ true → p < f.planes → y < f.h
    → x < f.w → pixel (pattern f u) p y x ≡ drawn_pixel f u p y x
pixel_drawn f [] p y x v h pl yl xl = absurd (both_ways _ (no_pattern f) h)
pixel_drawn f (a ∷ u) p y x v h pl yl xl = unit_pixel f a u p y x v h pl yl xl
