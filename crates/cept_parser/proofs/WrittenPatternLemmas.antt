-- A written pattern reads as itself: its planes are blocks, and the lines of each block are its pixels.
use Rattle.std.proofs.Common.{◌≡◌, ℕ, zero, suc, ◌+◌, ◌-◌, ◌*◌, ◌/◌, ◌%◌, ◌^◌, ◌<◌, ◌≤◌, true, false, ◌&&◌, ◌||◌, not}
use Rattle.std.proofs.Common.{eqb, ltb, List, [], ◌∷◌, ◌++◌, length, map, slice_index, take}
use Rattle.std.proofs.Common.{refl, sym, ap, ◌∙◌, subst, arith, inl, inr, IsTrue}
use Rattle.std.proofs.lemmas.Bool.{cases_Bool, eqb-true, lt-ltb, le-leb}
use Rattle.std.proofs.lemmas.Bool.Decides.{nat_tests}
use Rattle.std.proofs.lemmas.List.{append_assoc, append-nil, length-append}
use Rattle.std.proofs.lemmas.List.FromFn.{length-map-range_with_len, get_or-map-range_with_len}
use Rattle.std.specs.List.{before_first, flat_map, position_or_len, range_with_len}
use Rattle.cept_codes.specs.declared.command.Form.{Form}
use Rattle.cept_codes.specs.declared.look.Pattern.{Pattern}
use Rattle.cept_codes.specs.Command.{IsValidForm}
use Rattle.cept_codes.specs.Look.{pixel, is_pattern_size, is_plane_count, IsValidPattern}
use Rattle.cept_drcs.specs.Block.{has_pixels, six, BlockPart, blank, with_byte}
use Rattle.cept_drcs.specs.Adding.{whole, part_after_byte, part_after_bytes}
use Rattle.cept_drcs.specs.Block.{all_may_come, block_lines}
use Rattle.cept_drcs.specs.Cut.{Block, blocks, is_opener}
use Rattle.cept_drcs.specs.Unit.{is_pattern, are_blocks, pattern_grows, pattern, plane_lines}
use Rattle.cept_drcs.proofs.Laws.{pixel_drawn, unit_valid, grows_by_last}
use Rattle.cept_parser.specs.Spelling.{form_of, half_line_byte, line_bytes, plane_bytes, pattern_bytes}
use Rattle.cept_parser.proofs.PatternPixelLemmas.{half_within, line_number, line_bit, same_patterns}

-- ---- the lines of a block

carries : (a : ℕ) → (0x40 ≤ a) × (a ≤ 0x7F) → has_pixels a ≡ true
carries a h = let l = h.0 in let m = h.1 in grind (arith, nat_tests)

half_carries : (t : Pattern) (p y x : ℕ) → has_pixels (half_line_byte t p y x) ≡ true
half_carries t p y x = carries (half_line_byte t p y x) (half_within t p y x)

-- a byte with pixels that is a line of six
narrow_draw : (f : Form) (ls : List ℕ) (a : ℕ) → eqb f.w 6 ≡ true → has_pixels a ≡ true
    → part_after_byte f (whole ls) a ≡ whole (ls ++ six a ∷ [])
unfolding with_byte
narrow_draw f ls a n h = rw (h, n) refl

-- two that are a line of twelve
wide_draw : (f : Form) (ls : List ℕ) (a b : ℕ) → eqb f.w 6 ≡ false → has_pixels a ≡ true → has_pixels b ≡ true
    → part_after_byte f (part_after_byte f (whole ls) a) b ≡ whole (ls ++ (six a + 64 * six b) ∷ [])
unfolding with_byte
wide_draw f ls a b n h k = rw (h, n, k) refl

-- and between them no line is added
half_draw : (f : Form) (ls : List ℕ) (a : ℕ) → eqb f.w 6 ≡ false → has_pixels a ≡ true
    → (part_after_byte f (whole ls) a).lines ≡ ls
unfolding with_byte
half_draw f ls a n h = rw (h, n) refl

-- bytes of a block are drawn, and lead from these lines to those
record Draws (f : Form) (ls u ms : List ℕ) : Type 0 where
  may : (v : List ℕ) → all_may_come f (whole ls) (u ++ v) ≡ all_may_come f (whole ms) v
  lead : (v : List ℕ) → part_after_bytes f (whole ls) (u ++ v) ≡ part_after_bytes f (whole ms) v

one_size : (w h : ℕ) → IsTrue (is_pattern_size w h) → eqb w 12 ≡ not (eqb w 6)
one_size w h t = grind (arith, nat_tests)

narrow_line : (t : Pattern) (p y : ℕ) → eqb t.w 6 ≡ true → IsTrue (is_pattern_size t.w t.h)
    → line_bytes t p y ≡ half_line_byte t p y 0 ∷ []
unfolding line_bytes
narrow_line t p y n s = rw (one_size t.w t.h s, n) refl

wide_line : (t : Pattern) (p y : ℕ) → eqb t.w 6 ≡ false → IsTrue (is_pattern_size t.w t.h)
    → line_bytes t p y ≡ half_line_byte t p y 0 ∷ half_line_byte t p y 6 ∷ []
unfolding line_bytes
wide_line t p y n s = rw (one_size t.w t.h s, n) refl

narrow_number : (t : Pattern) (p y : ℕ) → eqb t.w 6 ≡ true → line_number t p y ≡ six (half_line_byte t p y 0)
unfolding line_number
narrow_number t p y n = rw n refl

wide_number : (t : Pattern) (p y : ℕ) → eqb t.w 6 ≡ false
    → line_number t p y ≡ six (half_line_byte t p y 0) + 64 * six (half_line_byte t p y 6)
unfolding line_number
wide_number t p y n = rw n refl

narrow_draws : (f : Form) (ls : List ℕ) (a : ℕ) → eqb f.w 6 ≡ true → length ls < f.h → has_pixels a ≡ true
    → Draws f ls (a ∷ []) (ls ++ six a ∷ [])
unfolding all_may_come
narrow_draws f ls a n l h =
    record {
      may = λ v. rw (lt-ltb (length ls) f.h l, h) (ap (λ (d : BlockPart). all_may_come f d v) (narrow_draw f ls a n h));
      lead = λ v. ap (λ (d : BlockPart). part_after_bytes f d v) (narrow_draw f ls a n h);
    }

wide_draws : (f : Form) (ls : List ℕ) (a b : ℕ) → eqb f.w 6 ≡ false → length ls < f.h → has_pixels a ≡ true
    → has_pixels b ≡ true → Draws f ls (a ∷ b ∷ []) (ls ++ (six a + 64 * six b) ∷ [])
unfolding all_may_come
wide_draws f ls a b n l h k =
    let left = lt-ltb (length ls) f.h l in
    let again : ltb (length (part_after_byte f (whole ls) a).lines) f.h ≡ true =
    ap (λ (m : List ℕ). ltb (length m) f.h) (half_draw f ls a n h) ∙ left in
    record {
      may = λ v.
          rw (left, h, again, k) (ap (λ (d : BlockPart). all_may_come f d v) (wide_draw f ls a b n h k));
      lead = λ v. ap (λ (d : BlockPart). part_after_bytes f d v) (wide_draw f ls a b n h k);
    }

-- a written line is drawn as its pixels
line_draws : (t : Pattern) (p y : ℕ) (ls : List ℕ) → IsTrue (is_pattern_size t.w t.h) → length ls < t.h
    → Draws (form_of t) ls (line_bytes t p y) (ls ++ line_number t p y ∷ [])
line_draws t p y ls s l =
    elim (cases_Bool (eqb t.w 6)) [
      | inl n ↦ rw (narrow_line t p y n s, narrow_number t p y n) (narrow_draws (form_of t) ls
          (half_line_byte t p y 0) n l
          (half_carries t p y 0))
      | inr n ↦ rw (wide_line t p y n s, wide_number t p y n) (wide_draws (form_of t) ls (half_line_byte t p y 0)
          (half_line_byte t p y 6) n l (half_carries t p y 0) (half_carries t p y 6))
    ]

draws_none : (f : Form) (ls : List ℕ) → Draws f ls [] ls
draws_none f ls = record { may = λ v. refl; lead = λ v. refl }

draws_joined : (f : Form) (ls ms ns u v : List ℕ) → Draws f ls u ms → Draws f ms v ns → Draws f ls (u ++ v) ns
draws_joined f ls ms ns u v d e =
    record {
      may = λ w. ap (all_may_come f (whole ls)) (append_assoc u v w) ∙ d.may (v ++ w) ∙ e.may w;
      lead = λ w. ap (part_after_bytes f (whole ls)) (append_assoc u v w) ∙ d.lead (v ++ w) ∙ e.lead w;
    }

-- the bytes and the numbers of lines, n of them from line k on
abbrev lines_bytes : Pattern → ℕ → ℕ → ℕ → List ℕ
lines_bytes t p k n = flat_map (line_bytes t p) (range_with_len k n)

abbrev line_numbers : Pattern → ℕ → ℕ → ℕ → List ℕ
line_numbers t p k n = map (line_number t p) (range_with_len k n)

lines_draw : (t : Pattern) (p n k : ℕ) (ls : List ℕ) → IsTrue (is_pattern_size t.w t.h) → length ls ≡ k → k + n ≤ t.h
    → Draws (form_of t) ls (lines_bytes t p k n) (ls ++ line_numbers t p k n)
lines_draw t p zero k ls s e l =
    subst (λ (ms : List ℕ). Draws (form_of t) ls [] ms) (sym (append-nil ls)) (draws_none (form_of t) ls)
lines_draw t p (suc n) k ls s e l =
    let one = line_draws t p k ls s (omega arith) in
    let long = length-append ls (line_number t p k ∷ []) ∙ ap (λ m. m + 1) e in
    let more = lines_draw t p n (k + 1) (ls ++ line_number t p k ∷ []) s long (omega arith) in
    subst (λ (ms : List ℕ). Draws (form_of t) ls (lines_bytes t p k (suc n)) ms)
    (append_assoc ls (line_number t p k ∷ []) (line_numbers t p (k + 1) n))
    (draws_joined (form_of t) ls _ _ (line_bytes t p k) (lines_bytes t p (k + 1) n) one more)

-- the block of a plane
abbrev block_of : Pattern → ℕ → Block
block_of t p = record { plane = p; bytes = lines_bytes t p 0 t.h }

block_draws : (t : Pattern) (p : ℕ) → IsTrue (is_pattern_size t.w t.h)
    → Draws (form_of t) [] (lines_bytes t p 0 t.h) (line_numbers t p 0 t.h)
block_draws t p s = lines_draw t p t.h 0 [] s refl (omega arith)

block_is : (t : Pattern) (p : ℕ) → IsTrue (is_pattern_size t.w t.h)
    → all_may_come (form_of t) blank (block_of t p).bytes ≡ true
unfolding all_may_come
block_is t p s =
    ap (all_may_come (form_of t) blank) (sym (append-nil (lines_bytes t p 0 t.h))) ∙ (block_draws t p s).may []

block_drawn : (t : Pattern) (p : ℕ) → IsTrue (is_pattern_size t.w t.h)
    → part_after_bytes (form_of t) blank (block_of t p).bytes ≡ whole (line_numbers t p 0 t.h)
block_drawn t p s =
    ap (part_after_bytes (form_of t) blank) (sym (append-nil (lines_bytes t p 0 t.h))) ∙ (block_draws t p s).lead []

block_lines_are : (t : Pattern) (p : ℕ) → IsTrue (is_pattern_size t.w t.h)
    → block_lines (form_of t) (block_of t p).bytes ≡ line_numbers t p 0 t.h
block_lines_are t p s = rw (block_drawn t p s) (append-nil (line_numbers t p 0 t.h))

-- ---- the cut at the openers

no_opener : (a : ℕ) → has_pixels a ≡ true → is_opener a ≡ false
no_opener a h = grind (arith, nat_tests)

-- the bytes before the first opener, and then the blocks
record Cut : Type 0 where
  pub front : List ℕ
  pub blocks : List Block

unfoldable cut : List ℕ → Cut
cut u = record { front = before_first is_opener u; blocks = blocks u }

cut_blocks : (u : List ℕ) → blocks u ≡ (cut u).blocks
unfolding cut
cut_blocks u = refl

one_more : (n : ℕ) → 1 + n ≡ suc n
one_more n = omega arith

cut_pixels : (a : ℕ) (u : List ℕ) → has_pixels a ≡ true
    → cut (a ∷ u) ≡ record { front = a ∷ (cut u).front; blocks = (cut u).blocks }
unfolding cut blocks
cut_pixels a u h =
    let n : ℕ = position_or_len is_opener u in
    let front : take (1 + n) (a ∷ u) ≡ a ∷ take n u = ap (λ k. take k (a ∷ u)) (one_more n) in
    rw (no_opener a h) (ap (λ (b : List ℕ). record { front = b; blocks = blocks u }) front)

-- bytes stand in the block that is open
abbrev StandsBefore : List ℕ → Type 0
StandsBefore b = (u : List ℕ) → cut (b ++ u) ≡ record { front = b ++ (cut u).front; blocks = (cut u).blocks }

line_cut : (t : Pattern) (p y : ℕ) → IsTrue (is_pattern_size t.w t.h) → StandsBefore (line_bytes t p y)
line_cut t p y s u =
    elim (cases_Bool (eqb t.w 6)) [
      | inl n ↦ rw (narrow_line t p y n s) (cut_pixels (half_line_byte t p y 0) u (half_carries t p y 0))
      | inr n ↦ rw (wide_line t p y n s) (cut_pixels (half_line_byte t p y 0) (half_line_byte t p y 6 ∷ u)
          (half_carries t p y 0) ∙ ap (λ (c : Cut). record {
            front = half_line_byte t p y 0 ∷ c.front;
            blocks = c.blocks;
          }) (cut_pixels (half_line_byte t p y 6) u (half_carries t p y 6)))
    ]

lines_cut : (t : Pattern) (p n k : ℕ) → IsTrue (is_pattern_size t.w t.h) → StandsBefore (lines_bytes t p k n)
lines_cut t p zero k s u = refl
lines_cut t p (suc n) k s u =
    let later = lines_bytes t p (k + 1) n in
    ap cut (append_assoc (line_bytes t p k) later u) ∙ line_cut t p k s (later ++ u)
    ∙ ap (λ (c : Cut). record { front = line_bytes t p k ++ c.front; blocks = c.blocks }) (lines_cut t p n (k + 1) s u)
    ∙ ap (λ (b : List ℕ). record { front = b; blocks = (cut u).blocks })
    (sym (append_assoc (line_bytes t p k) later (cut u).front))

cut_opener : (p : ℕ) (u : List ℕ) → p < 4 → cut ((0x30 + p) ∷ u)
    ≡ record { front = []; blocks = record { plane = p; bytes = (cut u).front } ∷ (cut u).blocks }
unfolding cut blocks
cut_opener p u l =
    let o : is_opener (0x30 + p) ≡ true = grind (arith, nat_tests) in
    let e : (0x30 + p) - 0x30 ≡ p = omega arith in
    rw (o, e) refl

-- the blocks of planes, n of them from plane k on
abbrev blocks_of : Pattern → ℕ → ℕ → List Block
blocks_of t k n = map (block_of t) (range_with_len k n)

abbrev planes_bytes : Pattern → ℕ → ℕ → List ℕ
planes_bytes t k n = flat_map (plane_bytes t) (range_with_len k n)

plane_cut : (t : Pattern) (p : ℕ) (u : List ℕ) (bs : List Block) → IsTrue (is_pattern_size t.w t.h) → p < 4
    → cut u ≡ record { front = []; blocks = bs }
    → cut (plane_bytes t p ++ u) ≡ record { front = []; blocks = block_of t p ∷ bs }
unfolding plane_bytes
plane_cut t p u bs s l e =
    let lines : cut (lines_bytes t p 0 t.h ++ u) ≡ record { front = lines_bytes t p 0 t.h; blocks = bs } =
    lines_cut t p t.h 0 s u
    ∙ ap (λ (c : Cut). record { front = lines_bytes t p 0 t.h ++ c.front; blocks = c.blocks }) e
    ∙ ap (λ (b : List ℕ). record { front = b; blocks = bs }) (append-nil (lines_bytes t p 0 t.h)) in
    cut_opener p (lines_bytes t p 0 t.h ++ u) l
    ∙ ap (λ (c : Cut). record { front = []; blocks = record { plane = p; bytes = c.front } ∷ c.blocks }) lines

planes_cut : (t : Pattern) (n k : ℕ) → IsTrue (is_pattern_size t.w t.h) → k + n ≤ 4
    → cut (planes_bytes t k n) ≡ record { front = []; blocks = blocks_of t k n }
unfolding cut blocks
planes_cut t zero k s l = refl
planes_cut t (suc n) k s l =
    plane_cut t k (planes_bytes t (k + 1) n) (blocks_of t (k + 1) n) s (omega arith)
    (planes_cut t n (k + 1) s (omega arith))

-- ---- the blocks

blocks_are : (t : Pattern) (n k : ℕ) → IsTrue (is_pattern_size t.w t.h) → k + n ≤ t.planes
    → are_blocks (form_of t) k (blocks_of t k n) ≡ true
unfolding are_blocks
blocks_are t zero k s l = refl
blocks_are t (suc n) k s l =
    rw (
      le-leb k k (omega arith),
      lt-ltb k t.planes (omega arith),
      block_is t k s,
    ) (blocks_are t n (k + 1) s (omega arith))

lines_of : (t : Pattern) (n k p : ℕ) → IsTrue (is_pattern_size t.w t.h) → k ≤ p → p < k + n
    → plane_lines (form_of t) p (blocks_of t k n) ≡ line_numbers t p 0 t.h
unfolding plane_lines
lines_of t zero k p s l m = absurd (omega arith)
lines_of t (suc n) k p s l m =
    elim (cases_Bool (eqb k p)) [
      | inl e ↦ rw e (block_lines_are t k s ∙ ap (λ q. line_numbers t q 0 t.h) (eqb-true k p e))
      | inr e ↦ rw e (lines_of t n (k + 1) p s (beyond e) (omega arith))
    ]
  where
    beyond : eqb k p ≡ false → k + 1 ≤ p
    beyond e = grind (arith, nat_tests)

blocks_end : (t : Pattern) (n k p : ℕ) → k + n ≡ p → blocks_of t k (suc n) ≡ blocks_of t k n ++ block_of t p ∷ []
blocks_end t zero k p e = let s : k ≡ p = omega arith in ap (λ q. block_of t q ∷ []) s
blocks_end t (suc n) k p e = ap (λ bs. block_of t k ∷ bs) (blocks_end t n (k + 1) p (omega arith))

four_at_most : (n : ℕ) → IsTrue (is_plane_count n) → n ≤ 4
four_at_most n t = grind (arith, nat_tests)

some_plane : (n : ℕ) → IsTrue (is_plane_count n) → n ≡ suc (n - 1)
some_plane n t = grind (arith, nat_tests)

pattern_cut : (t : Pattern) → IsValidPattern t
    → cut (pattern_bytes t) ≡ record { front = []; blocks = blocks_of t 0 t.planes }
unfolding pattern_bytes
pattern_cut t v =
    let few = four_at_most t.planes v.planes in
    planes_cut t t.planes 0 v.size (omega arith)

pattern_blocks : (t : Pattern) → IsValidPattern t → blocks (pattern_bytes t) ≡ blocks_of t 0 t.planes
pattern_blocks t v = cut_blocks (pattern_bytes t) ∙ ap (λ (c : Cut). c.blocks) (pattern_cut t v)

-- it begins with the opener of plane 0
abbrev pub after_first : Pattern → List ℕ
after_first t = lines_bytes t 0 0 t.h ++ planes_bytes t 1 (t.planes - 1)

pub written_begins : (t : Pattern) → IsValidPattern t → pattern_bytes t ≡ 0x30 ∷ after_first t
unfolding pattern_bytes plane_bytes
written_begins t v = ap (planes_bytes t 0) (some_plane t.planes v.planes)

-- a written pattern is a pattern's unit
pub written_is : (t : Pattern) → IsValidPattern t → is_pattern (form_of t) (pattern_bytes t) ≡ true
unfolding is_pattern
written_is t v =
    let begins = written_begins t v in
    let all : are_blocks (form_of t) 0 (blocks (pattern_bytes t)) ≡ true =
    ap (are_blocks (form_of t) 0) (pattern_blocks t v) ∙ blocks_are t t.planes 0 v.size (omega arith) in
    subst (λ (u : List ℕ). is_pattern (form_of t) u ≡ true) (sym begins)
    (ap (λ (u : List ℕ). are_blocks (form_of t) 0 (blocks u)) (sym begins) ∙ all)

no_line_left : (n h p planes : ℕ) → n ≡ h → p + 1 ≡ planes → (ltb n h || (ltb p 3 && ltb (p + 1) planes)) ≡ false
no_line_left n h p planes e f = grind (arith, nat_tests)

-- after which no byte fits
pub written_ends : (t : Pattern) → IsValidPattern t → pattern_grows (form_of t) (pattern_bytes t) ≡ false
written_ends t v =
    let n = t.planes - 1 in
    let some = some_plane t.planes v.planes in
    grows_by_last (form_of t) (pattern_bytes t) (blocks_of t 0 n) (block_of t n) (written_is t v)
    (pattern_blocks t v ∙ ap (blocks_of t 0) some ∙ blocks_end t n 0 n (omega arith))
    ∙ no_line_left _ t.h n t.planes
    (ap (λ (d : BlockPart). length d.lines) (block_drawn t n v.size)
    ∙ length-map-range_with_len (line_number t n) 0 t.h)
    (omega arith)

-- ---- the pixels

pub form_valid : (t : Pattern) → IsValidPattern t → IsValidForm (form_of t)
form_valid t v = record { size = v.size; planes = v.planes }

pixel_back : (t : Pattern) (p y x : ℕ) → IsValidPattern t → p < t.planes → y < t.h → x < t.w
    → pixel (pattern (form_of t) (pattern_bytes t)) p y x ≡ pixel t p y x
pixel_back t p y x v pl yl xl =
    let lines : plane_lines (form_of t) p (blocks (pattern_bytes t)) ≡ line_numbers t p 0 t.h =
    ap (plane_lines (form_of t) p) (pattern_blocks t v)
    ∙ lines_of t t.planes 0 p v.size (omega arith) (omega arith) in
    pixel_drawn (form_of t) (pattern_bytes t) p y x (form_valid t v) (written_is t v) pl yl xl
    ∙ ap (λ (ls : List ℕ). slice_index ls y / 2 ^ x % 2) lines
    ∙ ap (λ n. n / 2 ^ x % 2) (get_or-map-range_with_len (line_number t p) 0 t.h y y 0 yl (omega arith))
    ∙ line_bit t p y x v.size xl

-- it is the pattern itself
pub written_back : (t : Pattern) → IsValidPattern t → pattern (form_of t) (pattern_bytes t) ≡ t
written_back t v =
    same_patterns (pattern (form_of t) (pattern_bytes t)) t
    (unit_valid (form_of t) (pattern_bytes t) (form_valid t v) (written_is t v)) v refl refl refl
    (λ p y x. pixel_back t p y x v)
