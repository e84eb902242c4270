-- Bytes cut at their openers: those before the first, and the blocks.
use Rattle.std.proofs.Common.{◌≡◌, ℕ, ◌+◌, ◌*◌, ◌/◌, ◌%◌, ◌^◌, zero, suc, true, false, List, [], ◌∷◌, map, take, refl, sym, ap, ◌∙◌, arith}
use Rattle.std.proofs.lemmas.Nat.{shr-shr}
use Rattle.std.specs.List.{before_first, position_or_len, range_with_len}
use Rattle.cept_codes.specs.declared.command.Form.{Form}
use Rattle.cept_drcs.specs.Cut.{Block, blocks, is_opener}
use Rattle.cept_drcs.specs.Loading.{plane_of, pattern_of}
use Rattle.cept_drcs.specs.Strips.{words}
use Rattle.cept_drcs.specs.Unit.{blocks_number, pattern}

-- the bytes before the first opener, and then the blocks
pub record Cut : Type 0 where
  pub front : List ℕ
  pub blocks : List Block

-- bytes, cut
unfoldable pub cut : List ℕ → Cut
cut u = record { front = before_first is_opener u; blocks = blocks u }

one_more : (n : ℕ) → 1 + n ≡ suc n
one_more n = omega arith

pub cut_none : cut [] ≡ record { front = []; blocks = [] }
unfolding cut blocks
cut_none = refl

pub cut_opener : (a : ℕ) (u : List ℕ) → is_opener a ≡ true
    → cut (a ∷ u)
    ≡ record { front = []; blocks = record { plane = plane_of a; bytes = (cut u).front } ∷ (cut u).blocks }
unfolding cut blocks
cut_opener a u t = rw t refl

pub cut_other : (a : ℕ) (u : List ℕ) → is_opener a ≡ false
    → cut (a ∷ u) ≡ record { front = a ∷ (cut u).front; blocks = (cut u).blocks }
unfolding cut blocks
cut_other a u t =
    let n : ℕ = position_or_len is_opener u in
    let front : take (1 + n) (a ∷ u) ≡ a ∷ take n u = ap (λ k. take k (a ∷ u)) (one_more n) in
    rw t (ap (λ (b : List ℕ). record { front = b; blocks = blocks u }) front)

-- words of a number, one by one
words_map : (n i k : ℕ) → map (λ j. n / 2 ^ (64 * j) % 2 ^ 64) (range_with_len i k) ≡ words k (n / 2 ^ (64 * i))
unfolding words
words_map n i zero = refl
words_map n i (suc k) =
    let e : 64 * i + 64 ≡ 64 * (i + 1) = omega arith in
    ap (λ ws. n / 2 ^ (64 * i) % 2 ^ 64 ∷ ws)
    (words_map n (i + 1) k ∙ ap (words k) (sym (shr-shr n (64 * i) 64 ∙ ap (λ j. n / 2 ^ j) e)))

whole_number : (n : ℕ) → n / 2 ^ (64 * 0) ≡ n
whole_number n = omega arith

-- the pattern of bytes is that of the number of their blocks
pub pattern_is : (f : Form) (u : List ℕ) → pattern f u ≡ pattern_of f (blocks_number f (cut u).blocks)
unfolding cut
pattern_is f u =
    let n = blocks_number f (blocks u) in
    ap (λ ws. record { w = f.w; h = f.h; planes = f.planes; bits = ws })
    (words_map n 0 9 ∙ ap (words 9) (whole_number n))
