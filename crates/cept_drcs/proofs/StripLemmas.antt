-- Strips, and the lines that they make.
use Rattle.std.proofs.Common.{◌≡◌, ℕ, zero, suc, ◌+◌, ◌*◌, ◌%◌, ◌<◌, ◌≤◌, ◌==◌, Bool, true, false, cond}
use Rattle.std.proofs.Common.{List, [], ◌∷◌, ◌++◌}
use Rattle.std.proofs.Common.{◌≢◌, length, map, take, set, replicate, get_or, refl, sym, ap, ◌∙◌, arith}
use Rattle.std.proofs.Common.{Option, None, Some, append-nil}
use Rattle.std.proofs.lemmas.List.{map-append, append_assoc, take_more_set, length-set, length-take-le}
use Rattle.std.proofs.lemmas.List.{get_or-set_other}
use Rattle.std.specs.Option.{option_to_list}
use Rattle.cept_drcs.proofs.BlockLemmas.{halves, half_line}
use Rattle.cept_drcs.specs.Block.{BlockPart, six, has_pixels}
use Rattle.cept_drcs.specs.Adding.{whole, adds}
use Rattle.cept_drcs.specs.Strips.{strip_of, line_of_strips, in_pairs, left_over, pairs, AreKeptStrips}

pub strip_is : (a : ℕ) → strip_of a ≡ six a
unfolding strip_of
strip_is a = refl

pub strip_none : strip_of 0 ≡ 0
unfolding strip_of
strip_none = refl

-- ---- none
get_or-zeros : (n k : ℕ) → get_or {A = ℕ} (replicate n 0) k 0 ≡ 0
get_or-zeros zero k = refl
get_or-zeros (suc n) zero = refl
get_or-zeros (suc n) (suc k) = get_or-zeros n k

pub none_kept : AreKeptStrips (replicate 96 0) 0
none_kept = record { few = omega arith; clear = λ k h. get_or-zeros 96 k }

-- ---- one strip more

-- what it adds, where lines are of six pixels or of 12
abbrev pub drawn_strip : Bool → Option ℕ → ℕ → BlockPart
drawn_strip b None s = cond b (whole (s ∷ [])) (half_line s)
drawn_strip b (Some l) s = whole ((l + 64 * s) ∷ [])

pub adds_pixels : (w room before : ℕ) (half : Option ℕ) (a : ℕ) → has_pixels a ≡ true
    → adds w room before half a ≡ drawn_strip (w == 6) half (strip_of a)
unfolding adds
adds_pixels w room before None a t = simp (t, strip_is)
adds_pixels w room before (Some l) a t = simp (t, strip_is)

in_pairs-push : (ss : List ℕ) (a : ℕ)
    → in_pairs (ss ++ a ∷ []) ≡ in_pairs ss ++ (drawn_strip false (left_over ss) (strip_of a)).lines
unfolding in_pairs left_over line_of_strips
in_pairs-push [] a = refl
in_pairs-push (x ∷ []) a = refl
in_pairs-push (x ∷ y ∷ ss) a = ap (λ l. (strip_of x + 64 * strip_of y) ∷ l) (in_pairs-push ss a)

left_over-push : (ss : List ℕ) (a : ℕ)
    → left_over (ss ++ a ∷ []) ≡ (drawn_strip false (left_over ss) (strip_of a)).half
unfolding left_over
left_over-push [] a = refl
left_over-push (x ∷ []) a = refl
left_over-push (x ∷ y ∷ ss) a = left_over-push ss a

pub lines_pushed : (b : Bool) (ss : List ℕ) (a : ℕ)
    → cond b (map strip_of (ss ++ a ∷ [])) (in_pairs (ss ++ a ∷ []))
    ≡ cond b (map strip_of ss) (in_pairs ss) ++ (drawn_strip b (cond b None (left_over ss)) (strip_of a)).lines
lines_pushed true ss a = map-append strip_of ss (a ∷ [])
lines_pushed false ss a = in_pairs-push ss a

pub half_pushed : (b : Bool) (ss : List ℕ) (a : ℕ)
    → cond b None (left_over (ss ++ a ∷ [])) ≡ (drawn_strip b (cond b None (left_over ss)) (strip_of a)).half
half_pushed true ss a = refl
half_pushed false ss a = left_over-push ss a

-- ---- how many

pub pairs_length : (ss : List ℕ) → 2 * length (in_pairs ss) + halves (left_over ss) ≡ length ss
unfolding in_pairs left_over
pairs_length [] = refl
pairs_length (x ∷ []) = refl
pairs_length (x ∷ y ∷ ss) = omega (arith, pairs_length ss)

-- ---- a half line completed

two_more : (n : ℕ) → suc (suc n) % 2 ≡ n % 2
two_more n = omega arith

pub in_pairs-completed : (ss : List ℕ)
    → in_pairs (ss ++ replicate (length ss % 2) 0) ≡ in_pairs ss ++ option_to_list (left_over ss)
unfolding in_pairs left_over line_of_strips
in_pairs-completed [] = refl
in_pairs-completed (x ∷ []) =
    ap (λ z. (strip_of x + 64 * z) ∷ []) strip_none ∙ ap (λ n. n ∷ []) (omega arith)
in_pairs-completed (x ∷ y ∷ ss) =
    ap (λ n. in_pairs (x ∷ y ∷ ss ++ replicate n 0)) (two_more (length ss))
    ∙ ap (λ l. (strip_of x + 64 * strip_of y) ∷ l) (in_pairs-completed ss)

pub left_over-completed : (ss : List ℕ) → left_over (ss ++ replicate (length ss % 2) 0) ≡ None
unfolding left_over
left_over-completed [] = refl
left_over-completed (x ∷ []) = refl
left_over-completed (x ∷ y ∷ ss) =
    ap (λ n. left_over (x ∷ y ∷ ss ++ replicate n 0)) (two_more (length ss)) ∙ left_over-completed ss

-- ---- whole lines put after whole lines

pairs_alone : (k a b : ℕ) → in_pairs (pairs k a b) ≡ replicate k (line_of_strips a b)
unfolding in_pairs pairs
pairs_alone zero a b = refl
pairs_alone (suc k) a b = ap (λ l. line_of_strips a b ∷ l) (pairs_alone k a b)

none_left : (k a b : ℕ) → left_over (pairs k a b) ≡ None
unfolding left_over pairs
none_left zero a b = refl
none_left (suc k) a b = none_left k a b

pub in_pairs-pairs : (ss : List ℕ) (k a b : ℕ) → left_over ss ≡ None
    → in_pairs (ss ++ pairs k a b) ≡ in_pairs ss ++ replicate k (line_of_strips a b)
unfolding in_pairs left_over
in_pairs-pairs [] k a b w = pairs_alone k a b
in_pairs-pairs (x ∷ []) k a b w = cc
in_pairs-pairs (x ∷ y ∷ ss) k a b w = ap (λ l. line_of_strips x y ∷ l) (in_pairs-pairs ss k a b w)

pub left_over-pairs : (ss : List ℕ) (k a b : ℕ) → left_over ss ≡ None → left_over (ss ++ pairs k a b) ≡ None
unfolding left_over
left_over-pairs [] k a b w = none_left k a b
left_over-pairs (x ∷ []) k a b w = cc
left_over-pairs (x ∷ y ∷ ss) k a b w = left_over-pairs ss k a b w

map-replicate : (k a : ℕ) → map strip_of (replicate k a) ≡ replicate k (strip_of a)
map-replicate zero a = refl
map-replicate (suc k) a = ap (λ l. strip_of a ∷ l) (map-replicate k a)

pub map-added : (ss : List ℕ) (k a : ℕ)
    → map strip_of (ss ++ replicate k a) ≡ map strip_of ss ++ replicate k (strip_of a)
map-added ss k a = map-append strip_of ss (replicate k a) ∙ ap (λ l. map strip_of ss ++ l) (map-replicate k a)

-- ---- strips that are all the same

twice : (k : ℕ) → 2 * suc k ≡ suc (suc (2 * k))
twice k = omega arith

twice_and_one : (k : ℕ) → suc (suc (2 * k + 1)) ≡ 2 * suc k + 1
twice_and_one k = omega arith

same_pairs : (k a : ℕ) → replicate (2 * k) a ≡ pairs k a a
unfolding pairs
same_pairs zero a = refl
same_pairs (suc k) a = ap (λ n. replicate n a) (twice k) ∙ ap (λ l. a ∷ a ∷ l) (same_pairs k a)

pub in_pairs-same : (ss : List ℕ) (k a : ℕ) → left_over ss ≡ None
    → in_pairs (ss ++ replicate (2 * k) a) ≡ in_pairs ss ++ replicate k (line_of_strips a a)
in_pairs-same ss k a w = ap (λ l. in_pairs (ss ++ l)) (same_pairs k a) ∙ in_pairs-pairs ss k a a w

pub left_over-same : (ss : List ℕ) (k a : ℕ) → left_over ss ≡ None → left_over (ss ++ replicate (2 * k) a) ≡ None
left_over-same ss k a w = ap (λ l. left_over (ss ++ l)) (same_pairs k a) ∙ left_over-pairs ss k a a w

pub joined_none : line_of_strips 0 0 ≡ 0
unfolding line_of_strips strip_of
joined_none = refl

pub strip_full : strip_of 0x3F ≡ 0x3F
unfolding strip_of
strip_full = refl

pub joined_full : line_of_strips 0x3F 0x3F ≡ 0xFFF
unfolding line_of_strips strip_of
joined_full = refl

-- ---- one line of them

pub in_pairs-at : (ss : List ℕ) (k : ℕ) → k < length (in_pairs ss)
    → get_or (in_pairs ss) k 0 ≡ line_of_strips (get_or ss (2 * k) 0) (get_or ss (2 * k + 1) 0)
unfolding in_pairs
in_pairs-at [] k h = absurd (omega arith)
in_pairs-at (x ∷ []) k h = absurd (omega arith)
in_pairs-at (x ∷ y ∷ ss) zero h = refl
in_pairs-at (x ∷ y ∷ ss) (suc k) h =
    in_pairs-at ss k (omega arith)
    ∙ ap (λ i. line_of_strips (get_or (x ∷ y ∷ ss) i 0) (get_or ss (2 * k + 1) 0)) (sym (twice k))
    ∙ ap (λ i. line_of_strips (get_or (x ∷ y ∷ ss) (2 * suc k) 0) (get_or (x ∷ y ∷ ss) i 0)) (twice_and_one k)

-- two more of the same after them
pub pairs_more : (k a b : ℕ) → pairs k a b ++ a ∷ b ∷ [] ≡ pairs (k + 1) a b
unfolding pairs
pairs_more zero a b = refl
pairs_more (suc k) a b =
    let next : suc (k + 1) ≡ suc k + 1 = omega arith in
    ap (λ l. a ∷ b ∷ l) (pairs_more k a b) ∙ ap (λ n. pairs n a b) next

pub pairs_begin : (a b : ℕ) → pairs 0 a b ≡ []
unfolding pairs
pairs_begin a b = refl

pub length-pairs : (k a b : ℕ) → length (pairs k a b) ≡ 2 * k
unfolding pairs
length-pairs zero a b = refl
length-pairs (suc k) a b = omega (arith, length-pairs k a b)

-- ---- pairs written into a room

-- k pairs stand after the first strips of a room
pub record HasPairs (before room : List ℕ) (count k a b : ℕ) : Type 0 where
  pub long : length room ≡ length before
  pub front : take (count + 2 * k) room ≡ take count before ++ pairs k a b
  pub clear : (j : ℕ) → count + 2 * k ≤ j → get_or room j 0 ≡ 0

pub HasPairs-none : (room : List ℕ) (count a b : ℕ) → ((j : ℕ) → count ≤ j → get_or room j 0 ≡ 0)
    → HasPairs room room count 0 a b
HasPairs-none room count a b clear =
    let start : count + 2 * 0 ≡ count = omega arith in
    record {
      long = refl;
      front = ap (λ n. take n room) start ∙ sym (append-nil (take count room))
          ∙ ap (λ l. take count room ++ l) (sym (pairs_begin a b));
      clear = λ j h. clear j (omega arith);
    }

pub HasPairs-more : (before room : List ℕ) (count k a b i j : ℕ) → HasPairs before room count k a b
    → count + 2 * k + 2 ≤ length room → i ≡ count + 2 * k → j ≡ count + 2 * k + 1
    → HasPairs before (set (set room i a) j b) count (k + 1) a b
HasPairs-more before room count k a b i j p fits ei ej =
    let n : ℕ = count + 2 * k in
    let next : count + 2 * (k + 1) ≡ n + 1 + 1 = omega arith in
    let same : set (set room i a) j b ≡ set (set room n a) (n + 1) b =
    ap (λ m. set (set room m a) j b) ei ∙ ap (λ m. set (set room n a) m b) ej in
    let first : take (n + 1) (set room n a) ≡ take n room ++ a ∷ [] = take_more_set room n a (omega arith) in
    let long : n + 1 < length (set room n a) = omega (arith, length-set room n a) in
    let both : take (n + 1 + 1) (set (set room n a) (n + 1) b) ≡ take count before ++ pairs (k + 1) a b =
    take_more_set (set room n a) (n + 1) b long ∙ ap (λ l. l ++ b ∷ []) (first ∙ ap (λ l. l ++ a ∷ []) p.front)
    ∙ append_assoc (take count before ++ pairs k a b) (a ∷ []) (b ∷ [])
    ∙ append_assoc (take count before) (pairs k a b) (a ∷ b ∷ [])
    ∙ ap (λ l. take count before ++ l) (pairs_more k a b) in
    record {
      long = length-set (set room i a) j b ∙ length-set room i a ∙ p.long;
      front = ap (λ m. take m (set (set room i a) j b)) next ∙ ap (take (n + 1 + 1)) same ∙ both;
      clear = λ m h.
          let far : m ≢ j = omega (arith, h, ej) in
          let apart : m ≢ i = omega (arith, h, ei) in
          get_or-set_other (set room i a) j m b 0 far ∙ get_or-set_other room i m a 0 apart
          ∙ p.clear m (omega (arith, h));
    }

-- how many strips a room shows
pub view_long : (room now : List ℕ) (count : ℕ) → take count room ≡ now → count ≤ 96 → length room ≡ 96
    → length now ≡ count
view_long room now count view few long = ap length (sym view) ∙ length-take-le count room (omega arith)

-- all pairs written
pub pairs_view : (before room now : List ℕ) (n count total k times a b : ℕ) → HasPairs before room count k a b
    → count ≡ n → total ≡ n → k ≡ times → take n before ≡ now
    → take (total + 2 * times) room ≡ now ++ pairs times a b
pairs_view before room now n count total k times a b p ec et ek view =
    let place : total + 2 * times ≡ count + 2 * k = omega arith in
    ap (λ m. take m room) place ∙ p.front ∙ ap (λ m. take m before ++ pairs k a b) ec
    ∙ ap (λ l. l ++ pairs k a b) view ∙ ap (λ m. now ++ pairs m a b) ek

pub pairs_kept : (before room now : List ℕ) (n count total k times a b : ℕ) → HasPairs before room count k a b
    → count ≡ n → total ≡ n → k ≡ times → n + 2 * times ≤ 96 → AreKeptStrips room (total + 2 * times)
pairs_kept before room now n count total k times a b p ec et ek few = record {
  few = omega arith;
  clear = λ j h. p.clear j (omega (arith, h));
}
