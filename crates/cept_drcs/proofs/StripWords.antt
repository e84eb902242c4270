-- Strips in words of 64 bits.
use Rattle.std.proofs.Common.{◌≡◌, ℕ, zero, suc, ◌+◌, ◌-◌, ◌*◌, ◌/◌, ◌%◌, ◌^◌, ◌<◌, ◌≤◌, ◌==◌, ◌&&◌, Bool, true}
use Rattle.std.proofs.Common.{List, [], ◌∷◌, ◌++◌, length, take, get_or, refl, sym, ap, ◌∙◌, inl, inr}
use Rattle.std.proofs.Common.{arith, pow-suc}
use Rattle.std.proofs.lemmas.Bool.{and_parts, cases_lt}
use Rattle.std.proofs.lemmas.Bool.Decides.{nat_tests}
use Rattle.std.proofs.lemmas.List.{get_or-take, get_or_past, length-take}
use Rattle.std.proofs.lemmas.Nat.{shr_high, mod_low}
use Rattle.std.proofs.Math.Nat.{pow-le-pow_right}
use Rattle.cept_drcs.specs.declared.words.TheConstants.{TURNED}
use Rattle.cept_drcs.specs.Block.{six}
use Rattle.cept_drcs.specs.Strips.{strip_of, number_of}
use Rattle.cept_drcs.specs.Strips.{words}
use Rattle.cept_drcs.proofs.StripLemmas.{strip_none}

-- ---- bits turned round

-- the table is right for all numbers below this one
are_turned : ℕ → Bool
are_turned zero = true
are_turned (suc n) = (get_or TURNED n 0 == six n) && are_turned n

turned_at : (n : ℕ) → are_turned n ≡ true → (k : ℕ) → k < n → get_or TURNED k 0 ≡ six k
unfolding are_turned
turned_at zero t k h = absurd (omega arith)
turned_at (suc n) t k h =
    let parts = and_parts (get_or TURNED n 0 == six n) (are_turned n) t in
    elim (cases_lt k n) [
      | inl below ↦ turned_at n parts.1 k below
      | inr past ↦ let same : k ≡ n = omega arith in
          let here : get_or TURNED n 0 ≡ six n = grind (arith, nat_tests) in
          ap (λ j. get_or TURNED j 0) same ∙ here ∙ ap six (sym same)
    ]

turned_all : are_turned 256 ≡ true
unfolding are_turned
turned_all = refl

pub turned : (b : ℕ) → b < 256 → get_or TURNED b 0 ≡ strip_of b
unfolding strip_of
turned b h = turned_at 256 turned_all b h

pub strip_small : (b : ℕ) → strip_of b < 64
unfolding strip_of
strip_small b = omega arith

-- ---- numbers of strips

pub number_more : (n i : ℕ) (ss : List ℕ)
    → number_of (suc n) i ss ≡ strip_of (get_or ss i 0) + 64 * number_of n (i + 1) ss
unfolding number_of
number_more n i ss = refl

pub number_none : (i : ℕ) (ss : List ℕ) → number_of 0 i ss ≡ 0
unfolding number_of
number_none i ss = refl

-- a bound on the number of ten
times_64 : (x n u : ℕ) → x < 64 → n < u → x + 64 * n < 64 * u
times_64 x n u h k = omega arith

pub number_below : (n i : ℕ) (ss : List ℕ) → number_of n i ss < 64 ^ n
unfolding number_of
number_below zero i ss = omega arith
number_below (suc n) i ss =
    let below : strip_of (get_or ss i 0) + 64 * number_of n (i + 1) ss < 64 * 64 ^ n =
    times_64 _ _ _ (strip_small (get_or ss i 0)) (number_below n (i + 1) ss) in
    rw pow-suc (omega (arith, below))

-- the step of reading ten of them from the last
pub ten_small : (k i n : ℕ) (ss : List ℕ) → n ≡ number_of k i ss → k ≤ 10 → n < 2 ^ 60
ten_small k i n ss e h =
    let most : 64 ^ k ≤ 64 ^ 10 = pow-le-pow_right (omega arith) h in
    omega (arith, number_below k i ss)

pub nine_small : (k i n : ℕ) (ss : List ℕ) → n ≡ number_of k i ss → k < 10 → n < 2 ^ 54
nine_small k i n ss e h =
    let few : k ≤ 9 = omega arith in
    let most : 64 ^ k ≤ 64 ^ 9 = pow-le-pow_right (omega arith) few in
    omega (arith, number_below k i ss)

pub ten_more : (n s k from : ℕ) (ss : List ℕ) → k < 10 → n ≡ number_of k (from + 10 - k) ss
    → s ≡ strip_of (get_or ss (from + 9 - k) 0) → n * 64 + s ≡ number_of (k + 1) (from + 10 - (k + 1)) ss
ten_more n s k from ss h en es =
    let here : from + 9 - k ≡ from + 10 - (k + 1) = omega arith in
    let next : from + 9 - k + 1 ≡ from + 10 - k = omega arith in
    let one : suc k ≡ k + 1 = omega arith in
    let step : number_of (suc k) (from + 9 - k) ss ≡ s + 64 * n =
    number_more k (from + 9 - k) ss ∙ ap (λ z. z + 64 * number_of k (from + 9 - k + 1) ss) (sym es)
    ∙ ap (λ i. s + 64 * number_of k i ss) next ∙ ap (λ m. s + 64 * m) (sym en) in
    let turn : n * 64 + s ≡ s + 64 * n = omega arith in
    turn ∙ sym step ∙ ap (λ i. number_of (suc k) i ss) here ∙ ap (λ m. number_of m (from + 10 - (k + 1)) ss) one

-- ---- numbers in words

pub words_more : (k low rest : ℕ) → low < 2 ^ 64 → words (suc k) (rest * 2 ^ 64 + low) ≡ low ∷ words k rest
unfolding words
words_more k low rest h =
    ap (λ x. x ∷ words k ((rest * 2 ^ 64 + low) / 2 ^ 64)) (mod_low rest 64 low h)
    ∙ ap (λ x. low ∷ words k x) (shr_high rest 64 low h)

pub words_end : (n : ℕ) → words 0 n ≡ []
unfolding words
words_end n = refl

-- three words of a number
pub words_of_three : (n a b c : ℕ) → a < 2 ^ 64 → b < 2 ^ 64 → c < 2 ^ 64
    → n ≡ (c * 2 ^ 64 + b) * 2 ^ 64 + a → words 3 n ≡ a ∷ b ∷ c ∷ []
words_of_three n a b c ha hb hc e =
    let alone : c ≡ 0 * 2 ^ 64 + c = omega arith in
    let last : words 1 c ≡ c ∷ [] =
    ap (words 1) alone ∙ words_more 0 c 0 hc ∙ ap (λ l. c ∷ l) (words_end 0) in
    ap (words 3) e ∙ words_more 2 a (c * 2 ^ 64 + b) ha ∙ ap (λ l. a ∷ l) (words_more 1 b c hb)
    ∙ ap (λ l. a ∷ b ∷ l) last

-- and more after them
pub words_behind_three : (k n rest : ℕ) → n < 2 ^ 192
    → words (suc (suc (suc k))) (rest * 2 ^ 192 + n) ≡ words 3 n ++ words k rest
words_behind_three k n rest h =
    let a : ℕ = n % 2 ^ 64 in
    let b : ℕ = n / 2 ^ 64 % 2 ^ 64 in
    let c : ℕ = n / 2 ^ 64 / 2 ^ 64 in
    let e : n ≡ (c * 2 ^ 64 + b) * 2 ^ 64 + a = omega arith in
    let hc : c < 2 ^ 64 = omega arith in
    let whole : rest * 2 ^ 192 + n ≡ ((rest * 2 ^ 64 + c) * 2 ^ 64 + b) * 2 ^ 64 + a = omega arith in
    ap (words (suc (suc (suc k)))) whole
    ∙ words_more (suc (suc k)) a ((rest * 2 ^ 64 + c) * 2 ^ 64 + b) (omega arith)
    ∙ ap (λ l. a ∷ l) (words_more (suc k) b (rest * 2 ^ 64 + c) (omega arith))
    ∙ ap (λ l. a ∷ b ∷ l) (words_more k c rest hc)
    ∙ ap (λ l. l ++ words k rest) (sym (words_of_three n a b c (omega arith) (omega arith) hc e))

-- ---- strips cut in tens

-- so many strips, and then more
pub number_split : (m n i : ℕ) (ss : List ℕ)
    → number_of (m + n) i ss ≡ number_of m i ss + 64 ^ m * number_of n (i + m) ss
number_split zero n i ss =
    let none : zero + n ≡ n = omega arith in
    let here : i ≡ i + zero = omega arith in
    let sum : number_of n (i + zero) ss ≡ number_of 0 i ss + 64 ^ zero * number_of n (i + zero) ss =
    omega (arith, number_none i ss) in
    ap (λ k. number_of k i ss) none ∙ ap (λ j. number_of n j ss) here ∙ sum
number_split (suc m) n i ss =
    let more : suc m + n ≡ suc (m + n) = omega arith in
    let next : i + 1 + m ≡ i + suc m = omega arith in
    let x : ℕ = number_of n (i + suc m) ss in
    let rest : number_of (m + n) (i + 1) ss ≡ number_of m (i + 1) ss + 64 ^ m * x =
    number_split m n (i + 1) ss ∙ ap (λ j. number_of m (i + 1) ss + 64 ^ m * number_of n j ss) next in
    let power : 64 ^ suc m * x ≡ 64 * (64 ^ m * x) = ap (λ p. p * x) (pow-suc 64 m) ∙ omega arith in
    ap (λ k. number_of k i ss) more ∙ number_more (m + n) i ss
    ∙ ap (λ z. strip_of (get_or ss i 0) + 64 * z) rest
    ∙ (let sum : strip_of (get_or ss i 0) + 64 * (number_of m (i + 1) ss + 64 ^ m * x)
    ≡ number_of (suc m) i ss + 64 ^ suc m * x = omega (arith, power, number_more m i ss) in sum)

-- 32 strips: ten, one, ten, one, ten
pub number_of_32 : (i : ℕ) (ss : List ℕ)
    → number_of 32 i ss ≡ number_of 10 i ss + 2 ^ 60 * strip_of (get_or ss (i + 10) 0)
    + 2 ^ 66 * number_of 10 (i + 11) ss + 2 ^ 126 * strip_of (get_or ss (i + 21) 0)
    + 2 ^ 132 * number_of 10 (i + 22) ss
number_of_32 i ss =
    let a = number_split 10 22 i ss in
    let b : number_of 22 (i + 10) ss ≡ strip_of (get_or ss (i + 10) 0) + 64 * number_of 21 (i + 11) ss =
    number_more 21 (i + 10) ss ∙ ap (λ j. strip_of (get_or ss (i + 10) 0) + 64 * number_of 21 j ss) (omega arith) in
    let c : number_of 21 (i + 11) ss ≡ number_of 10 (i + 11) ss + 2 ^ 60 * number_of 11 (i + 21) ss =
    number_split 10 11 (i + 11) ss
    ∙ ap (λ j. number_of 10 (i + 11) ss + 2 ^ 60 * number_of 11 j ss) (omega arith) in
    let d : number_of 11 (i + 21) ss ≡ strip_of (get_or ss (i + 21) 0) + 64 * number_of 10 (i + 22) ss =
    number_more 10 (i + 21) ss ∙ ap (λ j. strip_of (get_or ss (i + 21) 0) + 64 * number_of 10 j ss) (omega arith) in
    omega (arith, a, b, c, d)

pub number_of_32-below : (i : ℕ) (ss : List ℕ) → number_of 32 i ss < 2 ^ 192
number_of_32-below i ss = omega (arith, number_below 32 i ss)

-- the three words of 32 strips
pub three : (i a o b t c : ℕ) (ss : List ℕ) → a < 2 ^ 60 → o < 64 → b < 2 ^ 60 → t < 64 → c < 2 ^ 60
    → a ≡ number_of 10 i ss → o ≡ strip_of (get_or ss (i + 10) 0) → b ≡ number_of 10 (i + 11) ss
    → t ≡ strip_of (get_or ss (i + 21) 0) → c ≡ number_of 10 (i + 22) ss
    → (a + o % 16 * 2 ^ 60) ∷ (o / 16 + b * 4 + t % 4 * 2 ^ 62) ∷ (t / 4 + c * 16) ∷ [] ≡ words 3 (number_of 32 i ss)
three i a o b t c ss ha ho hb ht hc ea eo eb et ec =
    let n : ℕ = a + 2 ^ 60 * o + 2 ^ 66 * b + 2 ^ 126 * t + 2 ^ 132 * c in
    let same : number_of 32 i ss ≡ n = omega (arith, number_of_32 i ss) in
    sym (ap (words 3) same ∙ words_of_three n (a + o % 16 * 2 ^ 60) (o / 16 + b * 4 + t % 4 * 2 ^ 62) (t / 4 + c * 16)
    (omega arith) (omega arith) (omega arith) (omega arith))

-- the nine words of 96 strips
pub nine : (ss : List ℕ)
    → words 9 (number_of 96 0 ss)
    ≡ words 3 (number_of 32 0 ss) ++ (words 3 (number_of 32 32 ss) ++ words 3 (number_of 32 64 ss))
nine ss =
    let x : ℕ = number_of 32 0 ss in
    let y : ℕ = number_of 32 32 ss in
    let z : ℕ = number_of 32 64 ss in
    let low : number_of 96 0 ss ≡ (z * 2 ^ 192 + y) * 2 ^ 192 + x =
    omega (arith, number_split 32 64 0 ss, number_split 32 32 32 ss) in
    let tail : words 6 (z * 2 ^ 192 + y) ≡ words 3 y ++ words 3 z =
    words_behind_three 3 y z (number_of_32-below 32 ss) in
    ap (words 9) low ∙ words_behind_three 6 x (z * 2 ^ 192 + y) (number_of_32-below 0 ss)
    ∙ ap (λ l. words 3 x ++ l) tail

-- nine words by their places in three arrays
pub nine_at : (a b c : List ℕ) (x y z : ℕ) → a ≡ words 3 x → b ≡ words 3 y → c ≡ words 3 z
    → get_or a 0 0 ∷ get_or a 1 0 ∷ get_or a 2 0 ∷ get_or b 0 0 ∷ get_or b 1 0 ∷ get_or b 2 0 ∷ get_or c 0 0
    ∷ get_or c 1 0 ∷ get_or c 2 0 ∷ [] ≡ words 3 x ++ (words 3 y ++ words 3 z)
unfolding words
nine_at a b c x y z ea eb ec = simp (ea, eb, ec)

-- ---- the room after the strips

pub number_same : (n i : ℕ) (ss others : List ℕ) → ((k : ℕ) → get_or ss k 0 ≡ get_or others k 0)
    → number_of n i ss ≡ number_of n i others
unfolding number_of
number_same zero i ss others same = refl
number_same (suc n) i ss others same =
    ap (λ s. strip_of s + 64 * number_of n (i + 1) ss) (same i)
    ∙ ap (λ m. strip_of (get_or others i 0) + 64 * m) (number_same n (i + 1) ss others same)

pub number_clear : (n i : ℕ) (ss : List ℕ) → ((k : ℕ) → i ≤ k → get_or ss k 0 ≡ 0) → number_of n i ss ≡ 0
unfolding number_of
number_clear zero i ss clear = refl
number_clear (suc n) i ss clear =
    let here : strip_of (get_or ss i 0) ≡ 0 = ap strip_of (clear i (omega arith)) ∙ strip_none in
    omega (arith, here, number_clear n (i + 1) ss (λ k h. clear k (omega (arith, h))))

pub take_clear : (room : List ℕ) (count : ℕ) → ((k : ℕ) → count ≤ k → get_or room k 0 ≡ 0) → (k : ℕ)
    → get_or (take count room) k 0 ≡ get_or room k 0
take_clear room count clear k =
    elim (cases_lt k count) [
      | inl below ↦ get_or-take count room k 0 below
      | inr past ↦ let short : length (take count room) ≤ k = omega (arith, length-take count room) in
          get_or_past (take count room) k 0 short ∙ sym (clear k (omega (arith, past)))
    ]

pub no_words : words 3 0 ≡ 0 ∷ 0 ∷ 0 ∷ []
unfolding words
no_words = refl

-- ten strips in a room, and where none stand there
pub ten_of : (from i count : ℕ) (room ss : List ℕ) (n : ℕ) → ((k : ℕ) → count ≤ k → get_or room k 0 ≡ 0)
    → take count room ≡ ss → i ≡ from → n ≡ number_of 10 i room → n ≡ number_of 10 from ss
ten_of from i count room ss n clear view here e =
    e ∙ ap (λ j. number_of 10 j room) here
    ∙ sym (number_same 10 from (take count room) room (take_clear room count clear))
    ∙ ap (λ l. number_of 10 from l) view

none_of : (n from count : ℕ) (room ss : List ℕ) → ((k : ℕ) → count ≤ k → get_or room k 0 ≡ 0)
    → take count room ≡ ss → count ≤ from → number_of n from ss ≡ 0
none_of n from count room ss clear view h =
    number_clear n from ss (λ k later. ap (λ l. get_or l k 0) (sym view) ∙ take_clear room count clear k
    ∙ clear k (omega (arith, h, later)))

pub ten_none : (from count : ℕ) (room ss : List ℕ) → ((k : ℕ) → count ≤ k → get_or room k 0 ≡ 0)
    → take count room ≡ ss → count ≤ from → 0 ≡ number_of 10 from ss
ten_none from count room ss clear view h = sym (none_of 10 from count room ss clear view h)

pub three_none : (from count : ℕ) (room ss : List ℕ) → ((k : ℕ) → count ≤ k → get_or room k 0 ≡ 0)
    → take count room ≡ ss → count ≤ from → 0 ∷ 0 ∷ 0 ∷ [] ≡ words 3 (number_of 32 from ss)
three_none from count room ss clear view h =
    sym (ap (words 3) (none_of 32 from count room ss clear view h) ∙ no_words)

-- a strip read in the room
pub strip_read : (s i k count : ℕ) (room ss : List ℕ) → ((k : ℕ) → count ≤ k → get_or room k 0 ≡ 0)
    → take count room ≡ ss → i ≡ k → s ≡ strip_of (get_or room i 0) → s ≡ strip_of (get_or ss k 0)
strip_read s i k count room ss clear view here e =
    e ∙ ap (λ j. strip_of (get_or room j 0)) here ∙ ap strip_of (sym (take_clear room count clear k))
    ∙ ap (λ l. strip_of (get_or l k 0)) view
