-- Bytes that are held back, as the writer takes some of them.
use Rattle.std.proofs.Common.{◌≡◌, ℕ, ◌<◌, ◌≤◌, Bool, true, nat_lt, ◌||◌, ◌+◌, ◌-◌, List, ◌++◌, length, take, drop, slice_range}
use Rattle.std.proofs.Common.{Option, zero, suc, [], ◌∷◌, refl, sym, ap, ◌∙◌, length-append, length-take, take-append-drop, arith}
use Rattle.std.specs.Io.KnownBytes.{append_known, Keeps, Appends}
use Rattle.std.proofs.KnownBytes.{Keeps-trans, append_known-moved}
use Rattle.std.proofs.lemmas.Bool.Decides.{nat_tests}
use Rattle.std.proofs.Math.Seq.{take-append_seam}
use Rattle.std.proofs.lemmas.List.{drop-drop, take_all}

-- what is left of a front without its front
left_of_front : (n m : ℕ) (xs : List ℕ) → drop n (take m xs) ≡ take (m - n) (drop n xs)
left_of_front zero m xs = ap (λ k. take k xs) (let e : m ≡ m - 0 = omega arith in e)
left_of_front (suc n) zero xs = ap (λ k. take k (drop (suc n) xs)) (let e : 0 ≡ 0 - suc n = omega arith in e)
left_of_front (suc n) (suc m) [] = sym (take_all (suc m - suc n) [] (omega arith))
left_of_front (suc n) (suc m) (x ∷ xs) =
    left_of_front n m xs ∙ ap (λ k. take k (drop n xs)) (let e : m - n ≡ suc m - suc n = omega arith in e)

-- what is left of a text to which another was added
left_of_both : (n : ℕ) (xs ys : List ℕ) → n ≤ length xs → drop n (xs ++ ys) ≡ drop n xs ++ ys
left_of_both zero xs ys few = refl
left_of_both (suc n) [] ys few = absurd (omega (arith, few))
left_of_both (suc n) (x ∷ xs) ys few = left_of_both n xs ys (omega (arith, few))

-- a part without its front is the part from there on
rest_is : (held : List ℕ) (sent end n : ℕ) → drop n (slice_range held sent end) ≡ slice_range held (sent + n) end
rest_is held sent end n =
    let size : end - sent - n ≡ end - (sent + n) = omega arith in
    left_of_front n (end - sent) (drop sent held) ∙ ap (λ k. take k (drop n (drop sent held))) size
    ∙ ap (take (end - (sent + n))) (drop-drop n sent held)

-- The writer took the front of what is held back.
pub handed_on : (first old new : Option (List ℕ)) (held : List ℕ) (sent end n : ℕ)
    → Keeps first (append_known old (slice_range held sent end)) → Appends old new (take n (slice_range held sent end))
    → Keeps first (append_known new (slice_range held (sent + n) end))
handed_on first old new held sent end n so_far appends =
    let all = slice_range held sent end in
    Keeps-trans first _ _ so_far
    (append_known-moved old new (take n all) (slice_range held (sent + n) end) all appends
    (sym (take-append-drop n all) ∙ ap (λ l. take n all ++ l) (rest_is held sent end n)))

-- Where bytes were put behind what is held back, they stand after it.
pub put_is : (held piece : List ℕ) (sent end n : ℕ) → sent ≤ end → end ≤ length held → n ≤ length piece
    → slice_range ((take end held ++ take n piece) ++ drop (end + n) held) sent (end + n)
    ≡ slice_range held sent end ++ take n piece
put_is held piece sent end n forward within few =
    let old = take end held in
    let put = old ++ take n piece in
    let long : length old ≡ end = omega (arith, length-take end held, within) in
    let size : length put ≡ end + n =
    omega (arith, length-append old (take n piece), long, length-take n piece, few) in
    sym (left_of_front sent (end + n) (put ++ drop (end + n) held))
    ∙ ap (drop sent) (ap (λ k. take k (put ++ drop (end + n) held)) (sym size) ∙ take-append_seam put (drop (end + n) held))
    ∙ left_of_both sent old (take n piece) (omega (arith, long, forward))
    ∙ ap (λ l. l ++ take n piece) (left_of_front sent end held)

-- While bytes are held back, and after some were written, the sink is unflushed.
pub still_unflushed : (sent later size : ℕ) (before after first : Bool) → sent < size → after ≡ true
    → (nat_lt sent size || before) ≡ first → (nat_lt later size || after) ≡ first
still_unflushed sent later size before after first h e so_far = grind (arith, nat_tests)
