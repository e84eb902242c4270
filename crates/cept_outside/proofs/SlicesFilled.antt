-- What stands in a slice after bytes were put into it, or moved to its front.
use Rattle.std.proofs.Common.{◌≡◌, ℕ, ◌+◌, ◌≤◌, List, ◌++◌, length, take, drop, sym, ap, ◌∙◌, arith}
use Rattle.std.proofs.Common.{length-append, length-take, take-append-drop}
use Rattle.std.proofs.Math.Seq.{take-append_seam, drop-append_seam}
use Rattle.std.proofs.lemmas.List.{drop-drop}

-- where more bytes are put behind the first ones, what stands after them is as it was before
pub rest_stays : (first more : ℕ) (old piece before : List ℕ) → first ≤ length old → more ≤ length piece
    → drop first old ≡ drop first before
    → drop (first + more) ((take first old ++ take more piece) ++ drop (first + more) old) ≡ drop (first + more) before
rest_stays first more old piece before within fits e =
    let put = take first old ++ take more piece in
    let count : length put ≡ first + more =
    omega (arith, length-append (take first old) (take more piece), length-take first old, length-take more piece, within, fits) in
    ap (λ n. drop n (put ++ drop (first + more) old)) (sym count) ∙ drop-append_seam put (drop (first + more) old)
    ∙ sym (drop-drop more first old) ∙ ap (drop more) e ∙ drop-drop more first before

-- where the front of what is left was moved to the front of a slice, what was left is that front and what is left now
pub moved_front : (at n : ℕ) (bytes left into : List ℕ) → left ≡ drop at bytes → n ≤ length left
    → drop at bytes ≡ take n (take n left ++ drop n into) ++ drop (at + n) bytes
moved_front at n bytes left into is within =
    let count : length (take n left) ≡ n = omega (arith, length-take n left, within) in
    let front : take n (take n left ++ drop n into) ≡ take n (drop at bytes) =
    ap (λ k. take k (take n left ++ drop n into)) (sym count) ∙ take-append_seam (take n left) (drop n into) ∙ ap (take n) is in
    sym (take-append-drop n (drop at bytes)) ∙ ap (λ l. l ++ drop n (drop at bytes)) (sym front)
    ∙ ap (λ l. take n (take n left ++ drop n into) ++ l) (drop-drop n at bytes)
