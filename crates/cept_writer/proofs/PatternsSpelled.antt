-- Where the lines of a pattern stand among its bits.
use Rattle.std.proofs.Common.{ℕ, ◌+◌, ◌*◌, ◌≤◌, ◌<◌, IsTrue, arith}
use Rattle.std.proofs.lemmas.Bool.Decides.{nat_tests}
use Rattle.std.proofs.lemmas.Nat.{mul-le}
use Rattle.cept_codes.specs.declared.look.Pattern.{Pattern}
use Rattle.cept_codes.specs.Look.{IsValidPattern, is_pattern_size, is_plane_count}

wide : (w h : ℕ) → IsTrue (is_pattern_size w h) → w ≤ 12
wide w h t = grind (arith, nat_tests)

high : (w h : ℕ) → IsTrue (is_pattern_size w h) → h ≤ 12
high w h t = grind (arith, nat_tests)

deep : (n : ℕ) → IsTrue (is_plane_count n) → n ≤ 4
deep n t = grind (arith, nat_tests)

-- at most twelve lines in at most four planes
pub few_lines : (t : Pattern) → IsValidPattern t → t.h ≤ 12
few_lines t is = high t.w t.h is.size

pub few_planes : (t : Pattern) → IsValidPattern t → t.planes ≤ 4
few_planes t is = deep t.planes is.planes

-- each line of a valid pattern stands within the nine words
pub line_within : (t : Pattern) (p y : ℕ) → IsValidPattern t → p < t.planes → y < t.h
    → (p * t.h + y) * t.w + t.w ≤ 576
line_within t p y is plane line =
    let tall : t.h ≤ 12 = few_lines t is in
    let planes : t.planes ≤ 4 = few_planes t is in
    let above : p * t.h ≤ 3 * 12 = mul-le p t.h 3 12 (omega (arith, plane, planes)) tall in
    let before : (p * t.h + y) * t.w ≤ 47 * 12 =
    mul-le (p * t.h + y) t.w 47 12 (omega (arith, above, line, tall)) (wide t.w t.h is.size) in
    omega (arith, before, wide t.w t.h is.size)
