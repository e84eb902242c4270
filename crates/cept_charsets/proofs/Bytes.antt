-- How many bytes a sign takes in UTF-8.
use Rattle.std.proofs.Common.{◌≡◌, ℕ, ◌<◌, ◌≤◌, length, arith}
use Rattle.std.specs.Char.{encode_utf8}
use Rattle.std.proofs.lemmas.Bool.Decides.{nat_tests}
use Rattle.std.proofs.lemmas.Str.{length-encode}

-- a character takes a byte at least
pub one_byte : (c : ℕ) → 1 ≤ length (encode_utf8 c)
one_byte c = grind (arith, nat_tests, length-encode c)

-- one of the first plane takes three at most
pub three_bytes : (c : ℕ) → c < 0x1_0000 → length (encode_utf8 c) ≤ 3
three_bytes c h = grind (arith, nat_tests, length-encode c)

-- and one below 0800 takes two
pub two_bytes : (c : ℕ) → c < 0x800 → length (encode_utf8 c) ≤ 2
two_bytes c h = grind (arith, nat_tests, length-encode c)

-- an ASCII sign takes one
pub ascii_byte : (c : ℕ) → c < 0x80 → length (encode_utf8 c) ≡ 1
ascii_byte c h = grind (arith, nat_tests, length-encode c)
