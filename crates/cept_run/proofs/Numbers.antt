-- What is read of a text of digits.
use Rattle.std.proofs.Common.{◌≡◌, nat_eq, ℕ, ◌^◌, ◌≤◌, ◌<◌, ◌&&◌, Bool, true, false, cond, List, [], ◌∷◌, length, drop, Some, None}
use Rattle.std.proofs.Common.{Result, Ok, Err, refl, sym, ◌∙◌, ap, arith, nat_lt, nat_le}
use Rattle.std.proofs.lemmas.Bool.{and_parts, and_from, lt-ltb, le-leb, ltb-true, cond-true, cond-false}
use Rattle.std.proofs.lemmas.Bool.Decides.{nat_tests}
use Rattle.std.specs.Char.{is_ascii_digit, digit_value}
use Rattle.std.specs.List.{list_all}
use Rattle.std.specs.Result.{result_ok}
use Rattle.std.specs.Str.Parse.{AllDigits, digits_value, without_leading_plus, ParsesUnsigned}
use Rattle.cept_run.specs.Words.{number_of}

digit_small : (c : ℕ) → is_ascii_digit c ≡ true → digit_value c < 10
digit_small c e = grind (arith, nat_tests)

no_plus : (c : ℕ) → is_ascii_digit c ≡ true → nat_eq c 43 ≡ false
no_plus c e = grind (arith, nat_tests)

all_digits : (cs : List ℕ) → list_all is_ascii_digit cs ≡ true → AllDigits 10 cs
all_digits [] e = tt
all_digits (c ∷ cs) e =
    let parts = and_parts (is_ascii_digit c) (list_all is_ascii_digit cs) e in
    (digit_small c parts.0, all_digits cs parts.1)

-- digits begin with no sign
plain : (cs : List ℕ) → list_all is_ascii_digit cs ≡ true → without_leading_plus cs ≡ cs
plain [] e = refl
plain (c ∷ cs) e = ap (λ b. drop (cond b 1 0) (c ∷ cs)) (no_plus c (and_parts (is_ascii_digit c) (list_all is_ascii_digit cs) e).0)

-- what is read of at most ten digits
pub number_read : {E : Type 0} (cs : List ℕ) (r : Result ℕ E) → length cs ≤ 10 → list_all is_ascii_digit cs ≡ true
    → ParsesUnsigned 32 10 cs r → result_ok r ≡ number_of cs
number_read cs (Ok x) few digits reads =
    let whole = plain cs digits in
    let some : 0 < length cs = rw whole at reads.0.0.0 in
    let small : digits_value 10 cs < 2 ^ 32 = rw whole at reads.0.1 in
    let value : x ≡ digits_value 10 cs = rw whole at reads.1 in
    ap Some value ∙ sym (cond-true _ _ _ (and_from _ _ (and_from _ _ (and_from _ _ (lt-ltb 0 (length cs) some)
    (le-leb (length cs) 10 few)) digits) (lt-ltb (digits_value 10 cs) (2 ^ 32) small)))
number_read cs (Err e) few digits reads = by_test (fits cs) refl
  where
    fits : List ℕ → Bool
    fits text = nat_lt 0 (length text) && nat_le (length text) 10 && list_all is_ascii_digit text
        && nat_lt (digits_value 10 text) (2 ^ 32)

    by_test : (b : Bool) → fits cs ≡ b → None ≡ number_of cs
    by_test false is = sym (cond-false _ _ _ is)
    by_test true is =
        let outer = and_parts (nat_lt 0 (length cs) && nat_le (length cs) 10 && list_all is_ascii_digit cs) _ is in
        let inner = and_parts (nat_lt 0 (length cs) && nat_le (length cs) 10) _ outer.0 in
        let some = and_parts (nat_lt 0 (length cs)) _ inner.0 in
        absurd (reads (rw (plain cs digits) ((ltb-true 0 (length cs) some.0, all_digits cs digits), ltb-true (digits_value 10 cs) (2 ^ 32) outer.1)))
