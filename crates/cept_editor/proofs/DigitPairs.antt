-- Two hexadecimal digits, as the crate of hexadecimal text reads them.
use Rattle.std.proofs.Common.{◌≡◌, ℕ, ◌+◌, ◌*◌, List, [], ◌∷◌, Option, Some, None, Result, Ok, Err, MatchResult, slice_index_or}
use Rattle.std.proofs.Common.{refl, sym, ap, ◌∙◌, rules}
use Rattle.hex.specs.Hex.{hex_digit_value, digit_or_error, decode_sized, decode_pairs, ◌>>=◌}
use Rattle.hex.specs.declared.error.FromHexError.{FromHexError}
use Rattle.cept_editor.specs.Meaning.{byte_of}

-- what reading a pair answers, where the digits have these values
abbrev pair_said : ℕ → ℕ → Option ℕ → Option ℕ → Result (List ℕ) FromHexError
pair_said a b o p =
    (digit_or_error a 0 o >>= (λ high. digit_or_error b 1 p >>= (λ low. Ok (high * 16 + low))))
    >>= (λ byte. Ok (byte ∷ []))

-- the answers agree with the byte
abbrev Agrees : List ℕ → Result (Unit {0}) FromHexError → Option ℕ → Type 0
Agrees out r byte =
    ((u : Unit {0}) → r ≡ Ok u → Some (slice_index_or out 0 0) ≡ byte)
    × ((e : FromHexError) → r ≡ Err e → None ≡ byte)

agrees : (a b : ℕ) (o p : Option ℕ) (out : List ℕ) (r : Result (Unit {0}) FromHexError)
    → MatchResult (pair_said a b o p) (λ bytes. (r ≡ Ok tt) × (out ≡ bytes)) (λ e. r ≡ Err e)
    → Agrees out r (byte_of o p)
agrees a b (Some high) (Some low) out r h =
    (λ u e. ap (λ (bytes : List ℕ). Some (slice_index_or bytes 0 0)) h.1, λ e q. absurd (search (rules, sym h.0 ∙ q)))
agrees a b (Some high) None out r h = (λ u q. absurd (search (rules, sym h ∙ q)), λ e q. refl)
agrees a b None (Some low) out r h = (λ u q. absurd (search (rules, sym h ∙ q)), λ e q. refl)
agrees a b None None out r h = (λ u q. absurd (search (rules, sym h ∙ q)), λ e q. refl)

pub pair_agrees : (a b : ℕ) (out : List ℕ) (r : Result (Unit {0}) FromHexError)
    → MatchResult (decode_sized (a ∷ b ∷ []) 1) (λ bytes. (r ≡ Ok tt) × (out ≡ bytes)) (λ e. r ≡ Err e)
    → Agrees out r (byte_of (hex_digit_value a) (hex_digit_value b))
unfolding decode_pairs
pair_agrees a b out r h = agrees a b (hex_digit_value a) (hex_digit_value b) out r h
