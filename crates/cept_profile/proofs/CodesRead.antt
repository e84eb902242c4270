-- What a code of a set gives.
use Rattle.std.proofs.Common.{◌≡◌, ℕ, ◌≤◌, Bool, true, false, cond, eqb, refl, inl, inr, arith}
use Rattle.std.specs.Prelude.{◌↔◌}
use Rattle.std.proofs.lemmas.Bool.Decides.{nat_tests}
use Rattle.cept_codes.specs.declared.glyph.Read.TheVariants as reads
use Rattle.cept_codes.specs.declared.glyph.SetId.{SetId}
use Rattle.cept_codes.specs.declared.glyph.SetId.TheVariants as sets
use Rattle.cept_codes.specs.Command.{IsGraphic}
use Rattle.cept_codes.specs.Glyph.{IsValidGlyph}
use Rattle.cept_profile.specs.Sets.{IsAccent, IsValidRead, code_of, is_accent, read_as, sign}

-- a code of seven bits from 2/0 on
abbrev pub IsCode : ℕ → Type 0
IsCode code = (0x20 ≤ code) × (code ≤ 0x7F)

-- a graphic byte has one
pub IsCode-code_of : (byte : ℕ) → IsGraphic byte → IsCode (code_of byte)
IsCode-code_of byte (inl left) = (omega arith, omega arith)
IsCode-code_of byte (inr right) = (omega arith, omega arith)

-- a code that is no space and no accent gives a valid sign
valid_sign : (set : SetId) (code : ℕ) → IsCode code → (code ≡ 0x20 → ⊥) → is_accent set code ≡ false
    → IsValidGlyph (sign set code)
valid_sign sets.P code h n a = record { code = (h.0, h.1); accent = inl refl }
valid_sign sets.S code h n a = record { code = (omega arith, h.1, grind (arith, nat_tests)); accent = refl }
valid_sign sets.M code h n a = record { code = (omega arith, h.1); accent = refl }
valid_sign sets.N code h n a = record { code = (omega arith, h.1); accent = refl }
valid_sign sets.D code h n a = record { code = (omega arith, h.1); accent = refl }

-- an accent of a set is one
accent_code : (set : SetId) (code : ℕ) → is_accent set code ≡ true → (set ≡ sets.S) × IsAccent code
accent_code sets.S code a = (refl, grind (arith, nat_tests))
accent_code sets.P code a = absurd (cc)
accent_code sets.M code a = absurd (cc)
accent_code sets.N code a = absurd (cc)
accent_code sets.D code a = absurd (cc)

-- each of the three outcomes is valid
choice_valid : (set : SetId) (code : ℕ) → IsCode code → (space accent : Bool) → eqb code 0x20 ≡ space
    → is_accent set code ≡ accent
    → IsValidRead (cond space (reads.Glyph (sign sets.P 0x20))
    (cond accent (reads.Accent code) (reads.Glyph (sign set code))))
choice_valid set code h true accent s a = record { code = (omega arith, omega arith); accent = inl refl }
choice_valid set code h false true s a = (accent_code set code a).1
choice_valid set code h false false s a = valid_sign set code h (grind (arith, nat_tests)) a

-- what is read is valid
pub IsValidRead-read_as : (set : SetId) (code : ℕ) → IsCode code → IsValidRead (read_as set code)
unfolding read_as
IsValidRead-read_as set code h = choice_valid set code h _ _ refl refl

-- set S has its accents at the accents' codes
is_accent_code : (code : ℕ) → IsAccent code → is_accent sets.S code ≡ true
is_accent_code code h = grind (arith, nat_tests)

-- an accent comes of no other outcome
choice_accent : (set : SetId) (code : ℕ) → (space accent : Bool) → eqb code 0x20 ≡ space → is_accent set code ≡ accent
    → (cond space (reads.Glyph (sign sets.P 0x20)) (cond accent (reads.Accent code) (reads.Glyph (sign set code)))
    ≡ reads.Accent code) → (set ≡ sets.S) × IsAccent code
choice_accent set code true accent s a e = absurd (cc)
choice_accent set code false true s a e = accent_code set code a
choice_accent set code false false s a e = absurd (cc)

-- an accent's code of set S is no space
accent_choice : (code : ℕ) → IsAccent code → (space accent : Bool) → eqb code 0x20 ≡ space → accent ≡ true
    → cond space (reads.Glyph (sign sets.P 0x20))
    (cond accent (reads.Accent code) (reads.Glyph (sign sets.S code))) ≡ reads.Accent code
accent_choice code h true accent s a = absurd (grind (arith, nat_tests))
accent_choice code h false accent s a = rw a refl

-- an accent's code of set S is read as an accent
accent_of_S : (set : SetId) (code : ℕ) → (set ≡ sets.S) × IsAccent code → read_as set code ≡ reads.Accent code
unfolding read_as
accent_of_S set code h = rw h.0 (accent_choice code h.1 _ _ refl (is_accent_code code h.1))

-- an accent is read exactly at the accents' codes of set S
pub read_as-accent : (set : SetId) (code : ℕ)
    → (read_as set code ≡ reads.Accent code) ↔ ((set ≡ sets.S) × IsAccent code)
unfolding read_as
read_as-accent set code = (choice_accent set code _ _ refl refl, accent_of_S set code)
