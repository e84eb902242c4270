-- Worked cases, from the rules by hand: every byte of a seven-bit form, where it stands in each way.
use Rattle.std.proofs.Common.{◌≡◌, ℕ, ◌+◌, Bool, true, false, List, [], ◌∷◌, ◌++◌, map, replicate, refl}
use Rattle.std.specs.List.{range_with_len}
use Rattle.cept_seven.specs.declared.from_seven.Heard.{Heard}
use Rattle.cept_seven.specs.declared.from_seven.Heard.TheVariants.{Byte, Silent, Refused}
use Rattle.cept_seven.specs.Eight.{accepted, accepted_after, eight, eight_after, heard, is_shifted, state_after}
use Rattle.cept_seven.specs.Eight.{state_with, ShiftState}
use Rattle.cept_seven.specs.Seven.{seven, texts}
use Rattle.cept_seven.specs.Wide.{wide}

-- ---- to seven bits: each byte alone

-- C0 without SO, SI and DLE, and plain bytes, stand for themselves
own_bytes : map (λ byte. seven (byte ∷ [])) (range_with_len 0 14 ++ range_with_len 0x11 111)
    ≡ map (λ byte. byte ∷ []) (range_with_len 0 14 ++ range_with_len 0x11 111)
unfolding texts
own_bytes = refl

-- SO, SI and DLE of the page are quoted, 4/0 higher
quoted_bytes : map (λ byte. seven (byte ∷ [])) (0x0E ∷ 0x0F ∷ 0x10 ∷ [])
    ≡ (0x10 ∷ 0x4E ∷ []) ∷ (0x10 ∷ 0x4F ∷ []) ∷ (0x10 ∷ 0x50 ∷ []) ∷ []
unfolding texts
quoted_bytes = refl

-- 8/0 to 9/15 are ESC and 4/0 to 5/15
c1_codes : map (λ n. seven ((0x80 + n) ∷ [])) (range_with_len 0 32)
    ≡ map (λ n. 0x1B ∷ (0x40 + n) ∷ []) (range_with_len 0 32)
unfolding texts
c1_codes = refl

-- 10/0 to 15/15 are 2/0 to 7/15 between SO and SI
right_bytes : map (λ n. seven ((0xA0 + n) ∷ [])) (range_with_len 0 96)
    ≡ map (λ n. 0x0E ∷ (0x20 + n) ∷ 0x0F ∷ []) (range_with_len 0 96)
unfolding texts
right_bytes = refl

-- of the right half the first of several has SO before it, the last SI after it
right_bytes_in_a_row : seven (0x41 ∷ 0xA0 ∷ 0xFF ∷ 0xC1 ∷ 0x41 ∷ 0xC2 ∷ [])
    ≡ 0x41 ∷ 0x0E ∷ 0x20 ∷ 0x7F ∷ 0x41 ∷ 0x0F ∷ 0x41 ∷ 0x0E ∷ 0x42 ∷ 0x0F ∷ []
unfolding texts
right_bytes_in_a_row = refl

-- ---- back in eight

-- how bytes are read after these, the last one first
abbrev after : List ℕ → List ℕ → List Heard
after h bytes = map (heard (state_after h)) bytes

-- at the start, after a control that is no SO, and after SI: 0E to 10 are silent, plain bytes are their own
abbrev plainly : List Heard
plainly =
    map (λ byte. Byte byte) (range_with_len 0 14) ++ replicate 3 Silent
    ++ map (λ byte. Byte byte) (range_with_len 0x11 111)
    ++ replicate 128 Refused

bytes_in_the_left_half : map (λ h. after h (range_with_len 0 256))
    ([] ∷ (0x0F ∷ []) ∷ (0x0F ∷ 0x48 ∷ 0x0E ∷ []) ∷ (0x00 ∷ 0x0E ∷ []) ∷ (0x0D ∷ 0x0E ∷ []) ∷ (0x1F ∷ 0x0E ∷ [])
    ∷ (0x4E ∷ 0x10 ∷ 0x0E ∷ []) ∷ (0x41 ∷ []) ∷ [])
    ≡ replicate 8 plainly
unfolding is_shifted
bytes_in_the_left_half = refl

-- after SO plain bytes are of the right half, also past others; controls are their own
abbrev shifted : List Heard
shifted =
    map (λ byte. Byte byte) (range_with_len 0 14) ++ replicate 3 Silent
    ++ map (λ byte. Byte byte) (range_with_len 0x11 15)
    ++ map (λ n. Byte (0xA0 + n)) (range_with_len 0 96) ++ replicate 128 Refused

bytes_in_the_right_half : map (λ h. after h (range_with_len 0 256))
    ((0x0E ∷ []) ∷ (0x48 ∷ 0x0E ∷ []) ∷ (0x20 ∷ 0x0E ∷ []) ∷ (0x7F ∷ 0x20 ∷ 0x0E ∷ 0x0F ∷ []) ∷ (0x0E ∷ 0x0E ∷ []) ∷ [])
    ≡ replicate 5 shifted
unfolding is_shifted
bytes_in_the_right_half = refl

-- after DLE 4E to 50 give SO, SI and DLE, and all others are refused, in either half
abbrev quoted : List Heard
quoted = replicate 0x4E Refused ++ Byte 0x0E ∷ Byte 0x0F ∷ Byte 0x10 ∷ replicate 175 Refused

bytes_after_a_quote : map (λ h. after h (range_with_len 0 256)) ((0x10 ∷ []) ∷ (0x10 ∷ 0x0E ∷ []) ∷ [])
    ≡ replicate 2 quoted
unfolding is_shifted
bytes_after_a_quote = refl

-- the state goes on in the same way byte by byte
abbrev state : Bool → Bool → ShiftState
state shifted quoted = record { shifted = shifted; quoted = quoted }

states : map (λ a. state_with (state false false) a) (0x0D ∷ 0x0E ∷ 0x0F ∷ 0x10 ∷ 0x1F ∷ 0x20 ∷ 0x7F ∷ [])
    ≡ state false false ∷ state true false ∷ state false false ∷ state false true ∷ state false false
    ∷ state false false ∷ state false false ∷ []
states = refl

shifted_states : map (λ a. state_with (state true false) a) (0x0D ∷ 0x0E ∷ 0x0F ∷ 0x10 ∷ 0x1F ∷ 0x20 ∷ 0x7F ∷ [])
    ≡ state false false ∷ state true false ∷ state false false ∷ state false true ∷ state false false
    ∷ state true false ∷ state true false ∷ []
shifted_states = refl

quoted_states : map (λ a. state_with (state false true) a) (0x4E ∷ 0x4F ∷ 0x50 ∷ [])
    ≡ replicate 3 (state false false)
quoted_states = refl

-- what is accepted ends before the first refused byte, whatever follows it
accepted_fronts : map accepted
    ((0x41 ∷ 0x80 ∷ 0x41 ∷ []) ∷ (0xFF ∷ []) ∷ (0x10 ∷ 0x4D ∷ 0x41 ∷ []) ∷ (0x10 ∷ 0x51 ∷ [])
    ∷ (0x10 ∷ 0x10 ∷ 0x4E ∷ []) ∷ (0x0E ∷ 0x41 ∷ 0x10 ∷ 0x4E ∷ 0x7F ∷ []) ∷ (0x41 ∷ 0x10 ∷ []) ∷ [])
    ≡ (0x41 ∷ []) ∷ [] ∷ (0x10 ∷ []) ∷ (0x10 ∷ []) ∷ (0x10 ∷ []) ∷ (0x0E ∷ 0x41 ∷ 0x10 ∷ 0x4E ∷ 0x7F ∷ [])
    ∷ (0x41 ∷ 0x10 ∷ []) ∷ []
unfolding accepted_after is_shifted
accepted_fronts = refl

-- ---- both ways

-- every byte there and back alone, with C1 codes in two bytes
there_and_back : map (λ byte. eight (seven (byte ∷ []))) (range_with_len 0 256)
    ≡ map (λ byte. byte ∷ []) (range_with_len 0 128) ++ map (λ n. 0x1B ∷ (0x40 + n) ∷ []) (range_with_len 0 32)
    ++ map (λ byte. byte ∷ []) (range_with_len 0xA0 96)
unfolding texts eight_after is_shifted
there_and_back = refl

wide_bytes : map (λ byte. wide (byte ∷ [])) (range_with_len 0 256)
    ≡ map (λ byte. byte ∷ []) (range_with_len 0 128) ++ map (λ n. 0x1B ∷ (0x40 + n) ∷ []) (range_with_len 0 32)
    ++ map (λ byte. byte ∷ []) (range_with_len 0xA0 96)
wide_bytes = refl
