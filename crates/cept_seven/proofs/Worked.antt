-- Worked cases, from the rules by hand.
use Rattle.std.proofs.Common.{◌≡◌, [], ◌∷◌, true, false, reverse, refl}
use Rattle.cept_seven.specs.Seven.{texts, seven, unclosed}
use Rattle.cept_seven.specs.Eight.{eight, eight_after, is_shifted, is_refused, is_quoted, state_after}
use Rattle.cept_seven.specs.Wide.{wide}

-- ---- to seven bits

-- a sign of the left half, one of the right, a C1 code, and an SO of the page's own
pub one_of_each : seven (0x41 ∷ 0xC8 ∷ 0x61 ∷ 0x94 ∷ 0x0E ∷ [])
    ≡ 0x41 ∷ 0x0E ∷ 0x48 ∷ 0x0F ∷ 0x61 ∷ 0x1B ∷ 0x54 ∷ 0x10 ∷ 0x4E ∷ []
unfolding texts
one_of_each = refl

-- bytes of the right half side by side are shifted once, and the end shifts back
pub one_shift : seven (0xC8 ∷ 0xE1 ∷ []) ≡ 0x0E ∷ 0x48 ∷ 0x61 ∷ 0x0F ∷ []
unfolding texts
one_shift = refl

pub before_the_end : unclosed (0xC8 ∷ 0xE1 ∷ []) ≡ 0x0E ∷ 0x48 ∷ 0x61 ∷ []
unfolding texts
before_the_end = refl

-- a C1 code, a control and a quoted byte stand in the left half
pub c1_between : seven (0xC8 ∷ 0x81 ∷ 0xE1 ∷ []) ≡ 0x0E ∷ 0x48 ∷ 0x0F ∷ 0x1B ∷ 0x41 ∷ 0x0E ∷ 0x61 ∷ 0x0F ∷ []
unfolding texts
c1_between = refl

pub control_between : seven (0xC8 ∷ 0x00 ∷ 0xE1 ∷ []) ≡ 0x0E ∷ 0x48 ∷ 0x0F ∷ 0x00 ∷ 0x0E ∷ 0x61 ∷ 0x0F ∷ []
unfolding texts
control_between = refl

pub quoted_between : seven (0xC8 ∷ 0x10 ∷ 0xE1 ∷ []) ≡ 0x0E ∷ 0x48 ∷ 0x0F ∷ 0x10 ∷ 0x50 ∷ 0x0E ∷ 0x61 ∷ 0x0F ∷ []
unfolding texts
quoted_between = refl

-- an ESC of the page stays before a C1 code
pub escape_before_c1 : seven (0x1B ∷ 0x81 ∷ []) ≡ 0x1B ∷ 0x1B ∷ 0x41 ∷ []
unfolding texts
escape_before_c1 = refl

-- ---- back in eight

pub back : eight (0x41 ∷ 0x0E ∷ 0x48 ∷ 0x0F ∷ 0x61 ∷ 0x1B ∷ 0x54 ∷ 0x10 ∷ 0x4E ∷ [])
    ≡ 0x41 ∷ 0xC8 ∷ 0x61 ∷ 0x1B ∷ 0x54 ∷ 0x0E ∷ []
unfolding eight_after is_shifted
back = refl

pub wide_form : wide (0x41 ∷ 0xC8 ∷ 0x61 ∷ 0x94 ∷ 0x0E ∷ []) ≡ 0x41 ∷ 0xC8 ∷ 0x61 ∷ 0x1B ∷ 0x54 ∷ 0x0E ∷ []
wide_form = refl

-- any control ends the right half
pub control_ends : eight (0x0E ∷ 0x48 ∷ 0x0D ∷ 0x61 ∷ []) ≡ 0xC8 ∷ 0x0D ∷ 0x61 ∷ []
unfolding eight_after is_shifted
control_ends = refl

-- and so does a quote; a quoted SO shifts nothing
pub quote_ends : eight (0x0E ∷ 0x10 ∷ 0x4E ∷ 0x48 ∷ []) ≡ 0x0E ∷ 0x48 ∷ []
unfolding eight_after is_shifted
quote_ends = refl

-- 4/14 after a quoted byte isn't quoted
pub quoted_once : eight (0x10 ∷ 0x50 ∷ 0x4E ∷ []) ≡ 0x10 ∷ 0x4E ∷ []
unfolding eight_after is_shifted
quoted_once = refl

-- a shift that isn't ended
pub open_shift : eight (0x0E ∷ 0x48 ∷ 0x61 ∷ []) ≡ 0xC8 ∷ 0xE1 ∷ []
unfolding eight_after is_shifted
open_shift = refl

-- ---- refused

pub eight_bits : is_refused (state_after (reverse (0x41 ∷ []))) 0x80 ≡ true
eight_bits = refl

pub other_quoted : is_refused (state_after (reverse (0x41 ∷ 0x10 ∷ []))) 0x41 ≡ true
other_quoted = refl

pub quote_quoted : is_refused (state_after (reverse (0x10 ∷ []))) 0x10 ≡ true
quote_quoted = refl

pub open_quote : is_quoted (reverse (0x10 ∷ [])) ≡ true
open_quote = refl

pub closed_quote : is_quoted (reverse (0x10 ∷ 0x4E ∷ [])) ≡ false
closed_quote = refl
