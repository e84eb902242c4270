-- Worked cases: patterns, by computing.
use Rattle.std.proofs.Common.{◌≡◌, true, false, [], ◌∷◌, refl}
use Rattle.cept_codes.specs.declared.command.Form.{Form}
use Rattle.cept_drcs.specs.Block.{with_byte, block_lines, all_may_come}
use Rattle.cept_drcs.specs.Unit.{is_pattern, pattern, are_blocks, blocks_number, lines_from, plane_lines}
use Rattle.cept_drcs.specs.Cut.{blocks}

abbrev pub twelve_by_ten : Form
twelve_by_ten = record { w = 12; h = 10; planes = 1 }

abbrev pub four_planes : Form
four_planes = record { w = 12; h = 12; planes = 4 }

abbrev pub six_by_six : Form
six_by_six = record { w = 6; h = 6; planes = 1 }

-- 21 completes the half line with pixels of 0 and repeats it once
pub half_line_repeated : (pattern twelve_by_ten (0x30 ∷ 0x60 ∷ 0x21 ∷ [])).bits
    ≡ 0x1001 ∷ 0 ∷ 0 ∷ 0 ∷ 0 ∷ 0 ∷ 0 ∷ 0 ∷ 0 ∷ []
unfolding blocks with_byte blocks_number lines_from
half_line_repeated = refl

-- 2C and 29 are all ten lines, so 40 begins no half line
pub full_block_ends : is_pattern twelve_by_ten (0x30 ∷ 0x2C ∷ 0x29 ∷ 0x40 ∷ []) ≡ false
unfolding is_pattern are_blocks blocks all_may_come with_byte
full_block_ends = refl

-- 60 begins the tenth line and 2F completes it with pixels of 0: it belongs to the block, and adds no line
pub last_line_completed : is_pattern twelve_by_ten (0x30 ∷ 0x2C ∷ 0x28 ∷ 0x60 ∷ 0x2F ∷ []) ≡ true
unfolding is_pattern are_blocks blocks all_may_come with_byte
last_line_completed = refl

pub last_line_is : block_lines twelve_by_ten (0x2C ∷ 0x28 ∷ 0x60 ∷ 0x2F ∷ [])
    ≡ 0 ∷ 0 ∷ 0 ∷ 0 ∷ 0 ∷ 0 ∷ 0 ∷ 0 ∷ 0 ∷ 1 ∷ []
unfolding with_byte
last_line_is = refl

pub nothing_behind_it : is_pattern twelve_by_ten (0x30 ∷ 0x2C ∷ 0x28 ∷ 0x60 ∷ 0x2F ∷ 0x7F ∷ []) ≡ false
unfolding is_pattern are_blocks blocks all_may_come with_byte
nothing_behind_it = refl

-- 40 7F is the tenth line
pub tenth_line_of_two_bytes : block_lines twelve_by_ten (0x2C ∷ 0x28 ∷ 0x40 ∷ 0x7F ∷ [])
    ≡ 0 ∷ 0 ∷ 0 ∷ 0 ∷ 0 ∷ 0 ∷ 0 ∷ 0 ∷ 0 ∷ 0xFC0 ∷ []
unfolding with_byte
tenth_line_of_two_bytes = refl

pub nothing_behind_two_bytes : is_pattern twelve_by_ten (0x30 ∷ 0x2C ∷ 0x28 ∷ 0x40 ∷ 0x7F ∷ 0x7F ∷ []) ≡ false
unfolding is_pattern are_blocks blocks all_may_come with_byte
nothing_behind_two_bytes = refl

-- 31 opens no plane of a form with one
pub no_second_plane : is_pattern six_by_six (0x30 ∷ 0x2F ∷ 0x31 ∷ []) ≡ false
unfolding is_pattern are_blocks blocks all_may_come with_byte
no_second_plane = refl

-- a second 30 continues no pattern
pub no_plane_twice : is_pattern six_by_six (0x30 ∷ 0x2F ∷ 0x30 ∷ []) ≡ false
unfolding is_pattern are_blocks blocks all_may_come with_byte
no_plane_twice = refl

-- planes ascend strictly
pub planes_ascend : is_pattern (record six_by_six { planes = 4 }) (0x30 ∷ 0x2F ∷ 0x32 ∷ 0x2F ∷ 0x31 ∷ []) ≡ false
unfolding is_pattern are_blocks blocks all_may_come with_byte
planes_ascend = refl

pub planes_may_be_left_out : is_pattern (record six_by_six { planes = 4 }) (0x30 ∷ 0x2F ∷ 0x32 ∷ 0x2F ∷ []) ≡ true
unfolding is_pattern are_blocks blocks all_may_come with_byte
planes_may_be_left_out = refl

-- at the start of a block the line before is of 0, whatever stood in the plane before: 22 is two lines of 0
pub line_before_a_block : (pattern (record six_by_six { planes = 2 }) (0x30 ∷ 0x2F ∷ 0x31 ∷ 0x22 ∷ 0x2F ∷ [])).bits
    ≡ 0xFFFF000FFFFFFFFF ∷ 0xFF ∷ 0 ∷ 0 ∷ 0 ∷ 0 ∷ 0 ∷ 0 ∷ 0 ∷ []
unfolding blocks with_byte blocks_number lines_from
line_before_a_block = refl

-- 2B ends the unit
pub no_sign : is_pattern six_by_six (0x30 ∷ 0x7F ∷ 0x2B ∷ []) ≡ false
unfolding is_pattern are_blocks blocks all_may_come with_byte
no_sign = refl

-- 30 alone is a pattern of 0
pub empty_block : is_pattern twelve_by_ten (0x30 ∷ []) ≡ true
unfolding is_pattern are_blocks blocks all_may_come with_byte
empty_block = refl

-- the opener 31 completes the half line of plane 0
pub opener_completes : (pattern (record twelve_by_ten { planes = 2 }) (0x30 ∷ 0x7F ∷ 0x31 ∷ 0x2F ∷ [])).bits
    ≡ 0x3F ∷ 0xFF00000000000000 ∷ 0xFFFFFFFFFFFFFFFF ∷ 0x0000FFFFFFFFFFFF ∷ 0 ∷ 0 ∷ 0 ∷ 0 ∷ 0 ∷ []
unfolding blocks with_byte blocks_number lines_from
opener_completes = refl

-- the half line 60 of plane 1 is its leftmost pixel alone, and planes 0 and 2 have no lines
pub half_line_is_a_line : plane_lines four_planes 1 (blocks (0x30 ∷ 0x31 ∷ 0x60 ∷ [])) ≡ 1 ∷ []
unfolding blocks with_byte plane_lines
half_line_is_a_line = refl

pub no_lines_of_other_planes : plane_lines four_planes 2 (blocks (0x30 ∷ 0x31 ∷ 0x60 ∷ [])) ≡ []
unfolding blocks with_byte plane_lines
no_lines_of_other_planes = refl
