-- Escape sequences: 1B, at most three bytes 2/0 to 2/15, and a byte 3/0 to 7/15. 1B 5B is CSI. After ISO 2022 are the
-- shape, the C1 codes in two bytes, the locking shifts, and the bytes 2/8 to 2/11 that designate to G0 to G3; after ETS
-- 300 072 and T/CD 6-1 the designation of a C1 set. Own are the limit of three bytes, the finals that name the sets,
-- the attributes of screen and row, and what is refused.
use Rattle.std.specs.Prelude.{ℕ, ◌-◌, Bool, not, ◌&&◌, List, [], ◌∷◌, if◌then◌else◌, ◌==◌}
use Rattle.cept_codes.specs.declared.command.C1Set.TheVariants.{Serial, Parallel}
use Rattle.cept_codes.specs.declared.command.Command.TheVariants as command
use Rattle.cept_codes.specs.declared.glyph.SetId.TheVariants.{P, S, M, N, D}
use Rattle.cept_codes.specs.declared.item.Reason.TheVariants.{UnknownEscape}
use Rattle.cept_codes.specs.declared.item.Said.{Said}
use Rattle.cept_codes.specs.declared.item.Said.TheVariants.{Command as Says, Refused}
use Rattle.cept_parser.specs.Bytes.{is_between}

-- a C1 code in its form of two bytes: 4/0 to 5/15 without 5/11, which is CSI
abbrev pub is_c1_final : ℕ → Bool
is_c1_final f = is_between 0x40 0x5F f && not (f == 0x5B)

-- a whole escape sequence, after 1B
unfoldable pub escape : List ℕ → Said
-- 1B f
escape (f ∷ []) =
    if is_c1_final f then Says (command.C1 (f - 0x40)) else  -- C1 codes
    if f == 0x6E then Says (command.LockLeft 2) else  -- LS2
    if f == 0x6F then Says (command.LockLeft 3) else  -- LS3
    if f == 0x7C then Says (command.LockRight 3) else  -- LS3R
    if f == 0x7D then Says (command.LockRight 2) else  -- LS2R
    if f == 0x7E then Says (command.LockRight 1) else  -- LS1R
    Refused UnknownEscape
-- 1B i f: i 2/2 designates a C1 set, and 2/8 to 2/11 a set to G0 to G3. The finals of sets are own
escape (i ∷ f ∷ []) =
    if i == 0x22 && f == 0x40 then Says (command.DesignateC1 Serial) else  -- serial C1 set
    if i == 0x22 && f == 0x41 then Says (command.DesignateC1 Parallel) else  -- parallel C1 set
    if is_between 0x28 0x2B i && f == 0x40 then Says (command.Designate (i - 0x28) P) else  -- primary set
    if is_between 0x28 0x2B i && f == 0x62 then Says (command.Designate (i - 0x28) S) else  -- supplementary set
    if is_between 0x28 0x2B i && f == 0x63 then Says (command.Designate (i - 0x28) M) else  -- first mosaic set
    if is_between 0x28 0x2B i && f == 0x64 then Says (command.Designate (i - 0x28) N) else  -- second mosaic set
    Refused UnknownEscape
-- 1B i j f (own): an attribute of the full screen (no size) or of the full row, or the downloaded set for G0 to G3
escape (i ∷ j ∷ f ∷ []) =
    if i == 0x23 && j == 0x20 && is_between 0x4C 0x4F f then Refused UnknownEscape else  -- sizes
    if i == 0x23 && j == 0x20 && is_c1_final f then Says (command.FullScreen (f - 0x40)) else  -- full screen
    if i == 0x23 && j == 0x21 && is_c1_final f then Says (command.FullRow (f - 0x40)) else  -- full row
    if is_between 0x28 0x2B i && j == 0x20 && f == 0x40 then Says (command.Designate (i - 0x28) D) else  -- DRCS
    Refused UnknownEscape
escape _ = Refused UnknownEscape
