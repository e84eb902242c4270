-- Control sequences: CSI, at most seven bytes 2/0 to 3/15, and a byte 4/0 to 7/15. That CSI is 9/11, or ESC 5/11, is
-- after ISO 2022. Own are the shape of a sequence, the limit of seven bytes, which sequences there are and what each
-- says, and what is refused. The names beside the sequences are those that the field uses.
use Rattle.std.specs.Prelude.{ℕ, ◌-◌, true, false, not, ◌&&◌, List, [], ◌∷◌, if◌then◌else◌, ◌==◌, nat_le}
use Rattle.cept_codes.specs.declared.command.Command.TheVariants as command
use Rattle.cept_codes.specs.declared.item.Reason.TheVariants.{UnknownCsi, BadParameter}
use Rattle.cept_codes.specs.declared.item.Said.{Said}
use Rattle.cept_codes.specs.declared.item.Said.TheVariants.{Command as Says, Refused}
use Rattle.cept_parser.specs.Bytes.{is_between, is_digit, two_digits}

-- CSI a b 3/11 c d f: the scrolling area from row a b to row c d, each of two digits, is created (5/5) or deleted (5/6)
unfoldable pub area : List ℕ → Said
area (a ∷ b ∷ s ∷ c ∷ d ∷ f ∷ []) =
    let n = two_digits a b in
    let m = two_digits c d in
    if not (is_digit a && is_digit b && s == 0x3B && is_digit c && is_digit d) then Refused UnknownCsi else
    if not (is_between 0x55 0x56 f) then Refused UnknownCsi else
    if not (nat_le 1 n && nat_le n m && nat_le m 24) then Refused BadParameter else
    if f == 0x55 then Says (command.AreaCreate n m) else  -- CSA
    Says (command.AreaDelete n m)  -- DSA
area _ = Refused UnknownCsi

-- a whole control sequence, after CSI. A row of one digit is read as with 3/0 before it
unfoldable pub csi : List ℕ → Said
csi (f ∷ []) = if f == 0x42 then Says command.StopConceal else Refused UnknownCsi  -- STC
csi (p ∷ f ∷ []) =
    if is_between 0x30 0x33 p && f == 0x40 then Says (command.Table (p - 0x30)) else  -- CT1 to CT4
    if is_between 0x30 0x36 p && f == 0x41 then Says (command.FlashMode (p - 0x30)) else  -- IVF, RIF, FF1 to 3, ICF, DCF
    if p == 0x31 && f == 0x50 then Says (command.Protect true) else  -- PMS
    if p == 0x31 && f == 0x51 then Says (command.Protect false) else  -- PMC
    if p == 0x32 && f == 0x53 then Says (command.Marked true) else  -- MMS
    if p == 0x32 && f == 0x54 then Says (command.Marked false) else  -- MMT
    if p == 0x30 && f == 0x60 then Says command.ScrollUp else  -- SCU
    if p == 0x31 && f == 0x60 then Says command.ScrollDown else  -- SCD
    if p == 0x32 && f == 0x60 then Says (command.Implicit true) else  -- AIS
    if p == 0x33 && f == 0x60 then Says (command.Implicit false) else  -- DIS
    Refused UnknownCsi
csi (b ∷ s ∷ d ∷ f ∷ []) = area (0x30 ∷ b ∷ s ∷ 0x30 ∷ d ∷ f ∷ [])
csi (a ∷ b ∷ c ∷ d ∷ f ∷ []) =
    if c == 0x3B then area (a ∷ b ∷ c ∷ 0x30 ∷ d ∷ f ∷ []) else area (0x30 ∷ a ∷ b ∷ c ∷ d ∷ f ∷ [])
csi u = area u
