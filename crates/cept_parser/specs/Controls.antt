-- Units of one byte: the C0 set, the C1 set in its form of one byte, and the right half. The C0 set is after ETS 300
-- 072, the shifts after ISO 2022. In this code of eight bits 0/14 and 0/15 are LS1 and LS0; SO and SI are their names
-- in one of seven. Own is which codes are refused.
use Rattle.std.specs.Prelude.{ℕ, ◌-◌, if◌then◌else◌, ◌==◌, nat_le}
use Rattle.cept_codes.specs.declared.command.Command.TheVariants as command
use Rattle.cept_codes.specs.declared.item.Reason.TheVariants.{UnassignedControl}
use Rattle.cept_codes.specs.declared.item.Said.{Said}
use Rattle.cept_codes.specs.declared.item.Said.TheVariants.{Command as Says, Refused}
use Rattle.cept_parser.specs.Bytes.{is_between}

-- a byte that is no plain byte and begins no longer unit
unfoldable pub one_byte : ℕ → Said
one_byte a =
    if a == 0x00 then Says command.Nul else  -- NUL
    if a == 0x08 then Says command.Back else  -- APB
    if a == 0x09 then Says command.Forward else  -- APF
    if a == 0x0A then Says command.Down else  -- APD
    if a == 0x0B then Says command.Up else  -- APU
    if a == 0x0C then Says command.Clear else  -- CS
    if a == 0x0D then Says command.Return else  -- APR
    if a == 0x0E then Says (command.LockLeft 1) else  -- LS1
    if a == 0x0F then Says (command.LockLeft 0) else  -- LS0
    if a == 0x11 then Says command.CursorOn else  -- CON
    if a == 0x14 then Says command.CursorOff else  -- COF
    if a == 0x18 then Says command.Cancel else  -- CAN
    if a == 0x19 then Says (command.Single 2) else  -- SS2
    if a == 0x1D then Says (command.Single 3) else  -- SS3
    if a == 0x1E then Says command.Home else  -- APH
    if nat_le a 0x1F then Refused UnassignedControl else
    if is_between 0x80 0x9F a then Says (command.C1 (a - 0x80)) else
    Says (command.Graphic a)
