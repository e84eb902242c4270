use Rattle.std.proofs.Common.{[], ◌∷◌}
use Rattle.cept_parser.proofs.OptionalPartLemmas.{four_parts}
use Rattle.cept_parser.proofs.units.drcs_options.Goals as goal

pub returns : goal.returns
returns c =
    four_parts (0x20 ∷ 0x28 ∷ []) (0x40 ∷ []) (0x36 ∷ 0x37 ∷ 0x3A ∷ 0x3B ∷ 0x3C ∷ 0x3F ∷ []) (0x41 ∷ 0x42 ∷ 0x44 ∷ [])
    c.args.bytes.now _ _ _ _ c.bytes_after-rest.ensures c.bytes_after-rest-2.ensures c.bytes_after-rest-3.ensures
    c.last_part.ensures
