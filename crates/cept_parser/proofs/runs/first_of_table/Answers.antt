use Rattle.std.proofs.Common.{◌≡◌, true, leb, refl, sym, ◌∙◌}
use Rattle.std.proofs.lemmas.Bool.{lt-ltb}
use Rattle.cept_parser.specs.Runs.{table_entry}
use Rattle.cept_parser.proofs.runs.first_of_table.Goals as goal

pub returns-then-has_six_bits : goal.returns-then-has_six_bits
unfolding table_entry
returns-then-has_six_bits c =
    let six : leb 0x40 c.args.byte ≡ true = sym c.has_six_bits.ensures ∙ c.if-has_six_bits.true in
    rw (lt-ltb c.args.place 32 c.if-place-lt32.true, six) refl
