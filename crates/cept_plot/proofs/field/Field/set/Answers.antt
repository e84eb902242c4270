use Rattle.std.proofs.Common.{◌≡◌, ℕ, ◌+◌, ◌-◌, ◌*◌, ◌%◌, ◌^◌, ◌<◌, ◌==◌, ◌&&◌, List, set, get_or, length}
use Rattle.std.proofs.Common.{sym, ap, ◌∙◌, subst, arith, rules, bit_or, bit_and, w8}
use Rattle.std.proofs.lemmas.Nat.{one_shl, or_lt, pow_below}
use Rattle.std.proofs.lemmas.Nat.Bits.{bit_at_clear_other, bit_at_clear_same, bit_at_set_other, bit_at_set_same}
use Rattle.cept_plot.specs.inside.Lit.{IsSet}
use Rattle.cept_plot.specs.Points.{block_of}
use Rattle.cept_plot.proofs.PointSet.{AreValues-set, IsSet-point}
use Rattle.cept_plot.proofs.field.Field.set.Goals as goal

pub invariant_of-self : goal.invariant_of-self
invariant_of-self c =
    let cell = 40 * c.from.result + c.from-2.result in
    let block = block_of c.args.x c.args.y in
    let old = get_or c.self.inside.values cell 0 in
    let places : length c.self.inside.values ≡ 960 = search rules in
    let below : block < 6 = omega arith in
    AreValues-set c.self.inside.values cell (bit_or old (1 * 2 ^ block % 256)) c.self.invariant
    (omega (arith, places, c.from.ensures, c.from-2.ensures, c.requires.across, c.requires.down))
    (or_lt 6 old (1 * 2 ^ block % 256) (c.self.invariant cell)
    (omega (arith, one_shl block 8 (omega (arith, below)), pow_below block 6 below)))

pub returns-then-lit : goal.returns-then-lit
returns-then-lit c =
    let cell = 40 * c.from.result + c.from-2.result in
    let block = block_of c.args.x c.args.y in
    let old = get_or c.self.inside.values cell 0 in
    let v = bit_or old (1 * 2 ^ block % 256) in
    let places : length c.self.inside.values ≡ 960 = search rules in
    let below : block < 8 = omega arith in
    subst (λ (was : List ℕ). IsSet was (set c.self.inside.values cell v) c.args.lit (λ px py. (px == c.args.x) && (py == c.args.y)))
    c.self.view_is
    (IsSet-point c.self.inside.values c.args.x c.args.y cell v c.args.lit c.requires.across c.requires.down places
    (omega (arith, c.from.ensures, c.from-2.ensures))
    (ap (λ k. k == 1) (bit_at_set_same w8 old block below) ∙ sym c.if-lit.true)
    (λ k up apart. bit_at_set_other w8 old block below k apart))

pub returns-else-lit : goal.returns-else-lit
returns-else-lit c =
    let cell = 40 * c.from.result + c.from-2.result in
    let block = block_of c.args.x c.args.y in
    let old = get_or c.self.inside.values cell 0 in
    let v = bit_and old (255 - 1 * 2 ^ block % 256) in
    let places : length c.self.inside.values ≡ 960 = search rules in
    let below : block < 8 = omega arith in
    subst (λ (was : List ℕ). IsSet was (set c.self.inside.values cell v) c.args.lit (λ px py. (px == c.args.x) && (py == c.args.y)))
    c.self.view_is
    (IsSet-point c.self.inside.values c.args.x c.args.y cell v c.args.lit c.requires.across c.requires.down places
    (omega (arith, c.from.ensures, c.from-2.ensures))
    (ap (λ k. k == 1) (bit_at_clear_same w8 old block below) ∙ sym c.if-lit.false)
    (λ k up apart. bit_at_clear_other w8 old block below k up apart))
