use Rattle.cept_drcs.proofs.StripWords.{three, three_none, strip_read}
use Rattle.cept_drcs.proofs.strips.Strips.three_words.Goals as goal

pub returns-then-from-self : goal.returns-then-from-self
returns-then-from-self c =
    three c.args.from c.ten.result c.strip-one.result c.ten-then-from-self.result c.strip-two.result
    c.ten-then-from-self-2.result c.args.self.now c.ten.ensures.range c.strip-one.ensures.range
    c.ten-then-from-self.ensures.range c.strip-two.ensures.range c.ten-then-from-self-2.ensures.range
    c.ten.ensures.number
    (strip_read c.strip-one.result _ _ c.self.inside.count c.self.inside.room c.args.self.now c.self.invariant.clear
    c.self.view_is c.from.ensures c.strip-one.ensures.pixels)
    c.ten-then-from-self.ensures.number
    (strip_read c.strip-two.result _ _ c.self.inside.count c.self.inside.room c.args.self.now c.self.invariant.clear
    c.self.view_is c.from-then-from-self.ensures c.strip-two.ensures.pixels)
    c.ten-then-from-self-2.ensures.number

pub returns-else-from-self : goal.returns-else-from-self
returns-else-from-self c =
    three_none c.args.from c.self.inside.count c.self.inside.room c.args.self.now c.self.invariant.clear
    c.self.view_is c.if-from-self.false
