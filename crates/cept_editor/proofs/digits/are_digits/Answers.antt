use Rattle.std.proofs.Common.{sym, ◌∙◌}
use Rattle.cept_editor.proofs.BytesSaid.{readable_more, unreadable, readable_end}
use Rattle.cept_editor.proofs.digits.are_digits.Goals as goal

pub loop-left-preserved : goal.loop-left-preserved
loop-left-preserved c =
    c.loop-left.invariant
    ∙ readable_more c.loop-left.left.now _ c.in-len2-up.len_at_least (sym c.byte_of.ensures ∙ c.in-Some.is)

pub returns-in_default-byte_of : goal.returns-in_default-byte_of
returns-in_default-byte_of c =
    sym (c.loop-left.invariant
    ∙ unreadable c.loop-left.left.now c.in-len2-up.len_at_least (sym c.byte_of.ensures ∙ c.in_default-byte_of.is))

pub returns : goal.returns
returns c =
    c.is_empty.ensures ∙ sym (c.loop-left.invariant ∙ readable_end c.loop-left.left.now c.in_default.len_below)
