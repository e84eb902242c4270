use Rattle.std.proofs.Common.{◌∙◌, sym, false, true}
use Rattle.cept_editor.proofs.RawWords.{unread_step, no_digits, raw_step, raw_some, no_length, some_length}
use Rattle.cept_editor.proofs.order.bytes_of.Goals as goal

pub returns-then-not-are_digits : goal.returns-then-not-are_digits
returns-then-not-are_digits c = (sym (unread_step _ (sym c.are_digits.ensures ∙ c.if-not-are_digits.true)), tt)

pub returns-then-is_empty : goal.returns-then-is_empty
returns-then-is_empty c = (sym (no_digits _ (no_length _ (sym c.is_empty.ensures ∙ c.if-is_empty.true))), tt)

pub returns-then-has_refusal : goal.returns-then-has_refusal
returns-then-has_refusal c = (
  sym (raw_step _ true (some_length _ (sym c.is_empty.ensures ∙ c.if-is_empty.false))
      (sym c.are_digits.ensures ∙ c.if-not-are_digits.false)
      (sym c.if-has_refusal.true ∙ c.has_refusal.ensures.refused)),
  tt,
)

pub returns : goal.returns
returns c =
    let some = some_length _ (sym c.is_empty.ensures ∙ c.if-is_empty.false) in
    let read = sym c.are_digits.ensures ∙ c.if-not-are_digits.false in (
      sym (raw_step _ false some read (sym c.if-has_refusal.false ∙ c.has_refusal.ensures.refused)),
      (
        c.place_before.ensures,
        c.has_refusal.ensures.sound,
        raw_some _ some read (sym c.has_refusal.ensures.refused ∙ c.if-has_refusal.false),
      ),
    )
