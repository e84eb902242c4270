-- The commands of orders are valid.
use Rattle.std.proofs.Common.{◌≡◌, ℕ, true, List, [], ◌∷◌, ◌++◌, map, Result, Ok, Option, Some}
use Rattle.std.proofs.Common.{sym, ap, subst, arith, inl, nat_le}
use Rattle.std.specs.List.{AllByRecursion, list_all}
use Rattle.std.proofs.lemmas.Bool.{and_parts, leb-true}
use Rattle.std.proofs.lemmas.List.{append-nil}
use Rattle.cept_codes.specs.Command.{IsValidCommand}
use Rattle.cept_codes.specs.declared.command.Command.TheVariants.{Graphic}
use Rattle.cept_codes.specs.declared.line_reason.LineReason.{LineReason}
use Rattle.cept_parser.specs.Bytes.{is_between}
use Rattle.cept_editor.specs.declared.order.Order.{Order}
use Rattle.cept_editor.specs.declared.order.Order.TheVariants as orders
use Rattle.cept_editor.specs.declared.places.OrderLine.{OrderLine}
use Rattle.cept_editor.specs.declared.places.Span.{Span}
use Rattle.cept_editor.specs.Meaning.{Step, IsValidStep}
use Rattle.cept_editor.specs.Order.{order_step, IsSoundOrder}
use Rattle.cept_editor.specs.Places.{step_at, IsPlacedOrder}
use Rattle.cept_editor.specs.inside.Places.{HasKept}

pub signs_valid : (text : List ℕ) → list_all (is_between 0x20 0x7E) text ≡ true → AllByRecursion IsValidCommand (map Graphic text)
signs_valid [] e = tt
signs_valid (a ∷ text) e =
    let parts = and_parts (is_between 0x20 0x7E a) (list_all (is_between 0x20 0x7E) text) e in
    let ends = and_parts (nat_le 0x20 a) (nat_le a 0x7E) parts.0 in
    let low = leb-true 0x20 a ends.0 in
    let high = leb-true a 0x7E ends.1 in
    (inl (low, omega (arith, high)), signs_valid text parts.1)

pub order_valid : (bytes : List ℕ) (span : Span) (o : Order) → IsSoundOrder bytes span o → IsValidStep (order_step bytes o)
order_valid bytes span (orders.UndoRedo which) s = tt
order_valid bytes span (orders.One brief) s = (s, tt)
order_valid bytes span (orders.Text place) s = (omega arith, signs_valid bytes s.1)
order_valid bytes span (orders.Raw place) s = s.1.valid

pub kept_some : (script : List ℕ) (m : Result (Option Step) LineReason) (o : Order) (l : OrderLine)
    (ps qs : List OrderLine) → Ok (Some (step_at script o)) ≡ m → IsPlacedOrder script o → l.order ≡ o
    → qs ≡ ps ++ l ∷ [] → HasKept script l.line m ps qs
kept_some script m o l ps qs e placed is k =
    subst (λ (x : Result (Option Step) LineReason). HasKept script l.line x ps qs) e (
      l,
      k,
      ap (λ (q : Order). record { line = l.line; step = step_at script q }) is,
      subst (IsPlacedOrder script) (sym is) placed,
    )

-- the commands of a text, with nothing after them
pub text_valid : (text : List ℕ) → list_all (is_between 0x20 0x7E) text ≡ true → AllByRecursion IsValidCommand (map Graphic text ++ [])
text_valid text e =
    subst (AllByRecursion IsValidCommand) (sym (append-nil (map Graphic text))) (signs_valid text e)
