-- What one word of hexadecimal digits means.
use Rattle.std.proofs.Common.{◌≡◌, ℕ, suc, ◌<◌, ◌==◌, Bool, true, false, ◌||◌, List, [], ◌∷◌, ◌++◌, length, Option, Some, None, is_some}
use Rattle.std.proofs.Common.{Result, Ok, Err, cond, refl, sym, ap, ◌∙◌, subst, arith}
use Rattle.std.specs.List.{list_any}
use Rattle.std.specs.Option.{unwrap_or}
use Rattle.std.proofs.lemmas.Bool.{eqb-true}
use Rattle.hex.specs.Hex.{hex_digit_value}
use Rattle.cept_codes.specs.declared.line_reason.LineReason.{LineReason}
use Rattle.cept_codes.specs.declared.line_reason.LineReason.TheVariants as reasons
use Rattle.cept_codes.specs.declared.command.Command.{Command}
use Rattle.cept_codes.specs.declared.item.Item.{Item}
use Rattle.cept_codes.specs.declared.item.Said.{Said}
use Rattle.cept_codes.specs.declared.item.Said.TheVariants.{Command as Says, Refused}
use Rattle.cept_parser.specs.declared.context.Context.{Context}
use Rattle.cept_parser.specs.Context.{start_context}
use Rattle.cept_parser.specs.Items.{Front, front, waiting_reading, reading_by, reading_within, closing_items, closed_items, is_refusal}
use Rattle.cept_parser.specs.Items.{command_said, commands_of, commands}
use Rattle.cept_parser.proofs.LongestBeginningLemmas.{closing_is}
use Rattle.cept_editor.specs.Meaning.{byte_of, hex_bytes, bytes_step, Step, Edit}
use Rattle.cept_editor.specs.Order.{raw_bytes}
use Rattle.cept_editor.proofs.BytesSaid.{any_refused, with_byte}

pub unread_step : (o : Option (List ℕ)) → is_some o ≡ false → bytes_step o ≡ Err reasons.BadHex
unread_step None e = refl
unread_step (Some bytes) e = absurd cc

pub no_digits : (digits : List ℕ) → length digits ≡ 0 → bytes_step (hex_bytes digits) ≡ Err reasons.BadHex
unfolding hex_bytes
no_digits [] e = refl
no_digits (a ∷ more) e = absurd (omega arith)

abbrev HasByte : Option (List ℕ) → Type 0
HasByte o = (a : ℕ) × (more : List ℕ) × (o ≡ Some (a ∷ more))

with_some : (o : Option ℕ) (p : Option (List ℕ)) → is_some (with_byte o p) ≡ true → HasByte (with_byte o p)
with_some None p e = absurd cc
with_some (Some a) None e = absurd cc
with_some (Some a) (Some more) e = (a, more, refl)

has_byte : (digits : List ℕ) → 0 < length digits → is_some (hex_bytes digits) ≡ true → HasByte (hex_bytes digits)
unfolding hex_bytes
has_byte [] l e = absurd (omega arith)
has_byte (a ∷ []) l e = absurd cc
has_byte (a ∷ b ∷ more) l e = with_some (byte_of (hex_digit_value a) (hex_digit_value b)) (hex_bytes more) e

-- the step of bytes of which an item is refused or not
abbrev pub by_refusal : Bool → List ℕ → Result Step LineReason
by_refusal refused bytes = cond refused (Err reasons.BadBytes) (Ok (Edit (commands bytes)))

some_bytes : (o : Option (List ℕ)) (a : ℕ) (more : List ℕ) → o ≡ Some (a ∷ more)
    → bytes_step o ≡ by_refusal (any_refused (closed_items (unwrap_or o []))) (unwrap_or o [])
some_bytes o a more e =
    subst (λ (p : Option (List ℕ)). bytes_step p ≡ by_refusal (any_refused (closed_items (unwrap_or p []))) (unwrap_or p [])) (sym e) refl

pub raw_step : (digits : List ℕ) (refused : Bool) → 0 < length digits → is_some (hex_bytes digits) ≡ true
    → refused ≡ any_refused (closed_items (raw_bytes digits)) → bytes_step (hex_bytes digits) ≡ by_refusal refused (raw_bytes digits)
raw_step digits refused l e r =
    let b = has_byte digits l e in
    some_bytes (hex_bytes digits) b.0 b.1 b.2 ∙ ap (λ (x : Bool). by_refusal x (raw_bytes digits)) (sym r)

pub no_length : (digits : List ℕ) → (length digits == 0) ≡ true → length digits ≡ 0
no_length [] e = refl
no_length (a ∷ more) e = eqb-true (length (a ∷ more)) 0 e

pub some_length : (digits : List ℕ) → (length digits == 0) ≡ false → 0 < length digits
some_length [] e = absurd cc
some_length (a ∷ more) e = omega arith

-- ---- bytes without a refused item say a command

by_front : (n : ℕ) (x : Context) (at a : ℕ) (more : List ℕ) (f : Option Front)
    → let r = reading_by (reading_within n) x at (a ∷ more) f in 0 < length (r.items ++ closing_items r)
unfolding reading_by
by_front n x at a more None =
    subst (λ (is : List Item). 0 < length is) (sym (closing_is (waiting_reading x at (a ∷ more)))) (omega arith)
by_front n x at a more (Some f) = omega arith

some_item : (a : ℕ) (more : List ℕ) → 0 < length (closed_items (a ∷ more))
unfolding reading_within
some_item a more =
    let size : suc (length more) ≡ length (a ∷ more) = omega arith in
    subst (λ n. let r = reading_within n start_context 0 (a ∷ more) in 0 < length (r.items ++ closing_items r)) size
    (by_front (length more) start_context 0 a more (front start_context (a ∷ more)))

said_first : (s : Said) (refused : Bool) (cs : List Command) → (is_refusal s || refused) ≡ false
    → 0 < length (command_said s ++ cs)
said_first (Says c) refused cs none = omega arith
said_first (Refused r) refused cs none = absurd cc

some_said : (is : List Item) → 0 < length is → list_any (λ i. is_refusal i.what) is ≡ false → 0 < length (commands_of is)
some_said [] some none = absurd (omega (arith, some))
some_said (i ∷ is) some none = said_first i.what (list_any (λ j. is_refusal j.what) is) (commands_of is) none

some_command : (o : Option (List ℕ)) (a : ℕ) (more : List ℕ) → o ≡ Some (a ∷ more)
    → any_refused (closed_items (unwrap_or o [])) ≡ false → 0 < length (commands (unwrap_or o []))
some_command o a more is =
    subst (λ (p : Option (List ℕ)). any_refused (closed_items (unwrap_or p [])) ≡ false → 0 < length (commands (unwrap_or p [])))
    (sym is) (some_said (closed_items (a ∷ more)) (some_item a more))

pub raw_some : (digits : List ℕ) → 0 < length digits → is_some (hex_bytes digits) ≡ true
    → any_refused (closed_items (raw_bytes digits)) ≡ false → 0 < length (commands (raw_bytes digits))
raw_some digits some readable none =
    let b = has_byte digits some readable in
    some_command (hex_bytes digits) b.0 b.1 b.2 none
