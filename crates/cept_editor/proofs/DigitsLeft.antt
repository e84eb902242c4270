-- What is left of the commands of hexadecimal digits.
use Rattle.std.proofs.Common.{◌≡◌, ℕ, zero, suc, ◌≤◌, Bool, false, cond, List, [], ◌∷◌, ◌++◌, length, drop}
use Rattle.std.proofs.Common.{refl, sym, ap, ◌∙◌, arith}
use Rattle.std.proofs.lemmas.List.{append-nil}
use Rattle.std.proofs.lemmas.List.Concat.{flat_map-append}
use Rattle.cept_codes.specs.declared.command.Command.{Command}
use Rattle.cept_codes.specs.declared.item.Item.{Item}
use Rattle.cept_parser.specs.Items.{closing_items, command_said, commands_of, commands}
use Rattle.cept_parser.specs.State.{ParserState, Leads, reading_with, parser_after, pending_reading}
use Rattle.cept_editor.specs.Order.{raw_bytes, items_from, AreSoundDigits}
use Rattle.cept_editor.proofs.BytesSaid.{start_is}

past_end : (n : ℕ) (xs : List Item) → length xs ≤ n → drop n xs ≡ []
past_end zero [] l = refl
past_end (suc n) [] l = refl
past_end zero (x ∷ xs) l = absurd (omega arith)
past_end (suc n) (x ∷ xs) l = past_end n xs (omega arith)

pub begin_left : (s : ParserState) (is : List Item) (digits : List ℕ) → Leads [] s → is ≡ [] → AreSoundDigits digits
    → commands_of is ++ commands_of (items_from s (raw_bytes digits)) ≡ commands (raw_bytes digits)
begin_left s is digits l e sound =
    ap (λ (js : List Item). commands_of js ++ commands_of (items_from s (raw_bytes digits))) e
    ∙ ap (λ (t : ParserState). commands_of (items_from t (raw_bytes digits))) (start_is s l) ∙ sound.said

-- the parser goes on
abbrev to_come : Bool → ParserState → List ℕ → List Command
to_come ended s bytes = cond ended [] (commands_of (items_from s bytes))

nothing_handed : (ended : Bool) (n : ℕ) (is : List Item) (s : ParserState) (bytes : List ℕ) → ended ≡ false
    → length is ≤ n → commands_of (drop n is) ++ to_come ended s bytes ≡ commands_of (items_from s bytes)
nothing_handed ended n is s bytes e l =
    ap (λ (js : List Item). commands_of js ++ to_come ended s bytes) (past_end n is l)
    ∙ ap (λ (b : Bool). to_come b s bytes) e

pub end_left : (ended : Bool) (n : ℕ) (is js : List Item) (s : ParserState) (bytes : List ℕ) → ended ≡ false
    → length is ≤ n → bytes ≡ [] → js ≡ closing_items (pending_reading s)
    → commands_of js ++ [] ≡ commands_of (drop n is) ++ to_come ended s bytes
unfolding items_from
end_left ended n is js s bytes e l b c =
    append-nil (commands_of js) ∙ ap commands_of c
    ∙ ap (λ (left : List ℕ). commands_of (items_from s left)) (sym b)
    ∙ sym (nothing_handed ended n is s bytes e l)

pub more_left : (ended : Bool) (n : ℕ) (is js : List Item) (s t : ParserState) (bytes : List ℕ) (byte : ℕ)
    (later : List ℕ) → ended ≡ false → length is ≤ n → bytes ≡ byte ∷ later → js ≡ (reading_with s byte).items
    → t ≡ parser_after s byte
    → commands_of js ++ to_come ended t later ≡ commands_of (drop n is) ++ to_come ended s bytes
unfolding items_from
more_left ended n is js s t bytes byte later e l b answer state =
    ap (λ (x : Bool). commands_of js ++ to_come x t later) e
    ∙ ap (λ (ks : List Item). commands_of ks ++ commands_of (items_from t later)) answer
    ∙ ap (λ (u : ParserState). commands_of (reading_with s byte).items ++ commands_of (items_from u later)) state
    ∙ sym (flat_map-append (λ i. command_said i.what) (reading_with s byte).items (items_from (parser_after s byte) later))
    ∙ ap (λ (left : List ℕ). commands_of (items_from s left)) (sym b)
    ∙ sym (nothing_handed ended n is s bytes e l)
