-- What a parser says of bytes, one after the other, is what they say whole.
use Rattle.std.proofs.Common.{◌≡◌, ℕ, ◌+◌, ◌<◌, ◌≤◌, Bool, true, false, ◌||◌, List, [], ◌∷◌, ◌++◌, length, Option, Some, None}
use Rattle.std.proofs.Common.{IsSome, refl, sym, ap, ◌∙◌, subst, arith, ◌-◌, ◌==◌, is_some, slice_index, take, drop}
use Rattle.std.specs.List.{list_any, AllByRecursion}
use Rattle.std.specs.Option.{option_map, option_zip, unwrap_or}
use Rattle.std.proofs.lemmas.List.{append_assoc, append-nil, take_all}
use Rattle.hex.specs.Hex.{hex_digit_value}
use Rattle.cept_codes.specs.Command.{IsValidCommand, IsValidSaid}
use Rattle.cept_codes.specs.declared.item.Item.{Item}
use Rattle.cept_codes.specs.declared.item.Said.{Said}
use Rattle.cept_codes.specs.declared.item.Said.TheVariants.{Command as Says, Refused}
use Rattle.cept_parser.specs.declared.context.Context.{Context}
use Rattle.cept_parser.specs.Context.{start_context}
use Rattle.cept_parser.specs.Items as reads
use Rattle.cept_parser.specs.Items.{is_refusal, items, closed_items, closing_items, command_said, commands_of, commands}
use Rattle.cept_parser.specs.State.{ParserState, Leads, reading_with, parser_after, pending_reading}
use Rattle.cept_parser.specs.Valid.{AreValid}
use Rattle.cept_editor.specs.Meaning.{byte_of, hex_bytes}
use Rattle.cept_editor.specs.Order.{raw_bytes, start_state, items_from}

-- one of the items is refused
abbrev pub any_refused : List Item → Bool
any_refused is = list_any (λ i. is_refusal i.what) is

-- a parser read these of all bytes, and others are left
pub record HasGone (all done left : List ℕ) (s : ParserState) (found : Bool) : Type 0 where
  pub bytes : all ≡ done ++ left
  pub leads : Leads done s
  pub said : items_from start_state all ≡ items done ++ items_from s left
  pub refused : found ≡ any_refused (items done)
  pub valid : AreValid (items done)

-- ---- lists

or_parts : (a b c : Bool) → (a || (b || c)) ≡ ((a || b) || c)
or_parts true b c = refl
or_parts false b c = refl

any_refused-append : (is js : List Item) → any_refused (is ++ js) ≡ (any_refused is || any_refused js)
any_refused-append [] js = refl
any_refused-append (i ∷ is) js =
    ap (λ (b : Bool). is_refusal i.what || b) (any_refused-append is js)
    ∙ or_parts (is_refusal i.what) (any_refused is) (any_refused js)

AreValid-append : (is js : List Item) → AreValid is → AreValid js → AreValid (is ++ js)
AreValid-append [] js p q = q
AreValid-append (i ∷ is) js p q = (p.0, AreValid-append is js p.1 q)

command_valid : (s : Said) (is : List Item) → IsValidSaid s → AllByRecursion IsValidCommand (commands_of is)
    → AllByRecursion IsValidCommand (command_said s ++ commands_of is)
command_valid (Says c) is p q = (p, q)
command_valid (Refused r) is p q = q

commands_valid : (is : List Item) → AreValid is → AllByRecursion IsValidCommand (commands_of is)
commands_valid [] p = tt
commands_valid (i ∷ is) p = command_valid i.what is p.0 (commands_valid is p.1)

-- ---- a parser from its start

pub start_is : (s : ParserState) → Leads [] s → s ≡ start_state
unfolding reads.reading_within
start_is s l =
    ap (λ (n : ℕ). record { place = n; context = s.context; pending = s.pending; finished = s.finished }) l.place
    ∙ ap (λ (x : Context). record { place = 0; context = x; pending = s.pending; finished = s.finished }) l.context
    ∙ ap (λ (p : List ℕ). record { place = 0; context = start_context; pending = p; finished = s.finished }) l.pending
    ∙ ap (λ (f : Bool). record { place = 0; context = start_context; pending = []; finished = f }) l.running

pub gone_none : (all : List ℕ) (s : ParserState) → Leads [] s → HasGone all [] all s false
unfolding reads.reading_within
gone_none all s l =
    record {
      bytes = refl;
      leads = l;
      said = ap (λ (q : ParserState). items_from q all) (sym (start_is s l));
      refused = refl;
      valid = tt;
    }

pub gone_more : (all done left : List ℕ) (byte : ℕ) (s t : ParserState) (refused : Bool) (is : List Item)
    → HasGone all done (byte ∷ left) s refused → (Leads done s → items (done ++ byte ∷ []) ≡ items done ++ is)
    → (Leads done s → Leads (done ++ byte ∷ []) t) → is ≡ (reading_with s byte).items → t ≡ parser_after s byte
    → AreValid is → HasGone all (done ++ byte ∷ []) left t (refused || any_refused is)
unfolding items_from
gone_more all done left byte s t refused is g more leads answer state valid =
    let now : items (done ++ byte ∷ []) ≡ items done ++ is = more g.leads in
    record {
      bytes = g.bytes ∙ sym (append_assoc done (byte ∷ []) left);
      leads = leads g.leads;
      said =
          g.said
          ∙ ap (λ (js : List Item). items done ++ (js ++ items_from (parser_after s byte) left)) (sym answer)
          ∙ ap (λ (q : ParserState). items done ++ (is ++ items_from q left)) (sym state)
          ∙ sym (append_assoc (items done) is (items_from t left))
          ∙ ap (λ (js : List Item). js ++ items_from t left) (sym now);
      refused =
          ap (λ (b : Bool). b || any_refused is) g.refused ∙ sym (any_refused-append (items done) is)
          ∙ ap any_refused (sym now);
      valid = subst AreValid (sym now) (AreValid-append (items done) is g.valid valid);
    }

-- a parser read all bytes
pub record HasSaid (all : List ℕ) (found : Bool) : Type 0 where
  pub refused : found ≡ any_refused (closed_items all)
  pub said : commands_of (items_from start_state all) ≡ commands all
  pub valid : AllByRecursion IsValidCommand (commands all)

pub gone_all : (all done : List ℕ) (s : ParserState) (refused : Bool) (is : List Item)
    → HasGone all done [] s refused → (Leads done s → closed_items done ≡ items done ++ is)
    → is ≡ closing_items (pending_reading s) → AreValid is → HasSaid all (refused || any_refused is)
unfolding items_from
gone_all all done s refused is g closed answer valid =
    let whole : all ≡ done = g.bytes ∙ append-nil done in
    let now : closed_items all ≡ items done ++ is = ap closed_items whole ∙ closed g.leads in
    let same : items_from start_state all ≡ closed_items all =
    g.said ∙ ap (λ (js : List Item). items done ++ js) (sym answer) ∙ sym now in
    record {
      refused =
          ap (λ (b : Bool). b || any_refused is) g.refused ∙ sym (any_refused-append (items done) is)
          ∙ ap any_refused (sym now);
      said = ap commands_of same;
      valid = commands_valid (closed_items all) (subst AreValid (sym now) (AreValid-append (items done) is g.valid valid));
    }

-- the same under other names
pub gone_with : (all done left rest : List ℕ) (s : ParserState) (a b : Bool) → left ≡ rest → a ≡ b
    → HasGone all done left s a → HasGone all done rest s b
gone_with all done left rest s a b e f g =
    subst (λ (x : Bool). HasGone all done rest s x) f (subst (λ (x : List ℕ). HasGone all done x s a) e g)

pub said_with : (all : List ℕ) (a b : Bool) → a ≡ b → HasSaid all a → HasSaid all b
said_with all a b e g = subst (λ (x : Bool). HasSaid all x) e g

-- ---- pairs of digits

-- a byte before others, where all can be read
abbrev pub with_byte : Option ℕ → Option (List ℕ) → Option (List ℕ)
with_byte o bytes = option_map (λ read. read.0 ∷ read.1) (option_zip o bytes)

pub pair_read : (byte : ℕ) (o : Option ℕ) (bytes : Option (List ℕ)) → o ≡ Some byte → IsSome (with_byte o bytes)
    → IsSome bytes × (unwrap_or (with_byte o bytes) [] ≡ byte ∷ unwrap_or bytes [])
pair_read byte None bytes e h = absurd cc
pair_read byte (Some a) None e h = absurd cc
pair_read byte (Some a) (Some bytes) e h = (h, ap (λ (o : Option ℕ). unwrap_or o 0 ∷ bytes) e)

-- the byte of the first two digits
abbrev pub first_byte : List ℕ → Option ℕ
first_byte digits = byte_of (hex_digit_value (slice_index digits 0)) (hex_digit_value (slice_index digits 1))

-- the digits after the first two, as a slice
abbrev pub later_digits : List ℕ → List ℕ
later_digits digits = take (length digits - 2) (drop 2 digits)

pub first_pair : (digits : List ℕ) → 2 ≤ length digits
    → hex_bytes digits ≡ with_byte (first_byte digits) (hex_bytes (later_digits digits))
unfolding hex_bytes
first_pair [] l = absurd (omega arith)
first_pair (a ∷ []) l = absurd (omega arith)
first_pair (a ∷ b ∷ more) l =
    ap (λ (left : List ℕ). with_byte (byte_of (hex_digit_value a) (hex_digit_value b)) (hex_bytes left))
    (sym (take_all (length (a ∷ b ∷ more) - 2) more (omega arith)))

readable_with : (o : Option ℕ) (byte : ℕ) (bytes : Option (List ℕ)) → o ≡ Some byte
    → is_some (with_byte o bytes) ≡ is_some bytes
readable_with None byte bytes e = absurd cc
readable_with (Some a) byte None e = refl
readable_with (Some a) byte (Some bytes) e = refl

pub readable_more : (digits : List ℕ) (byte : ℕ) → 2 ≤ length digits → first_byte digits ≡ Some byte
    → is_some (hex_bytes digits) ≡ is_some (hex_bytes (later_digits digits))
readable_more digits byte l e = ap is_some (first_pair digits l) ∙ readable_with _ byte _ e

pub unreadable : (digits : List ℕ) → 2 ≤ length digits → first_byte digits ≡ None → is_some (hex_bytes digits) ≡ false
unreadable digits l e =
    ap is_some (first_pair digits l) ∙ ap (λ (o : Option ℕ). is_some (with_byte o (hex_bytes (later_digits digits)))) e

pub readable_end : (digits : List ℕ) → length digits < 2 → is_some (hex_bytes digits) ≡ (length digits == 0)
unfolding hex_bytes
readable_end [] l = refl
readable_end (a ∷ []) l = refl
readable_end (a ∷ b ∷ more) l = absurd (omega arith)

pub read_end : (digits : List ℕ) → length digits < 2 → IsSome (hex_bytes digits) → raw_bytes digits ≡ []
unfolding hex_bytes
read_end [] l r = refl
read_end (a ∷ []) l r = absurd cc
read_end (a ∷ b ∷ more) l r = absurd (omega arith)

pub read_more : (digits : List ℕ) (byte : ℕ) → 2 ≤ length digits → first_byte digits ≡ Some byte
    → IsSome (hex_bytes digits)
    → IsSome (hex_bytes (later_digits digits)) × (raw_bytes digits ≡ byte ∷ raw_bytes (later_digits digits))
read_more digits byte l e r =
    let p = pair_read byte (first_byte digits) (hex_bytes (later_digits digits)) e
    (subst (λ (o : Option (List ℕ)). IsSome o) (first_pair digits l) r) in
    (p.0, ap (λ (o : Option (List ℕ)). unwrap_or o []) (first_pair digits l) ∙ p.1)

pub length-later : (digits : List ℕ) → 2 ≤ length digits → length (later_digits digits) + 2 ≡ length digits
length-later [] l = absurd (omega arith)
length-later (a ∷ []) l = absurd (omega arith)
length-later (a ∷ b ∷ more) l =
    ap (λ (left : List ℕ). length left + 2) (take_all (length (a ∷ b ∷ more) - 2) more (omega arith)) ∙ omega arith
