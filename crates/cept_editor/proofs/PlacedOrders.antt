-- Orders whose bytes stand in a script.
use Rattle.std.proofs.Common.{◌≡◌, ℕ, ◌+◌, ◌-◌, true, List, [], ◌∷◌, length, take, drop, Option, Some, None}
use Rattle.std.proofs.Common.{Result, Ok, Err, IfOk, Bor, slice_range, refl, sym, ap, ◌∙◌, subst, arith}
use Rattle.std.specs.List.{list_all}
use Rattle.std.proofs.lemmas.List.{drop-drop, drop-take, drop_all, length-drop}
use Rattle.cept_codes.specs.declared.line_reason.LineReason.{LineReason}
use Rattle.cept_parser.specs.Bytes.{is_between}
use Rattle.cept_parser.specs.Items.{commands}
use Rattle.cept_editor.specs.declared.order.Order.{Order}
use Rattle.cept_editor.specs.declared.order.Order.TheVariants as orders
use Rattle.cept_editor.specs.declared.places.Span.{Span}
use Rattle.cept_words.specs.Cut.{IsCut}
use Rattle.cept_words.specs.Lines.{words}
use Rattle.cept_words.specs.Words.{words_after, bytes_after}
use Rattle.cept_editor.specs.Meaning.{Edit, HasCommand, step_by, step_of_words}
use Rattle.cept_editor.specs.Order.{raw_bytes, text_commands, order_step, AreSoundDigits, IsSoundOrder}
use Rattle.cept_editor.specs.inside.Order.{step_meant}
use Rattle.cept_editor.specs.inside.Order.{IsPlainOrder}
use Rattle.cept_editor.specs.Places.{LiesIn, bytes_at, step_at, IsPlacedOrder}
use Rattle.cept_editor.specs.inside.Places.{EndsAt, placed_step}
use Rattle.cept_editor.specs.Table.{row_of}

-- ---- an order without bytes

plain_is : (o : Order) (bytes : List ℕ) (span : Span) → IsPlainOrder o → IsSoundOrder bytes span o
plain_is (orders.UndoRedo which) bytes span p = tt
plain_is (orders.One brief) bytes span p = p
plain_is (orders.Text s) bytes span p = absurd p
plain_is (orders.Raw s) bytes span p = absurd p

pub plain_sound : (r : Result Order LineReason) (bytes : List ℕ) (span : Span) → IfOk r IsPlainOrder
    → IfOk r (IsSoundOrder bytes span)
plain_sound (Ok o) bytes span p = plain_is o bytes span p
plain_sound (Err reason) bytes span p = tt

-- ---- an order whose bytes stand at its place

-- an order of a script, and what it means with these bytes
abbrev IsPlacedAs : List ℕ → List ℕ → Order → Type 0
IsPlacedAs script bytes o = (step_at script o ≡ order_step bytes o) × IsPlacedOrder script o

placed_as : (script bytes : List ℕ) (span : Span) (o : Order) → LiesIn script span → bytes_at script span ≡ bytes
    → IsSoundOrder bytes span o → IsPlacedAs script bytes o
placed_as script bytes span (orders.UndoRedo which) lies is s =
    (refl, record { lies = record { forward = omega arith; within = omega arith }; sound = tt })
placed_as script bytes span (orders.One brief) lies is s =
    (refl, record { lies = record { forward = omega arith; within = omega arith }; sound = s })
placed_as script bytes span (orders.Text place) lies is s =
    let same : bytes_at script place ≡ bytes = ap (bytes_at script) s.0 ∙ is in (
      ap (λ (x : List ℕ). Edit (text_commands x)) same,
      record {
        lies = subst (LiesIn script) (sym s.0) lies;
        sound = (refl, subst (λ (x : List ℕ). list_all (is_between 0x20 0x7E) x ≡ true) (sym same) s.1);
      },
    )
placed_as script bytes span (orders.Raw place) lies is s =
    let same : bytes_at script place ≡ bytes = ap (bytes_at script) s.0 ∙ is in (
      ap (λ (x : List ℕ). Edit (commands (raw_bytes x))) same,
      record {
        lies = subst (LiesIn script) (sym s.0) lies;
        sound = (
          refl,
          subst AreSoundDigits (sym same) s.1,
          subst (λ (x : List ℕ). HasCommand (Edit (commands (raw_bytes x)))) (sym same) s.2,
        );
      },
    )

pub placed_meant : (script bytes : List ℕ) (span : Span) (r : Result Order LineReason) → LiesIn script span
    → bytes_at script span ≡ bytes → IfOk r (IsSoundOrder bytes span) → placed_step script r ≡ step_meant bytes r
placed_meant script bytes span (Ok o) lies is s = ap Ok (placed_as script bytes span o lies is s).0
placed_meant script bytes span (Err reason) lies is s = refl

pub placed_sound : (script bytes : List ℕ) (span : Span) (r : Result Order LineReason) → LiesIn script span
    → bytes_at script span ≡ bytes → IfOk r (IsSoundOrder bytes span) → IfOk r (IsPlacedOrder script)
placed_sound script bytes span (Ok o) lies is s = (placed_as script bytes span o lies is s).1
placed_sound script bytes span (Err reason) lies is s = tt

-- ---- what stands after the first word of a line

-- the end of bytes that end there
ends_in : (script line : List ℕ) (end k n : ℕ) → EndsAt script end line → length line ≡ k + n
    → slice_range script (end - n) end ≡ drop k line
ends_in script line end k n at e =
    let count : end - (end - n) ≡ n = omega (arith, at.long, e) in
    let all : end - (end - length line) ≡ k + n = omega (arith, at.long, e) in
    let place : (end - length line) + k ≡ end - n = omega (arith, at.long, e) in
    ap (λ (i : ℕ). take i (drop (end - n) script)) count
    ∙ ap (λ (i : ℕ). take n (drop i script)) (sym place)
    ∙ ap (take n) (sym (drop-drop k (end - length line) script))
    ∙ sym (drop-take k n (drop (end - length line) script))
    ∙ ap (λ (i : ℕ). drop k (take i (drop (end - length line) script))) (sym all)
    ∙ ap (drop k) (sym at.is)

pub rest_ends : (script line word : List ℕ) (rest : Option (Bor (List ℕ))) (end start : ℕ) → EndsAt script end line
    → IsCut line word rest → start ≡ end - length (bytes_after rest)
    → let span : Span = record { start = start; end = end } in
    LiesIn script span × (bytes_at script span ≡ bytes_after rest)
rest_ends script line word None end start at cut e = (
  record { forward = omega (arith, e); within = at.within },
  ap (λ (i : ℕ). slice_range script i end) e
      ∙ ends_in script line end (length line) 0 at (omega arith)
      ∙ drop_all (length line) line (omega arith),
)
rest_ends script line word (Some rest) end start at cut e =
    let size : length rest.now ≡ length line - (length word + 1) =
    ap length cut.1 ∙ length-drop (length word + 1) line in (
      record { forward = omega (arith, e); within = at.within },
      ap (λ (i : ℕ). slice_range script i end) e
          ∙ ends_in script line end (length word + 1) (length rest.now) at (omega (arith, size, cut.2))
          ∙ sym cut.1,
    )

pub words_meant : (line word : List ℕ) (rest : Option (Bor (List ℕ)))
    → words line ≡ word ∷ words_after rest → IsCut line word rest
    → step_by (row_of word) (words_after rest) (bytes_after rest) ≡ step_of_words (words line) line
words_meant line word None e cut =
    let none : drop (length word + 1) line ≡ [] =
    drop_all (length word + 1) line (let same : length line ≡ length word = ap length cut in omega (arith, same)) in
    ap (step_by (row_of word) []) (sym none)
    ∙ ap (λ (ws : List (List ℕ)). step_of_words ws line) (sym e)
words_meant line word (Some rest) e cut =
    ap (step_by (row_of word) (words rest.now)) cut.1
    ∙ ap (λ (ws : List (List ℕ)). step_of_words ws line) (sym e)
