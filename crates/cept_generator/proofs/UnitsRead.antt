-- The bytes of each unit read as its commands from the first context to the first context, and so do those of all units
-- and of the page.
use Rattle.std.proofs.Common.{◌≡◌, ℕ, zero, suc, ◌+◌, ◌/◌, ◌%◌, ◌<◌, Bool, true, false, cond, List, [], ◌∷◌}
use Rattle.std.proofs.Common.{map, Some, refl, arith}
use Rattle.std.proofs.lemmas.Bool.Decides.{nat_tests}
use Rattle.std.specs.List.{AllByRecursion}
use Rattle.cept_codes.specs.declared.command.C1Set.TheVariants.{Parallel}
use Rattle.cept_codes.specs.declared.command.Command.{Command}
use Rattle.cept_codes.specs.declared.command.Command.TheVariants as command
use Rattle.cept_codes.specs.declared.item.Said.TheVariants.{Command as Says}
use Rattle.cept_parser.specs.declared.context.Context.{Context}
use Rattle.cept_parser.specs.declared.context.Mode.TheVariants.{TableRun}
use Rattle.cept_parser.specs.Context.{start_context, with_mode}
use Rattle.cept_parser.specs.Controls.{one_byte}
use Rattle.cept_parser.specs.Grammar.{unit, grows, repetition}
use Rattle.cept_parser.specs.Items.{closed_items, commands, is_refusal}
use Rattle.cept_parser.specs.ReadsAs.{Reads, all_said}
use Rattle.cept_parser.specs.Runs.{colour, table_entry}
use Rattle.cept_parser.specs.Units.{us_unit, us_grows, us_position, colour_unit, colour_start, service_unit}
use Rattle.cept_parser.proofs.EndedUnitLemmas.{said_whole}
use Rattle.cept_parser.proofs.ReadsLemmas.{reads_nothing, reads_joined, said_start, no_refusals, commands_are}
use Rattle.cept_generator.specs.Generated.{draw, colour_bytes, colour_commands, unit_bytes, unit_commands}
use Rattle.cept_generator.specs.Generated.{state_after_unit, bytes_of_units, commands_of_units, head_bytes, generated}
use Rattle.cept_generator.specs.Generated.{generated_commands}

-- bytes that are a whole unit, after which no byte fits, read as its command
one_reads : (x y : Context) (u : List ℕ) (c : Command) → unit x u ≡ Some (record { said = Says c; next = y })
    → grows x u ≡ false → Reads x u (c ∷ []) y
one_reads x y u c e g = record { reads = λ at s. said_whole x at u s (record { said = Says c; next = y }) e g }

-- from the first context to itself
abbrev Read : List ℕ → List Command → Type 0
Read bytes commands = Reads start_context bytes commands start_context

-- ---- the kinds of unit

position_reads : (a b : ℕ) → a < 24 → b < 40
    → Read (0x1F ∷ (0x41 + a) ∷ (0x41 + b) ∷ []) (command.Position (1 + a) (1 + b) ∷ [])
unfolding unit us_unit us_position grows us_grows
position_reads a b l m = one_reads start_context start_context _ _ (grind (arith, nat_tests)) (grind (arith, nat_tests))

letter_reads : (a : ℕ) → a < 26 → Read ((0x41 + a) ∷ []) (command.Graphic (0x41 + a) ∷ [])
unfolding unit grows
letter_reads a l = one_reads start_context start_context _ _ (grind (arith, nat_tests)) (grind (arith, nat_tests))

letters_read : (a b c d : ℕ) → a < 26 → b < 26 → c < 26 → d < 26
    → Read ((0x41 + a) ∷ (0x41 + b) ∷ (0x41 + c) ∷ (0x41 + d) ∷ [])
    (command.Graphic (0x41 + a) ∷ command.Graphic (0x41 + b) ∷ command.Graphic (0x41 + c) ∷ command.Graphic (0x41 + d)
    ∷ [])
letters_read a b c d k l m n =
    before a _ _ k (before b _ _ l (before c _ _ m (letter_reads d n)))
  where
    before : (e : ℕ) (u : List ℕ) (cs : List Command) → e < 26 → Read u cs
        → Read ((0x41 + e) ∷ u) (command.Graphic (0x41 + e) ∷ cs)
    before e u cs l p =
        reads_joined start_context start_context start_context ((0x41 + e) ∷ []) u (command.Graphic (0x41 + e) ∷ []) cs
        (letter_reads e l) p

code_reads : (a n : ℕ) → a ≡ 0x80 + n → n < 27 → Read (a ∷ []) (command.C1 n ∷ [])
unfolding unit one_byte grows
code_reads a n e l = one_reads start_context start_context _ _ (grind (arith, nat_tests)) (grind (arith, nat_tests))

repetition_reads : (a : ℕ) → a < 64 → Read (0x12 ∷ (0x40 + a) ∷ []) (command.Repeat a ∷ [])
unfolding unit repetition grows
repetition_reads a l = one_reads start_context start_context _ _ (grind (arith, nat_tests)) (grind (arith, nat_tests))

-- the context in which the colour of entry e comes
abbrev in_run : ℕ → Context
in_run e = with_mode start_context (TableRun e)

start_reads : (e : ℕ) → e < 32
    → Reads start_context (0x1F ∷ 0x26 ∷ (0x30 + e / 10) ∷ (0x30 + e % 10) ∷ []) (command.ColourStart e ∷ []) (in_run e)
unfolding unit us_unit colour_unit colour_start grows us_grows
start_reads e l = one_reads start_context (in_run e) _ _ (grind (arith, nat_tests)) (grind (arith, nat_tests))

value_reads : (e a b : ℕ) → e < 32 → a < 64 → b < 64
    → Reads (in_run e) ((0x40 + a) ∷ (0x40 + b) ∷ []) (command.Entry e (colour (0x40 + a) (0x40 + b)) ∷ [])
    (in_run (e + 1))
unfolding unit table_entry grows
value_reads e a b k l m = one_reads (in_run e) (in_run (e + 1)) _ _ (grind (arith, nat_tests)) (grind (arith, nat_tests))

lock_reads : (e : ℕ) → Reads (in_run e) (0x0F ∷ []) (command.LockLeft 0 ∷ []) start_context
unfolding unit one_byte grows
lock_reads e = one_reads (in_run e) start_context _ _ refl refl

colour_reads : (e a b : ℕ) → e < 32 → a < 64 → b < 64 → Read (colour_bytes e a b) (colour_commands e a b)
colour_reads e a b k l m =
    reads_joined start_context (in_run e) start_context _ _ _ _ (start_reads e k)
    (reads_joined (in_run e) (in_run (e + 1)) start_context _ _ _ _ (value_reads e a b k l m) (lock_reads (e + 1)))

cancel_reads : Read (0x18 ∷ []) (command.Cancel ∷ [])
unfolding unit one_byte grows
cancel_reads = one_reads start_context start_context _ _ refl refl

head_reads : Read head_bytes (command.FullDefaults Parallel ∷ [])
unfolding unit us_unit service_unit grows us_grows
head_reads = one_reads start_context start_context _ _ refl refl

-- ---- the page

each_choice : (b : Bool) {u v : List ℕ} {cs ds : List Command} → Read u cs → Read v ds
    → Read (cond b u v) (cond b cs ds)
each_choice true p q = p
each_choice false p q = q

unit_reads : (s : ℕ) → Read (unit_bytes s) (unit_commands s)
unfolding unit_bytes unit_commands
unit_reads s =
    each_choice _ (position_reads (draw s 2 24) (draw s 3 40) (omega arith) (omega arith))
    (each_choice _
    (letters_read (draw s 2 26) (draw s 3 26) (draw s 4 26) (draw s 5 26) (omega arith) (omega arith) (omega arith)
    (omega arith))
    (each_choice _ (code_reads _ (draw s 2 8) refl (omega arith))
    (each_choice _ (code_reads _ (0x10 + draw s 2 8) (omega arith) (omega arith))
    (each_choice _ (code_reads _ (0x0C + draw s 2 4) (omega arith) (omega arith))
    (each_choice _ (repetition_reads (draw s 2 64) (omega arith))
    (each_choice _
    (colour_reads (16 + draw s 2 8) (draw s 3 64) (draw s 4 64) (omega arith) (omega arith) (omega arith))
    cancel_reads))))))

units_read : (n s : ℕ) → Read (bytes_of_units n s) (commands_of_units n s)
unfolding bytes_of_units commands_of_units
units_read zero s = reads_nothing start_context
units_read (suc n) s =
    reads_joined start_context start_context start_context (unit_bytes s) (bytes_of_units n (state_after_unit s))
    (unit_commands s) (commands_of_units n (state_after_unit s)) (unit_reads s) (units_read n (state_after_unit s))

pub page_reads : (number : ℕ) → Reads start_context (generated number) (generated_commands number) start_context
unfolding generated generated_commands
page_reads number =
    reads_joined start_context start_context start_context head_bytes (bytes_of_units 20000 number)
    (command.FullDefaults Parallel ∷ []) (commands_of_units 20000 number) head_reads (units_read 20000 number)

pub page_unrefused : (number : ℕ)
    → AllByRecursion (λ i. is_refusal i.what ≡ false) (closed_items (generated number))
page_unrefused number = no_refusals (generated number) (generated_commands number) start_context (page_reads number)

pub page_said : (number : ℕ)
    → map (λ i. i.what) (closed_items (generated number)) ≡ all_said (generated_commands number)
page_said number = said_start (generated number) (generated_commands number) start_context (page_reads number)

pub page_commands : (number : ℕ) → commands (generated number) ≡ generated_commands number
page_commands number = commands_are (generated number) (generated_commands number) start_context (page_reads number)
