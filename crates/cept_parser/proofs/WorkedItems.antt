-- Worked cases: items one after the other, with their places and lengths, by computing.
use Rattle.std.proofs.Common.{◌≡◌, true, false, ℕ, List, [], ◌∷◌, ◌++◌, length, map, replicate, Some, refl}
use Rattle.std.specs.List.{flat_map}
use Rattle.cept_codes.specs.declared.command.C1Set.TheVariants.{Parallel}
use Rattle.cept_codes.specs.declared.command.Command.{Command}
use Rattle.cept_codes.specs.declared.command.Command.TheVariants as command
use Rattle.cept_codes.specs.declared.item.Item.{Item}
use Rattle.cept_codes.specs.declared.item.Reason.{Reason}
use Rattle.cept_codes.specs.declared.item.Reason.TheVariants as reason
use Rattle.cept_codes.specs.declared.item.Said.TheVariants.{Command as Says, Refused}
use Rattle.cept_parser.specs.declared.context.Mode.TheVariants.{Skip, TableRun}
use Rattle.cept_parser.specs.Context.{start_context, with_mode}
use Rattle.cept_parser.specs.Items.{closed_items, commands, front, items, reading}
use Rattle.cept_parser.proofs.WhatReads.{reading_computes}

-- an item at a place, of so many bytes
abbrev says : ℕ → ℕ → Command → Item
says at len command = record { at = at; len = len; what = Says command }

abbrev is_refused : ℕ → ℕ → Reason → Item
is_refused at len reason = record { at = at; len = len; what = Refused reason }

-- ---- bytes that aren't whole

-- the beginnings of units and of sequences that are none yet
abbrev beginnings : List (List ℕ)
beginnings =
    (0x12 ∷ [])
    ∷ (0x1B ∷ [])
    ∷ (0x1B ∷ 0x22 ∷ [])
    ∷ (0x1B ∷ 0x28 ∷ [])
    ∷ (0x1B ∷ 0x28 ∷ 0x20 ∷ [])
    ∷ (0x1B ∷ 0x23 ∷ 0x20 ∷ [])
    ∷ (0x1B ∷ 0x2F ∷ 0x2F ∷ 0x2F ∷ [])
    ∷ (0x1B ∷ 0x5B ∷ [])
    ∷ (0x1B ∷ 0x5B ∷ 0x31 ∷ 0x3B ∷ [])
    ∷ (0x1B ∷ 0x5B ∷ replicate 7 0x30)
    ∷ (0x9B ∷ [])
    ∷ (0x9B ∷ 0x31 ∷ [])
    ∷ (0x9B ∷ replicate 7 0x30)
    ∷ (0x1F ∷ [])
    ∷ (0x1F ∷ 0x41 ∷ [])
    ∷ (0x1F ∷ 0x59 ∷ [])
    ∷ (0x1F ∷ 0x23 ∷ [])
    ∷ (0x1F ∷ 0x26 ∷ [])
    ∷ (0x1F ∷ 0x26 ∷ 0x33 ∷ [])
    ∷ (0x1F ∷ 0x2F ∷ [])
    ∷ (0x1F ∷ 0x2F ∷ 0x40 ∷ [])
    ∷ []

-- they wait
beginnings_wait : map (λ u. items u) beginnings ≡ replicate (length beginnings) []
unfolding reading_computes
beginnings_wait = refl

beginnings_are_pending : map (λ u. (reading u).pending) beginnings ≡ beginnings
unfolding reading_computes
beginnings_are_pending = refl

-- a breaker interrupts them, and is read afresh
breakers_interrupt :
    flat_map (λ breaker. map (λ u. closed_items (u ++ breaker ∷ [])) beginnings) (0x00 ∷ 0x84 ∷ 0xFF ∷ [])
    ≡ map (λ u. is_refused 0 (length u) reason.Interrupted ∷ says (length u) 1 command.Nul ∷ []) beginnings
    ++ map (λ u. is_refused 0 (length u) reason.Interrupted ∷ says (length u) 1 (command.C1 4) ∷ []) beginnings
    ++ map (λ u. is_refused 0 (length u) reason.Interrupted ∷ says (length u) 1 (command.Graphic 0xFF) ∷ []) beginnings
unfolding reading_computes
breakers_interrupt = refl

-- the mode is Text then, whatever it was
interruption_leaves_text :
    map (λ u. front (with_mode start_context Skip) (u ++ 0x00 ∷ [])) beginnings
    ++ front (with_mode start_context (TableRun 1)) (0x52 ∷ 0x00 ∷ []) ∷ []
    ≡ map (λ u. Some (record { said = Refused reason.Interrupted; size = length u; next = start_context }))
    (beginnings ++ (0x52 ∷ []) ∷ [])
unfolding reading_computes
interruption_leaves_text = refl

-- and the end of the input truncates them
the_end_truncates : map (λ u. closed_items u) beginnings
    ≡ map (λ u. is_refused 0 (length u) reason.Truncated ∷ []) beginnings
unfolding reading_computes
the_end_truncates = refl

-- the entry of a run is interrupted, and truncated
entry_interrupted : closed_items (0x1F ∷ 0x26 ∷ 0x30 ∷ 0x31 ∷ 0x52 ∷ 0x0D ∷ 0x52 ∷ [])
    ≡ says 0 4 (command.ColourStart 1) ∷ is_refused 4 1 reason.Interrupted ∷ says 5 1 command.Return
    ∷ says 6 1 (command.Graphic 0x52) ∷ []
unfolding reading_computes
entry_interrupted = refl

entry_truncated : closed_items (0x1F ∷ 0x26 ∷ 0x30 ∷ 0x31 ∷ 0x52 ∷ [])
    ≡ says 0 4 (command.ColourStart 1) ∷ is_refused 4 1 reason.Truncated ∷ []
unfolding reading_computes
entry_truncated = refl

-- a breaker that begins a longer unit interrupts too
unit_interrupts : closed_items (0x1F ∷ 0x1F ∷ 0x41 ∷ 0x42 ∷ 0x1B ∷ 0x9B ∷ 0x42 ∷ [])
    ≡ is_refused 0 1 reason.Interrupted ∷ says 1 3 (command.Position 1 2) ∷ is_refused 4 1 reason.Interrupted
    ∷ says 5 2 command.StopConceal ∷ []
unfolding reading_computes
unit_interrupts = refl

-- ---- units that a further byte may make longer

-- what may become longer waits, and is whole at the end
growing_format : items (0x1F ∷ 0x2D ∷ 0x42 ∷ []) ≡ []
unfolding reading_computes
growing_format = refl

whole_format : items (0x1F ∷ 0x2D ∷ 0x42 ∷ 0x70 ∷ []) ≡ says 0 4 (command.Format 20 true) ∷ []
unfolding reading_computes
whole_format = refl

format_at_the_end : closed_items (0x1F ∷ 0x2D ∷ 0x42 ∷ []) ≡ says 0 3 (command.Format 20 true) ∷ []
unfolding reading_computes
format_at_the_end = refl

-- the longest is taken: 41 is an option and no letter. After 70 it is a letter
longest_format : closed_items (0x1F ∷ 0x2D ∷ 0x41 ∷ 0x41 ∷ [])
    ≡ says 0 3 (command.Format 24 true) ∷ says 3 1 (command.Graphic 0x41) ∷ []
unfolding reading_computes
longest_format = refl

parts_in_order : closed_items (0x1F ∷ 0x2D ∷ 0x70 ∷ 0x41 ∷ [])
    ≡ says 0 3 (command.Format 24 true) ∷ says 3 1 (command.Graphic 0x41) ∷ []
unfolding reading_computes
parts_in_order = refl

-- a part that comes too late is passed over
late_part : closed_items (0x1F ∷ 0x23 ∷ 0x20 ∷ 0x40 ∷ 0x28 ∷ [])
    ≡ says 0 4 (command.DrcsHeader false (record { w = 12; h = 10; planes = 1 })) ∷ says 4 1 command.Skipped ∷ []
unfolding reading_computes
late_part = refl

-- a breaker ends them whole, and interrupts nothing
breaker_ends_a_format : closed_items (0x1F ∷ 0x2D ∷ 0x00 ∷ [])
    ≡ says 0 2 (command.Format 24 true) ∷ says 2 1 command.Nul ∷ []
unfolding reading_computes
breaker_ends_a_format = refl

breaker_ends_a_pattern :
    closed_items (0x1F ∷ 0x23 ∷ 0x20 ∷ 0x3C ∷ 0x1F ∷ 0x23 ∷ 0x21 ∷ 0x30 ∷ 0x60 ∷ 0x0D ∷ 0x22 ∷ [])
    ≡ says 0 4 (command.DrcsHeader false (record { w = 6; h = 5; planes = 1 })) ∷ says 4 3 (command.DrcsStart 0x21)
    ∷ says 7 2 (command.DrcsPattern 0x21 (record { w = 6; h = 5; planes = 1; bits = 1 ∷ replicate 8 0 }))
    ∷ says 9 1 command.Return ∷ says 10 1 (command.Graphic 0x22) ∷ []
unfolding reading_computes
breaker_ends_a_pattern = refl

-- ---- runs go on

-- entries until a byte is refused, from which on bytes are passed over, up to a breaker
table_run : closed_items (0x1F ∷ 0x26 ∷ 0x33 ∷ 0x31 ∷ 0x7F ∷ 0x7F ∷ 0x7F ∷ 0x41 ∷ 0x0F ∷ 0x41 ∷ [])
    ≡ says 0 4 (command.ColourStart 31) ∷ says 4 2 (command.Entry 31 (record { r = 15; g = 15; b = 15 }))
    ∷ is_refused 6 1 reason.BadParameter ∷ says 7 1 command.Skipped ∷ says 8 1 (command.LockLeft 0)
    ∷ says 9 1 (command.Graphic 0x41) ∷ []
unfolding reading_computes
table_run = refl

-- NUL ends a run: what follows are letters
nul_ends_a_run : closed_items (0x1F ∷ 0x26 ∷ 0x30 ∷ 0x31 ∷ 0x52 ∷ 0x52 ∷ 0x00 ∷ 0x52 ∷ 0x52 ∷ [])
    ≡ says 0 4 (command.ColourStart 1) ∷ says 4 2 (command.Entry 1 (record { r = 0; g = 15; b = 0 }))
    ∷ says 6 1 command.Nul ∷ says 7 1 (command.Graphic 0x52) ∷ says 8 1 (command.Graphic 0x52) ∷ []
unfolding reading_computes
nul_ends_a_run = refl

-- the header says of what kind colours are, until full defaults
kind_of_colours :
    closed_items (0x1F ∷ 0x26 ∷ 0x20 ∷ 0x22 ∷ 0x1F ∷ 0x26 ∷ 0x30 ∷ 0x33 ∷ 0x45 ∷ 0x45 ∷ 0x1F ∷ 0x26 ∷ 0x30 ∷ 0x34
    ∷ 0x1F ∷ 0x2F ∷ 0x42 ∷ 0x1F ∷ 0x26 ∷ 0x30 ∷ 0x34 ∷ 0x52 ∷ 0x64 ∷ [])
    ≡ says 0 4 (command.ColourHeader true) ∷ says 4 4 (command.ColourStart 3) ∷ says 8 1 (command.Dclut 3 5)
    ∷ is_refused 9 1 reason.BadParameter ∷ is_refused 10 4 reason.BadParameter
    ∷ says 14 3 (command.FullDefaults Parallel) ∷ says 17 4 (command.ColourStart 4)
    ∷ says 21 2 (command.Entry 4 (record { r = 3; g = 12; b = 0 })) ∷ []
unfolding reading_computes
kind_of_colours = refl

-- patterns for one code after the other, up to 7/14
last_codes :
    closed_items (0x1F ∷ 0x23 ∷ 0x20 ∷ 0x3C ∷ 0x1F ∷ 0x23 ∷ 0x7D ∷ 0x30 ∷ 0x2D ∷ 0x30 ∷ 0x2F ∷ 0x30 ∷ 0x30 ∷ [])
    ≡ says 0 4 (command.DrcsHeader false (record { w = 6; h = 5; planes = 1 })) ∷ says 4 3 (command.DrcsStart 0x7D)
    ∷ says 7 2 (command.DrcsPattern 0x7D (record { w = 6; h = 5; planes = 1; bits = 0x3F ∷ replicate 8 0 }))
    ∷ says 9 2 (command.DrcsPattern 0x7E (record { w = 6; h = 5; planes = 1; bits = 0x3FFFFFFF ∷ replicate 8 0 }))
    ∷ is_refused 11 1 reason.BadParameter ∷ says 12 1 command.Skipped ∷ []
unfolding reading_computes
last_codes = refl

-- an absent size is 12x10, and not the last one
absent_size : commands (0x1F ∷ 0x23 ∷ 0x20 ∷ 0x3F ∷ 0x44 ∷ 0x1F ∷ 0x23 ∷ 0x20 ∷ 0x1F ∷ 0x23 ∷ 0x21 ∷ 0x30 ∷ 0x2F ∷ [])
    ≡ command.DrcsHeader false (record { w = 6; h = 6; planes = 4 })
    ∷ command.DrcsHeader false (record { w = 12; h = 10; planes = 1 }) ∷ command.DrcsStart 0x21
    ∷ command.DrcsPattern 0x21 (record {
      w = 12;
      h = 10;
      planes = 1;
      bits = 0xFFFFFFFFFFFFFFFF ∷ 0x00FFFFFFFFFFFFFF ∷ replicate 7 0;
    }) ∷ []
unfolding reading_computes
absent_size = refl

-- ---- refused shapes are answered at once, and reading goes on after them

escape_of_four : items (0x1B ∷ 0x20 ∷ 0x20 ∷ 0x20 ∷ 0x20 ∷ 0x41 ∷ [])
    ≡ is_refused 0 5 reason.UnknownEscape ∷ says 5 1 (command.Graphic 0x41) ∷ []
unfolding reading_computes
escape_of_four = refl

sequence_of_eight : items (0x9B ∷ 0x30 ∷ 0x30 ∷ 0x30 ∷ 0x30 ∷ 0x30 ∷ 0x30 ∷ 0x30 ∷ 0x30 ∷ 0x41 ∷ [])
    ≡ is_refused 0 9 reason.UnknownCsi ∷ says 9 1 (command.Graphic 0x41) ∷ []
unfolding reading_computes
sequence_of_eight = refl

long_sequence_of_eight : items (0x1B ∷ 0x5B ∷ replicate 8 0x30) ≡ is_refused 0 10 reason.UnknownCsi ∷ []
unfolding reading_computes
long_sequence_of_eight = refl

unknown_unit : items (0x1F ∷ 0x30 ∷ 0x41 ∷ 0x41 ∷ 0x0D ∷ 0x41 ∷ [])
    ≡ is_refused 0 2 reason.UnknownUnit ∷ says 2 1 command.Skipped ∷ says 3 1 command.Skipped ∷ says 4 1 command.Return
    ∷ says 5 1 (command.Graphic 0x41) ∷ []
unfolding reading_computes
unknown_unit = refl

no_position : items (0x1F ∷ 0x59 ∷ 0x41 ∷ 0x41 ∷ [])
    ≡ is_refused 0 3 reason.BadParameter ∷ says 3 1 (command.Graphic 0x41) ∷ []
unfolding reading_computes
no_position = refl

no_service : items (0x1F ∷ 0x2F ∷ 0x47 ∷ 0x41 ∷ []) ≡ is_refused 0 3 reason.BadParameter ∷ says 3 1 command.Skipped ∷ []
unfolding reading_computes
no_service = refl

-- a refusal is no command, and the commands are in order
commands_in_order : commands (0x41 ∷ 0x01 ∷ 0xC8 ∷ 0x12 ∷ 0x30 ∷ 0x0B ∷ 0x1F ∷ [])
    ≡ command.Graphic 0x41 ∷ command.Graphic 0xC8 ∷ command.Up ∷ []
unfolding reading_computes
commands_in_order = refl

no_bytes : closed_items [] ≡ []
unfolding reading_computes
no_bytes = refl
