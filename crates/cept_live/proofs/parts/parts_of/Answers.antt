use Rattle.std.proofs.Common.{◌≡◌, ◌∷◌, ◌++◌, ℕ, List, map, refl, sym, ◌∙◌, ap, append_assoc}
use Rattle.std.proofs.lemmas.List.{length-map}
use Rattle.cept_profile.specs.State.{core_of}
use Rattle.cept_writer.specs.CompactCommands.{page_text}
use Rattle.cept_live.specs.Live.{LiveState}
use Rattle.cept_live.specs.Parts.{phase_by}
use Rattle.cept_live.specs.Snapshots.{context_bytes, number_bytes, part, snapshot_head, snapshot_mark}
use Rattle.cept_control.specs.Bytes.{control_bytes}
use Rattle.cept_control.specs.Numbers.{bit, number_or}
use Rattle.cept_live.proofs.parts.parts_of.Goals as goal

-- what follows the parts of a snapshot, from the last one back
abbrev after_phase : LiveState → List ℕ
after_phase live = map bit live.renewed ++ page_text (core_of live.screen)

abbrev after_control : LiveState → List ℕ
after_control live = number_or 255 live.phase ∷ after_phase live

abbrev after_pending : LiveState → List ℕ
after_pending live = part (control_bytes live.screen.control) ++ after_control live

abbrev after_context : LiveState → List ℕ
after_context live = part live.parser.pending ++ after_pending live

in_turn : (a b c d e f g : List ℕ) → a ++ (b ++ (c ++ (d ++ (e ++ (f ++ g))))) ≡ a ++ b ++ c ++ d ++ e ++ f ++ g
in_turn a b c d e f g = simp append_assoc

pub returns-clause-snapshot : goal.returns-clause-snapshot
unfolding snapshot_head
returns-clause-snapshot c = λ live is places.
    let place = number_bytes live.parser.place in
    let context = context_bytes live.parser.context in
    let whole = in_turn snapshot_mark place context (part live.parser.pending) (part (control_bytes live.screen.control))
    (number_or 255 live.phase ∷ map bit live.renewed) (page_text (core_of live.screen)) ∙ is in
    let one = c.cut.ensures snapshot_mark (place ++ (context ++ after_context live)) whole refl in
    let two = c.cut-2.ensures place (context ++ after_context live) (sym one.1) refl in
    let three = c.cut-3.ensures context (after_context live) (sym two.1) refl in
    let four = c.cut_part.ensures live.parser.pending (after_pending live) (sym three.1) in
    let five = c.cut_part-2.ensures (control_bytes live.screen.control) (after_control live) (sym four.1) in
    let six = c.cut_byte-phase.ensures (number_or 255 live.phase) (after_phase live) (sym five.1) in
    let seven = c.cut-4.ensures (map bit live.renewed) (page_text (core_of live.screen)) (sym six.1)
    (length-map live.renewed bit ∙ places) in
    record {
      place = c.number_of.ensures live.parser.place (sym two.0);
      context = c.context_of.ensures live.parser.context (sym three.0);
      pending = four.0;
      control = five.0;
      phase = c.phase_of.ensures.phase ∙ ap phase_by six.0;
      renewed = seven.0;
      page = seven.1;
    }
