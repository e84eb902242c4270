-- The front of a report that was put, where the sink failed.
use Rattle.std.proofs.Common.{◌≡◌, ◌⊎◌, inl, inr, false, List, [], ◌∷◌, ◌++◌, length, take, sym, ◌∙◌, ap, subst}
use Rattle.std.proofs.Common.{length-append, arith, ℕ, ◌+◌, ◌<◌}
use Rattle.std.proofs.lemmas.List.{take-append-le, take_all}
use Rattle.std.proofs.Math.Seq.{take-append-add}
use Rattle.cept_editor.specs.Events.{Event, report}
use Rattle.cept_editor.specs.Made.{Output, AreMade, AreCutOff}
use Rattle.cept_editor.proofs.Laws.{report-append, report-one}
use Rattle.cept_outside.specs.SinkState.{SinkState, Gains, GainsPart}
use Rattle.cept_run.specs.Outside.{PutsFront}

-- the texts of events, from one of them on
report_from : (event : Event) (rest : List Event) → report (event ∷ rest) ≡ event.text ++ report rest
report_from event rest = report-append (event ∷ []) rest ∙ ap (λ t. t ++ report rest) (report-one event)

-- a part of a text was put, or all of it, where a flush can fail
pub front_of : (text : List ℕ) (before after : SinkState)
    → GainsPart before text after ⊎ (Gains before text after × (before.always_flushes ≡ false))
    → PutsFront text before after
front_of text before after (inl part) = (part.size, part.gains, inl part.short)
front_of text before after (inr all) = (
  length text,
  subst (λ (t : List ℕ). Gains before t after) (sym (take_all (length text) text (omega arith))) all.0,
  inr all.1,
)

module _ (events : List Event) (before after : Output) where
  -- the sink failed at one of the events
  pub cut_front : AreCutOff events before after → PutsFront (report events) before.sink after.sink
  cut_front off =
      let begun = report off.done in
      let size = length begun + off.size in
      let more = report off.rest in
      let whole : report events ≡ begun ++ (off.cut.text ++ more) =
      ap report off.split ∙ report-append off.done (off.cut ∷ off.rest) ∙ ap (λ t. begun ++ t) (report_from off.cut off.rest)
      in
      let front : take size (report events) ≡ begun ++ take off.size off.cut.text =
      ap (take size) whole ∙ take-append-add begun (off.cut.text ++ more) off.size
      ∙ ap (λ t. begun ++ t) (take-append-le off.size off.cut.text more (omega (arith, off.short))) in
      let short : size < length (report events) = omega (
        arith,
        off.short,
        ap length whole,
        length-append begun (off.cut.text ++ more),
        length-append off.cut.text more,
      )
      in
      (size, subst (λ (t : List ℕ). Gains before.sink t after.sink) (sym front) off.put, inl short)

  pub either_front : AreCutOff events before after ⊎ (AreMade events before after × (before.sink.always_flushes ≡ false))
      → PutsFront (report events) before.sink after.sink
  either_front (inl off) = cut_front off
  either_front (inr made) = front_of (report events) before.sink after.sink (inr (made.0.put, made.1))

  -- beside a report that was put, what else holds
  pub either_with : {A B : Type 0} → A → B
      → AreCutOff events before after ⊎ (AreMade events before after × (before.sink.always_flushes ≡ false))
      → AreCutOff events before after ⊎ (AreMade events before after × (before.sink.always_flushes ≡ false) × A × B)
  either_with a b (inl off) = inl off
  either_with a b (inr made) = inr (made.0, made.1, a, b)
