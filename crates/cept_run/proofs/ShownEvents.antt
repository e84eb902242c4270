-- What a blank glass shows after each event of a run.
use Rattle.std.proofs.Common.{◌≡◌, ℕ, List, [], ◌∷◌, ◌++◌, ◌∙◌, ap}
use Rattle.cept_codes.specs.declared.look.Look.{Look}
use Rattle.cept_editor.specs.Events.{Event, still_event, paints}
use Rattle.cept_editor.specs.Made.{Output, AreCutOff}
use Rattle.cept_parser.specs.Items.{closed_items}
use Rattle.cept_profile.specs.Changes.{grid_with_paints}
use Rattle.cept_profile.specs.Look.{grid}
use Rattle.cept_run.specs.declared.words.ReportOptions.{ReportOptions}
use Rattle.cept_run.specs.Events.{Sequel, remaining_of, run_events}
use Rattle.cept_run.specs.Reporting.{edited_events}
use Rattle.cept_run.specs.Events.{end_text}
use Rattle.cept_run.proofs.EditedLines.{edited_events-chained}
use Rattle.cept_run.proofs.PaintedItems.{AreChained, chained-append, chained-one, each_shown}

module _ (options : ReportOptions) (page : List ℕ) (sequel : Sequel) (shown : List (List Look)) where
  chained : AreChained [] (run_events options page sequel shown) (remaining_of options page sequel)
  chained =
      let all = remaining_of options page sequel in
      let last = still_event all (end_text options shown page all) in
      chained-append [] all all (edited_events options (closed_items page) sequel) (last ∷ [])
      (edited_events-chained options (closed_items page) sequel) (chained-one last)

  pub shown_after : (done : List Event) (event : Event) (rest : List Event)
      → run_events options page sequel shown ≡ done ++ event ∷ rest
      → grid_with_paints (grid []) (paints (done ++ event ∷ [])) ≡ grid event.after
  shown_after done event rest split =
      each_shown [] (remaining_of options page sequel) (run_events options page sequel shown) done event rest chained split

  pub shown_at_cut : (before after : Output) (off : AreCutOff (run_events options page sequel shown) before after)
      → before.glass.grid ≡ grid [] → after.glass.grid ≡ grid off.cut.after
  shown_at_cut before after off blank =
      off.painted.over ∙ ap (λ g. grid_with_paints g (paints (off.done ++ off.cut ∷ []))) blank
      ∙ shown_after off.done off.cut off.rest off.split
