use Rattle.std.proofs.Common.{sym, ap, ◌∙◌}
use Rattle.cept_codes.specs.declared.look.Look.{Look}
use Rattle.cept_codes.specs.Look.{blank_look}
use Rattle.cept_codes.specs.Table.{value_at}
use Rattle.cept_codes.proofs.Laws.{value_at-table}
use Rattle.cept_flash.specs.Flashing.{FlashingGrid}
use Rattle.cept_flash.specs.Phases.{frame, look_at_phase}
use Rattle.cept_profile.specs.Changes.{look_at}
use Rattle.cept_flash.proofs.blink.Blink.now.Goals as goal

pub returns-clause-look : goal.returns-clause-look
unfolding frame
returns-clause-look c =
    let g = c.self.inside.kept.rows in
    let k = c.self.inside.phase in
    c.look_at_phase.ensures.look ∙ ap (λ (l : Look). look_at_phase l k) c.shown_look.ensures.look
    ∙ sym (value_at-table (λ r col. look_at_phase (value_at blank_look g r col) k) blank_look c.args.at.row c.args.at.column
    c.row-row.ensures.on_screen)
    ∙ ap (λ (b : FlashingGrid). look_at (frame b.looks b.phase) c.args.at) c.self.view_is
