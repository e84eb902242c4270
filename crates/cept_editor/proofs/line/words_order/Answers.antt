use Rattle.std.proofs.Common.{◌∙◌, refl}
use Rattle.cept_editor.proofs.PlacedOrders.{placed_meant, placed_sound, rest_ends, words_meant}
use Rattle.cept_editor.proofs.line.words_order.Goals as goal

pub returns-clause-meant : goal.returns-clause-meant
returns-clause-meant c script at =
    let lies = rest_ends script c.args.line.now _ _ c.args.end _ at c.first_word.ensures.places refl in
    placed_meant script _ _ _ lies.0 lies.1 c.order_of.ensures.1 ∙ c.order_of.ensures.0
    ∙ words_meant c.args.line.now _ _ c.first_word.ensures.words c.first_word.ensures.places

pub returns-clause-sound : goal.returns-clause-sound
returns-clause-sound c script at =
    let lies = rest_ends script c.args.line.now _ _ c.args.end _ at c.first_word.ensures.places refl in
    placed_sound script _ _ _ lies.0 lies.1 c.order_of.ensures.1
