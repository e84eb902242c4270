use Rattle.std.proofs.Common.{◌≡◌, true, ltb, [], ◌∷◌, refl, sym, ◌∙◌}
use Rattle.std.proofs.lemmas.Bool.{and_parts}
use Rattle.cept_drcs.specs.Unit.{is_pattern}
use Rattle.cept_parser.specs.Fit.{starts_pattern}
use Rattle.cept_parser.proofs.PatternLemmas.{start_grows}
use Rattle.cept_parser.proofs.runs.first_of_pattern.Goals as goal

pub returns-then-starts_pattern : goal.returns-then-starts_pattern
returns-then-starts_pattern c =
    let t : starts_pattern c.args.context.now c.args.code c.args.byte ≡ true =
    sym c.starts_pattern.ensures ∙ c.if-starts_pattern.true in
    let h : is_pattern c.args.context.now.form (c.args.byte ∷ []) ≡ true = (and_parts (ltb c.args.code 0x7F) _ t).1 in
    rw (t, h, start_grows c.args.context.now c.args.code c.args.byte c.requires t) refl
