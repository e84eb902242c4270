use Rattle.std.proofs.Common.{◌≡◌, ◌<◌, ◌&&◌, true, sym, ap, ◌∙◌, arith}
use Rattle.std.specs.Prelude.{nat_lt}
use Rattle.std.proofs.lemmas.Bool.Decides.{nat_tests}
use Rattle.cept_codes.specs.Look.{blank_look}
use Rattle.cept_profile.specs.Names.{pattern_shown, some_place}
use Rattle.cept_profile.specs.Reach.{redefines}
use Rattle.cept_profile.specs.Tiling.{column_entry}
use Rattle.cept_redraw.proofs.NamedRows.{dclut_named, pattern_named, some_pattern_named}
use Rattle.cept_redraw.proofs.redefined_rows.redefines.Goals as goal
use Rattle.cept_rows.specs.Planes.{has_planes}

pub returns-then-number-lt4 : goal.returns-then-number-lt4
returns-then-number-lt4 c = λ k r is.
    let below : c.in-Dclut.number < 4 = c.if-number-lt4.true in
    let yes : nat_lt c.in-Dclut.number 4 ≡ true = grind (arith, nat_tests) in
    c.shows_planes.ensures
    ∙ sym (ap (λ b. b && some_place (λ column. has_planes 2 (pattern_shown (column_entry blank_look c.args.looks.now
    column).shape))) yes)
    ∙ dclut_named k r c.args.names.now c.args.looks.now c.args.colours.now.dclut is c.in-Dclut.number
    ∙ ap (redefines k r) (sym c.in-Dclut.is)

pub returns-in-Drcs : goal.returns-in-Drcs
returns-in-Drcs c = λ k r is.
    c.has_code.ensures
    ∙ pattern_named k r c.args.names.now c.args.looks.now c.args.colours.now.dclut is c.in-Drcs.code
    ∙ ap (redefines k r) (sym c.in-Drcs.is)

pub returns-in-DrcsClear : goal.returns-in-DrcsClear
returns-in-DrcsClear c = λ k r is.
    c.has_some_code.ensures
    ∙ some_pattern_named k r c.args.names.now c.args.looks.now c.args.colours.now.dclut is
    ∙ ap (redefines k r) (sym c.in-DrcsClear.is)
