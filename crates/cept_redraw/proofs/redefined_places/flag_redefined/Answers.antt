use Rattle.std.proofs.Common.{◌==◌, ◌||◌, false, ap, ◌∙◌, sym, rules}
use Rattle.cept_codes.specs.declared.stroke.Stroke.{Stroke}
use Rattle.cept_codes.specs.Look.{blank_look}
use Rattle.cept_codes.specs.Table.{entry, list_by_index}
use Rattle.cept_profile.specs.Names.{pattern_shown}
use Rattle.cept_profile.specs.Tiling.{column_entry}
use Rattle.cept_rows.specs.KeptNames.{names_kept}
use Rattle.cept_rows.specs.Planes.{has_inks}
use Rattle.cept_redraw.specs.inside.Redefined.{redefines_place}
use Rattle.cept_redraw.proofs.FlaggedPlaces.{all_flagged, both_flagged, none_defined}
use Rattle.cept_redraw.proofs.redefined_places.flag_redefined.Goals as goal

pub returns-in-Colour : goal.returns-in-Colour
returns-in-Colour c =
    both_flagged c.args.flags.now c.flag_entry.new.flags c.flag_inked.new.flags
    (λ column. (names_kept c.args.names.now column).fore == c.in-Colour.entry
    || (names_kept c.args.names.now column).back == c.in-Colour.entry)
    (λ column. has_inks (pattern_shown (column_entry blank_look c.args.looks.now column).shape)) c.flag_entry.ensures
    c.flag_inked.ensures
    ∙ ap (λ (x : Stroke). list_by_index 1 40 (λ column. entry false 1 c.args.flags.now column
    || redefines_place (names_kept c.args.names.now column)
    (pattern_shown (column_entry blank_look c.args.looks.now column).shape) x)) (sym c.in-Colour.is)

pub returns-in-ColourDefaults : goal.returns-in-ColourDefaults
returns-in-ColourDefaults c =
    all_flagged c.args.flags.now (λ column. redefines_place (names_kept c.args.names.now column)
    (pattern_shown (column_entry blank_look c.args.looks.now column).shape) c.args.stroke.now)
    (λ column. ap (redefines_place (names_kept c.args.names.now column)
    (pattern_shown (column_entry blank_look c.args.looks.now column).shape)) c.in-ColourDefaults.is)

pub returns : goal.returns
returns c =
    none_defined c.args.flags.now c.args.names.now c.args.looks.now c.args.stroke.now c.requires.columns
    (search rules)

pub returns-2 : goal.returns-2
returns-2 c =
    none_defined c.args.flags.now c.args.names.now c.args.looks.now c.args.stroke.now c.requires.columns
    (search rules)

pub returns-3 : goal.returns-3
returns-3 c =
    none_defined c.args.flags.now c.args.names.now c.args.looks.now c.args.stroke.now c.requires.columns
    (search rules)

pub returns-4 : goal.returns-4
returns-4 c =
    none_defined c.args.flags.now c.args.names.now c.args.looks.now c.args.stroke.now c.requires.columns
    (search rules)

pub returns-5 : goal.returns-5
returns-5 c =
    none_defined c.args.flags.now c.args.names.now c.args.looks.now c.args.stroke.now c.requires.columns
    (search rules)

pub returns-6 : goal.returns-6
returns-6 c =
    none_defined c.args.flags.now c.args.names.now c.args.looks.now c.args.stroke.now c.requires.columns
    (search rules)

pub returns-7 : goal.returns-7
returns-7 c =
    none_defined c.args.flags.now c.args.names.now c.args.looks.now c.args.stroke.now c.requires.columns
    (search rules)

pub returns-8 : goal.returns-8
returns-8 c =
    none_defined c.args.flags.now c.args.names.now c.args.looks.now c.args.stroke.now c.requires.columns
    (search rules)

pub returns-9 : goal.returns-9
returns-9 c =
    none_defined c.args.flags.now c.args.names.now c.args.looks.now c.args.stroke.now c.requires.columns
    (search rules)
