use Rattle.std.proofs.Common.{◌&&◌, ◌||◌, leb, sym, ◌∙◌}
use Rattle.std.specs.Prelude.{nat_lt}
use Rattle.cept_redraw.specs.inside.Redefined.{is_ink_in}
use Rattle.cept_redraw.proofs.NamedRows.{entry_named, grouped, inks_asked, inks_unasked, named_plainly}
use Rattle.cept_redraw.proofs.redefined_rows.names_entry.Goals as goal

pub returns-then-has_entry : goal.returns-then-has_entry
returns-then-has_entry c = λ k r is.
    named_plainly _ _ _ (sym c.has_entry.ensures ∙ c.if-has_entry.true)
    ∙ entry_named k r c.args.names.now c.args.looks.now c.args.colours.now.dclut is c.args.entry

pub returns-then-shows_planes : goal.returns-then-shows_planes
returns-then-shows_planes c = λ k r is.
    inks_asked c.has_entry.result c.shows_planes-2.result c.is_ink.result _ c.if-has_entry.false
    c.if-shows_planes.true
    ∙ (λ i. (c.has_entry.ensures i || (c.shows_planes-2.ensures i && c.is_ink.ensures i))
    || grouped (c.shows_planes.ensures i) (leb 16 c.args.entry) (nat_lt c.args.entry 32) i)
    ∙ entry_named k r c.args.names.now c.args.looks.now c.args.colours.now.dclut is c.args.entry

pub returns : goal.returns
returns c = λ k r is.
    inks_unasked c.has_entry.result c.shows_planes-2.result (is_ink_in c.args.colours.now.dclut c.args.entry) _
    c.if-has_entry.false c.if-shows_planes.false
    ∙ (λ i. (c.has_entry.ensures i
    || (c.shows_planes-2.ensures i && is_ink_in c.args.colours.now.dclut c.args.entry))
    || grouped (c.shows_planes.ensures i) (leb 16 c.args.entry) (nat_lt c.args.entry 32) i)
    ∙ entry_named k r c.args.names.now c.args.looks.now c.args.colours.now.dclut is c.args.entry
