-- Worked cases of what the bytes that are read before a page say is done after it, by computing.
use Rattle.std.proofs.Common.{◌≡◌, [], ◌∷◌, ◌++◌, codes, refl}
use Rattle.cept_codes.specs.declared.command.Command.TheVariants.{Up}
use Rattle.cept_editor.specs.Meaning.{Edit, line_meaning}
use Rattle.cept_editor.specs.Script.{edits_from}
use Rattle.cept_editor.specs.Table.{row_of}
use Rattle.cept_plot.specs.declared.figure.Figure.TheVariants.{Plot}
use Rattle.cept_plot.specs.Drawings.{figure_of, line_meaning as meaning_in_drawing}
use Rattle.cept_run.specs.Course.{NoScript, ScriptFile, Scripts, Drawings, sequel_in}
use Rattle.cept_run.specs.Events.{NoSequel, Edits, Figures}

-- nothing, where nothing is read
nothing : sequel_in NoScript [] ≡ NoSequel
nothing = refl

-- the edits of a script's lines
a_script : sequel_in (ScriptFile Scripts (codes "script")) (codes "# a note" ++ 0x0A ∷ codes "up")
    ≡ Edits (record { line = 2; step = Edit (Up ∷ []) } ∷ [])
unfolding line_meaning row_of edits_from
a_script = refl

-- the figures of a drawing's lines
a_drawing : sequel_in (ScriptFile Drawings (codes "drawing")) (codes "# a note" ++ 0x0A ∷ codes "plot 5 7")
    ≡ Figures (Plot (record { x = 5; y = 7 }) ∷ [])
unfolding meaning_in_drawing figure_of
a_drawing = refl
