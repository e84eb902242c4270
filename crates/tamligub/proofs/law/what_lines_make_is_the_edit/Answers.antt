use Rattle.std.proofs.Common.{ap, map}
use Rattle.cept_editor.specs.Kept.{EditorState}
use Rattle.cept_editor.specs.Script.{EditLine, edits}
use Rattle.cept_live.proofs.Laws.{edited}
use Rattle.cept_profile.specs.State.{core_of}
use Rattle.cept_writer.specs.CompactCommands.{page_text}
use Rattle.tamligub.proofs.law.what_lines_make_is_the_edit.Goals as goal

pub returns-clause-screen : goal.returns-clause-screen
returns-clause-screen c = λ page script old mid new list now from to has ends are.
    ap (λ (e : EditorState). e.screen)
    (edited old mid new list now from to page (map (λ (l : EditLine). l.step) (edits script)) has ends are)

pub returns-clause-page : goal.returns-clause-page
returns-clause-page c = λ page script old mid new list now from to shown has ends are.
    ap (λ (e : EditorState). page_text (core_of e.screen))
    (edited old mid new list now from to page (map (λ (l : EditLine). l.step) (edits script)) has ends are)
