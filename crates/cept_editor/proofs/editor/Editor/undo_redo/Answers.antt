use Rattle.std.proofs.Common.{◌≡◌, ap, sym, ◌∙◌}
use Rattle.std.proofs.lemmas.Bool.{true≢false}
use Rattle.std.proofs.lemmas.Result.{err_from_is_err_and}
use Rattle.cept_editor.specs.Kept.{EditorState}
use Rattle.cept_editor.specs.Made.{output_of}
use Rattle.cept_editor.proofs.LinesMade.{nothing_moved, undo_redo_cut, undo_redo_made}
use Rattle.cept_editor.proofs.editor.Editor.undo_redo.Goals as goal

pub returns-then-not-undo_redo_screen-clause-goes_on : goal.returns-then-not-undo_redo_screen-clause-goes_on
returns-then-not-undo_redo_screen-clause-goes_on g c =
    let moved = c.undo_redo_screen.ensures.moved in
    nothing_moved c.args.listing.now.listed c.args.listing.now.line c.args.which _ _ _ _
    (c.undo_redo_screen.ensures.nothing.0 c.if-not-undo_redo_screen.true) (ap (λ (e : EditorState). e.screen) moved)
    (ap (λ (e : EditorState). e.past) moved) (ap (λ (e : EditorState). e.future) moved)
    (ap (λ x. output_of (g.T.Sink.state c.args.listing.now.sink.now) (g.G.Glass.state x))
    (c.undo_redo_screen.ensures.unpainted c.if-not-undo_redo_screen.true))

pub returns-in_err-put_changes_if-clause-goes_on : goal.returns-in_err-put_changes_if-clause-goes_on
returns-in_err-put_changes_if-clause-goes_on g c =
    let moved = c.undo_redo_screen.ensures.moved in
    let screen : c.self.inside.screen ≡ c.undo_redo_screen.new.self.screen =
    ap (λ (e : EditorState). e.screen) c.self.view_is in
    rw (err_from_is_err_and c.from_residual.result c.from_residual.ensures.1).1 (undo_redo_cut c.args.listing.now.listed
    c.args.listing.now.line c.args.which _ _ c.undo_redo_screen.new.marks _ _ (record {
      some = λ none. true≢false (sym c.if-not-undo_redo_screen.false ∙ c.undo_redo_screen.ensures.nothing.1 none);
      screen = ap (λ (e : EditorState). e.screen) moved;
      past = ap (λ (e : EditorState). e.past) moved;
      future = ap (λ (e : EditorState). e.future) moved;
      painted = c.undo_redo_screen.ensures.paints.repainted;
      put = rw screen at (rw c.from-label.ensures at c.in_err-put_changes_if.ensures.puts);
    }))

pub returns-clause-goes_on : goal.returns-clause-goes_on
returns-clause-goes_on g c =
    let moved = c.undo_redo_screen.ensures.moved in
    let screen : c.self.inside.screen ≡ c.undo_redo_screen.new.self.screen =
    ap (λ (e : EditorState). e.screen) c.self.view_is in
    undo_redo_made c.args.listing.now.listed c.args.listing.now.line c.args.which _ _ c.undo_redo_screen.new.marks _ _ (record {
      some = λ none. true≢false (sym c.if-not-undo_redo_screen.false ∙ c.undo_redo_screen.ensures.nothing.1 none);
      screen = ap (λ (e : EditorState). e.screen) moved;
      past = ap (λ (e : EditorState). e.past) moved;
      future = ap (λ (e : EditorState). e.future) moved;
      painted = c.undo_redo_screen.ensures.paints.repainted;
      put = rw screen at (rw c.from-label.ensures at c.in_ok-put_changes_if.ensures.puts);
    })
