use Rattle.std.proofs.lemmas.Result.{err_from_is_err_and}
use Rattle.cept_parser.specs.Spelling.{spellings}
use Rattle.cept_profile.specs.State.{core_of}
use Rattle.cept_writer.specs.PageCommands.{area_commands, dclut_commands, first_commands, rows_below, screen_commands}
use Rattle.cept_writer.specs.PageCommands.{with_colour_header}
use Rattle.cept_writer.proofs.PagePut.{cell_pieces, entry_pieces, from_area, from_cells, from_colours}
use Rattle.cept_writer.proofs.PagePut.{from_dclut, from_implicit, from_patterns, from_rows, from_screen_pen, page_failed}
use Rattle.cept_writer.proofs.PagePut.{page_put, pattern_pieces}
use Rattle.cept_writer.proofs.TextsPut.{PutsText-first_failed, PutsText-join}
use Rattle.cept_writer.proofs.page.write_page.Goals as goal

pub returns-in_err-put_beginning : goal.returns-in_err-put_beginning
returns-in_err-put_beginning g c =
    let k = core_of c.args.screen.now in
    page_failed k (c.compact_parts_are_written_in_turn.ensures.cells k.page.cells) _ _ _
    (err_from_is_err_and c.from_residual.result c.from_residual.ensures.1).1
    (PutsText-first_failed _ _ (spellings (first_commands k)) (from_colours k) c.in_err-put_beginning.ensures)

pub returns-in_err-put_colours : goal.returns-in_err-put_colours
returns-in_err-put_colours g c =
    let k = core_of c.args.screen.now in
    page_failed k (c.compact_parts_are_written_in_turn.ensures.cells k.page.cells) _ _ _
    (err_from_is_err_and c.from_residual-in_err-put_colours.result c.from_residual-in_err-put_colours.ensures.1).1
    (PutsText-join _ _ _ _ (spellings (first_commands k)) (from_colours k) c.in_ok-put_beginning.ensures
    (PutsText-first_failed _ _ (spellings (with_colour_header (entry_pieces k))) (from_dclut k) c.in_err-put_colours.ensures))

pub returns-in_err-put_dclut : goal.returns-in_err-put_dclut
returns-in_err-put_dclut g c =
    let k = core_of c.args.screen.now in
    page_failed k (c.compact_parts_are_written_in_turn.ensures.cells k.page.cells) _ _ _
    (err_from_is_err_and c.from_residual-in_err-put_dclut.result c.from_residual-in_err-put_dclut.ensures.1).1
    (PutsText-join _ _ _ _ (spellings (first_commands k)) (from_colours k) c.in_ok-put_beginning.ensures
    (PutsText-join _ _ _ _ (spellings (with_colour_header (entry_pieces k))) (from_dclut k) c.in_ok-put_colours.ensures
    (PutsText-first_failed _ _ (spellings (dclut_commands k.page.dclut)) (from_patterns k) c.in_err-put_dclut.ensures)))

pub returns-in_err-put_patterns : goal.returns-in_err-put_patterns
returns-in_err-put_patterns g c =
    let k = core_of c.args.screen.now in
    page_failed k (c.compact_parts_are_written_in_turn.ensures.cells k.page.cells) _ _ _
    (err_from_is_err_and c.from_residual-in_err-put_patterns.result c.from_residual-in_err-put_patterns.ensures.1).1
    (PutsText-join _ _ _ _ (spellings (first_commands k)) (from_colours k) c.in_ok-put_beginning.ensures
    (PutsText-join _ _ _ _ (spellings (with_colour_header (entry_pieces k))) (from_dclut k) c.in_ok-put_colours.ensures
    (PutsText-join _ _ _ _ (spellings (dclut_commands k.page.dclut)) (from_patterns k) c.in_ok-put_dclut.ensures
    (PutsText-first_failed _ _ (spellings (pattern_pieces k)) (from_screen_pen k) c.in_err-put_patterns.ensures))))

pub returns-in_err-put_screen_pen : goal.returns-in_err-put_screen_pen
returns-in_err-put_screen_pen g c =
    let k = core_of c.args.screen.now in
    page_failed k (c.compact_parts_are_written_in_turn.ensures.cells k.page.cells) _ _ _
    (err_from_is_err_and c.from_residual-in_err-put_screen_pen.result c.from_residual-in_err-put_screen_pen.ensures.1).1
    (PutsText-join _ _ _ _ (spellings (first_commands k)) (from_colours k) c.in_ok-put_beginning.ensures
    (PutsText-join _ _ _ _ (spellings (with_colour_header (entry_pieces k))) (from_dclut k) c.in_ok-put_colours.ensures
    (PutsText-join _ _ _ _ (spellings (dclut_commands k.page.dclut)) (from_patterns k) c.in_ok-put_dclut.ensures
    (PutsText-join _ _ _ _ (spellings (pattern_pieces k)) (from_screen_pen k) c.in_ok-put_patterns.ensures
    (PutsText-first_failed _ _ (spellings (screen_commands k.page.screen_pen)) (from_rows k) c.in_err-put_screen_pen.ensures)))))

pub returns-in_err-put_rows : goal.returns-in_err-put_rows
returns-in_err-put_rows g c =
    let k = core_of c.args.screen.now in
    page_failed k (c.compact_parts_are_written_in_turn.ensures.cells k.page.cells) _ _ _
    (err_from_is_err_and c.from_residual-in_err-put_rows.result c.from_residual-in_err-put_rows.ensures.1).1
    (PutsText-join _ _ _ _ (spellings (first_commands k)) (from_colours k) c.in_ok-put_beginning.ensures
    (PutsText-join _ _ _ _ (spellings (with_colour_header (entry_pieces k))) (from_dclut k) c.in_ok-put_colours.ensures
    (PutsText-join _ _ _ _ (spellings (dclut_commands k.page.dclut)) (from_patterns k) c.in_ok-put_dclut.ensures
    (PutsText-join _ _ _ _ (spellings (pattern_pieces k)) (from_screen_pen k) c.in_ok-put_patterns.ensures
    (PutsText-join _ _ _ _ (spellings (screen_commands k.page.screen_pen)) (from_rows k) c.in_ok-put_screen_pen.ensures
    (PutsText-first_failed _ _ (spellings (rows_below k.page.row_pens 24)) (from_cells k) c.in_err-put_rows.ensures))))))

pub returns-in_err-put_segments : goal.returns-in_err-put_segments
returns-in_err-put_segments g c =
    let k = core_of c.args.screen.now in
    page_failed k (c.compact_parts_are_written_in_turn.ensures.cells k.page.cells) _ _ _
    (err_from_is_err_and c.from_residual-in_err-put_segments.result c.from_residual-in_err-put_segments.ensures.1).1
    (PutsText-join _ _ _ _ (spellings (first_commands k)) (from_colours k) c.in_ok-put_beginning.ensures
    (PutsText-join _ _ _ _ (spellings (with_colour_header (entry_pieces k))) (from_dclut k) c.in_ok-put_colours.ensures
    (PutsText-join _ _ _ _ (spellings (dclut_commands k.page.dclut)) (from_patterns k) c.in_ok-put_dclut.ensures
    (PutsText-join _ _ _ _ (spellings (pattern_pieces k)) (from_screen_pen k) c.in_ok-put_patterns.ensures
    (PutsText-join _ _ _ _ (spellings (screen_commands k.page.screen_pen)) (from_rows k) c.in_ok-put_screen_pen.ensures
    (PutsText-join _ _ _ _ (spellings (rows_below k.page.row_pens 24)) (from_cells k) c.in_ok-put_rows.ensures
    (PutsText-first_failed _ _ (spellings (cell_pieces k)) (from_area k) c.in_err-put_segments.ensures)))))))

pub returns-in_err-put_area : goal.returns-in_err-put_area
returns-in_err-put_area g c =
    let k = core_of c.args.screen.now in
    page_failed k (c.compact_parts_are_written_in_turn.ensures.cells k.page.cells) _ _ _
    (err_from_is_err_and c.from_residual-in_err-put_area.result c.from_residual-in_err-put_area.ensures.1).1
    (PutsText-join _ _ _ _ (spellings (first_commands k)) (from_colours k) c.in_ok-put_beginning.ensures
    (PutsText-join _ _ _ _ (spellings (with_colour_header (entry_pieces k))) (from_dclut k) c.in_ok-put_colours.ensures
    (PutsText-join _ _ _ _ (spellings (dclut_commands k.page.dclut)) (from_patterns k) c.in_ok-put_dclut.ensures
    (PutsText-join _ _ _ _ (spellings (pattern_pieces k)) (from_screen_pen k) c.in_ok-put_patterns.ensures
    (PutsText-join _ _ _ _ (spellings (screen_commands k.page.screen_pen)) (from_rows k) c.in_ok-put_screen_pen.ensures
    (PutsText-join _ _ _ _ (spellings (rows_below k.page.row_pens 24)) (from_cells k) c.in_ok-put_rows.ensures
    (PutsText-join _ _ _ _ (spellings (cell_pieces k)) (from_area k) c.in_ok-put_segments.ensures
    (PutsText-first_failed _ _ (spellings (area_commands k.area)) (from_implicit k) c.in_err-put_area.ensures))))))))

pub returns : goal.returns
returns g c =
    let k = core_of c.args.screen.now in
    page_put k (c.compact_parts_are_written_in_turn.ensures.cells k.page.cells) _ _ _
    (PutsText-join _ _ _ _ (spellings (first_commands k)) (from_colours k) c.in_ok-put_beginning.ensures
    (PutsText-join _ _ _ _ (spellings (with_colour_header (entry_pieces k))) (from_dclut k) c.in_ok-put_colours.ensures
    (PutsText-join _ _ _ _ (spellings (dclut_commands k.page.dclut)) (from_patterns k) c.in_ok-put_dclut.ensures
    (PutsText-join _ _ _ _ (spellings (pattern_pieces k)) (from_screen_pen k) c.in_ok-put_patterns.ensures
    (PutsText-join _ _ _ _ (spellings (screen_commands k.page.screen_pen)) (from_rows k) c.in_ok-put_screen_pen.ensures
    (PutsText-join _ _ _ _ (spellings (rows_below k.page.row_pens 24)) (from_cells k) c.in_ok-put_rows.ensures
    (PutsText-join _ _ _ _ (spellings (cell_pieces k)) (from_area k) c.in_ok-put_segments.ensures
    (PutsText-join _ _ _ _ (spellings (area_commands k.area)) (from_implicit k) c.in_ok-put_area.ensures
    c.put_implicit.ensures))))))))
