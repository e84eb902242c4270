use Rattle.cept_profile.proofs.NotedStrokes.{page_unwound-with_cells_of, page_unwound-with_dclut_of}
use Rattle.cept_profile.proofs.NotedStrokes.{page_unwound-with_paints_of, page_unwound-with_patterns_of}
use Rattle.cept_profile.proofs.NotedStrokes.{page_unwound-with_row_pens_of}
use Rattle.cept_profile.proofs.OldValues.{page_unwound-differ, page_unwound-with_screen_pen, unwound-with_control}
use Rattle.cept_profile.proofs.OldValues.{with_cells-again}
use Rattle.cept_profile.proofs.law.old_values.noting_leaves_what_is_unwound_to.Goals as goal

pub returns : goal.returns
returns c = assumption (page_unwound-with_cells_of, page_unwound-with_row_pens_of, page_unwound-with_screen_pen, page_unwound-with_paints_of, page_unwound-with_dclut_of, page_unwound-with_patterns_of, unwound-with_control, page_unwound-differ, with_cells-again)
