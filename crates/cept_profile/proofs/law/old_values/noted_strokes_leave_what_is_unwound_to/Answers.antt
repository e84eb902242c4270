use Rattle.cept_profile.proofs.NotedStrokes.{page_unwound-with_one, page_unwound-with_strokes, unwound-with_command}
use Rattle.cept_profile.proofs.law.old_values.noted_strokes_leave_what_is_unwound_to.Goals as goal

pub returns : goal.returns
returns c = assumption (page_unwound-with_one, page_unwound-with_strokes, unwound-with_command)
