use Rattle.cept_profile.proofs.OneMoreState.{page-page_after, page_back-drawn}
use Rattle.cept_profile.proofs.law.one_more.looking_back_is_drawing.Goals as goal

pub returns : goal.returns
returns c = record { history = page-page_after; strokes = page_back-drawn }
