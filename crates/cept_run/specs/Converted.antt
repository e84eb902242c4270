-- What is put of a page in another form: in seven bits, or in eight again. This project's own.
use Rattle.std.specs.Prelude.{ℕ, Bool, true, not, List, reverse}
use Rattle.cept_seven.specs.Seven.{seven, unclosed}
use Rattle.cept_seven.specs.Eight.{eight, accepted, is_quoted}
use Rattle.cept_run.specs.declared.words.BytesAction.{BytesAction}
use Rattle.cept_run.specs.declared.words.BytesAction.TheVariants as bytes

-- of these bytes, which are the whole page
abbrev pub converted : BytesAction → List ℕ → List ℕ
converted bytes.Seven page = seven page
converted bytes.Eight page = eight (accepted page)

-- of these bytes, the front of a page: without the SI after a last right byte
abbrev pub converted_front : BytesAction → List ℕ → List ℕ
converted_front bytes.Seven front = unclosed front
converted_front bytes.Eight front = eight (accepted front)

-- the longest front that can be read: up to a byte that no seven-bit form has there
abbrev pub readable_front : BytesAction → List ℕ → List ℕ
readable_front bytes.Seven page = page
readable_front bytes.Eight page = accepted page

-- a page can end here: not with a quote
abbrev pub can_end_there : BytesAction → List ℕ → Bool
can_end_there bytes.Seven page = true
can_end_there bytes.Eight page = not (is_quoted (reverse page))
