use Rattle.std.proofs.Common.{◌≡◌, [], ◌∷◌, ◌++◌, true, sym, ◌∙◌}
use Rattle.cept_parser.proofs.ResumedLemmas.{HasAll, has_all, none_closed, some_closed, waits_no_item}
use Rattle.cept_parser.proofs.ValidItemLemmas.{bytes_more}
use Rattle.cept_parser.proofs.reader.Reader.keeps.Goals as goal
use Rattle.cept_parser.proofs.reader.Reader.keeps.Goals.{After-is_empty}

-- where nothing is closed, all bytes wait
all : (c : After-is_empty) → c.is_empty.result ≡ true
    → HasAll c.args.self.now.context (c.args.self.now.bytes ++ c.args.byte ∷ []) c.read.new.self
all c e =
    let w = c.requires.waits in
    has_all _ _ _ _ w.context (bytes_more _ _ w.bytes c.ranges.byte.fits) c.read.ensures.left
    (sym c.read.ensures.items ∙ sym c.as_slice.ensures.value ∙ none_closed _ (sym c.is_empty.ensures ∙ e))

pub returns-clause-context : goal.returns-clause-context
returns-clause-context c e = (all c e).context

pub returns-clause-pending : goal.returns-clause-pending
returns-clause-pending c e = (all c e).pending

pub returns-clause-waits : goal.returns-clause-waits
returns-clause-waits c e = (all c e).waits

pub returns-clause-never : goal.returns-clause-never
returns-clause-never c e w =
    some_closed _ (sym c.is_empty.ensures ∙ e)
    (c.as_slice.ensures.value ∙ c.read.ensures.items ∙ waits_no_item _ _ _ w)
