-- Rows of worked tables of reading: bytes, what they say, and the context before and after them.
use Rattle.std.proofs.Common.{◌≡◌, ℕ, List, [], ◌∷◌, ◌++◌, length, map, Option, Some, Bool, true, false}
use Rattle.std.specs.Prelude.{if◌then◌else◌}
use Rattle.cept_codes.specs.declared.command.Command.{Command}
use Rattle.cept_codes.specs.declared.item.Item.{Item}
use Rattle.cept_codes.specs.declared.item.Reason.{Reason}
use Rattle.cept_codes.specs.declared.item.Reason.TheVariants as reasons
use Rattle.cept_codes.specs.declared.item.Said.{Said}
use Rattle.cept_codes.specs.declared.item.Said.TheVariants.{Command as Says, Refused}
use Rattle.cept_parser.specs.declared.context.Context.{Context}
use Rattle.cept_parser.specs.declared.context.Mode.{Mode}
use Rattle.cept_parser.specs.Context.{start_context, with_mode}
use Rattle.cept_parser.specs.Items.{Front, closed_items, closing_items, front, reading_at}

-- in this context these bytes say this, and leave that one
pub record Row : Type 0 where
  pub before : Context
  pub bytes : List ℕ
  pub said : Said
  pub after : Context

-- rows in mode Text that leave it as it was
abbrev pub says : List ℕ → Command → Row
says u command = record { before = start_context; bytes = u; said = Says command; after = start_context }

abbrev pub is_refused : List ℕ → Reason → Row
is_refused u reason = record { before = start_context; bytes = u; said = Refused reason; after = start_context }

-- a row that leaves another mode
abbrev pub leaving : Mode → Row → Row
leaving mode row = record row { after = with_mode row.after mode }

-- a row that begins in another mode
abbrev pub from : Mode → Row → Row
from mode row = record row { before = with_mode row.before mode }

-- the items of bytes that end here, in this context
abbrev pub items_from : Context → List ℕ → List Item
items_from x b = (reading_at x 0 b).items ++ closing_items (reading_at x 0 b)

-- what a row's bytes say where these follow, and where nothing follows
pub record Read : Type 0 where
  pub first : Option Front
  pub alone : List Item

abbrev pub read_before : List ℕ → Row → Read
read_before more row = record {
  first = front row.before (row.bytes ++ more);
  alone = items_from row.before row.bytes;
}

-- what the row tells of them: they are one item, no byte more and none less
abbrev pub told : Row → Read
told row = record {
  first = Some (record { said = row.said; size = length row.bytes; next = row.after });
  alone = record { at = 0; len = length row.bytes; what = row.said } ∷ [];
}

-- bytes are read as these rows tell, where these follow
abbrev pub AreReadBefore : List ℕ → List Row → Type 0
AreReadBefore more rows = map (read_before more) rows ≡ map told rows

-- where plain bytes follow
abbrev pub AreRead : List Row → Type 0
AreRead rows = AreReadBefore (0x7F ∷ 0x7F ∷ []) rows

-- what bytes that end here say in mode Text
abbrev pub said_in : List ℕ → List Said
said_in b = map (λ i. i.what) (closed_items b)

-- what says no more than that it is refused for this reason
abbrev pub is_only : Reason → List Said → Bool
is_only reasons.UnknownCsi (Refused reasons.UnknownCsi ∷ []) = true
is_only reasons.UnknownEscape (Refused reasons.UnknownEscape ∷ []) = true
is_only _ _ = false

-- bytes that say more than that they are refused for this reason, each with what it says
abbrev pub says_but : Reason → List (List ℕ) → List (List ℕ × List Said)
says_but reason [] = []
says_but reason (b ∷ more) =
    if is_only reason (said_in b) then says_but reason more else
    (b, said_in b) ∷ says_but reason more
