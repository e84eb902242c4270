-- Each spelling is a whole unit that says its command, and grows only where it is a header of colours.
use Rattle.std.proofs.Common.{◌≡◌, Bool, true, false, cond, Some, refl}
use Rattle.cept_codes.specs.declared.command.Command.{Command}
use Rattle.cept_codes.specs.declared.command.Command.TheVariants as command
use Rattle.cept_parser.specs.declared.context.Context.{Context}
use Rattle.cept_codes.specs.declared.item.Said.TheVariants.{Command as Says}
use Rattle.cept_parser.specs.declared.fit.Fit.TheVariants.{Whole, Longer}
use Rattle.cept_parser.specs.Bytes.{is_whole, is_longer}
use Rattle.cept_parser.specs.Grammar.{unit, grows}
use Rattle.cept_parser.specs.Spelling.{spelling, context_after, may_grow, IsSpelled}
use Rattle.cept_parser.proofs.PatternSpelledLemmas.{pattern_spelled}
use Rattle.cept_parser.proofs.SpelledLemmas.{Stands, defaults_spelled, revision_spelled, format_spelled}
use Rattle.cept_parser.proofs.SpelledLemmas.{header_spelled, start_spelled, entry_spelled, dclut_spelled}
use Rattle.cept_parser.proofs.SpelledLemmas.{patterns_spelled, code_spelled, table_spelled, c1_spelled, flash_spelled}
use Rattle.cept_parser.proofs.SpelledLemmas.{stop_spelled, screen_spelled, row_spelled, position_spelled}
use Rattle.cept_parser.proofs.SpelledLemmas.{protect_spelled, c1_set_spelled, graphic_spelled, lock_spelled}
use Rattle.cept_parser.proofs.SpelledLemmas.{designate_spelled, single_spelled, repeat_spelled, area_spelled}
use Rattle.cept_parser.proofs.SpelledLemmas.{implicit_spelled}

stands : (x : Context) (c : Command) → IsSpelled x c → Stands x c
unfolding IsSpelled
stands x (command.FullDefaults set) h = defaults_spelled x set
stands x (command.Revision revision) h = revision_spelled x revision h
stands x (command.Format rows wrap) h = format_spelled x rows wrap h
stands x (command.ColourHeader dclut) h = header_spelled x dclut
stands x (command.ColourStart i) h = start_spelled x i h
stands x (command.Entry i c) h = entry_spelled x i c h.0 h.1.0 h.1.1
stands x (command.Dclut i v) h = dclut_spelled x i v h.0 h.1.0 h.1.1
stands x (command.DrcsHeader false f) h = patterns_spelled x f h
stands x (command.DrcsStart c) h = code_spelled x c h
stands x (command.DrcsPattern c t) h = pattern_spelled x c t h.0 h.1 h.2 h.3
stands x (command.Table k) h = table_spelled x k h
stands x (command.C1 n) h = c1_spelled x n h
stands x (command.FlashMode k) h = flash_spelled x k h
stands x command.StopConceal h = stop_spelled x
stands x (command.FullScreen n) h = screen_spelled x n h
stands x (command.FullRow n) h = row_spelled x n h
stands x (command.Position r c) h = position_spelled x r c h
stands x (command.Protect on) h = protect_spelled x on
stands x (command.DesignateC1 set) h = c1_set_spelled x set
stands x (command.Graphic b) h = graphic_spelled x b h.0 h.1 h.2
stands x (command.LockLeft g) h = lock_spelled x g h
stands x (command.Designate g set) h = designate_spelled x g set h
stands x (command.Single g) h = single_spelled x g h
stands x (command.Repeat n) h = repeat_spelled x n h
stands x (command.AreaCreate a b) h = area_spelled x a b h
stands x (command.Implicit on) h = implicit_spelled x on
stands x _ h = absurd h

-- the spelling of a command is a whole unit that says it
abbrev pub Spells : Context → Command → Type 0
Spells x c = unit x (spelling c) ≡ Some (record { said = Says c; next = context_after x c })

whole_either : (b : Bool) → is_whole (cond b Longer Whole) ≡ true
whole_either true = refl
whole_either false = refl

pub spelled : (x : Context) (c : Command) → IsSpelled x c → Spells x c
unfolding unit
spelled x c h = rw (stands x c h, whole_either (may_grow c)) refl

longer_either : (b : Bool) → is_longer (cond b Longer Whole) ≡ b
longer_either true = refl
longer_either false = refl

-- and a byte may follow it or not, as said
pub grown : (x : Context) (c : Command) → IsSpelled x c → grows x (spelling c) ≡ may_grow c
unfolding grows
grown x c h = rw (stands x c h) (longer_either (may_grow c))
