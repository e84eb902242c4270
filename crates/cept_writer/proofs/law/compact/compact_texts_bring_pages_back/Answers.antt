use Rattle.std.proofs.Common.{◌≡◌, ap, ◌∙◌}
use Rattle.cept_parser.specs.Items.{commands}
use Rattle.cept_profile.specs.State.{Core, core, state}
use Rattle.cept_profile.specs.Valid.{IsValidCore}
use Rattle.cept_writer.specs.CompactCommands.{compact_text}
use Rattle.cept_writer.proofs.law.compact.compact_texts_bring_pages_back.Goals as goal

pub returns : goal.returns
returns c =
    let back : (k : Core) → IsValidCore k → core (commands (compact_text k)) ≡ k = λ k v.
    ap core (c.compact_pages_are_spelled.ensures.commands k v) ∙ c.compact_pages_are_restored.ensures k v in
    record {
      core = back;
      always = λ history all.
          back (core history)
          (c.validity_is_kept.ensures.core (state history) (c.validity_is_kept.ensures.always history all));
      same = λ k v. ap compact_text (back k v);
    }
