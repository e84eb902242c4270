use Rattle.std.proofs.Common.{subst}
use Rattle.cept_parser.specs.Valid.{IsValidMode}
use Rattle.cept_parser.proofs.ValidOutcomeLemmas.{start_valid, unit_valid}
use Rattle.cept_parser.proofs.ValidItemLemmas.{read_sound}
use Rattle.cept_parser.proofs.laws.contexts.Goals as goal

pub returns : goal.returns
returns c =
    record {
      start = start_valid;
      said = λ x u o v b e. (unit_valid x u o v b e).said;
      next = λ x u o v b e. (unit_valid x u o v b e).next;
      reading = λ x at b v h. (read_sound x at b v h).context;
      table_run = λ x i v e. subst IsValidMode e v.mode;
      dclut_run = λ x i v e. subst IsValidMode e v.mode;
      drcs_run = λ x k v e. subst IsValidMode e v.mode;
    }
