use Rattle.cept_parser.proofs.BeginningLemmas.{fits_beginning, beginning_fits, continued_grows}
use Rattle.cept_parser.proofs.GrammarLemmas.{grows_continued}
use Rattle.cept_parser.proofs.laws.beginnings.Goals as goal

pub returns : goal.returns
returns c =
    record {
      fits = λ x u. (fits_beginning x u, beginning_fits x u);
      grows =
          λ x u o e. (grows_continued x u o e, continued_grows x u o e);
    }
