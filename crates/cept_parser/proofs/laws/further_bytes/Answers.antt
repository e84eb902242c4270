use Rattle.cept_parser.proofs.GrammarLemmas.{fits_one, fits_front, whole_again, plain_fits, whole_ends, refused_ends}
use Rattle.cept_parser.proofs.laws.further_bytes.Goals as goal

pub returns : goal.returns
returns c =
    record {
      single = fits_one;
      shorter = fits_front;
      again = λ x u o d. whole_again x u d o;
      plain =
          plain_fits;
      refused = λ x u o d e r. whole_ends x u o d e (refused_ends x u o e r);
    }
