use Rattle.std.proofs.Common.{ℕ, List, ap, ◌∙◌}
use Rattle.std.proofs.lemmas.Bool.{both_ways}
use Rattle.cept_parser.specs.Fit.{Answer}
use Rattle.cept_parser.specs.Grammar.{unit}
use Rattle.cept_parser.specs.inside.Waits.{said_at_end}
use Rattle.cept_parser.proofs.OneByteMoreLemmas.{end_answer}
use Rattle.cept_parser.proofs.ReaderLemmas.{beside_free, loaded, loaded_end}
use Rattle.cept_parser.proofs.reader.Reader.said_at_end.Goals as goal

pub fit_of-requires : goal.fit_of-requires
fit_of-requires c =
    record {
      form = c.requires.form;
      other = λ h. absurd (both_ways _ (beside_free _ _ _ _ c.requires.beside c.if-self.false)
          (rw (← c.as_slice.ensures.value) h));
    }

pub returns : goal.returns
returns c =
    ap (λ (a : Answer). a.said) c.fit_of.ensures ∙ end_answer _ _
    ∙ ap (λ (u : List ℕ). said_at_end (unit c.args.self.now.context u)) c.as_slice.ensures.value

pub returns-then-self : goal.returns-then-self
returns-then-self c =
    let k = loaded _ _ _ _ c.requires.beside c.if-self.true in
    rw (
      c.code-code.ensures k.code k.mode,
      c.pattern.ensures.unit _ _ (c.requires.beside.leads c.if-self.true),
    ) (loaded_end _ _ k)
