use Rattle.std.proofs.Common.{sym, ap, ◌∙◌, arith}
use Rattle.cept_codes.specs.Look.{blank_look}
use Rattle.cept_codes.proofs.Laws.{HasMadeEntries-none}
use Rattle.cept_rows.proofs.RowsAlone.{shown_alone}
use Rattle.cept_rows.proofs.resolving.each_first.Goals as goal

pub returns-then-not-is_single_beneath-clause-looks : goal.returns-then-not-is_single_beneath-clause-looks
returns-then-not-is_single_beneath-clause-looks c =
    HasMadeEntries-none blank_look 1 40 _ _ c.columns_by_type.ensures.columns

pub returns-clause-looks : goal.returns-clause-looks
returns-clause-looks c =
    let made = c.each_plain.ensures.looks in
    let single = c.is_single_beneath.ensures in
    record {
      long = made.long;
      made = λ k low high below.
          made.made k low high below
          ∙ shown_alone c.args.source.now c.args.above.now c.each_plain.result
          (single.uncovered c.if-not-is_single_beneath.false) c.each_plain.ensures.size
          (ap (λ f. f.size) (sym c.requires) ∙ single.single c.if-not-is_single_beneath.false) k low
          (omega (arith, below, c.each_plain.ensures.from_left));
      left = made.left;
    }
