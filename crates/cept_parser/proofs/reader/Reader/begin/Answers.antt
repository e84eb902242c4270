use Rattle.std.proofs.Common.{ℕ, List, [], ◌∷◌, ◌++◌, sym, ap, subst, ◌∙◌}
use Rattle.std.proofs.lemmas.Bool.{both_ways}
use Rattle.cept_codes.specs.Command.{IsValidForm}
use Rattle.cept_parser.specs.declared.context.Context.{Context}
use Rattle.cept_parser.proofs.GrammarLemmas.{fits_one}
use Rattle.cept_parser.proofs.OneByteMoreLemmas.{whole_left, longer_left, open_left, misfit_told}
use Rattle.cept_parser.proofs.ReaderLemmas.{nothing_beside, open_beside, longer_pattern, open_context, longer_context}
use Rattle.cept_parser.proofs.ReaderLemmas.{whole_fit, open_fit, longer_fit}
use Rattle.cept_parser.proofs.reader.Reader.begin.Goals as goal
use Rattle.cept_parser.proofs.reader.Reader.begin.Goals.{In-Misfit}

pub returns-in-Whole-clause-left : goal.returns-in-Whole-clause-left
returns-in-Whole-clause-left c =
    record {
      context = c.in-Whole.ensures.context whole_fit;
      pending = c.requires.idle.none ∙ whole_left c.args.self.now.context c.args.at (c.args.byte ∷ []) c.in-Whole.ensures.fit;
      beside = nothing_beside _ _ _ _ c.requires.idle.none c.requires.idle.free;
    }

pub returns-in-Open-clause-left : goal.returns-in-Open-clause-left
returns-in-Open-clause-left c =
    let pushed = c.push.ensures ∙ ap (λ (u : List ℕ). u ++ c.args.byte ∷ []) c.requires.idle.none in
    let context = c.in-Open.ensures.context open_fit in
    record {
      context = context;
      pending = pushed ∙ open_left c.args.self.now.context c.args.at (c.args.byte ∷ []) c.in-Open.ensures.fit;
      beside = open_beside c.args.self.now.context _ c.args.byte _ _ _ c.in-Open.ensures.fit
          (context ∙ open_context c.args.self.now.context c.args.at (c.args.byte ∷ []) c.in-Open.ensures.fit) pushed c.requires.idle.free;
    }

pub returns-in-Longer-clause-left : goal.returns-in-Longer-clause-left
returns-in-Longer-clause-left c =
    assumption (c.begin_pattern.ensures.context ∙ c.in-Longer.ensures.context longer_fit, c.begin_pattern.ensures.pending ∙ longer_left c.args.self.now.context c.args.at (c.args.byte ∷ []) c.in-Longer.ensures.fit)

pub begin_pattern-requires-clause-idle : goal.begin_pattern-requires-clause-idle
begin_pattern-requires-clause-idle c =
    record {
      none = c.requires.idle.none;
      free = c.requires.idle.free;
      form = subst (λ (x : Context). IsValidForm x.form) (sym (c.in-Longer.ensures.context longer_fit
          ∙ longer_context c.args.self.now.context c.args.at (c.args.byte ∷ []) c.in-Longer.ensures.fit)) c.requires.idle.form;
    }

pub begin_pattern-requires-clause-pattern : goal.begin_pattern-requires-clause-pattern
begin_pattern-requires-clause-pattern c =
    rw (c.in-Longer.ensures.context longer_fit ∙ longer_context c.args.self.now.context c.args.at (c.args.byte ∷ []) c.in-Longer.ensures.fit)
    (longer_pattern c.args.self.now.context c.args.byte c.in-Longer.ensures.fit)

-- every byte fits where nothing is pending
never : (c : In-Misfit) → ⊥
never c = both_ways _ (misfit_told c.args.self.now.context (c.args.byte ∷ []) c.in-Misfit.ensures.fit) (fits_one c.args.self.now.context c.args.byte)

pub returns-in-Misfit-clause-items : goal.returns-in-Misfit-clause-items
returns-in-Misfit-clause-items c = absurd (never c)

pub returns-in-Misfit-clause-left : goal.returns-in-Misfit-clause-left
returns-in-Misfit-clause-left c = absurd (never c)
