use Rattle.std.proofs.Common.{◌≡◌, ℕ, List, false, ap, arith, ◌∙◌}
use Rattle.std.proofs.lemmas.Bool.{both_ways}
use Rattle.cept_parser.specs.Items.{reading_at}
use Rattle.cept_parser.specs.inside.Fit.{word}
use Rattle.cept_parser.specs.Waits.{in_pattern}
use Rattle.cept_parser.proofs.OneByteMoreLemmas.{whole_left, longer_left, open_left}
use Rattle.cept_parser.proofs.PatternLemmas.{pattern_more}
use Rattle.cept_parser.proofs.ReaderLemmas.{beside_free, nothing_beside, more_beside, open_context, longer_context}
use Rattle.cept_parser.proofs.ReaderLemmas.{one_reading, whole_fit, open_fit, longer_fit}
use Rattle.cept_parser.proofs.WaitingLemmas.{waits_small}
use Rattle.cept_parser.proofs.reader.Reader.go_on.Goals as goal
use Rattle.cept_parser.proofs.reader.Reader.go_on.Goals.{After-as_slice}

pub push-requires : goal.push-requires
push-requires c = let w = waits_small _ _ _ c.requires.may.waits.waits in omega arith

-- the bytes with one more are no pattern either
other : (c : After-as_slice) → in_pattern c.args.self.now.context c.as_slice.result.now ≡ false
other c =
    ap (in_pattern c.args.self.now.context) (c.as_slice.ensures.value ∙ c.push.ensures)
    ∙ pattern_more c.args.self.now.context _ _ c.requires.some ∙ beside_free _ _ _ _ c.requires.may.waits.beside c.requires.free

pub settle-requires-clause-other : goal.settle-requires-clause-other
settle-requires-clause-other c h = absurd (both_ways _ (other c) h)

pub returns-in-Whole : goal.returns-in-Whole
returns-in-Whole c =
    let all = c.as_slice.ensures.value ∙ c.push.ensures in
    record {
      items = one_reading _ c.args.at _ _ _ _ c.requires.may.empty all (c.in-Whole.ensures.items whole_fit);
      left = record {
        context = c.in-Whole.ensures.context whole_fit
            ∙ ap (λ (u : List ℕ). (reading_at c.args.self.now.context c.args.at u).context) all;
        pending = c.clear.ensures ∙ whole_left _ c.args.at _ (c.in-Whole.ensures.fit ∙ ap (word c.args.self.now.context) all);
        beside = nothing_beside _ _ _ _ c.clear.ensures c.requires.free;
      };
    }

pub returns-in-Open : goal.returns-in-Open
returns-in-Open c =
    let all = c.as_slice.ensures.value ∙ c.push.ensures in
    let told = c.in-Open.ensures.fit ∙ ap (word c.args.self.now.context) all in
    let context = c.in-Open.ensures.context open_fit
    ∙ ap (λ (u : List ℕ). (reading_at c.args.self.now.context c.args.at u).context) all in
    record {
      items = one_reading _ c.args.at _ _ _ _ c.requires.may.empty all (c.in-Open.ensures.items open_fit);
      left = record {
        context = context;
        pending = c.push.ensures ∙ open_left _ c.args.at _ told;
        beside = more_beside c.args.self.now.context _ c.args.self.now.bytes c.args.byte _ _ _ _
            c.requires.may.waits.beside c.requires.free c.requires.some (context ∙ open_context _ c.args.at _ told)
            c.push.ensures;
      };
    }

pub returns-in-Longer : goal.returns-in-Longer
returns-in-Longer c =
    let all = c.as_slice.ensures.value ∙ c.push.ensures in
    let told = c.in-Longer.ensures.fit ∙ ap (word c.args.self.now.context) all in
    let context = c.in-Longer.ensures.context longer_fit
    ∙ ap (λ (u : List ℕ). (reading_at c.args.self.now.context c.args.at u).context) all in
    record {
      items = one_reading _ c.args.at _ _ _ _ c.requires.may.empty all (c.in-Longer.ensures.items longer_fit);
      left = record {
        context = context;
        pending = c.push.ensures ∙ longer_left _ c.args.at _ told;
        beside = more_beside c.args.self.now.context _ c.args.self.now.bytes c.args.byte _ _ _ _
            c.requires.may.waits.beside c.requires.free c.requires.some (context ∙ longer_context _ c.args.at _ told)
            c.push.ensures;
      };
    }
