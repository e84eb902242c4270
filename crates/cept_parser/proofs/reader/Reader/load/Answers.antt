use Rattle.std.proofs.Common.{ℕ, ◌-◌, List, [], ◌∷◌, ◌++◌, length, sym, ap, arith, ◌∙◌}
use Rattle.cept_codes.specs.declared.item.Item.{Item}
use Rattle.cept_parser.specs.Grammar.{unit}
use Rattle.cept_parser.specs.Items.{Reading}
use Rattle.cept_parser.specs.inside.Waits.{outcome_at_misfit, cut_item}
use Rattle.cept_parser.proofs.OneByteMoreLemmas.{read_closed, read_as_longer}
use Rattle.cept_parser.proofs.ReaderLemmas.{HasTaken, one_taken, nothing_beside, full_fit, grow_fit}
use Rattle.cept_parser.proofs.ReaderLemmas.{none_taken, start_after, may_from}
use Rattle.cept_parser.proofs.WaitingLemmas.{waits_small}
use Rattle.cept_parser.proofs.reader.Reader.load.Goals as goal
use Rattle.cept_parser.proofs.reader.Reader.load.Goals.{After-full}

pub push-requires : goal.push-requires
push-requires c = let w = waits_small _ _ _ c.requires.may.waits.waits in omega arith

-- the bytes with the one that was taken
abbrev all : After-full → List ℕ
all c = c.args.self.now.bytes ++ c.args.byte ∷ []

-- the place of the first of them
abbrev start : After-full → ℕ
start c = c.args.place - length c.args.self.now.bytes

taken : (c : After-full) → HasTaken c.args.self.now.context (all c) c.args.self.now.loading c.feed.new.self c.full.result
taken c =
    one_taken _ c.args.self.now.bytes c.args.byte _ _ _ _ c.requires.may.waits.beside c.requires.loading
    (c.feed.ensures.leads _ _ (c.requires.may.waits.beside.leads c.requires.loading) c.if-feed.true)
    (λ g a u k. c.full.ensures.grows g a u k)

pub returns-then-full : goal.returns-then-full
returns-then-full c =
    let x = c.args.self.now.context in
    let t = taken c.before.before.before.before.before in
    let from = start_after c.args.place c.start-at.result c.args.self.now.bytes c.args.byte c.push.new.self
    c.requires.may.waits.waits.counted c.push.ensures c.start-at.ensures in
    let read = read_closed x (start c.before.before.before.before.before) (all c.before.before.before.before.before)
    (full_fit x (all c.before.before.before.before.before) _ _ t.beside c.requires.loading (sym c.if-full.true ∙ t.says)) in
    record {
      items = c.close_pattern.ensures.items
          ∙ ap (λ (v : List Item). v ++ cut_item x c.start-at.result c.push.new.self ∷ []) c.requires.may.empty
          ∙ ap (λ (k : ℕ). cut_item x k c.push.new.self ∷ []) from
          ∙ ap (λ (u : List ℕ). cut_item x (start c.before.before.before.before.before) u ∷ []) c.push.ensures
          ∙ ap (λ (r : Reading). r.items) (sym read);
      left = record {
        context = c.close_pattern.ensures.context
            ∙ ap (λ (u : List ℕ). (outcome_at_misfit x (unit x u)).next) c.push.ensures
            ∙ ap (λ (r : Reading). r.context) (sym read);
        pending = c.close_pattern.ensures.pending ∙ ap (λ (r : Reading). r.pending) (sym read);
        beside = nothing_beside _ _ _ _ c.close_pattern.ensures.pending c.close_pattern.ensures.free;
      };
    }

pub returns-else-full : goal.returns-else-full
returns-else-full c =
    let t = taken c.before in
    let word = grow_fit c.args.self.now.context (all c.before) _ _ t.beside c.requires.loading (sym c.if-full.false ∙ t.says) in
    let read = read_as_longer c.args.self.now.context (start c.before) (all c.before) word in
    record {
      items = c.requires.may.empty ∙ ap (λ (r : Reading). r.items) (sym read);
      left = record {
        context = ap (λ (r : Reading). r.context) (sym read);
        pending = c.push.ensures ∙ ap (λ (r : Reading). r.pending) (sym read);
        beside = rw c.push.ensures t.beside;
      };
    }

pub break_off-requires-clause-may : goal.break_off-requires-clause-may
break_off-requires-clause-may c =
    may_from _ c.args.place c.start-from.result _
    (record { waits = c.requires.may.waits.waits; beside = rw (c.feed.ensures.stays c.if-feed.false) c.requires.may.waits.beside })
    c.requires.may.few c.requires.may.empty c.start-from.ensures

pub break_off-requires-clause-misfit : goal.break_off-requires-clause-misfit
break_off-requires-clause-misfit c =
    none_taken c.args.self.now.context _ c.args.byte _ _ c.requires.may.waits.beside c.requires.loading
    (sym (c.feed.ensures.unit _ _ (c.requires.may.waits.beside.leads c.requires.loading)) ∙ c.if-feed.false)
