use Rattle.std.proofs.Common.{◌≡◌, ◌+◌, List, [], ◌∷◌, ◌++◌, refl, ap, sym, subst, arith, ◌∙◌}
use Rattle.cept_codes.specs.declared.item.Item.{Item}
use Rattle.cept_parser.specs.Items.{items}
use Rattle.cept_parser.specs.State.{Leads, ParserState, parser_after, reading_with}
use Rattle.cept_parser.specs.Valid.{AreValid, AreMeasured}
use Rattle.cept_parser.proofs.ValidItemLemmas.{read_sound, bytes_more}
use Rattle.cept_parser.proofs.WaitingLemmas.{items_lead, leads_on, reading_waits, waits_small}
use Rattle.cept_parser.proofs.parser.Parser.push_into.Goals as goal
use Rattle.cept_parser.proofs.parser.Parser.push_into.Goals.{After-read}

pub invariant_of-self : goal.invariant_of-self
invariant_of-self c =
    record {
      waits = rw (
        c.read.ensures.left.context,
        c.read.ensures.left.pending,
      ) (reading_waits _ c.self.inside.place _ _ c.args.byte c.self.invariant.waits (omega arith)
          c.ranges.byte.fits);
      beside = c.read.ensures.left.beside;
    }

-- what is said of the fields, said of the value
answer : (c : After-read) → c.read.new.closed ≡ (reading_with c.args.self.now c.args.byte).items
answer c =
    c.read.ensures.items
    ∙ rw (← c.self.view_is) refl

state : (c : After-read) → record {
  place = c.self.inside.place + 1;
  context = c.read.new.self.context;
  pending = c.read.new.self.bytes;
  finished = c.self.inside.finished;
} ≡ parser_after c.args.self.now c.args.byte
state c =
    rw (
      ← c.self.view_is,
      c.read.ensures.left.context,
      c.read.ensures.left.pending,
    ) refl

pub returns : goal.returns
returns c =
    let sound = read_sound _ _ _ c.self.invariant.waits.context
    (bytes_more _ _ c.self.invariant.waits.bytes c.ranges.byte.fits) in
    record {
      items = λ b l. items_lead b _ c.args.byte l ∙ ap (λ (is : List Item). items b ++ is) (sym (answer c.before));
      leads = λ b l. subst (Leads (b ++ c.args.byte ∷ [])) (sym (state c.before)) (leads_on b _ c.args.byte l);
      answer = answer c.before;
      state = state c.before;
      place = ap (λ (s : ParserState). s.place + 1) c.self.view_is;
      still_running = ap (λ (s : ParserState). s.finished) c.self.view_is ∙ c.requires.running;
      few_pending = rw c.read.ensures.left.pending (waits_small _ _ _
          (reading_waits _ c.self.inside.place _ _ c.args.byte c.self.invariant.waits (omega arith) c.ranges.byte.fits));
      valid = subst AreValid (sym c.read.ensures.items) sound.valid;
      measured = subst AreMeasured (sym c.read.ensures.items) sound.measured;
    }
