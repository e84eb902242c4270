use Rattle.std.proofs.Common.{◌+◌, List, [], ◌∷◌, ◌++◌, refl, sym, ap, subst, ◌∙◌}
use Rattle.cept_codes.specs.declared.item.Item.{Item}
use Rattle.cept_codes.specs.Command.{IsValidForm}
use Rattle.cept_parser.specs.declared.context.Context.{Context}
use Rattle.cept_parser.specs.Items.{Reading, reading_at}
use Rattle.cept_parser.specs.Waits.{HasLeft}
use Rattle.cept_parser.specs.inside.Waits.{cut_item}
use Rattle.cept_parser.proofs.LongestBeginningLemmas.{waits_fits}
use Rattle.cept_parser.proofs.OneByteMoreLemmas.{read_cut_by}
use Rattle.cept_parser.proofs.ReaderLemmas.{left_after}
use Rattle.cept_parser.proofs.ValidItemLemmas.{cut_sound}
use Rattle.cept_parser.proofs.reader.Reader.break_off.Goals as goal

pub close-requires-clause-pending : goal.close-requires-clause-pending
close-requires-clause-pending c =
    record {
      form = c.requires.may.waits.waits.context.form;
      beside = c.requires.may.waits.beside;
      fits = waits_fits _ _ c.requires.may.waits.waits.waits;
    }

pub begin-requires-clause-idle : goal.begin-requires-clause-idle
begin-requires-clause-idle c =
    let w = c.requires.may.waits.waits in
    let v = (cut_sound _ _ w.context w.bytes (waits_fits _ _ w.waits)).valid.next in
    record {
      none = c.close.ensures.pending;
      free = c.close.ensures.free;
      form = subst (λ (x : Context). IsValidForm x.form) (sym c.close.ensures.context) v.form;
    }

pub returns : goal.returns
returns c =
    let x = c.args.self.now.context in
    let read =
    read_cut_by x c.args.at c.args.self.now.bytes c.args.byte _ _ _ _ c.requires.may.waits.waits.waits c.requires.misfit refl
    c.close.ensures.context (rw (c.from.ensures, c.len.ensures.value) refl) refl in
    record {
      items = c.begin.ensures.items
          ∙ ap (λ (v : List Item). v ++ (reading_at c.close.new.self.context (c.args.at + c.from.result) (c.args.byte
          ∷ [])).items) (c.close.ensures.items
          ∙ ap (λ (v : List Item). v ++ cut_item x c.args.at c.args.self.now.bytes ∷ []) c.requires.may.empty)
          ∙ ap (λ (r : Reading). r.items) (sym read);
      left = subst (λ (r : Reading). HasLeft r c.begin.new.self) (sym read)
          (left_after (cut_item x c.args.at c.args.self.now.bytes ∷ []) _ _ c.begin.ensures.left);
    }
