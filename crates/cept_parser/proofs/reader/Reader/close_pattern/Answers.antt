use Rattle.std.proofs.Common.{[], ◌∷◌, ◌++◌, sym, ap, ◌∙◌}
use Rattle.cept_codes.specs.declared.item.Item.{Item}
use Rattle.cept_parser.proofs.ReaderLemmas.{loaded, loaded_item, loaded_next}
use Rattle.cept_parser.proofs.reader.Reader.close_pattern.Goals as goal

pub returns : goal.returns
returns c =
    let k = loaded _ _ _ _ c.requires.beside c.requires.loading in
    record {
      items = c.push.ensures ∙ ap (λ (i : Item). c.args.closed.now ++ i ∷ []) (rw (
        c.len.ensures.value,
        c.code-code.ensures k.code k.mode,
        c.pattern.ensures.unit _ _ (c.requires.beside.leads c.requires.loading),
      ) (sym (loaded_item _ c.args.at _ k)));
      context = c.clear.ensures.context ∙ rw (c.code-code.ensures k.code k.mode) (loaded_next _ _ k);
      pending = c.clear.ensures.pending;
      free = c.clear.ensures.free;
    }
