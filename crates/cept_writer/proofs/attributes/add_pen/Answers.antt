use Rattle.std.proofs.Common.{arith, rules}
use Rattle.cept_codes.specs.declared.attribute.Attr.TheVariants as attrs
use Rattle.cept_writer.specs.AttributeCommands.{attributes_of}
use Rattle.cept_writer.specs.Codes.{code_of}
use Rattle.cept_writer.proofs.PensAdded.{class_added, last_added, set_is}
use Rattle.cept_writer.proofs.attributes.add_pen.Goals as goal

pub returns : goal.returns
unfolding attributes_of
returns c =
    let code = code_of c.args.reach in
    let pen = c.args.pen.now in
    let fore = set_is (λ x. attrs.Fore x) pen.fore _ (λ x a made. search rules) c.map.ensures.cases in
    let back = set_is (λ x. attrs.Back x) pen.back _ (λ x a made. search rules) c.map-2.ensures.cases in
    let flash = set_is (λ x. attrs.Flash x) pen.flash _ (λ x a made. search rules) c.map-3.ensures.cases in
    let conceal = set_is (λ x. attrs.Conceal x) pen.conceal _ (λ x a made. search rules) c.map-4.ensures.cases in
    let lined = set_is (λ x. attrs.Lined x) pen.lined _ (λ x a made. search rules) c.map-5.ensures.cases in
    let boxed = set_is (λ x. attrs.Boxed x) pen.boxed _ (λ x a made. search rules) c.map-6.ensures.cases in
    let size = set_is (λ x. attrs.Size x) pen.size _ (λ x a made. search rules) c.map-7.ensures.cases in
    let invert = set_is (λ x. attrs.Invert x) pen.invert _ (λ x a made. search rules) c.map-8.ensures.cases in
    record {
      commands = class_added (λ x. attrs.Fore x) pen.fore _ code _ _ _ _ fore c.add_set.ensures.commands
          (class_added (λ x. attrs.Back x) pen.back _ code _ _ _ _ back c.add_set-2.ensures.commands
          (class_added (λ x. attrs.Flash x) pen.flash _ code _ _ _ _ flash c.add_set-3.ensures.commands
          (class_added (λ x. attrs.Conceal x) pen.conceal _ code _ _ _ _ conceal c.add_set-4.ensures.commands
          (class_added (λ x. attrs.Lined x) pen.lined _ code _ _ _ _ lined c.add_set-5.ensures.commands
          (class_added (λ x. attrs.Boxed x) pen.boxed _ code _ _ _ _ boxed c.add_set-6.ensures.commands
          (class_added (λ x. attrs.Size x) pen.size _ code _ _ _ _ size c.add_set-7.ensures.commands
          (last_added (λ x. attrs.Invert x) pen.invert _ code _ _ invert c.add_set-8.ensures.commands)))))));
      len = omega (
        arith,
        c.add_set.ensures.len,
        c.add_set-2.ensures.len,
        c.add_set-3.ensures.len,
        c.add_set-4.ensures.len,
        c.add_set-5.ensures.len,
        c.add_set-6.ensures.len,
        c.add_set-7.ensures.len,
        c.add_set-8.ensures.len,
      );
    }
