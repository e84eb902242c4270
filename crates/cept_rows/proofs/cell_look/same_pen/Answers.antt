use Rattle.std.proofs.Common.{◌≡◌, ◌&&◌, true, sym, subst, ◌∙◌, refl}
use Rattle.std.specs.Bool.{IsTrue}
use Rattle.std.proofs.lemmas.Bool.{not-false}
use Rattle.cept_codes.specs.Same.{same_pen}
use Rattle.cept_rows.proofs.cell_look.same_pen.Goals as goal

pub returns : goal.returns
returns c last =
    let a = c.args.a.now in
    let b = c.args.b.now in
    let fore = not-false _ (sym c.ne.ensures ∙ c.if-ne.false) in
    let back = not-false _ (sym c.ne-2.ensures ∙ c.if-ne-2.false) in
    let flash = not-false _ (sym c.ne-3.ensures ∙ c.if-ne-3.false) in
    let conceal = not-false _ (sym c.ne-4.ensures ∙ c.if-ne-4.false) in
    let lined = not-false _ (sym c.ne-5.ensures ∙ c.if-ne-5.false) in
    let boxed = not-false _ (sym c.ne-6.ensures ∙ c.if-ne-6.false) in
    let size = not-false _ (sym c.ne-7.ensures ∙ c.if-ne-7.false) in
    let invert = sym c.eq.ensures ∙ last in
    let same : same_pen a b ≡ true =
    λ i. fore i && (back i && (flash i && (conceal i && (lined i && (boxed i && (size i && invert i)))))) in
    (c.pens_compare_by_their_fields.ensures.pen a b).0 (subst IsTrue (sym same) refl)
