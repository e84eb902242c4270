use Rattle.std.proofs.Common.{[], ◌∷◌, ◌++◌, ap, arith, sym, ◌∙◌}
use Rattle.std.proofs.lemmas.List.{length-set, take_more_set}
use Rattle.std.proofs.lemmas.List.FromFn.{map-range_with_len_more}
use Rattle.cept_live.specs.Colours.{first_entries}
use Rattle.cept_live.specs.declared.notice.Colour.{Colour}
use Rattle.cept_live.specs.Notices.{colour_of}
use Rattle.cept_profile.specs.PageParts.{paint_in}
use Rattle.cept_live.proofs.colours.colours_of.Goals as goal

pub loop-i-preserved : goal.loop-i-preserved
loop-i-preserved c =
    let so_far = c.loop-i.invariant in
    let paints = c.args.screen.now.page.paints in
    record {
      places = length-set c.loop-i.colours c.from.result c.colour_of.result ∙ so_far.places;
      made = rw c.from.ensures (take_more_set c.loop-i.colours c.loop-i.i c.colour_of.result
          (omega (arith, so_far.places, c.loop-i-test.true))
          ∙ ap (λ l. l ++ c.colour_of.result ∷ []) so_far.made
          ∙ ap (λ (x : Colour). first_entries paints c.loop-i.i ++ x ∷ [])
          (c.colour_of.ensures ∙ ap colour_of c.colour-in-loop-i.ensures.paint)
          ∙ sym (map-range_with_len_more (λ i. colour_of (paint_in paints i)) 0 c.loop-i.i c.loop-i.i (omega arith)));
    }
