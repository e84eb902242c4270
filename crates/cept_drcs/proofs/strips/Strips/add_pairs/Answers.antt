use Rattle.std.proofs.Common.{refl, arith}
use Rattle.cept_drcs.proofs.StripLemmas.{HasPairs-none, HasPairs-more, view_long, pairs_view, pairs_kept}
use Rattle.cept_drcs.proofs.strips.Strips.add_pairs.Goals as goal

pub loop-k-init : goal.loop-k-init
loop-k-init c = (
  refl,
  HasPairs-none c.self.inside.room c.from-count.result c.args.left c.args.right (λ j h.
      c.self.invariant.clear j (omega (arith, h, c.from-count.ensures))),
)

pub loop-k-preserved : goal.loop-k-preserved
loop-k-preserved c =
    let pairs = c.loop-k.invariant.1 in
    let long = view_long c.self.inside.room c.args.self.now _ c.self.view_is c.self.invariant.few c.self.told in (
      c.loop-k.invariant.0,
      HasPairs-more c.self.inside.room c.loop-k.self-inside.room c.from-count.result c.loop-k.k c.args.left
          c.args.right _ _ pairs (omega (arith, pairs.long, long)) refl refl,
    )

pub returns : goal.returns
returns c =
    pairs_view c.self.inside.room c.loop-k.self-inside.room c.args.self.now c.self.inside.count c.from-count.result
    c.loop-k.self-inside.count c.loop-k.k c.args.times c.args.left c.args.right c.loop-k.invariant.1
    c.from-count.ensures c.loop-k.invariant.0 (omega arith) c.self.view_is

pub invariant_of-self : goal.invariant_of-self
invariant_of-self c =
    let long = view_long c.self.inside.room c.args.self.now _ c.self.view_is c.self.invariant.few c.self.told in
    pairs_kept c.self.inside.room c.loop-k.self-inside.room c.args.self.now c.self.inside.count c.from-count.result
    c.loop-k.self-inside.count c.loop-k.k c.args.times c.args.left c.args.right c.loop-k.invariant.1
    c.from-count.ensures c.loop-k.invariant.0 (omega arith) (omega (arith, long))
