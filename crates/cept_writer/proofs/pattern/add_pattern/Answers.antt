use Rattle.std.proofs.Common.{◌≡◌, ◌∙◌, ◌++◌, ap, arith}
use Rattle.std.specs.List.{flat_map, range_with_len}
use Rattle.cept_parser.specs.Spelling.{plane_bytes, pattern_bytes}
use Rattle.cept_writer.proofs.PatternsSpelled.{few_planes}
use Rattle.cept_writer.proofs.WrittenInTurn.{one_added}
use Rattle.cept_writer.proofs.pattern.add_pattern.Goals as goal

pub add_plane-requires-clause-room : goal.add_plane-requires-clause-room
add_plane-requires-clause-room c =
    omega (arith, few_planes c.args.pattern.now c.requires.valid, c.loop-plane.invariant.len, c.requires.room)

pub loop-plane-preserved : goal.loop-plane-preserved
loop-plane-preserved c = record {
  text =
      one_added (plane_bytes c.args.pattern.now) 0 c.loop-plane.plane c.loop-plane.plane _ _ _ (omega arith)
      c.loop-plane.invariant.text c.add_plane.ensures.text;
  len = omega (arith, c.add_plane.ensures.len, c.loop-plane.invariant.len);
}

pub returns : goal.returns
unfolding pattern_bytes
returns c =
    let all : c.loop-plane.plane ≡ c.args.pattern.now.planes = omega arith in
    record {
      text = c.loop-plane.invariant.text
          ∙ ap (λ n. c.args.text.now.items ++ flat_map (plane_bytes c.args.pattern.now) (range_with_len 0 n)) all;
      len = omega (arith, few_planes c.args.pattern.now c.requires.valid, c.loop-plane.invariant.len, all);
    }
