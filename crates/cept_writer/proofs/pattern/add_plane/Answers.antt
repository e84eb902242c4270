use Rattle.std.proofs.Common.{◌≡◌, ◌+◌, ◌∙◌, ◌++◌, ◌∷◌, [], ap, arith, append_assoc}
use Rattle.std.specs.List.{flat_map, range_with_len}
use Rattle.cept_parser.specs.Spelling.{line_bytes, plane_bytes}
use Rattle.cept_writer.proofs.PatternsSpelled.{few_lines}
use Rattle.cept_writer.proofs.WrittenInTurn.{one_added}
use Rattle.cept_writer.proofs.pattern.add_plane.Goals as goal

pub add_line-requires-clause-room : goal.add_line-requires-clause-room
add_line-requires-clause-room c =
    omega (arith, few_lines c.args.pattern.now c.requires.valid, c.loop-line.invariant.len, c.requires.room)

pub loop-line-preserved : goal.loop-line-preserved
loop-line-preserved c = record {
  text =
      one_added (line_bytes c.args.pattern.now c.args.plane) 0 c.loop-line.line c.loop-line.line _ _ _ (omega arith)
      c.loop-line.invariant.text c.add_line.ensures.text;
  len = omega (arith, c.add_line.ensures.len, c.loop-line.invariant.len);
}

pub returns : goal.returns
unfolding plane_bytes
returns c =
    let all : c.loop-line.line ≡ c.args.pattern.now.h = omega arith in
    record {
      text = c.loop-line.invariant.text
          ∙ append_assoc c.args.text.now.items ((0x30 + c.args.plane) ∷ []) _
          ∙ ap (λ n. c.args.text.now.items ++ (0x30 + c.args.plane) ∷ flat_map (line_bytes c.args.pattern.now c.args.plane) (range_with_len 0 n)) all;
      len = omega (arith, few_lines c.args.pattern.now c.requires.valid, c.loop-line.invariant.len, all);
    }
