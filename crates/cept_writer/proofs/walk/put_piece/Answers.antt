use Rattle.std.proofs.Common.{◌++◌, ◌∙◌, ap, sym, subst, arith}
use Rattle.std.proofs.lemmas.Option.{MatchOption-at_some}
use Rattle.cept_codes.specs.Place.{OnScreen, Place}
use Rattle.cept_codes.proofs.Laws.{OnScreen-place_of}
use Rattle.cept_profile.specs.Valid.{AllValid}
use Rattle.cept_writer.specs.SegmentCommands.{PlacedCell}
use Rattle.cept_writer.specs.SegmentPieces.{piece_with}
use Rattle.cept_writer.proofs.PiecesValid.{piece_valid}
use Rattle.cept_writer.proofs.walk.put_piece.Goals as goal

pub put_commands_in-requires : goal.put_commands_in-requires
put_commands_in-requires g c =
    let a : PlacedCell = record { place = c.unwrap-at.result; cell = c.args.cell.now } in
    let at = MatchOption-at_some _ _ c.unwrap-at.result c.unwrap-at.ensures c.from_number.ensures.place in
    let is = c.as_slice.ensures.commands ∙ c.add_piece.ensures
    ∙ ap (λ l. l ++ piece_with c.args.before c.args.copies a c.args.after c.args.cell.now.what) c.clear.ensures in
    record {
      few = c.as_slice.ensures.few;
      valid = subst AllValid (sym is)
          (piece_valid c.args.before c.args.copies a c.args.after c.args.cell.now.what c.requires.few
          (subst (λ (q : Place). OnScreen q.row q.column) (sym at) (OnScreen-place_of c.args.n (omega (arith, c.requires.place))))
          c.requires.valid);
    }
