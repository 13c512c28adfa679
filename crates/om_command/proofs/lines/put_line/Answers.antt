use Rattle.std.proofs.Common.{refl, sym, subst}
use Rattle.std.specs.Prelude.{IsErr}
use Rattle.om_command.proofs.Adding.{adds_more}
use Rattle.om_command.proofs.Pieces.{piece_put, piece_failed}
use Rattle.om_command.proofs.lines.put_line.Goals as goal

pub returns-in-Err : goal.returns-in-Err
returns-in-Err g c =
    piece_failed c.args.line.now c.loop-piece.piece-index _ c.loop-piece-test.true refl (subst IsErr (sym c.in-Err.is) refl)
    (adds_more c.loop-piece.invariant c.put_piece.ensures)

pub loop-piece-preserved : goal.loop-piece-preserved
loop-piece-preserved g c =
    piece_put c.args.line.now c.loop-piece.piece-index _ c.put_piece.result c.loop-piece-test.true c.in-Ok.is
    (adds_more c.loop-piece.invariant c.put_piece.ensures)
