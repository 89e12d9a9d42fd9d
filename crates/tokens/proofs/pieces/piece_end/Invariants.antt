use Rattle.tokens.proofs.FirstPiece.{InPiece}
use Rattle.tokens.proofs.pieces.piece_end.Given as goal

abbrev pub invariant-loop-at : goal.invariant-loop-at
invariant-loop-at l = InPiece l.text l.from l.at
