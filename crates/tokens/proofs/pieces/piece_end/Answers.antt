use Rattle.std.proofs.Common.{◌∙◌, arith}
use Rattle.tokens.proofs.FirstPiece.{piece-starts, piece-goes-on, ends-at-space, ends-past-end}
use Rattle.tokens.proofs.pieces.piece_end.Goals as goal

pub loop-at-init : goal.loop-at-init
loop-at-init c = piece-starts _ _

pub loop-at-preserved : goal.loop-at-preserved
loop-at-preserved c = piece-goes-on c.loop-at.invariant (omega arith) c.if-text-at-eq32.false

pub returns-then-text-at-eq32 : goal.returns-then-text-at-eq32
returns-then-text-at-eq32 c = ends-at-space c.loop-at.invariant (omega arith) c.if-text-at-eq32.true

pub returns : goal.returns
returns c = c.max.ensures ∙ ends-past-end c.loop-at.invariant c.loop-at-test.false c.loop-at.auto.at-end
