use Rattle.std.proofs.Common.{arith}
use Rattle.tokens.proofs.FirstPiece.{piece-within}
use Rattle.planwords.proofs.reads.after_word.Goals as goal

pub returns-else-end-line-clause-most : goal.returns-else-end-line-clause-most
returns-else-end-line-clause-most c = omega (arith, piece-within c.args.line.now)
