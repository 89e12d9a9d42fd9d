use Rattle.std.proofs.Common.{arith}
use Rattle.replies.proofs.PutOn.{hex-length}
use Rattle.dometrace.proofs.pieces.put_digits.Goals as goal

pub returns : goal.returns
returns c = omega (arith, c.put_hex.ensures.up_to, hex-length c.args.bytes.now)
