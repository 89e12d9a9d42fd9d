use Rattle.replies.proofs.PutOn.{HexTo}
use Rattle.replies.proofs.render.put_hex.Given as goal

abbrev pub invariant-loop-i : goal.invariant-loop-i
invariant-loop-i l = HexTo l.bytes l.initial.out l.out l.at l.i
