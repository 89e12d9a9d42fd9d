use Rattle.tokens.proofs.BytesRead.{BytesTo}
use Rattle.tokens.proofs.hexadecimal.read_bytes.Given as goal

abbrev pub invariant-loop-i : goal.invariant-loop-i
invariant-loop-i l = BytesTo l.digits l.initial.kept l.kept l.i
