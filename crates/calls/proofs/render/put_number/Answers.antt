use Rattle.std.proofs.Common.{arith}
use Rattle.calls.proofs.Stores.{puts_then, puts-same}
use Rattle.calls.proofs.Digits.{digit_by_digit}
use Rattle.calls.proofs.render.put_number.Goals as goal

-- the bytes that the calls put, one after another, are the line
pub returns-clause-put : goal.returns-clause-put
returns-clause-put c =
    puts-same (digit_by_digit c.args.letter c.args.n (omega arith))
    (puts_then (puts_then (puts_then (puts_then c.put_pair-a.ensures c.put_digit-b.ensures.put) c.put_digit-c.ensures.put) c.put_digit-d.ensures.put) c.put_pair.ensures)
