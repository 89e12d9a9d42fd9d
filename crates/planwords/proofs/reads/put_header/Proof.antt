-- `planwords::reads::put_header` meets its contract. Assumes nothing.
use native.Mathlib.Omega.{arith}
use borrow.Author.Rules.{rules}
use Rattle.calls.proofs.Stores.{puts_then}
use Rattle.planwords.proofs.reads.put_header.Statement.{statement}
use Rattle.planwords.proofs.reads.put_header.Tie as tie

put-requires : tie.Need-put-word-requires
put-requires c κs = search rules

put-number-requires : tie.Need-put_number-f-requires
put-number-requires c κs = search rules

put-number-requires-2 : tie.Need-put_number-w-requires
put-number-requires-2 c κs = search rules

put-number-requires-3 : tie.Need-put_number-requires
put-number-requires-3 c κs = search rules

same_length : tie.Need-shape_of-out
same_length c = search rules

returns : tie.Need-returns
returns c =
    let third = c.before.before in
    let second = third.before.before.before.before in
    let first = second.before.before.before.before in
    let word = first.before.before.before.before in
    let frames = puts_then (puts_then word.put-word.ensures first.put_number-f.ensures.0) second.put_number-w.ensures.0 in
    (puts_then frames third.put_number.ensures.0, omega (arith, word.put-word.ensures.up_to))

pub put_header_spec : {M : Type 1} → statement M
put_header_spec =
    tie.close
    (tie.spec
    put-requires
    put-number-requires
    put-number-requires-2
    put-number-requires-3
    same_length
    returns)
