-- `planwords::reads::put_entry` meets its contract. Assumes nothing.
use native.Mathlib.Omega.{arith}
use borrow.Author.Rules.{rules}
use Rattle.calls.proofs.Stores.{puts_then, puts-same}
use Rattle.planwords.proofs.SpacedNumbers.{four-spaced}
use Rattle.planwords.proofs.reads.put_entry.Statement.{statement}
use Rattle.planwords.proofs.reads.put_entry.Tie as tie

cast-put-number : tie.Need-overflow_cast-e
cast-put-number c = search rules

put-number-requires : tie.Need-put_number-cells-requires
put-number-requires c κs = search rules

cast-put-number-2 : tie.Need-overflow_cast-e-2
cast-put-number-2 c = search rules

put-number-requires-2 : tie.Need-put_number-source-requires
put-number-requires-2 c κs = search rules

cast-put-number-3 : tie.Need-overflow_cast-e-3
cast-put-number-3 c = search rules

put-number-requires-3 : tie.Need-put_number-destination-requires
put-number-requires-3 c κs = search rules

cast-put-number-4 : tie.Need-overflow_cast-e-4
cast-put-number-4 c = search rules

put-number-requires-4 : tie.Need-put_number-requires
put-number-requires-4 c κs = search rules

same_length : tie.Need-shape_of-out
same_length c = search rules

returns : tie.Need-returns
returns c =
    let fourth = c.before.before in
    let third = fourth.before.before.before.before.before in
    let second = third.before.before.before.before.before in
    let first = second.before.before.before.before.before in
    let cells = puts_then first.put_number-cells.ensures.0 second.put_number-source.ensures.0 in
    let nodes = puts_then (puts_then cells third.put_number-destination.ensures.0) fourth.put_number.ensures.0 in
    (puts-same (four-spaced _ _ _ _) nodes, omega arith)

pub put_entry_spec : {M : Type 1} → statement M
put_entry_spec =
    tie.close
    (tie.spec
    cast-put-number
    put-number-requires
    cast-put-number-2
    put-number-requires-2
    cast-put-number-3
    put-number-requires-3
    cast-put-number-4
    put-number-requires-4
    same_length
    returns)
