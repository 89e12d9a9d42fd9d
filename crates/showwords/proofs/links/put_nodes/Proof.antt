-- `showwords::links::put_nodes` meets its contract. Assumes nothing.
use mathlib.Core.Path.{ap}
use native.Mathlib.Omega.{arith}
use Rattle.calls.proofs.Stores.{puts_then, puts-same}
use Rattle.replies.specs.Lines.{spaced}
use borrow.Author.Rules.{rules}
use Rattle.showwords.proofs.links.put_nodes.Statement.{statement}
use Rattle.showwords.proofs.links.put_nodes.Tie as tie

put-requires : tie.Need-put-word-requires
put-requires c κs = search rules

link-from-requires : tie.Need-link_from-requires
link-from-requires c κs = search rules

put-number-requires : tie.Need-put_number-from-requires
put-number-requires c κs = search rules

link-to-requires : tie.Need-link_to-requires
link-to-requires c κs = search rules

put-number-requires-2 : tie.Need-put_number-to-requires
put-number-requires-2 c κs = search rules

put-requires-2 : tie.Need-put-requires
put-requires-2 c κs = search rules

same_length : tie.Need-shape_of-out
same_length c = search rules

returns : tie.Need-returns
returns c =
    let end = c.before.before in
    let to = end.before.before.before.before.before in
    let to-node = to.before.before in
    let from = to-node.before.before.before in
    let from-node = from.before.before in
    let word = from-node.before.before.before in
    let first = puts-same (ap spaced from-node.link_from.ensures) from.put_number-from.ensures.0 in
    let second = puts-same (ap spaced to-node.link_to.ensures) to.put_number-to.ensures.0 in (
      puts_then (puts_then (puts_then word.put-word.ensures first) second) end.put.ensures,
      omega (arith, word.put-word.ensures.up_to, from.put_number-from.ensures.1, to.put_number-to.ensures.1, end.put.ensures.up_to),
    )

pub put_nodes_spec : {M : Type 1} → statement M
put_nodes_spec =
    tie.close
    (tie.spec
    put-requires
    link-from-requires
    put-number-requires
    link-to-requires
    put-number-requires-2
    put-requires-2
    same_length
    returns)
