-- `showwords::links::put_refused` meets its contract. Assumes nothing.
use Prim.Native.Nat.{◌+◌, ◌≤◌}
use native.Mathlib.Omega.{arith}
use lib.ListN.{length}
use Rattle.model.specs.Listing.{refusal_line}
use Rattle.calls.proofs.Stores.{puts_then, put-in-room}
use borrow.Author.Rules.{rules}
use Rattle.showwords.proofs.links.put_refused.Statement.{statement}
use Rattle.showwords.proofs.links.put_refused.Tie as tie

put-nodes-requires : tie.Need-put_nodes-nodes-requires
put-nodes-requires c κs = search rules

write-refusal-requires : tie.Need-write_refusal-requires
write-refusal-requires c κs = search rules

same_length : tie.Need-shape_of-out
same_length c = search rules

returns : tie.Need-returns
returns c =
    let end = c.before.before in
    let nodes = end.before.before.before.before in
    let start = nodes.before.before.before in
    let there = nodes.put_nodes-nodes.ensures in
    let room : nodes.put_nodes-nodes.result + 7 ≤ length nodes.put_nodes-nodes.new.out = omega (arith, start.requires, there.1, there.0.length_stays) in
    let line = put-in-room (refusal_line start.args.number) nodes.put_nodes-nodes.new.out nodes.put_nodes-nodes.result room end.write_refusal.ensures in
    (puts_then there.0 line, omega (arith, there.1, end.write_refusal.ensures.1.1))

pub put_refused_spec : {M : Type 1} → statement M
put_refused_spec = tie.close (tie.spec put-nodes-requires write-refusal-requires same_length returns)
