-- `showwords::links::put_bytes` meets its contract. Assumes nothing.
use Prim.Native.Nat.{◌+◌, ◌≤◌}
use mathlib.Core.List.{append_assoc}
use native.Mathlib.Omega.{arith}
use Rattle.calls.proofs.Stores.{puts_then, puts-same}
use Rattle.model.specs.Listing.{text}
use Rattle.mesh.specs.Reading.{link_at}
use Rattle.replies.specs.Lines.{hex}
use Rattle.replies.proofs.PutOn.{hex-length}
use Rattle.showwords.specs.Answers.{nodes_text}
use borrow.Author.Rules.{rules}
use Rattle.showwords.proofs.links.put_bytes.Statement.{statement}
use Rattle.showwords.proofs.links.put_bytes.Tie as tie

-- where the digits end
end-there : (c : tie.After-put_hex-digits) → c.put_hex-digits.result ≤ c.args.at + 199
end-there c =
    let nodes = c.before.before.before.before in
    let start = nodes.before.before.before.before in
    omega (arith, c.put_hex-digits.ensures.up_to, hex-length start.args.bytes.now, start.requires.0, nodes.put_nodes-nodes.ensures.1)

put-nodes-requires : tie.Need-put_nodes-nodes-requires
put-nodes-requires c κs = search rules

put-hex-requires : tie.Need-put_hex-digits-requires
put-hex-requires c κs = search rules

put-requires : tie.Need-put-requires
put-requires c κs =
    let digits = c.before.before.before.before.before in
    let nodes = digits.before.before.before.before in
    let start = nodes.before.before.before.before in
    omega (arith, end-there digits, digits.put_hex-digits.ensures.length_stays, nodes.put_nodes-nodes.ensures.0.length_stays, start.requires.1)

same_length : tie.Need-shape_of-out
same_length c = search rules

returns : tie.Need-returns
returns c =
    let end = c.before.before in
    let digits = end.before.before.before.before.before.before in
    let nodes = digits.before.before.before.before in
    let all = puts_then (puts_then nodes.put_nodes-nodes.ensures.0 digits.put_hex-digits.ensures) end.put.ensures in
    let start = nodes.before.before.before.before in
    (puts-same (append_assoc (nodes_text (link_at start.args.k)) (hex start.args.bytes.now) (text "\n")) all, omega (arith, end-there digits, end.put.ensures.up_to))

pub put_bytes_spec : {M : Type 1} → statement M
put_bytes_spec = tie.close (tie.spec put-nodes-requires put-hex-requires put-requires same_length returns)
