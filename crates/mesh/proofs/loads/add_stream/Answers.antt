use Rattle.std.proofs.Common.{arith, ap, ◌∙◌}
use Rattle.mesh.specs.Loads.{raised}
use Rattle.mesh.proofs.Raised.{addable, small-after}
use Rattle.mesh.proofs.Gathered.{to-west, to-east, to-south, stream-added}
use Rattle.mesh.proofs.loads.add_stream.Goals as goal

pub add_in_line-requires : goal.add_in_line-requires
add_in_line-requires c = addable c.requires.small (omega arith) (omega arith) (omega arith) (omega arith) c.requires.share_most

pub add_in_line-requires-2 : goal.add_in_line-requires-2
add_in_line-requires-2 c =
    let north = small-after {most = 4096} c.requires.small _ _ c.add_in_line.ensures c.requires.share_most in
    addable north (omega arith) (omega arith) (omega arith) (omega arith) c.requires.share_most

pub add_in_line-requires-3 : goal.add_in_line-requires-3
add_in_line-requires-3 c =
    let north = small-after {most = 4096} c.requires.small _ _ c.add_in_line.ensures c.requires.share_most in
    let west = small-after {most = 4160} north _ _ c.add_in_line-2.ensures c.requires.share_most in
    addable west (omega arith) (omega arith) (omega arith) (omega arith) c.requires.share_most

pub add_in_line-requires-4 : goal.add_in_line-requires-4
add_in_line-requires-4 c =
    let north = small-after {most = 4096} c.requires.small _ _ c.add_in_line.ensures c.requires.share_most in
    let west = small-after {most = 4160} north _ _ c.add_in_line-2.ensures c.requires.share_most in
    let east = small-after {most = 4224} west _ _ c.add_in_line-3.ensures c.requires.share_most in
    addable east (omega arith) (omega arith) (omega arith) (omega arith) c.requires.share_most

pub returns : goal.returns
returns c =
    let s = c.args.source in
    let d = c.args.destination in
    let to = raised (to-south s d) c.args.share in
    let on = raised (to-east s d) c.args.share in
    let back = raised (to-west s d) c.args.share in
    c.add_in_line-4.ensures ∙ ap to (c.add_in_line-3.ensures ∙ ap on (c.add_in_line-2.ensures ∙ ap back c.add_in_line.ensures))
    ∙ stream-added s d c.args.share _
