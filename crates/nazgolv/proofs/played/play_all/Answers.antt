use Rattle.std.proofs.Common.{◌≡◌, ◌+◌, ◌*◌, ◌<◌, length, arith}
use Rattle.nazgolv.proofs.Playing.{none_yet, room, one_more, all_done}
use Rattle.nazgolv.proofs.played.play_all.Goals as goal

pub loop-k-init : goal.loop-k-init
loop-k-init c = none_yet c.requires.0

pub put_number-end-requires : goal.put_number-end-requires
put_number-end-requires c =
    let more : 5 * c.loop-k.k < length c.args.stream.now = omega (arith, c.div_ceil-k-end.ensures) in
    room c.loop-k.invariant c.requires.1 more

pub loop-k-preserved : goal.loop-k-preserved
loop-k-preserved c =
    let more : 5 * c.loop-k.k < length c.args.stream.now = omega (arith, c.div_ceil-k-end.ensures) in
    let next : 5 * (c.loop-k.k + 1) ≡ 5 * c.loop-k.k + 5 = omega arith in
    rw next (one_more c.loop-k.invariant more c.play_one-moved.ensures c.put_number-end.ensures)

pub returns : goal.returns
returns c = all_done c.loop-k.invariant (omega (arith, c.div_ceil-k-end.ensures))
