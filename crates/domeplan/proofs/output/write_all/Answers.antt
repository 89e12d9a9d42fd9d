use Rattle.std.proofs.Common.{◌+◌, ◌-◌, ◌≤◌, drop, length-take, arith}
use Rattle.domeplan.proofs.Written.{more-written}
use Rattle.domeplan.proofs.output.write_all.Goals as goal

pub turns-preserved : goal.turns-preserved
turns-preserved g c =
    let some = c.in-Some.ensures in
    let most : c.turns.done + c.in-Some.count ≤ c.args.end = omega (arith, some.few, length-take (c.args.end - c.turns.done) (drop c.turns.done c.args.out.now)) in
    record { most = most; written = more-written _ _ _ c.args.out.now c.turns.done c.in-Some.count c.args.end most c.turns.invariant.written some.written }
