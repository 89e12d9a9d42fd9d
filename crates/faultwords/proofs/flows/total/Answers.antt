use Rattle.std.proofs.Common.{◌+◌, ◌*◌, ◌<◌, ◌≤◌, get_or, length, arith}
use Rattle.faultwords.proofs.AskedFlows.{number-most, none-summed, one-summed}
use Rattle.faultwords.proofs.flows.total.Goals as goal

pub loop-i-init : goal.loop-i-init
loop-i-init c = none-summed _ _

pub overflow_add-sum-in-loop-i-2 : goal.overflow_add-sum-in-loop-i-2
overflow_add-sum-in-loop-i-2 c =
    let numbers = c.args.numbers.now in
    let at = 3 + 4 * c.loop-i.i + c.args.place in
    let there : at < length numbers = omega (arith, c.requires.1.asked) in
    let small : get_or numbers at 0 ≤ 999999999 = number-most numbers c.requires.0.short at there in
    omega (arith, small, c.loop-i.invariant.most, c.requires.1.few)

pub loop-i-preserved : goal.loop-i-preserved
loop-i-preserved c =
    let numbers = c.args.numbers.now in
    let at = 3 + 4 * c.loop-i.i + c.args.place in
    let there : at < length numbers = omega (arith, c.requires.1.asked) in
    one-summed c.loop-i.invariant c.loop-i-test.true (number-most numbers c.requires.0.short at there)
