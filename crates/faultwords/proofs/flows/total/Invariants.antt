use Rattle.std.proofs.Common.{◌+◌, ◌*◌, get_or}
use Rattle.faultwords.proofs.AskedFlows.{SummedTo}
use Rattle.faultwords.proofs.flows.total.Given as goal

-- the sum so far
abbrev pub invariant-loop-i : goal.invariant-loop-i
invariant-loop-i l = SummedTo (λ k. get_or l.numbers (3 + 4 * k + l.place) 0) l.flows l.sum l.i
