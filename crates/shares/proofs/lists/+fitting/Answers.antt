use Rattle.std.proofs.Common.{arith, ◌≤◌, ◌-◌, sym}
use Rattle.shares.proofs.AllLists.{accepted-most}
use Rattle.shares.proofs.SlotsLeft.{no-flows}
use Rattle.shares.proofs.CountLoop.{in-no-slot, in-one-slot-more}
use Rattle.shares.proofs.lists.+fitting.Goals as goal

pub returns-then-flows-eq0 : goal.returns-then-flows-eq0
returns-then-flows-eq0 t c = rw c.if-flows-eq0.true (sym (no-flows c.args.left))

pub loop-rest-init : goal.loop-rest-init
loop-rest-init t c = let some : 1 ≤ c.args.flows = omega arith in (some, sym (in-no-slot c.args.flows some))

pub overflow_add-count : goal.overflow_add-count
overflow_add-count t c =
    omega (arith, accepted-most c.loop-rest.rest c.args.flows (omega arith) (omega arith), accepted-most c.loop-rest.rest (c.args.flows - 1) (omega arith) (omega arith))

pub loop-rest-preserved : goal.loop-rest-preserved
loop-rest-preserved t c = omega (arith, in-one-slot-more c.loop-rest.rest c.args.flows c.loop-rest.invariant.0)
