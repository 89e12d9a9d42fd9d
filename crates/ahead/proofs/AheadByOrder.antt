-- Flows that are granted their slots in order send tiles ahead, whether or not they have room at each request; so do those that keep their shares of cells.
-- Assumes nothing.
use Rattle.model.specs.Plan.{plan_of}
use Rattle.model.specs.Scheduler.{reference}
use Rattle.ahead.specs.Sendings.{AheadByOrder, LeaveByOrder, SharesOrderSenders}
use Rattle.arrival.proofs.SharesInOrder.{shares-in-order}
use Rattle.ahead.proofs.SendsAhead.{order-orders, sends-after}
use Rattle.ahead.proofs.AheadInOrder.{leave-after}

pub sends-by-order : AheadByOrder reference
sends-by-order bytes passes calls₁ calls₂ x each order = sends-after bytes passes calls₁ calls₂ x each (order-orders (plan_of bytes) x order)

pub leave-by-order : LeaveByOrder reference
leave-by-order bytes passes calls₁ calls₂ x each order = leave-after bytes passes calls₁ calls₂ x each (order-orders (plan_of bytes) x order)

pub shares-order-senders : SharesOrderSenders reference
shares-order-senders bytes passes calls₁ calls₂ x shares i some =
    let has = shares i some in
    shares-in-order has.late bytes passes calls₁ i has.known has.keeps
