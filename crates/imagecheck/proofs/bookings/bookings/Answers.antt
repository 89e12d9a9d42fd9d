use Rattle.std.proofs.Common.{ap, sym, ◌∙◌, nat_eq}
use Rattle.imagecheck.proofs.Owners.{booked-in}
use Rattle.imagecheck.proofs.TestLoops.{counting-none, counting_test}
use Rattle.imagecheck.proofs.bookings.bookings.Goals as goal

pub loop-x-init : goal.loop-x-init
loop-x-init c = counting-none

pub loop-x-preserved : goal.loop-x-preserved
loop-x-preserved c =
    let booked = ap (λ v. nat_eq v c.args.i) c.short.ensures ∙ sym (booked-in c.args.i _ c.requires.2) in
    counting_test _ c.loop-x.invariant c.loop-x-test.true c.from-n.ensures booked
