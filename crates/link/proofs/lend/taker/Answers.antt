use Rattle.std.proofs.Common.{◌<◌, ◌≡◌, ◌+◌, ◌-◌, sym, ◌∙◌, arith}
use Rattle.link.proofs.Takers.{looking-all, flow_below, takes-here, no_room, not-in-mask, looking-on, found, nobody}
use Rattle.link.proofs.Plans.{count_most, count-some}
use Rattle.link.proofs.lend.taker.Goals as goal
use Rattle.link.proofs.lend.taker.Goals.{else-mask-i-eq1-via-then-mask-i-eq1+else-room_from, else-mask-i-eq1-via-else-mask-i-eq1}

pub loop-init : goal.loop-init
loop-init c =
    let all : c.args.plan.count - 0 ≡ c.args.plan.count = omega arith in
    rw all (looking-all c.requires.2)

-- flow i is one of the plan's
flow-few : (c : goal.In-loop) → c.loop.i < 16
flow-few c =
    let known = flow_below c.loop.invariant (count-some c.args.plan c.requires.0) in
    omega (arith, known, count_most c.args.plan c.requires.0)

pub offset_bounds-plan-i : goal.offset_bounds-plan-i
offset_bounds-plan-i c = omega (arith, flow-few c)

pub bounds-plan-i : goal.bounds-plan-i
bounds-plan-i c = flow-few c

pub overflow_cast-i : goal.overflow_cast-i
overflow_cast-i c =
    let known = flow_below c.loop.invariant (count-some c.args.plan c.requires.0) in
    omega (arith, known, count_most c.args.plan c.requires.0)

pub overflow_shr-mask : goal.overflow_shr-mask
overflow_shr-mask c =
    let known = flow_below c.loop.invariant (count-some c.args.plan c.requires.0) in
    omega (arith, known, count_most c.args.plan c.requires.0)

pub room_from-requires : goal.room_from-requires
room_from-requires c =
    let known = flow_below c.loop.invariant (count-some c.args.plan c.requires.0) in
    record { proper = c.requires.1; flow = omega (arith, known, count_most c.args.plan c.requires.0); position = c.requires.1.measures.current_below }

pub returns-then-room_from : goal.returns-then-room_from
returns-then-room_from c =
    let g = c.loop.invariant in
    found g (omega arith) (takes-here g c.if-mask-i-eq1.true (sym c.room_from.ensures ∙ c.if-room_from.true))

pub next-i-requires : goal.next-i-requires
next-i-requires c = flow_below c.loop.invariant (count-some c.args.plan c.requires.0)

pub loop-preserved : goal.loop-preserved
loop-preserved c =
    let g = c.loop.invariant in
    let some_left : 0 < c.args.plan.count - c.loop.counter = omega (arith, c.loop-test.true) in
    let one_less : c.args.plan.count - (c.loop.counter + 1) ≡ c.args.plan.count - c.loop.counter - 1 = omega arith in
    rw (one_less, c.next-i.ensures)
    (looking-on g some_left
    (elim c.else-mask-i-eq1.branch [
      | else-mask-i-eq1-via-then-mask-i-eq1+else-room_from w ↦ no_room g w.if-mask-i-eq1.true (sym w.room_from.ensures ∙ w.if-room_from.false)
      | else-mask-i-eq1-via-else-mask-i-eq1 w ↦ not-in-mask g w.if-mask-i-eq1.false
    ]))

pub returns : goal.returns
returns c = nobody c.loop.invariant (omega arith)
