use Rattle.std.proofs.Common.{◌<◌, ap, ◌∙◌, arith}
use Rattle.link.proofs.Plans.{count_most}
use Rattle.link.proofs.FlowLoops.{flowing-none, flowing-put, flowing-kept, flowing-done}
use Rattle.link.proofs.LeavingHeads.{flow_left, left-moved, left-kept, share-few}
use Rattle.link.proofs.tick.leave_head.Goals as goal
use Rattle.link.proofs.tick.leave_head.Goals.{then-f-head, else-f-head}

pub loop-i-init : goal.loop-i-init
loop-i-init c = flowing-none (count_most _ c.requires.0) c.requires.1

pub offset_bounds-plan-i : goal.offset_bounds-plan-i
offset_bounds-plan-i c = omega (arith, c.loop-i.invariant.few, c.loop-i-test.true)

pub bounds-plan-i : goal.bounds-plan-i
bounds-plan-i c = omega (arith, c.loop-i.invariant.few, c.loop-i-test.true)

pub flow_at-f-requires : goal.flow_at-f-requires
flow_at-f-requires c = omega (arith, c.loop-i.invariant.few, c.loop-i-test.true)

pub put_flow-requires : goal.put_flow-requires
put_flow-requires c =
    let few : c.loop-i.i < 16 = omega (arith, c.loop-i.invariant.few, c.loop-i-test.true) in
    rw (c.moved_to.ensures, c.from.ensures) (
      few,
      record {
        injection = c.requires.2;
        remainder = share-few c.args.plan c.requires.0 c.loop-i.i c.loop-i-test.true;
        number = c.flow_at-f.ensures.fits.number;
      },
    )

pub loop-i-preserved : goal.loop-i-preserved
loop-i-preserved c =
    let a = c.args in
    let i = c.loop-i.i in
    let read = c.flow_at-f.ensures.is in
    elim c.if-f-head.branch [
      | then-f-head in_head ↦
          rw in_head.s-is (flowing-put c.loop-i.invariant c.loop-i-test.true
          (rw in_head.from.ensures at in_head.moved_to.ensures ∙ left-moved a.plan a.head a.on i c.flow_at-f.result in_head.if-f-head.true ∙ ap (flow_left a.plan a.head a.on i) read)
          in_head.put_flow.ensures)
      | else-f-head elsewhere ↦
          rw elsewhere.s-is (flowing-kept c.loop-i.invariant c.loop-i-test.true (left-kept a.plan a.head a.on i c.flow_at-f.result elsewhere.if-f-head.false read))
    ]

pub returns : goal.returns
returns c = flowing-done c.loop-i.invariant (omega arith)
