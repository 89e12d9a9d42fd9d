use Rattle.std.proofs.Common.{◌<◌, get_or, ap, ◌∙◌, arith}
use Rattle.plan.specs.Reading.{no_entry}
use Rattle.link.specs.Started.{started_flow}
use Rattle.link.proofs.Plans.{count_most}
use Rattle.link.proofs.FlowLoops.{flowing-none, flowing-put}
use Rattle.link.proofs.LeavingHeads.{share-few}
use Rattle.link.proofs.fresh.start_flows.Goals as goal

pub loop-i-init : goal.loop-i-init
loop-i-init c = flowing-none (count_most _ c.requires.0) c.requires.1

pub put_flow-requires : goal.put_flow-requires
put_flow-requires c =
    let few : c.loop-i.i < 16 = omega (arith, c.loop-i.invariant.few, c.loop-i-test.true) in
    rw (c.moved_to.ensures, c.from.ensures) (
      few,
      record {
        injection = c.requires.2;
        remainder = share-few c.args.plan c.requires.0 c.loop-i.i c.loop-i-test.true;
        number = c.flow_at-f.ensures.fits.number;
      },
    )

pub loop-i-preserved : goal.loop-i-preserved
loop-i-preserved c =
    let started = started_flow c.args.frame (get_or c.args.plan.entries c.loop-i.i no_entry) in
    flowing-put c.loop-i.invariant c.loop-i-test.true
    (rw c.from.ensures at c.moved_to.ensures ∙ ap started c.flow_at-f.ensures.is)
    c.put_flow.ensures
