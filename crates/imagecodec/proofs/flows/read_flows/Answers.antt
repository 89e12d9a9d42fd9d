use Rattle.std.proofs.Common.{sym, ap, ◌∙◌, subst, arith}
use Rattle.link.specs.Parts.{FitsBytes}
use Rattle.link.proofs.FlowLoops.{flowing-none, flowing-put, flowing-done}
use Rattle.imagecodec.specs.Reading.{flow_from}
use Rattle.imagecodec.proofs.flows.read_flows.Goals as goal

pub loop-i-init : goal.loop-i-init
loop-i-init c = flowing-none c.requires.0.few c.requires.1

pub put_flow-requires : goal.put_flow-requires
put_flow-requires c =
    let is = c.read_flow.ensures ∙ ap (flow_from c.args.image.now c.args.l.size) c.flow.ensures.is in
    (omega (arith, c.requires.0.few), subst FitsBytes (sym is) (c.requires.0.fits c.loop-i.i c.loop-i-test.true))

pub loop-i-preserved : goal.loop-i-preserved
loop-i-preserved c =
    let is = c.read_flow.ensures ∙ ap (flow_from c.args.image.now c.args.l.size) c.flow.ensures.is in
    flowing-put c.loop-i.invariant c.loop-i-test.true is c.put_flow.ensures

pub returns : goal.returns
returns c = flowing-done c.loop-i.invariant c.loop-i-test.false
