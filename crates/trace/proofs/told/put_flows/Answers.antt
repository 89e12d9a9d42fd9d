use Rattle.std.proofs.Common.{arith}
use Rattle.link.proofs.Readings.{flows_most}
use Rattle.trace.specs.Trace.{flow_lines}
use Rattle.trace.proofs.Numbers.{no_lines, line-more, all_lines}
use Rattle.trace.proofs.told.put_flows.Goals as goal

pub loop-i-init : goal.loop-i-init
loop-i-init c = no_lines

pub put_flow-next-requires : goal.put_flow-next-requires
put_flow-next-requires c =
    let few = flows_most _ c.requires.0.sound.parts in
    let s = c.loop-i.invariant in
    (record { plan = c.args.plan; given = c.requires.0 }, omega (arith, few), omega (arith, few, s.short, s.put.length_stays))

pub loop-i-preserved : goal.loop-i-preserved
loop-i-preserved c = line-more c.loop-i.invariant c.loop-i-test.true (c.put_flow-next.ensures _ c.requires.0)

pub returns : goal.returns
unfolding flow_lines
returns c = all_lines c.loop-i.invariant (omega arith) (flows_most _ c.requires.0.sound.parts)
