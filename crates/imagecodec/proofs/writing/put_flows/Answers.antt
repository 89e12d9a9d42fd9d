use Rattle.std.proofs.Common.{◌+◌, refl, arith}
use mathlib.Core.List.{flat_map}
use Rattle.imagemodel.specs.Image.{fields}
use Rattle.imagecodec.proofs.WrittenParts.{no-parts, one-part-more, all-parts, parts_more, length_part, part-fits}
use Rattle.imagecodec.proofs.writing.put_flows.Goals as goal

pub loop-i-init : goal.loop-i-init
unfolding fields flat_map
loop-i-init c = no-parts refl

pub put_flow-next-requires : goal.put_flow-next-requires
put_flow-next-requires c = record {
  flow = omega arith;
  size_most = c.requires.size_most;
  there = omega (arith, part-fits c.loop-i.i c.args.count (3 + c.args.size) c.loop-i-test.true);
}

pub loop-i-preserved : goal.loop-i-preserved
loop-i-preserved c =
    let a = c.args in
    one-part-more c.loop-i.invariant c.loop-i-test.true (parts_more a.size a.s.now c.loop-i.i) (length_part a.size a.s.now c.loop-i.i)
    c.put_flow-next.ensures

pub returns : goal.returns
returns c = all-parts c.loop-i.invariant (omega arith)
