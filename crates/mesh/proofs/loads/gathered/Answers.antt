use Rattle.std.proofs.Common.{refl}
use Rattle.mesh.proofs.Gathered.{none-gathered, one-gathered, all-gathered, gathered-small}
use Rattle.mesh.proofs.loads.gathered.Goals as goal

pub loop-i-init : goal.loop-i-init
loop-i-init c = none-gathered _ _ refl

pub add_stream-requires : goal.add_stream-requires
add_stream-requires c =
    let more = c.loop-i-test.true in
    record {
      small = gathered-small c.loop-i.invariant c.requires;
      source_most = c.requires.sources c.loop-i.i more;
      destination_most = c.requires.destinations c.loop-i.i more;
      share_most = c.requires.shares c.loop-i.i more;
    }

pub loop-i-preserved : goal.loop-i-preserved
loop-i-preserved c = one-gathered c.loop-i.invariant c.loop-i-test.true c.add_stream.ensures

pub returns : goal.returns
returns c = all-gathered c.loop-i.invariant c.loop-i-test.false
