use Rattle.std.proofs.Common.{arith}
use Rattle.showwords.proofs.LinkLines.{none-put, one-put, all-put}
use Rattle.showwords.proofs.links.put_links.Goals as goal

pub loop-k-init : goal.loop-k-init
loop-k-init c = none-put _ _ _

pub put_link-next-requires : goal.put_link-next-requires
put_link-next-requires c = omega (arith, c.loop-k.invariant.most, c.loop-k.invariant.puts.length_stays)

pub loop-k-preserved : goal.loop-k-preserved
loop-k-preserved c = one-put c.loop-k.invariant c.loop-k-test.true c.put_link-next.ensures.put c.put_link-next.ensures.most

pub returns : goal.returns
returns c = record { put = all-put c.loop-k.invariant c.loop-k-test.false; most = omega (arith, c.loop-k.invariant.most) }
