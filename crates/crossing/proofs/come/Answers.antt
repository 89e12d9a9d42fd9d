use Rattle.crossing.proofs.Tiles.{none-comes, reads-queued, comes-last, comes-alone}
use Rattle.crossing.proofs.come.Goals as goal

pub returns-then-k-eq0 : goal.returns-then-k-eq0
returns-then-k-eq0 c = record {
  is = λ p r. comes-alone _ c.args.i c.requires.1 r c.if-j-x.true c.if-k-eq0.true
      (c.pass.ensures.is _ (reads-queued _ c.args.i c.requires.1 r c.saturating_add.ensures));
  there = c.pass.ensures.there;
}

pub returns-else-k-eq0 : goal.returns-else-k-eq0
returns-else-k-eq0 c = record {
  is = λ p r. comes-last _ c.args.i c.requires.1 r c.if-j-x.true c.saturating_add.ensures c.if-k-eq0.false;
  there = c.requires.0;
}

pub returns-else-j-x : goal.returns-else-j-x
returns-else-j-x c = record { is = λ p r. none-comes _ c.args.i c.requires.1 r c.if-j-x.false; there = c.requires.0 }
