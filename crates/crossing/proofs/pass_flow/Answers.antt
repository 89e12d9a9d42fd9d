use Rattle.crossing.proofs.Tiles.{flow-passed, flow-kept}
use Rattle.crossing.proofs.pass_flow.Goals as goal

pub returns-then-j-x : goal.returns-then-j-x
returns-then-j-x c = record {
  is = λ p r. flow-passed _ c.args.i c.requires.1 r c.if-j-x.true (c.pass_on.ensures.is p r);
  there = c.pass_on.ensures.there;
}

pub returns-else-j-x : goal.returns-else-j-x
returns-else-j-x c = record { is = λ p r. flow-kept _ c.args.i c.requires.1 r c.if-j-x.false; there = c.requires.0 }
