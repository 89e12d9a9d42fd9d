use Rattle.std.proofs.Common.{refl}
use Rattle.crossing.proofs.Ticks.{both-ticked, crossed}
use Rattle.crossing.proofs.cross.Goals as goal

pub serve-requires : goal.serve-requires
serve-requires c = both-ticked c.requires c.tick-on.ensures.is c.tick-on.ensures.there c.tick.ensures.is c.tick.ensures.there

pub returns : goal.returns
returns c = record {
  is = crossed c.requires c.tick-on.ensures.is c.tick-on.ensures.there c.tick.ensures.is c.tick.ensures.there _ c.serve.ensures.is refl;
  there = c.serve.ensures.there;
}
