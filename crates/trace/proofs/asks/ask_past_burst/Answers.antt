use Rattle.std.proofs.Common.{refl, arith}
use Rattle.trace.specs.Trace.{traced_past}
use Rattle.trace.proofs.Numbers.{lines-as}
use Rattle.trace.proofs.asks.ask_past_burst.Goals as goal

pub returns : goal.returns
unfolding traced_past
returns c = record { link_is = refl; hand = c.requires.0; lines_are = lines-as refl (omega arith) c.put_ask.ensures }
