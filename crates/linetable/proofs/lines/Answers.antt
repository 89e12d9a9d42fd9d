use Rattle.std.proofs.Common.{rules}
use Rattle.linetable.specs.Lines.{no_line}
use Rattle.linetable.proofs.lines.Goals as goal

pub returns : goal.returns
returns c = record {
  long = c.from_fn.ensures.items.long;
  kept = λ k b. let h = (c.from_fn.ensures.items.at k no_line b).2 in search rules;
}
