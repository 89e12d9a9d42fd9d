use Rattle.std.proofs.Common.{max, ltb, length, get_or}
use Rattle.window.proofs.RangeLoops.{Testing}
use Rattle.tables.specs.Padded.{pad}
use Rattle.tables.proofs.Padded.{Counting}
use Rattle.tables.proofs.holdings.held_in.Given as goal

abbrev pub invariant-loop-held : goal.invariant-loop-held
invariant-loop-held l = record {
  counting : Counting l.base l.held-index l.x;
  tested : Testing (λ k. ltb 0 (max (get_or l.held-items k 0) (pad l.base l.from 255 0 k))) 0 (length l.held-items) l.held-index (ltb 0 l.least);
}
