use Rattle.show.specs.Reading.{show_of}
use Rattle.showwords.proofs.LinkLines.{LinesTo}
use Rattle.showwords.proofs.links.put_links.Given as goal

-- the lines of the links before place k are put
abbrev pub invariant-loop-k : goal.invariant-loop-k
invariant-loop-k l = LinesTo (show_of l.dome l.numbers l.cells) l.initial.out l.out l.at l.next l.k
