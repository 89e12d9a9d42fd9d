use Rattle.show.specs.Reading.{show_of}
use Rattle.show.proofs.Places.{NoneYet}
use Rattle.show.proofs.check.Given as goal

-- no link at the first places has a refusal
abbrev pub invariant-loop-k : goal.invariant-loop-k
invariant-loop-k l = NoneYet (show_of l.dome l.numbers l.cells) l.k
