use Rattle.faults.proofs.ToldEach.{ToldTo}
use Rattle.weekwords.specs.WeekFaults.{shared_faults}
use Rattle.weekwords.specs.WeekWord.{week_asked}
use Rattle.weekwords.proofs.entries.tell_pairs.Given as goal

-- the entries before entry j are told
abbrev pub invariant-loop-j : goal.invariant-loop-j
invariant-loop-j l = ToldTo (shared_faults (week_asked l.numbers)) 3 l.initial.found l.found l.at l.next l.j
