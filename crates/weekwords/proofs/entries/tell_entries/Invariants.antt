use Rattle.week.specs.Week.{entry}
use Rattle.faults.proofs.ToldEach.{ToldTo}
use Rattle.weekwords.specs.WeekFaults.{entry_faults}
use Rattle.weekwords.specs.WeekWord.{week_asked}
use Rattle.weekwords.proofs.entries.tell_entries.Given as goal

-- the entries before entry i are told
abbrev pub invariant-loop-i : goal.invariant-loop-i
invariant-loop-i l = ToldTo (λ k. entry_faults (entry (week_asked l.numbers) k) k) 6 l.initial.found l.found l.at l.next l.i
