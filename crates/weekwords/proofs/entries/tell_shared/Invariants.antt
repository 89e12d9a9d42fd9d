use Rattle.std.proofs.Common.{◌≡◌}
use Rattle.week.specs.Week.{entry, share_minute}
use Rattle.faults.proofs.ToldEach.{Searched}
use Rattle.weekwords.specs.WeekWord.{week_asked}
use Rattle.weekwords.proofs.entries.tell_shared.Given as goal

-- no entry before entry i shares a minute with entry j
abbrev pub invariant-loop-i : goal.invariant-loop-i
invariant-loop-i l = record {
  searched : Searched (λ k. share_minute (entry (week_asked l.numbers) k) (entry (week_asked l.numbers) l.j)) l.j l.i;
  same : l.found ≡ l.initial.found;
}
