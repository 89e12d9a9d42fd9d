use Rattle.std.proofs.Common.{sym, ap}
use Rattle.calls.proofs.Stores.{puts_then, puts-same}
use Rattle.faults.specs.Told.{told}
use Rattle.weekwords.specs.WeekFaults.{entry_faults}
use Rattle.weekwords.proofs.AskedEntries.{listed, entry_is, not_first, past-week}
use Rattle.weekwords.proofs.entries.tell_entry.Goals as goal

pub returns-clause-put : goal.returns-clause-put
returns-clause-put c =
    let i = c.args.i in
    let e = listed c.args.numbers.now i in
    let start = puts-same (ap (λ b. told b 28 i 0) (not_first e)) c.tell_if-after_start.ensures.put in
    let end = puts-same (ap (λ b. told b 28 i 1) (past-week e.end)) c.tell_if.ensures.put in
    let same = ap (λ x. entry_faults x i) (sym (entry_is c.args.numbers.now i c.requires.0)) in
    puts-same same (puts_then start end)
