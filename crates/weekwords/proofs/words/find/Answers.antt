use Rattle.calls.proofs.Stores.{puts_then, puts-same}
use Rattle.weekwords.proofs.AskedEntries.{all_found}
use Rattle.weekwords.proofs.words.find.Goals as goal

pub returns-clause-put : goal.returns-clause-put
returns-clause-put c =
    let all = all_found c.args.numbers.now c.args.count c.min-first.result c.requires.0 c.min-first.ensures in
    puts-same all (puts_then (puts_then c.tell_entries-after_entries.ensures.put c.tell_if-after_count.ensures.put) c.tell_pairs.ensures.put)
