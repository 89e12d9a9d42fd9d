use Rattle.std.proofs.Common.{ap, arith}
use Rattle.calls.proofs.Stores.{puts_then, puts-same}
use Rattle.planwords.specs.Plans.{flows_asked}
use Rattle.faults.specs.Told.{told}
use Rattle.faultwords.proofs.AskedFlows.{number-most, all_found}
use Rattle.faultwords.proofs.words.find.Goals as goal

pub tell_frame-after_frame-requires : goal.tell_frame-after_frame-requires
tell_frame-after_frame-requires c =
    let numbers = c.args.numbers.now in
    let asked = c.requires.0 in (
      number-most numbers asked.short 0 (omega (arith, asked.whole.header)),
      number-most numbers asked.short 1 (omega (arith, asked.whole.header)),
      omega (arith, c.tell_if-after_count.ensures.most, c.tell_if-after_count.ensures.put.length_stays),
    )

pub returns-clause-put : goal.returns-clause-put
returns-clause-put c =
    let numbers = c.args.numbers.now in
    let count = puts-same (ap (λ b. told b 2 (flows_asked numbers) 0) c.count_out_of_range.ensures) c.tell_if-after_count.ensures.put in
    let flows = puts_then (puts_then (puts_then count c.tell_frame-after_frame.ensures.put) c.tell_entries-after_entries.ensures.put) c.tell_repeats-after_repeats.ensures.put in
    puts-same (all_found numbers c.min-flows.result c.min-flows.ensures) (puts_then flows c.tell_sums.ensures.put)
