use Rattle.std.proofs.Common.{◌+◌, ◌*◌, get_or, ltb, ap, ◌∙◌, add-zero}
use Rattle.model.specs.Tables.{sum}
use Rattle.calls.proofs.Stores.{puts_then, puts-same}
use Rattle.faults.specs.Told.{told}
use Rattle.faultwords.proofs.flows.tell_sums.Goals as goal

pub returns-clause-put : goal.returns-clause-put
returns-clause-put c =
    let numbers = c.args.numbers.now in
    let F = get_or numbers 0 0 in
    let N = get_or numbers 2 0 in
    let shares_are = c.total-shares.ensures ∙ (λ t. sum c.args.flows (λ i. get_or numbers (add-zero (3 + 4 * i) t) 0)) in
    let over-slots = puts-same (ap (λ s. told (ltb F s) 6 s F) shares_are) c.tell_if-after_shares.ensures.put in
    let over-buffer = puts-same (ap (λ s. told (ltb N s) 7 s N) c.total-cells.ensures) c.tell_if.ensures.put in
    puts_then over-slots over-buffer
