use Rattle.std.proofs.Common.{not, ap}
use Rattle.calls.proofs.Stores.{puts_then, puts-same}
use Rattle.faults.specs.Told.{told}
use Rattle.faultwords.proofs.flows.tell_entry.Goals as goal

pub returns-clause-put : goal.returns-clause-put
returns-clause-put c =
    let i = c.args.i in
    let shares = puts-same (ap (λ b. told (not b) 4 i 0) c.share_fits.ensures) c.tell_if-after_share.ensures.put in
    let cells = puts-same (ap (λ b. told (not b) 4 i 1) c.cells_fit.ensures) c.tell_if-after_cells.ensures.put in
    let source = puts-same (ap (λ b. told (not b) 4 i 2) c.node_fits.ensures) c.tell_if-after_source.ensures.put in
    let destination = puts-same (ap (λ b. told (not b) 4 i 3) c.node_fits-2.ensures) c.tell_if-after_nodes.ensures.put in
    puts_then (puts_then (puts_then (puts_then shares cells) source) destination) c.tell_if.ensures.put
