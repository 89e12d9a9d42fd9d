use Rattle.std.proofs.Common.{ap, ◌∙◌, take, replicate}
use Rattle.calls.proofs.Stores.{puts-same}
use Rattle.mesh.specs.Reading.{link_at}
use Rattle.show.specs.Show.{link_plan}
use Rattle.show.specs.Reading.{show_of}
use Rattle.planwords.proofs.FileLines.{written-first}
use Rattle.showwords.specs.Links.{bytes_line, written_line}
use Rattle.showwords.proofs.links.put_plan.Goals as goal

pub returns-in-Ok-clause-put : goal.returns-in-Ok-clause-put
returns-in-Ok-clause-put c =
    let l = link_at c.args.k in
    let P = link_plan (show_of c.args.dome c.args.numbers.now c.args.cells.now) l in
    let bytes = ap (take c.in-Ok.count) c.in-Ok.ensures.out ∙ written-first P (replicate 76 0) c.in-Ok.count c.in-Ok.ensures.is in
    puts-same (ap (bytes_line l) bytes ∙ ap (λ a. written_line a l P) c.in-Ok.ensures.is) c.put_bytes.ensures.put
