use Rattle.std.proofs.Common.{◌<◌, ◌+◌, length, ap, ◌∙◌, arith}
use Rattle.calls.specs.Reading.{record_for}
use Rattle.link.specs.Steps.{read_of}
use Rattle.model.proofs.Records.{no-call-at}
use Rattle.program.specs.State.{bytes_in}
use Rattle.program.proofs.Ends.{no_line, cut-off-line, finished-by, finished-silent}
use Rattle.program.proofs.records.last_line.Goals as goal

pub returns-then-count-eq0 : goal.returns-then-count-eq0
returns-then-count-eq0 c =
    finished-silent (no_line (read_of c.args.link) (bytes_in c.args.kept) (omega (arith, c.requires.kept_well.count_is))) _

pub returns-in_default : goal.returns-in_default
returns-in_default c =
    let w = c.write_refusal.ensures in
    let some : 0 < length (bytes_in c.args.kept) = omega (arith, c.requires.kept_well.count_is) in
    finished-by (cut-off-line (read_of c.args.link) (bytes_in c.args.kept) some) (w.out, (w.next, w.most))

-- fewer than five bytes make no call
pub returns : goal.returns
returns c =
    let few : length (bytes_in c.args.kept) < 0 + 5 = c.requires.not_whole in
    let is = c.read.ensures.is ∙ ap record_for (no-call-at (bytes_in c.args.kept) 0 few) in
    let told = c.in-Some.is in
    cc
