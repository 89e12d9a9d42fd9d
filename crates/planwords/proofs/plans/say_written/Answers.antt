use Rattle.std.proofs.Common.{ap, ◌∙◌, arith, take}
use lib.Seq.{length-take-le}
use Rattle.limits.specs.Reading.{draft_for}
use Rattle.planwords.specs.Plans.{file_line}
use Rattle.calls.proofs.Stores.{puts_then, puts-same}
use Rattle.replies.specs.Lines.{hex}
use Rattle.replies.proofs.PutOn.{hex-length, says, says_same}
use Rattle.planwords.proofs.FileLines.{written-first}
use Rattle.planwords.proofs.plans.say_written.Goals as goal

pub put-requires : goal.put-requires
put-requires c =
    let many = length-take-le c.in-Ok.count c.write.new.out (omega (arith, c.in-Ok.ensures.most, c.write.auto.out)) in
    omega (arith, hex-length (take c.in-Ok.count c.write.new.out), many, c.in-Ok.ensures.most, c.put_hex-end.ensures.up_to)

pub returns-in-Ok : goal.returns-in-Ok
returns-in-Ok c =
    let P = draft_for c.args.draft in
    let many = length-take-le c.in-Ok.count c.write.new.out (omega (arith, c.in-Ok.ensures.most, c.write.auto.out)) in
    let bytes = ap (take c.in-Ok.count) c.in-Ok.ensures.out ∙ written-first P c.args.buffer.now c.in-Ok.count c.in-Ok.ensures.is in
    let all = puts_then (puts-same (ap hex bytes) c.put_hex-end.ensures) c.put.ensures in
    says_same (ap (λ a. file_line a P) c.in-Ok.ensures.is)
    (says all (omega (arith, hex-length (take c.in-Ok.count c.write.new.out), many, c.in-Ok.ensures.most, c.put_hex-end.ensures.up_to)))
