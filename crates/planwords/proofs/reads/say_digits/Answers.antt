use Rattle.std.proofs.Common.{sym, arith, replicate}
use lib.Seq.{length-take-le}
use Rattle.replies.proofs.PutOn.{says_same}
use Rattle.planwords.proofs.BytesLines.{wrong-line, count_most, kept-bytes, bytes-line}
use Rattle.planwords.proofs.reads.say_digits.Goals as goal

pub slice_bounds-bytes-end : goal.slice_bounds-bytes-end
slice_bounds-bytes-end c = omega (arith, count_most c.args.digits.now c.in-Ok.ensures.found c.requires.0)

pub slice_bounds-say_plan-end : goal.slice_bounds-say_plan-end
slice_bounds-say_plan-end c =
    sym (length-take-le c.in-Ok.count c.read_bytes.new.kept (omega (arith, count_most c.args.digits.now c.in-Ok.ensures.found c.requires.0)))

pub returns-in-Ok : goal.returns-in-Ok
returns-in-Ok c =
    let counted = c.in-Ok.ensures.found in
    let bytes = kept-bytes c.args.digits.now counted (replicate 2000 0) c.read_bytes.new.kept c.in-Ok.ensures.kept (count_most c.args.digits.now counted c.requires.0) in
    says_same (bytes-line c.args.digits.now counted _ bytes) c.say_plan.ensures

pub returns-in-Err : goal.returns-in-Err
returns-in-Err c = says_same (wrong-line _ c.in-Err.ensures.found) c.say_fault.ensures
