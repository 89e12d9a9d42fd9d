use Rattle.std.proofs.Common.{arith, refl}
use Rattle.std.proofs.lemmas.List.{length-take-le}
use Rattle.burst.proofs.Passes.{counted, front-counts, next, done, burst-by-front}
use Rattle.burst.proofs.burst.Goals as goal

pub loop-r-preserved : goal.loop-r-preserved
loop-r-preserved c =
    let long = length-take-le c.handled-n.result c.args.records.now (counted c.handled-n.ensures).there in
    next c.loop-r.invariant c.reply_to-reply.new.s c.reply_to-reply.result (omega (arith, long)) (omega (arith, long)) c.reply_to-reply.ensures

pub returns : goal.returns
returns c =
    let counts = counted c.handled-n.ensures in
    let long = length-take-le c.handled-n.result c.args.records.now counts.there in
    burst-by-front c.args.link _ c.args.records.now c.loop-r.r-items counts
    (done c.loop-r.invariant (omega (arith, long)) (front-counts _ c.args.records.now counts) _ refl refl)
