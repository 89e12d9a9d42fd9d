use Rattle.std.proofs.Common.{◌≡◌, ◌+◌, ◌-◌, ◌*◌, ◌≤◌, length, take, drop, refl, arith}
use Rattle.std.proofs.lemmas.List.{length-take, length-drop}
use Rattle.imagecodec.proofs.WrittenParts.{plan-put, plan-counted}
use Rattle.imagecodec.proofs.writing.put_plan.Goals as goal

pub unwrap-requires : goal.unwrap-requires
unwrap-requires c =
    let long = length c.args.image.now - c.args.at in
    let room : 12 + 4 * c.args.plan.count ≤ length (take long (drop c.args.at c.args.image.now)) =
    omega (arith, length-take long (drop c.args.at c.args.image.now), length-drop c.args.at c.args.image.now) in
    rw (plan-counted c.requires.0 c.write.result _ room c.draft.ensures c.write.ensures.is) refl

pub returns : goal.returns
returns c =
    let long = length c.args.image.now - c.args.at in
    let room : 12 + 4 * c.args.plan.count ≤ length (take long (drop c.args.at c.args.image.now)) =
    omega (arith, length-take long (drop c.args.at c.args.image.now), length-drop c.args.at c.args.image.now) in
    let counted = plan-counted c.requires.0 c.write.result _ room c.draft.ensures c.write.ensures.is in
    let count : c.unwrap.result ≡ 12 + 4 * c.args.plan.count = cc in
    rw count (plan-put c.requires.0 c.args.image.now _ c.args.at c.requires.1 c.draft.ensures c.write.ensures.out)
