use Rattle.std.proofs.Common.{◌≤◌, ◌^◌, arith}
use Rattle.std.proofs.Math.Nat.{pow-le-pow_right}
use Rattle.extras.proofs.sets.set_count.Goals as goal

pub returns : goal.returns
returns c =
    let most : 2 ^ c.args.n ≤ 2 ^ 12 = pow-le-pow_right (omega arith) c.requires in
    record { is = omega (arith, most); most = omega (arith, most) }
