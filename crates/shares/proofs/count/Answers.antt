use Rattle.std.proofs.Common.{◌≡◌, ◌-◌, arith}
use Rattle.std.proofs.lemmas.Bool.Decides.{nat_tests}
use Rattle.shares.specs.Counts.{refused_lists, counted}
use Rattle.shares.proofs.AllLists.{counts-add}
use Rattle.shares.proofs.count.Goals as goal

pub overflow_sub-refuses : goal.overflow_sub-refuses
overflow_sub-refuses c = omega (arith, counts-add c.args.slots c.args.flows)

pub returns : goal.returns
unfolding counted
returns c =
    let F = c.args.slots in
    let n = c.args.flows in
    let rest : c.all.result - c.fitting-accepts.result ≡ refused_lists F n = omega (arith, counts-add F n) in
    rw (rest, c.fitting-accepts.ensures) (grind (arith, nat_tests))
