use Rattle.std.proofs.Common.{◌≡◌, length, arith}
use Rattle.state.specs.State.{with_owners}
use Rattle.link.proofs.Resumed.{resumed}
use Rattle.link.proofs.resume.resume.Goals as goal

pub returns : goal.returns
unfolding with_owners
returns c =
    let s = c.args in
    let owners_long : length s.owner ≡ 256 = omega arith in
    resumed s.w s.s.now c.requires.1 s.owner owners_long s.mark s.turn c.put_table.ensures c.mask_owners.ensures c.unbound.ensures
