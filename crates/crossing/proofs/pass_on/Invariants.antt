use Rattle.std.proofs.Common.{◌-◌}
use Rattle.crossings.specs.Crossing as reference
use Rattle.crossing.proofs.Tiles.{Going}
use Rattle.crossing.proofs.pass_on.Given as goal

-- as many tiles are left to ask for as turns
abbrev pub invariant-loop : goal.invariant-loop
invariant-loop l =
    Going l.x l.w (λ p. reference.pass_on (reference.waits p l.i) l.i l.j p) (reference.pass_on (l.end - l.counter) l.i l.j) l.initial.a l.initial.b l.initial.waiting
    l.a l.b l.waiting
