use Rattle.state.proofs.State.{Masking}
use Rattle.state.proofs.put_masks.Given as goal

abbrev pub invariant-loop-j : goal.invariant-loop-j
invariant-loop-j l = Masking l.mask-items l.initial.s l.s l.j
