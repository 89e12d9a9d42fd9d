use Rattle.link.proofs.OwnerMasks.{Masking}
use Rattle.link.proofs.resume.mask_owners.Given as goal

abbrev pub invariant-loop-p : goal.invariant-loop-p
invariant-loop-p l = Masking l.w l.initial.s l.s l.p
