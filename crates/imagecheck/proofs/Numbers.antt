-- The numbers of the refusals of buffers: none is 0. Assumes nothing.
use Rattle.std.proofs.Common.{◌<◌, arith}
use Rattle.imagecheck.specs.declared.refusal.Refusal.{Refusal}
use Rattle.imagecheck.specs.declared.refusal.Refusal.TheVariants.{Short, Fault}
use Rattle.imagecheck.specs.Refusals.{number}

pub some-number : (r : Refusal) → 0 < number r
some-number Short = omega arith
some-number Fault = omega arith
