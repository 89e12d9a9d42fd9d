use Rattle.std.proofs.Common.{◌∙◌, arith}
use Rattle.state.proofs.State.{mask-stored}
use Rattle.state.proofs.put_mask.Goals as goal

pub returns-clause-is : goal.returns-clause-is
returns-clause-is c = mask-stored _ _ _ c.told-s c.requires (omega arith) (c.copy_from_slice.ensures.after ∙ c.to_le_bytes.ensures)
