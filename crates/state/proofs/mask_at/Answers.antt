use Rattle.std.proofs.Common.{◌∙◌}
use Rattle.state.proofs.State.{mask-read}
use Rattle.state.proofs.mask_at.Goals as goal

pub returns : goal.returns
returns c = c.from_le_bytes.ensures ∙ mask-read _ _
