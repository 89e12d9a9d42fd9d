use Rattle.std.proofs.Common.{arith, rules}
use Rattle.state.proofs.Parts.{put-mid-part}
use Rattle.state.proofs.put_table.Goals as goal

pub returns : goal.returns
returns c = put-mid-part _ _ 256 _ _ _ (omega arith) c.copy_from_slice.ensures.after (search rules) (omega (arith, c.told-s))
