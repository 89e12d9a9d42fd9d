use Rattle.planwords.specs.Drafts.{draft_asked}
use Rattle.planwords.proofs.plans.asked.Goals as goal

pub returns : goal.returns
unfolding draft_asked
returns c = rw c.entries-entries.ensures
