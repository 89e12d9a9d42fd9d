use Rattle.std.proofs.Common.{ap, ◌∙◌}
use Rattle.model.specs.Listing.{refusal_line}
use Rattle.replies.proofs.PutOn.{says_same}
use Rattle.planwords.proofs.BytesLines.{line_refused, line-accepted}
use Rattle.planwords.proofs.reads.say_plan.Goals as goal

pub returns-in-Ok : goal.returns-in-Ok
returns-in-Ok c = says_same (line-accepted _ c.in-Ok.ensures.is) c.say_question.ensures

pub returns-in-Err : goal.returns-in-Err
returns-in-Err c = says_same (ap refusal_line c.number.ensures ∙ line_refused _ _ c.in-Err.ensures.is) c.say_refusal.ensures
