use Rattle.replies.proofs.PutOn.{says_same}
use Rattle.planwords.proofs.FileLines.{header-missing, no-fours, asked-in-room}
use Rattle.planwords.proofs.plans.in_room.Goals as goal

pub returns-then-numbers-lt3 : goal.returns-then-numbers-lt3
returns-then-numbers-lt3 c = says_same (header-missing _ _ c.if-numbers-lt3.true) c.say.ensures

pub returns-then-numbers-ne0 : goal.returns-then-numbers-ne0
returns-then-numbers-ne0 c = says_same (no-fours _ _ c.if-numbers-lt3.false c.if-numbers-ne0.true) c.say-then-numbers-ne0.ensures

pub returns : goal.returns
returns c =
    says_same (asked-in-room _ _ (record { header = c.if-numbers-lt3.false; fours = c.if-numbers-ne0.false }) _ _ c.asked.ensures c.min-end.ensures) c.say_written.ensures
