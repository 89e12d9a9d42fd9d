use Rattle.replies.proofs.PutOn.{says_same}
use Rattle.meshwords.proofs.AskedLines.{slots-missing, no-threes, whole-streams}
use Rattle.meshwords.proofs.asked.asked.Goals as goal

pub returns-then-numbers-eq0 : goal.returns-then-numbers-eq0
returns-then-numbers-eq0 c = says_same (slots-missing _ _ c.if-numbers-eq0.true) c.say.ensures

pub returns-then-numbers-ne0 : goal.returns-then-numbers-ne0
returns-then-numbers-ne0 c = says_same (no-threes _ _ c.if-numbers-eq0.false c.if-numbers-ne0.true) c.say-then-numbers-ne0.ensures

pub returns-then-over : goal.returns-then-over
returns-then-over c = rw c.if-over.true (says_same (whole-streams _ _ c.if-numbers-eq0.false c.if-numbers-ne0.false) c.say_over.ensures)

pub returns : goal.returns
returns c = rw c.if-over.false (says_same (whole-streams _ _ c.if-numbers-eq0.false c.if-numbers-ne0.false) c.say_admission.ensures)
