use Rattle.std.proofs.Common.{refl}
use Rattle.replies.proofs.PutOn.{says_same}
use Rattle.showwords.proofs.AskedShow.{header-missing, no-fives, whole-show}
use Rattle.showwords.proofs.show.Goals as goal

pub returns-then-numbers-lt3 : goal.returns-then-numbers-lt3
returns-then-numbers-lt3 c = says_same (header-missing _ c.if-numbers-lt3.true) c.say.ensures

pub returns-then-numbers-ne0 : goal.returns-then-numbers-ne0
returns-then-numbers-ne0 c = says_same (no-fives _ c.if-numbers-lt3.false c.if-numbers-ne0.true) c.say-then-numbers-ne0.ensures

pub returns : goal.returns
returns c = says_same (whole-show _ c.if-numbers-lt3.false c.if-numbers-ne0.false _ refl) c.say_show.ensures
