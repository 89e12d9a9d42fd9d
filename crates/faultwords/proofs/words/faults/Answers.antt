use Rattle.std.proofs.Common.{sym, ◌∙◌}
use Rattle.planwords.specs.Drafts.{WholeFlows}
use Rattle.replies.proofs.PutOn.{says_same}
use Rattle.faultwords.proofs.FaultsLines.{header-missing, no-fours, too_long}
use Rattle.faultwords.proofs.words.faults.Goals as goal

pub returns-then-numbers-lt3 : goal.returns-then-numbers-lt3
returns-then-numbers-lt3 c = says_same (header-missing c.args.numbers.now c.if-numbers-lt3.true) c.say.ensures

pub returns-then-numbers-ne0 : goal.returns-then-numbers-ne0
returns-then-numbers-ne0 c = says_same (no-fours c.args.numbers.now c.if-numbers-lt3.false c.if-numbers-ne0.true) c.say-then-numbers-ne0.ensures

pub returns-then-some_long : goal.returns-then-some_long
returns-then-some_long c =
    let whole : WholeFlows c.args.numbers.now = record { header = c.if-numbers-lt3.false; fours = c.if-numbers-ne0.false } in
    says_same (too_long c.args.numbers.now whole (sym c.some_long.ensures ∙ c.if-some_long.true)) c.say-then-some_long.ensures
