use Rattle.std.proofs.Common.{sym, ◌∙◌}
use Rattle.replies.proofs.PutOn.{says_same}
use Rattle.weekwords.proofs.WeekLines.{no-threes, too_wide, faults-said}
use Rattle.weekwords.proofs.words.week_faults.Goals as goal

pub returns-then-numbers-ne0 : goal.returns-then-numbers-ne0
returns-then-numbers-ne0 c = says_same (no-threes c.args.numbers.now c.if-numbers-ne0.true) c.say.ensures

pub returns-then-some_wide : goal.returns-then-some_wide
returns-then-some_wide c =
    says_same (too_wide c.args.numbers.now c.if-numbers-ne0.false (sym c.some_wide.ensures ∙ c.if-some_wide.true)) c.say-then-some_wide.ensures

pub returns : goal.returns
returns c =
    says_same (faults-said c.args.numbers.now (record { threes = c.if-numbers-ne0.false; narrow = sym c.some_wide.ensures ∙ c.if-some_wide.false }))
    c.say_found.ensures
