use Rattle.std.proofs.Common.{ap, ◌∙◌, arith}
use Rattle.replies.proofs.PutOn.{says_same}
use Rattle.showinput.specs.Input.{question_line}
use Rattle.showinput.proofs.Question.{end-long, too_long, short-enough}
use Rattle.showinput.proofs.answers.answer.Goals as goal

pub returns-then-end-gt-LONGEST : goal.returns-then-end-gt-LONGEST
returns-then-end-gt-LONGEST c =
    let at = c.question_end-end.ensures in
    says_same (too_long c.args.input.now (omega (arith, c.if-end-gt-LONGEST.true, end-long c.args.input.now _ at.few at.is))) c.say.ensures

pub returns : goal.returns
returns c =
    let at = c.question_end-end.ensures in
    says_same (ap question_line at.is ∙ short-enough c.args.input.now (omega (arith, c.if-end-gt-LONGEST.false, end-long c.args.input.now _ at.few at.is))) c.answer_short.ensures
