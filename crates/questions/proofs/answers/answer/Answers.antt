use Rattle.replies.proofs.PutOn.{says_same}
use Rattle.questions.proofs.LineAnswers.{too_long, short-enough}
use Rattle.questions.proofs.answers.answer.Goals as goal

pub returns-then-line-gt-LONGEST : goal.returns-then-line-gt-LONGEST
returns-then-line-gt-LONGEST c = says_same (too_long c.args.line.now c.if-line-gt-LONGEST.true) c.say.ensures

pub returns : goal.returns
returns c = says_same (short-enough c.args.line.now c.if-line-gt-LONGEST.false) c.answer_short.ensures
