use Rattle.std.proofs.Common.{◌∙◌, ap, length, take}
use Rattle.showinput.proofs.Question.{stripped}
use Rattle.showinput.proofs.answers.question_end.Goals as goal

pub returns-clause-is : goal.returns-clause-is
returns-clause-is c =
    let input = c.args.input in
    ap (λ l. take (length l.now) input.now) c.unwrap_or.ensures ∙ stripped input c.strip_suffix.result c.strip_suffix.ensures.cases
