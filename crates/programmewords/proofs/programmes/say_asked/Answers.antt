use Rattle.std.proofs.Common.{ap, ◌∙◌}
use Rattle.week.specs.declared.Programme.{Programme}
use Rattle.week.specs.Week.{plan_at}
use Rattle.week.specs.Reading.{entries_of}
use Rattle.replies.proofs.PutOn.{says_same}
use Rattle.programmewords.specs.Programmes.{minute_asked, programme_line}
use Rattle.programmewords.proofs.ProgrammeLines.{narrow-line}
use Rattle.programmewords.proofs.programmes.say_asked.Goals as goal

pub returns : goal.returns
returns c =
    let numbers = c.args.numbers.now in
    let line = ap programme_line c.plan_at-answer.ensures
    ∙ ap (λ (p : Programme). programme_line (plan_at (entries_of p) (minute_asked numbers))) c.asked-p.ensures
    ∙ narrow-line numbers c.args.count c.requires.0 c.requires.1.narrow in
    says_same line c.say_answer.ensures
