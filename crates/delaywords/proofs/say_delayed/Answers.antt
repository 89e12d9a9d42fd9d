use Rattle.delaywords.proofs.say_delayed.Goals as goal

pub returns-in-Err-NoQuestion : goal.returns-in-Err-NoQuestion
returns-in-Err-NoQuestion c =
    let asked = rw c.in-Err-NoQuestion.is at c.in-Err-NoQuestion.field-0-is in
    rw (c.in-Err-NoQuestion.is, asked) c.say.ensures
