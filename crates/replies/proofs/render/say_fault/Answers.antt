use Rattle.replies.specs.Lines.{fault_line}
use Rattle.replies.proofs.render.say_fault.Goals as goal

pub returns-in-NoHexDigit : goal.returns-in-NoHexDigit
unfolding fault_line
returns-in-NoHexDigit c = rw c.in-NoHexDigit.is c.say-in-NoHexDigit.ensures
