use Rattle.std.proofs.Common.{sym}
use Rattle.replies.proofs.PutOn.{says_same}
use Rattle.meshwords.proofs.OverLines.{table-line-is}
use Rattle.meshwords.proofs.overloads.say_over.Goals as goal

pub returns-in-Ok : goal.returns-in-Ok
returns-in-Ok c =
    rw (sym c.in-Ok.ensures.refusal) (says_same (table-line-is _ _ _ (sym c.in-Ok.ensures.refusal) c.in-Ok.ensures.table) c.say_table.ensures)
