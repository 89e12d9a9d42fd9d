use Rattle.std.proofs.Common.{length, get_or}
use Rattle.fields.proofs.FieldLists.{Putting}
use Rattle.fields.proofs.put_all.Given as goal

-- the numbers so far are written
abbrev pub invariant-loop-x : goal.invariant-loop-x
invariant-loop-x l = Putting (λ j. get_or l.numbers j 0) (length l.numbers) l.initial.out l.out l.at l.next l.x-index
