use Rattle.std.proofs.Common.{◌+◌, get_or}
use Rattle.fields.proofs.FieldLists.{Putting}
use Rattle.fields.proofs.put_part.Given as goal

-- the fields so far are written
abbrev pub invariant-loop-x : goal.invariant-loop-x
invariant-loop-x l = Putting (λ k. get_or l.s (l.first + k) 0) l.count l.initial.out l.out l.at l.next l.x-index
