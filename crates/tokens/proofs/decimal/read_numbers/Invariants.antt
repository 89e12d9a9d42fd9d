use Rattle.std.proofs.Common.{◌-◌, length}
use Rattle.tokens.proofs.NumbersRead.{ReadTo}
use Rattle.tokens.proofs.decimal.read_numbers.Given as goal

abbrev pub invariant-loop-at : goal.invariant-loop-at
invariant-loop-at l = ReadTo l.line l.initial.kept l.kept l.count l.at

abbrev pub decreases-loop-at : goal.decreases-loop-at
decreases-loop-at l = length l.line - l.at
