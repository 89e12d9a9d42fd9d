use Rattle.std.proofs.Common.{◌≡◌, false, get_or, take}
use Rattle.std.specs.List.{list_any}
use Rattle.model.specs.Tables.{any}
use Rattle.model.specs.Plan.{same_pair}
use Rattle.limits.specs.Reading.{wanted_for, no_wanted}
use Rattle.limits.proofs.entries.any_repeats.Given as goal

-- no entry before entry i repeats an earlier one
abbrev pub invariant-loop-i : goal.invariant-loop-i
invariant-loop-i l = any l.i (λ i. list_any (λ d. same_pair (wanted_for d) (wanted_for (get_or l.flows i no_wanted))) (take i l.flows)) ≡ false
