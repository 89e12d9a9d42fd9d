use Rattle.std.proofs.Common.{◌≡◌, get_or}
use Rattle.limits.specs.Reading.{no_wanted}
use Rattle.plan.specs.Reading.{no_entry, wanted_of}
use Rattle.plan.proofs.Stored.{up_to}
use Rattle.plan.proofs.draft.wanted.Given as goal

-- the entries before entry i are widened
abbrev pub invariant-loop-i : goal.invariant-loop-i
invariant-loop-i l = l.all ≡ up_to (λ k. wanted_of (get_or l.entries k no_entry)) no_wanted l.i
