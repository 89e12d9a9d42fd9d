use Rattle.std.proofs.Common.{ℕ, ◌<◌, ◌≡◌, false}
use Rattle.model.specs.Tables.{any}
use Rattle.week.specs.Week.{share_minute}
use Rattle.week.specs.Reading.{stored}
use Rattle.week.proofs.shared.any_shared.Given as goal

-- none of those looked at shares a minute with one at a lower place
abbrev pub invariant-loop-i : goal.invariant-loop-i
invariant-loop-i l = (k : ℕ) → k < l.i → any k (λ j. share_minute (stored l.entries j) (stored l.entries k)) ≡ false
