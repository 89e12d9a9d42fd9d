use Rattle.std.proofs.Common.{ℕ, ◌<◌, ◌≡◌, false}
use Rattle.week.specs.Week.{share_minute}
use Rattle.week.specs.Reading.{entry_for, stored}
use Rattle.week.proofs.shared.shared_below.Given as goal

-- none of those looked at shares a minute with entry i
abbrev pub invariant-loop-lower : goal.invariant-loop-lower
invariant-loop-lower l = (j : ℕ) → j < l.lower-index → share_minute (stored l.entries j) (entry_for l.e) ≡ false
