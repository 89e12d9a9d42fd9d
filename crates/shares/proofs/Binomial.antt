-- The lists that are accepted are as many as the binomial coefficient of F over n. Assumes nothing.
use Prim.Native.Nat.{ℕ, zero, suc, ◌-◌, ◌^◌}
use mathlib.Core.Path.{◌≡◌}
use native.Mathlib.Omega.{arith}
use Rattle.shares.specs.Counts.{accepted_lists, refused_lists}
use Rattle.shares.specs.Binomial.{choose}
use Rattle.shares.proofs.SlotsLeft.{no-flows, no-slots, one-slot-more}
use Rattle.shares.proofs.AllLists.{counts-add}

pub accepted-binomial : (F n : ℕ) → accepted_lists F n ≡ choose F n
unfolding choose
accepted-binomial zero zero = no-flows 0
accepted-binomial (suc F) zero = no-flows (suc F)
accepted-binomial zero (suc n) = no-slots n
accepted-binomial (suc F) (suc n) = omega (arith, one-slot-more F n, accepted-binomial F (suc n), accepted-binomial F n)

pub refused-binomial : (F n : ℕ) → refused_lists F n ≡ F ^ n - choose F n
refused-binomial F n = omega (arith, counts-add F n, accepted-binomial F n)
