-- The loop that counts on the slots still left: the count so far is that of a frame with as many slots as were gone through. Assumes nothing.
use Prim.Native.Nat.{ℕ, zero, suc, ◌+◌, ◌-◌, ◌≤◌}
use mathlib.Core.Path.{◌≡◌, ap, ◌∙◌}
use native.Mathlib.Numerals.{add-one}
use native.Mathlib.Omega.{arith}
use Rattle.shares.specs.Counts.{accepted_lists}
use Rattle.shares.proofs.SlotsLeft.{no-slots, one-slot-more}

pub in-no-slot : (n : ℕ) → 1 ≤ n → accepted_lists 0 n ≡ 0
in-no-slot zero h = absurd (omega arith)
in-no-slot (suc n) h = no-slots n

pub in-one-slot-more : (F n : ℕ) → 1 ≤ n → accepted_lists (F + 1) n ≡ accepted_lists F n + accepted_lists F (n - 1)
in-one-slot-more F zero h = absurd (omega arith)
in-one-slot-more F (suc n) h =
    let fewer : n ≡ suc n - 1 = omega arith in
    ap (λ k. accepted_lists k (suc n)) (add-one F) ∙ one-slot-more F n ∙ ap (λ k. accepted_lists F (suc n) + accepted_lists F k) fewer
