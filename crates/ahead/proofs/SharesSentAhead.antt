-- Two shares of cells, with which room may be missing at a request: two runs, the second of which sends a tile ahead, that meet what is asked. Assumes
-- nothing.
use Prim.Native.Nat.{ℕ}
use mathlib.Core.Path.{◌≡◌, refl, ap, ◌∙◌}
use mathlib.Core.List.{List, ◌∷◌, [], ◌++◌}
use mathlib.Core.Bool.{cond}
use native.Mathlib.Omega.{arith}
use native.Mathlib.Decide.{ℕ_discrete}
use lib.Dec.{lit<, lit≤, eqb}
use borrow.Author.Tests.{ne_eqb}
use Rattle.model.specs.Plan.{Plan, plan_of}
use Rattle.model.specs.Calls.{Call, History}
use Rattle.model.specs.Claim.{Each}
use Rattle.model.specs.LessAsked.{HasRoom}
use Rattle.model.specs.PlanBytes.{plan1}
use Rattle.arrival.specs.Delay.{AsksAt}
use Rattle.arrival.specs.SharesOfCells.{KeepsShares}
use Rattle.ahead.specs.AheadRuns.{WithAhead, start, both_tick, both_request, both_credit, sent_ahead, latest, BookedAlike}
use Rattle.ahead.specs.Sendings.{SentWell, sending_of, HasShares, SendersHaveShares}
use Rattle.model.proofs.Decidable.{proved}
use Rattle.arrival.proofs.CellsNeeded.{given_back, keeps-shares}
use Rattle.ahead.proofs.AheadByOrder.{sends-by-order, shares-order-senders}
use Rattle.ahead.proofs.AheadDecided.{ahead-computes}
use Rattle.ahead.proofs.LessAhead.{after}

-- F = 2, W = 2, one flow with share 1 and two cells
abbrev two_shares : List ℕ
two_shares = plan1 2 2 8 1 2

-- In slot 1 slot 2 is granted, whose cell is credited in slot 2, dated slot 3; and then slot 4, whose cell is credited in slot 4, dated slot 7. There slot 6 is
-- granted. In slot 6 both cells are held, and slot 8 is granted.
abbrev calls : List Call → List Call
calls sent =
    Call.tick ∷ Call.request 0x24000001 ∷ Call.tick ∷ Call.credit 0 3 ∷ Call.request 0x24000402 ∷ Call.tick
    ∷ (sent ++ Call.tick ∷ Call.credit 0 3 ∷ Call.request 0x24000800 ∷ Call.tick ∷ Call.tick ∷ Call.request 0x24000C02 ∷ [])

abbrev calls₁ : List Call
calls₁ = calls []

-- the tile of slot 4, which comes in slot 2, leaves in slot 3
abbrev calls₂ : List Call
calls₂ = calls (Call.lend 1 ∷ Call.credit 0 0 ∷ [])

abbrev P : Plan
P = plan_of two_shares

abbrev h₁ : History
h₁ = after two_shares calls₁

unfoldable pub two_runs : WithAhead h₁ (after two_shares calls₂)
unfolding ahead-computes
two_runs =
    both_request 0x24000C02 (both_tick (both_tick (both_request 0x24000800 (both_credit 0 3 (both_tick (sent_ahead 0 0 (both_tick (both_request 0x24000402
    (both_credit 0 3 (both_tick (both_request 0x24000001 (both_tick start))))))))))))

pub shares-are-kept : KeepsShares 0 0 P 0 h₁
unfolding ahead-computes given_back keeps-shares
shares-are-kept = proved (keeps-shares 0 0 P (lit< tt) 0 h₁) tt

pub no-room-there : Each (AsksAt HasRoom P 0) h₁ → ⊥
unfolding ahead-computes
no-room-there room = omega (arith, room.0 refl refl 6 (lit≤ tt))

senders : SendersHaveShares P two_runs
unfolding ahead-computes two_runs
senders i some = go (ℕ_discrete i 0)
  where
    latest-is : latest P two_runs i ≡ cond (eqb i 0) 4 0
    latest-is = refl

    go : Dec (i ≡ 0) → HasShares P i h₁
    go (yes e) = rw e (record { known = lit< tt; late = 0; keeps = shares-are-kept })
    go (no d) = absurd (omega (arith, latest-is ∙ ap (λ b. cond b 4 0) (ne_eqb i 0 d)))

pub alike-by-shares : BookedAlike P two_runs × SentWell P (sending_of two_runs)
unfolding ahead-computes two_runs
alike-by-shares =
    let order = shares-order-senders two_shares refl calls₁ calls₂ two_runs senders in
    let alike = sends-by-order two_shares refl calls₁ calls₂ two_runs (lit< {n = 1} tt, tt) order (tt, (tt, tt)) in
    (alike.0, alike.1 (lit< {n = 1} tt, tt))
