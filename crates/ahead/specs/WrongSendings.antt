-- Histories in which a tile is not sent ahead as it should be, each of which the reference scheduler can come to, but for two tiles in one slot. All but the
-- twice sent tile are on the listing's plan. Assumes nothing.
use Rattle.std.specs.Prelude.{ℕ, List, ◌∷◌, []}
use Rattle.std.proofs.Math.Option.{some, none}
use Rattle.model.specs.Plan.{Plan, plan_of}
use Rattle.model.specs.Calls.{History, requested, credited, ticked, lent, accepted}
use Rattle.model.specs.PlanBytes.{plan1, listing}
use Rattle.ahead.specs.Sendings.{Sending, nothing, event, ahead}

abbrev pub P : Plan
P = plan_of listing

-- In slot 0 slots 1, 2, 4 and 5 are booked, with cells that fall free in slots 3, 4 and 5. Slot 3 is the current one, and nobody's.
abbrev pub booked : History
booked =
    ticked none ∷ ticked (some 0) ∷ ticked (some 0) ∷ credited 0 5 (accepted tt) ∷ requested 0x24000C00 (accepted 0x24000C05) ∷ credited 0 4 (accepted tt)
    ∷ requested 0x24000800 (accepted 0x24000804) ∷ credited 0 3 (accepted tt) ∷ requested 0x24000400 (accepted 0x24000402)
    ∷ requested 0x24000000 (accepted 0x24000001) ∷ []

abbrev pub booked_only : Sending booked
booked_only = event _ (event _ (event _ (event _ (event _ (event _ (event _ (event _ (event _ (event _ nothing)))))))))

-- a credit, dated slot 5, without the lend; a lend without the credit
abbrev pub not_lent : History
not_lent = credited 0 5 (accepted tt) ∷ booked

abbrev pub not_credited : History
not_credited = lent 1 (accepted 0) ∷ booked

-- slot 6, which is not booked
abbrev pub of_nothing : History
of_nothing = credited 0 6 (accepted tt) ∷ lent 1 (accepted 0) ∷ booked

abbrev pub sends_nothing : Sending of_nothing
sends_nothing = ahead 0 6 booked_only

-- slot 5 before slot 4
abbrev pub out_of_order : History
out_of_order = credited 0 5 (accepted tt) ∷ lent 1 (accepted 0) ∷ booked

abbrev pub sends_out_of_order : Sending out_of_order
sends_out_of_order = ahead 0 5 booked_only

-- in slot 0 a tile that comes in slot 2, and has slot 3
abbrev pub not_come : History
not_come = credited 0 3 (accepted tt) ∷ lent 1 (accepted 0) ∷ requested 0x24000002 (accepted 0x24000003) ∷ []

abbrev pub sends_not_come : Sending not_come
sends_not_come = ahead 0 3 (event _ nothing)

-- in slot 1 a tile that comes up on the link before in this very slot, and has slot 2
abbrev pub comes_now : History
comes_now = credited 0 2 (accepted tt) ∷ lent 1 (accepted 0) ∷ requested 0x24000001 (accepted 0x24000002) ∷ ticked none ∷ []

abbrev pub sends_as_it_comes : Sending comes_now
sends_as_it_comes = ahead 0 2 (event _ (event _ nothing))

-- flow 1 has slot 6: the lend is answered with flow 0, and the credit is of flow 1
abbrev pub other_credited : History
other_credited = credited 1 6 (accepted tt) ∷ lent 1 (accepted 0) ∷ requested 0x24100003 (accepted 0x24100006) ∷ booked

-- slots 4 and 5, both in slot 3: a scheduler that does not mark a lent slot
abbrev pub two_in_one : History
two_in_one = credited 0 5 (accepted tt) ∷ lent 1 (accepted 0) ∷ credited 0 4 (accepted tt) ∷ lent 1 (accepted 0) ∷ booked

abbrev pub sends_two_in_one : Sending two_in_one
sends_two_in_one = ahead 0 5 (ahead 0 4 booked_only)

-- F = 3, W = 3, share 1: slots 1, 3 and 6 are booked, and slot 6 is sent ahead in slot 4 and again in slot 5
abbrev pub thin : List ℕ
thin = plan1 3 3 8 1 4

abbrev pub once_sent : History
once_sent =
    ticked none ∷ credited 0 6 (accepted tt) ∷ lent 1 (accepted 0) ∷ ticked none ∷ ticked (some 0) ∷ ticked none ∷ ticked (some 0)
    ∷ requested 0x24000800 (accepted 0x24000806) ∷ requested 0x24000400 (accepted 0x24000403) ∷ requested 0x24000000 (accepted 0x24000001) ∷ []

abbrev pub twice : History
twice = credited 0 6 (accepted tt) ∷ lent 1 (accepted 0) ∷ once_sent

abbrev pub sends_twice : Sending twice
sends_twice = ahead 0 6 (event _ (ahead 0 6 (event _ (event _ (event _ (event _ (event _ (event _ (event _ nothing)))))))))
