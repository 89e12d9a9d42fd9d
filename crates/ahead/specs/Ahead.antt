-- A tile sent ahead of its booked slot: a lend, and then a credit. RULES 24.1 to 24.3. Assumes nothing.
--
-- In the current slot, which nobody booked, a lend is answered with flow i, and the tile that leaves in it is one that i booked at a later position p. A
-- credit of i dated p then takes it off where the booking counts it again: i holds one more from CP up to, but not including, p.
-- That p is booked, and was not sent ahead before, is not needed for the credit to be taken, nor for what the two calls come to. It says which tile left.
use Rattle.std.specs.Prelude.{ℕ, suc, ◌+◌, ◌%◌, ◌<◌, ◌≡◌, List, true, false, not, ◌&&◌, cond}
use Rattle.model.specs.Tables.{table}
use Rattle.model.specs.Plan.{Plan, Accepted, positions, flow_count, plan_of, refusal}
use Rattle.model.specs.Calls.{Call, accepted}
use Rattle.model.specs.Window.{passed, from_on}
use Rattle.model.specs.Link.{Link, window, flow, holding, with_flow, with_mark, with_turn, with_held}
use Rattle.model.specs.Credit.{credit}
use Rattle.model.specs.Lend.{lend}
use Rattle.model.specs.History.{ticks, has_come}
use Rattle.model.specs.Scheduler.{Scheduler, run}

-- ---- what the two calls come to

-- RULES 24.3: flow i's holdings, one more at CP and at each later position that comes before p
abbrev pub held_until : Link → (i p : ℕ) → List ℕ
held_until l i p =
    table (positions l.plan) (λ q. cond (from_on (window l) l.current q && not (from_on (window l) p q)) (suc (holding l i q)) (holding l i q))

-- RULES 24.3: owners, injection frames, remainders and numbers stay. The slot is marked, and the turn has moved on.
abbrev pub sent_ahead : Link → (i p : ℕ) → Link
sent_ahead l i p = with_turn (with_mark (with_flow l i (with_held (flow l i) (held_until l i p))) true) ((i + 1) % flow_count l.plan)

-- RULES 24.1 and 24.3: on every link, whether or not calls lead to it from fresh: where a lend is answered with flow i, a credit of i dated any
-- position later than CP is taken, and the two come to this. That it is so is `comes-to`, in proofs/Ahead.antt.
abbrev pub ComesTo : Type 0
ComesTo =
    (l : Link) → Accepted l.plan → l.current < positions l.plan → (mask i p : ℕ) → (lend l mask).answer ≡ accepted i
    → p < positions l.plan → passed (window l) p ≡ false → credit (lend l mask).link i p ≡ record { link = sent_ahead l i p; answer = accepted tt }

-- ---- taken, of a scheduler

-- RULES 24.1: after any calls, where a lend is answered with flow i: a credit of i that comes next is taken, if it is dated a position later than CP.
-- `has_come` is the test of a position that has gone by.
abbrev pub AheadAcceptedOn : Scheduler → Plan → Type 0
AheadAcceptedOn c P =
    (calls : List Call) (mask i p : ℕ) → (c.lend (run c P calls).state mask).1 ≡ accepted i
    → p < positions P → has_come P (ticks (run c P calls).history) p ≡ false
    → (c.credit (c.lend (run c P calls).state mask).0 i p).1 ≡ accepted tt

-- for the bytes of every accepted plan. That the reference scheduler keeps it is `ahead-accepted`, in proofs/Ahead.antt.
abbrev pub AheadAccepted : Scheduler → Type 0
AheadAccepted c = (bytes : List ℕ) → refusal bytes ≡ 0 → AheadAcceptedOn c (plan_of bytes)
