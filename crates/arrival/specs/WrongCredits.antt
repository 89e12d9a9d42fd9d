-- Schedulers that refuse credits of cells that are held. Each is the reference scheduler but for that, and it may look at all calls and answers so far. Demand
-- 3 takes them, and they are prompt and soon: what is counted as held is still held, and a flow without room is promised nothing. `CreditAccepted` sends them
-- back. Assumes nothing.
use Rattle.std.specs.Prelude.{ℕ, suc, ◌%◌, Bool, true, cond, eqb}
use Rattle.model.specs.Calls.{refused}
use Rattle.model.specs.History.{ticks}
use Rattle.model.specs.Scheduler.{Scheduler, Played, reference}
use Rattle.arrival.specs.WrongDelays.{remembers_both}

-- the reference scheduler, which refuses a credit where `keeps` says so of the calls so far
abbrev pub keeps_cells : (keeps : Played reference → (i p : ℕ) → Bool) → Scheduler
keeps_cells keeps =
    remembers_both (λ r w. reference.request r.state w)
    (λ r i p. cond (keeps r i p) (r.state, refused 15) (reference.credit r.state i p))

-- refuses every credit
abbrev pub takes_no_credit : Scheduler
takes_no_credit = keeps_cells (λ r i p. true)

-- refuses every credit in a frame's last slot
abbrev pub rests_at_last : Scheduler
rests_at_last = keeps_cells (λ r i p. eqb (suc (ticks r.history) % r.state.plan.slots) 0)
