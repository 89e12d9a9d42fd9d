-- Schedulers that lend out of turn (RULES 9.3). Each is the reference scheduler but for one fault. Assumes nothing.
use Rattle.std.specs.Prelude.{ℕ, ◌+◌, ◌%◌}
use Rattle.model.specs.Plan.{flow_count}
use Rattle.model.specs.Calls.{LendAnswer, accepted, refused}
use Rattle.model.specs.Link.{Link, with_turn}
use Rattle.model.specs.Reset.{quiet, reset_link}
use Rattle.model.specs.Scheduler.{Scheduler, reference}
use Rattle.model.specs.WrongSchedulers.{with_tick, with_lend}
use Rattle.model.specs.WrongResets.{resets_by}

-- ---- the lend with another flow to look from next: after a lend to flow i on link l, and after a refused one

module _ (after : Link → ℕ → ℕ) (refused_on : Link → ℕ) where
  abbrev turned : Link → Link × LendAnswer → Link × LendAnswer
  turned l (next, accepted i) = (with_turn next (after l i), accepted i)
  turned l (next, refused r) = (with_turn next (refused_on l), refused r)

  abbrev turns_by : Scheduler
  turns_by = with_lend (λ l m. turned l (reference.lend l m))

abbrev stays : Link → ℕ
stays l = l.turn

-- the one after flow i, going round
abbrev following : Link → ℕ → ℕ
following l i = (i + 1) % flow_count l.plan

-- ---- the schedulers

-- looks from flow 0 always
abbrev pub lowest_always : Scheduler
lowest_always = turns_by (λ l i. 0) stays

-- looks from the last one lent to, not from the one after it
abbrev pub looks_from_last : Scheduler
looks_from_last = turns_by (λ l i. i) stays

-- looks from the flow after the one that it looked from, not after the one lent to
abbrev pub steps_on : Scheduler
steps_on = turns_by (λ l i. following l l.turn) stays

-- a refused lend is a turn too
abbrev pub turns_on_refusal : Scheduler
turns_on_refusal = turns_by following (λ l. following l l.turn)

-- a tick begins with flow 0 again
abbrev pub tick_forgets : Scheduler
tick_forgets = with_tick (λ l. (with_turn (reference.tick l).0 0, (reference.tick l).1))

-- leaves n after a lend to flow n - 1
abbrev pub leaves_count : Scheduler
leaves_count = turns_by (λ l i. i + 1) stays

-- a granted reset leaves the flow to look from
abbrev pub keeps_turn : Scheduler
keeps_turn = resets_by quiet (λ l. with_turn (reset_link l) l.turn)
