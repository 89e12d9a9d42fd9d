-- Sets of definitions to unfold: a proof by computation that unfolds the name of a set unfolds what is in it. Assumes nothing.
use mathlib.Core.List.{flat_map}
use Rattle.model.specs.Tables.{every, any, sum, first_from, ahead, tally}
use Rattle.model.specs.Refusals.{first_of}
use Rattle.model.specs.Plan.{refusal, entry_fits}
use Rattle.model.specs.Window.{rank, passed, from_on, every_from}
use Rattle.model.specs.Fresh.{fresh}
use Rattle.model.specs.Request.{valid, can_leave, valid_for, search, sought, would_be_valid, booked, refused_at_newest, answered, request_after, request}
use Rattle.model.specs.Credit.{lowered, credit_after, credit}
use Rattle.model.specs.Tick.{recycled, advanced, tick}
use Rattle.model.specs.Lend.{can_take, lent_to, first_in_turn, lent_after, lend_after, lend}
use Rattle.model.specs.Burst.{in_order, burst}
use Rattle.model.specs.WrittenPlan.{bytes_of, write_refusal, written_after, written}
use Rattle.model.specs.Reset.{none_booked, none_held, reset_link, reset_after, reset}
use Rattle.model.specs.Record.{records, call_of}
use Rattle.model.specs.Listing.{digits, decimal, outcomes, listing, plan_missing, output_after, output}
use Rattle.model.specs.History.{ticks, slot_after, well_formed, origin, changes, grants, credits, lends, grants_since, refusals_since}
use Rattle.model.specs.Scheduler.{play}

-- a plan's refusal
unfoldable pub plans-compute : Unit {0}
unfolding any sum first_of refusal entry_fits
plans-compute = tt

-- which position is later
unfoldable pub window-computes : Unit {0}
unfolding every ahead rank passed from_on every_from
window-computes = tt

unfoldable pub requests-compute : Unit {0}
unfolding any first_from first_of window-computes valid can_leave valid_for search sought would_be_valid booked refused_at_newest answered request_after request
requests-compute = tt

unfoldable pub lends-compute : Unit {0}
unfolding first_from first_of window-computes can_take lent_to first_in_turn lent_after lend_after lend
lends-compute = tt

-- the calls of the reference scheduler, and a list of calls played
unfoldable pub calls-compute : Unit {0}
unfolding fresh requests-compute lowered credit_after credit recycled advanced tick lends-compute none_booked none_held reset_link reset_after reset play
calls-compute = tt

unfoldable pub bursts-compute : Unit {0}
unfolding requests-compute in_order burst
bursts-compute = tt

-- a plan written
unfoldable pub writer-computes : Unit {0}
unfolding flat_map bytes_of write_refusal written_after written
writer-computes = tt

-- what the program writes
unfoldable pub program-computes : Unit {0}
unfolding flat_map records call_of digits decimal outcomes listing plan_missing output_after output
program-computes = tt

-- what is counted over a history
unfoldable pub counts-compute : Unit {0}
unfolding ahead tally ticks slot_after well_formed origin changes grants credits lends grants_since refusals_since
counts-compute = tt
