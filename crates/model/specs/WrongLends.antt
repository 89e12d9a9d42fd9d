-- Schedulers that lend wrongly (RULES 9.1 to 9.4). Each is the reference scheduler but for one fault. Assumes nothing.
use Rattle.std.specs.Prelude.{ℕ, ◌%◌, ◌^◌, Bool, true, not, ◌&&◌, cond, leb}
use Rattle.std.proofs.Math.Option.{Option, some, none}
use Rattle.model.specs.Tables.{first_from}
use Rattle.model.specs.Plan.{flow_count}
use Rattle.model.specs.Calls.{LendAnswer, accepted, refused, in_mask}
use Rattle.model.specs.Link.{Link, owner, with_mark}
use Rattle.model.specs.Request.{unbooked}
use Rattle.model.specs.Lend.{can_take, takes, lent_to}
use Rattle.model.specs.Scheduler.{Scheduler, reference}
use Rattle.model.specs.WrongSchedulers.{with_tick, with_lend}

-- ---- the lend with another test of the slot, another test of a flow, or another link

module _ (idle : Link → Bool) (takes : Link → ℕ → ℕ → Bool) (lent_to : Link → ℕ → Link) where
  abbrev found : Link → Option ℕ → Link × LendAnswer
  found l (some k) = (lent_to l (k % flow_count l.plan), accepted (k % flow_count l.plan))
  found l none = (l, refused 18)

  abbrev lends_by : Scheduler
  lends_by = with_lend (λ l m.
      cond (leb (2 ^ flow_count l.plan) m) (l, refused 8)
      (cond (idle l) (found l (first_from (flow_count l.plan) l.turn (λ k. takes l m (k % flow_count l.plan)))) (l, refused 17)))

-- neither booked nor marked
abbrev is_idle : Link → Bool
is_idle l = unbooked (owner l l.current) && not l.marked

-- ---- the schedulers

-- lends a booked slot
abbrev pub lends_booked : Scheduler
lends_booked = lends_by (λ l. not l.marked) takes lent_to

-- lends one slot twice: the mark is forgotten
abbrev pub forgets_mark : Scheduler
forgets_mark = lends_by is_idle takes (λ l i. with_mark (lent_to l i) l.marked)

-- doesn't count a lent slot in the holding
abbrev pub holds_no_loan : Scheduler
holds_no_loan = lends_by is_idle takes (λ l i. with_mark l true)

-- lends to a flow with all its cells held
abbrev pub lends_to_full : Scheduler
lends_to_full = lends_by is_idle (λ l m i. in_mask m i) lent_to

-- lends to a flow that the mask does not have
abbrev pub ignores_mask : Scheduler
ignores_mask = lends_by is_idle (λ l m i. can_take l i) lent_to

-- lets the mark stand past the tick
abbrev pub keeps_mark : Scheduler
keeps_mark = with_tick (λ l. (with_mark (reference.tick l).0 l.marked, (reference.tick l).1))
