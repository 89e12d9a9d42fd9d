-- Schedulers that refuse a lend or a reset that should be answered, or grant a reset over what is booked. Each is the reference scheduler but for that.
-- `LendAnswered` and `ResetGranted` send them back. Assumes nothing.
use Rattle.std.specs.Prelude.{Bool, not, ◌&&◌, cond}
use Rattle.model.specs.Tables.{any}
use Rattle.model.specs.Plan.{positions}
use Rattle.model.specs.Calls.{accepted, refused}
use Rattle.model.specs.Window.{later}
use Rattle.model.specs.Link.{Link, window, owner}
use Rattle.model.specs.Request.{unbooked}
use Rattle.model.specs.Scheduler.{Scheduler, reference}
use Rattle.model.specs.WrongSchedulers.{with_lend, with_reset}

-- some slot to come has an owner
abbrev pub some_booked : Link → Bool
some_booked l = any (positions l.plan) (λ q. later (window l) q l.current && not (unbooked (owner l q)))

-- refuses each lend while a slot is to come
abbrev pub lends_at_rest : Scheduler
lends_at_rest = with_lend (λ l m. cond (some_booked l) (l, refused 18) (reference.lend l m))

-- refuses every reset, and grants every one that changes nothing
abbrev pub refuses_resets : Scheduler
refuses_resets = with_reset (λ l. (l, refused 23))

abbrev pub grants_resets : Scheduler
grants_resets = with_reset (λ l. (l, accepted tt))
