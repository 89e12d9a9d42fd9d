-- Schedulers that reset wrongly (RULES 10.1 and 10.2). Each is the reference scheduler but for one fault. Assumes nothing.
use Rattle.std.specs.Prelude.{Bool, true, not, cond, replicate}
use Rattle.model.specs.Plan.{positions}
use Rattle.model.specs.Calls.{accepted, refused}
use Rattle.model.specs.Window.{head}
use Rattle.model.specs.Link.{Link, window, owner, flow, with_current, with_flows, with_mark, moved_to, with_held}
use Rattle.model.specs.Request.{unbooked}
use Rattle.model.specs.Reset.{none_booked, none_held, quiet, from_head, reset_link}
use Rattle.model.specs.Scheduler.{Scheduler}
use Rattle.model.specs.WrongSchedulers.{with_reset}

-- the reset with another test, or another link
abbrev pub resets_by : (Link → Bool) → (Link → Link) → Scheduler
resets_by test next = with_reset (λ l. cond (test l) (next l, accepted tt) (l, refused 23))

-- forgets that the current slot was booked
abbrev pub unmarks_booked : Scheduler
unmarks_booked = resets_by quiet (λ l. with_mark (reset_link l) l.marked)

-- forgets that the current slot was marked
abbrev pub unmarks_marked : Scheduler
unmarks_marked = resets_by quiet (λ l. with_mark (reset_link l) (not (unbooked (owner l l.current))))

-- is granted while a later position is booked
abbrev pub resets_booked : Scheduler
resets_booked = resets_by none_held reset_link

-- is granted while cells are held, and zeroes them
abbrev zeroed : Link → Link
zeroed l = with_flows l (λ i. with_held (flow l i) (replicate (positions l.plan) 0))

abbrev pub zeroes_held : Scheduler
zeroes_held = resets_by none_booked (λ l. zeroed (reset_link l))

-- puts the clock back, as the source document does
abbrev pub puts_clock_back : Scheduler
puts_clock_back = resets_by quiet (λ l. with_current (with_flows (reset_link l) (λ i. moved_to (from_head l i) 0 (from_head l i).remainder)) 0)

-- leaves IF
abbrev pub leaves_frame : Scheduler
leaves_frame = resets_by quiet (λ l. with_flows (reset_link l) (λ i. moved_to (flow l i) (flow l i).injection (from_head l i).remainder))

-- is refused, and done all the same
abbrev pub resets_refused : Scheduler
resets_refused = with_reset (λ l. (cond (quiet l) (reset_link l) l, refused 23))

-- leaves C
abbrev pub leaves_remainder : Scheduler
leaves_remainder = resets_by quiet (λ l. with_flows (reset_link l) (λ i. moved_to (flow l i) (head (window l)) (flow l i).remainder))

-- is granted while cells are held, which stay held
abbrev pub resets_held : Scheduler
resets_held = resets_by none_booked reset_link

-- marks the current slot, whether or not it was booked
abbrev pub marks_always : Scheduler
marks_always = resets_by quiet (λ l. with_mark (reset_link l) true)
