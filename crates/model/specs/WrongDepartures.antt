-- Schedulers that take the departure (RULES 6.3) wrongly, and one that tests a position's own holding only. Each is the reference scheduler but for one fault.
-- Assumes nothing.
use Rattle.std.specs.Prelude.{true, not, ◌&&◌, ◌||◌, cond, ltb}
use Rattle.model.specs.Word.{departure_of}
use Rattle.model.specs.Calls.{Grant, accepted, refused}
use Rattle.model.specs.Window.{later, passed, from_on}
use Rattle.model.specs.Link.{Link, window, owner, holding, cells}
use Rattle.model.specs.Request.{unbooked, valid, can_leave}
use Rattle.model.specs.Scheduler.{Scheduler, reference}
use Rattle.model.specs.WrongSchedulers.{with_request, with_valid}

-- doesn't look at the departure
abbrev pub ignores_departure : Scheduler
ignores_departure = with_valid valid (λ w d p. true)

-- books the position of the departure itself
abbrev pub leaves_at_departure : Scheduler
leaves_at_departure = with_valid valid (λ w d p. not (later w d w.current) || from_on w d p)

-- takes the tile for one that has come where its position has a number up to CP's, whatever the frame
abbrev pub comes_by_number : Scheduler
comes_by_number = with_valid valid (λ w d p. not (ltb w.current d) || later w p d)

-- tests the cells at the position itself and at no later one
abbrev pub tests_own_room : Scheduler
tests_own_room = with_valid (λ l i p. unbooked (owner l p) && not (passed (window l) p) && ltb (holding l i p) (cells l i)) can_leave

-- refuses with 20 wherever the tile has not come
abbrev pub refuses_to_come : Scheduler
refuses_to_come = with_request (λ l w. cond (later (window l) (departure_of w) l.current) (l, refused 20) (reference.request l w))

-- leaves the link as it was, where nothing is granted
abbrev kept_unless : Link → Link → Grant → Link
kept_unless l next (accepted w) = next
kept_unless l next (refused r) = l

abbrev pub keeps_frame : Scheduler
keeps_frame = with_request (λ l w. (kept_unless l (reference.request l w).0 (reference.request l w).1, (reference.request l w).1))
