-- What a call on a state leaves, and what was written of it. Assumes nothing.
use Rattle.std.specs.Prelude.{ℕ, ◌+◌, ◌≤◌, ◌<◌, ◌≡◌, List, length}
use Rattle.plan.specs.declared.Plan.{Plan}
use Rattle.window.specs.declared.Window.{Window}
use Rattle.calls.specs.Lines.{Puts}
use Rattle.link.specs.Given.{StateIn}
use Rattle.link.specs.Steps.{read_in}
use Rattle.trace.specs.declared.told.Kind.{Kind}
use Rattle.trace.specs.declared.told.Kind.TheVariants.{Request, Credit, Tick, Lend, Reset, Burst}
use Rattle.trace.specs.Trace.{Traced}

-- RULES 26.5: the number of a kind of call
abbrev pub kind_number : Kind → ℕ
kind_number Request = 1
kind_number Credit = 2
kind_number Tick = 3
kind_number Lend = 4
kind_number Reset = 5
kind_number Burst = 6

-- room for all lines of a call
abbrev pub room : ℕ
room = 2048

-- a state of a plan in its window, a position of 256, and room for its lines from a place on
pub record Tellable (plan : Plan) (w : Window) (s : List ℕ) (p : ℕ) (out : List ℕ) (at : ℕ) : Type 0 where
  pub hand : StateIn plan w s
  pub position : p < 256
  pub fits : at + 384 ≤ length out

-- lines are written from a place on, and they have room
pub record Lines (lines before after : List ℕ) (at next most : ℕ) : Type 0 where
  pub put : Puts lines before after at next
  pub short : next ≤ at + most

-- the state is that of the link which is traced, with its window w, and the lines are written
pub record Told (m : Traced) (plan : Plan) (w : Window) (state before after : List ℕ) (at next : ℕ) : Type 0 where
  pub link_is : read_in plan state ≡ m.link
  pub hand : StateIn plan w state
  pub lines_are : Lines m.lines before after at next room
