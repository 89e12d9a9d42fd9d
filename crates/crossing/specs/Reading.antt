-- A crossing of the code, read as the model's; and what a step of it comes to. Assumes nothing.
use Rattle.std.specs.Prelude.{ℕ, ◌≡◌, List, Bool, true, false, cond, get_or, ltb}
use Rattle.std.proofs.Math.Option.{Option, some, none}
use Rattle.model.specs.Tables.{table}
use Rattle.model.specs.Calls.{Grant, accepted, refused}
use Rattle.window.specs.declared.Window.{Window}
use Rattle.link.specs.Given.{StateIn}
use Rattle.link.specs.Steps.{read_in}
use Rattle.crossings.specs.Crossing as reference
use Rattle.crossing.specs.declared.Crossing.{Crossing}

-- RULES 27.1: the flow that a flow goes on as, where the out-link has n flows
abbrev pub onward_to : (n j : ℕ) → Option ℕ
onward_to n j = cond (ltb j n) (some j) none

abbrev pub onward_of : Crossing → List (Option ℕ)
onward_of x = table 16 (λ i. onward_to x.leaving.count (get_or x.onward i 0))

-- the two states are of its plans, and tick in step: they have one window
pub record BoardIn (x : Crossing) (w : Window) (a b : List ℕ) : Type 0 where
  pub arriving : StateIn x.arriving w a
  pub leaving : StateIn x.leaving w b

-- p is the model's crossing that is read of the two states and of the tiles that wait
pub record Reads (p : reference.Crossing) (x : Crossing) (a b waiting : List ℕ) : Type 0 where
  pub arriving_is : p.arriving.state ≡ read_in x.arriving a
  pub leaving_is : p.leaving.state ≡ read_in x.leaving b
  pub onward_is : p.onward ≡ onward_of x
  pub waiting_is : p.waiting ≡ waiting

-- What is read afterwards is `step` of what was read before, whatever was asked of the two links until then.
abbrev pub Comes : Crossing → (step : reference.Crossing → reference.Crossing) → (a b waiting a' b' waiting' : List ℕ) → Type 0
Comes x step a b waiting a' b' waiting' = (p : reference.Crossing) → Reads p x a b waiting → Reads (step p) x a' b' waiting'

-- a tile is asked for, and leaves if it is granted a slot
abbrev pub is_granted : Grant → Bool
is_granted (accepted v) = true
is_granted (refused r) = false

abbrev pub passed_once : (i j : ℕ) → reference.Crossing → reference.Crossing
passed_once i j p = reference.on_grant i (reference.answer_for j p) (λ q. q) (reference.asked_for j p)

-- so of the first tile of flow i; and `granted` says which
pub record PassedOne (x : Crossing) (i j : ℕ) (p : reference.Crossing) (a b waiting : List ℕ) (granted : Bool) : Type 0 where
  pub reads : Reads (passed_once i j p) x a b waiting
  pub granted_is : granted ≡ is_granted (reference.answer_for j p)

abbrev pub Passes : Crossing → (i j : ℕ) → (a b waiting a' b' waiting' : List ℕ) → Bool → Type 0
Passes x i j a b waiting a' b' waiting' granted = (p : reference.Crossing) → Reads p x a b waiting → PassedOne x i j p a' b' waiting' granted
