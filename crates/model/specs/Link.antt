-- The booking table of one link: who booked each position, what each flow holds, and how they are changed. RULES 4.1. Assumes nothing.
use Rattle.std.specs.Prelude.{ℕ, List, [], Bool, cond, get_or, eqb}
use Rattle.std.proofs.Math.Option.{Option, none}
use Rattle.model.specs.Tables.{table}
use Rattle.model.specs.Plan.{Plan, positions, flow_count, entry}
use Rattle.model.specs.Window.{Window, from_on}

-- RULES 4.1: what a link keeps for each flow
pub record Flow : Type 0 where
  pub injection : ℕ  -- IF
  pub remainder : ℕ  -- C
  pub held : List ℕ  -- what the flow holds at each position
  pub number : ℕ  -- RULES 5.3: the quantum number that its next word has to carry

-- RULES 1.1 and 4.1: a link, and what it keeps
pub record Link : Type 0 where
  pub plan : Plan
  pub current : ℕ  -- CP
  pub owners : List (Option ℕ)  -- the flow that booked each position
  pub flows : List Flow
  pub marked : Bool  -- RULES 9.2: the mark of the current slot
  pub turn : ℕ  -- RULES 9.3: the flow that the next lend looks from

-- RULES 4.3: what a call hands back, the next link and its answer
pub record Step (A : Type 0) : Type 0 where
  pub link : Link
  pub answer : A

abbrev pub window : Link → Window
window l = record { slots = l.plan.slots; frames = l.plan.frames; current = l.current }

-- ---- what is read of a link

abbrev pub no_flow : Flow
no_flow = record { injection = 0; remainder = 0; held = []; number = 0 }

abbrev pub owner : Link → ℕ → Option ℕ
owner l p = get_or l.owners p none

abbrev pub flow : Link → ℕ → Flow
flow l i = get_or l.flows i no_flow

-- what flow i holds at position p
abbrev pub holding : Link → ℕ → ℕ → ℕ
holding l i p = get_or (flow l i).held p 0

abbrev pub share : Link → ℕ → ℕ
share l i = (entry l.plan i).share

abbrev pub cells : Link → ℕ → ℕ
cells l i = (entry l.plan i).cells

-- ---- a flow that is changed

-- Flow x with these fields; what else it has stays. Every change of a flow goes through this one.
abbrev pub flow_with : Flow → (injection remainder : ℕ) → (held : List ℕ) → (number : ℕ) → Flow
flow_with x injection remainder held number = record {
  injection = injection;
  remainder = remainder;
  held = held;
  number = number;
}

abbrev pub moved_to : Flow → ℕ → ℕ → Flow
moved_to x j c = flow_with x j c x.held x.number

abbrev pub with_held : Flow → List ℕ → Flow
with_held x h = flow_with x x.injection x.remainder h x.number

abbrev pub with_number : Flow → ℕ → Flow
with_number x k = flow_with x x.injection x.remainder x.held k

-- ---- a link that is changed

-- Link l with these fields; what else it has stays. Every change of a link goes through this one.
abbrev pub link_with : Link → (current : ℕ) → (owners : List (Option ℕ)) → (flows : List Flow) → (marked : Bool) → (turn : ℕ) → Link
link_with l current owners flows marked turn = record {
  plan = l.plan;
  current = current;
  owners = owners;
  flows = flows;
  marked = marked;
  turn = turn;
}

abbrev pub with_current : Link → ℕ → Link
with_current l p = link_with l p l.owners l.flows l.marked l.turn

-- the owner of each position p is f p
abbrev pub with_owners : Link → (ℕ → Option ℕ) → Link
with_owners l f = link_with l l.current (table (positions l.plan) f) l.flows l.marked l.turn

-- each flow i is f i
abbrev pub with_flows : Link → (ℕ → Flow) → Link
with_flows l f = link_with l l.current l.owners (table (flow_count l.plan) f) l.marked l.turn

-- flow i is x
abbrev pub with_flow : Link → ℕ → Flow → Link
with_flow l i x = with_flows l (λ j. cond (eqb j i) x (flow l j))

abbrev pub with_mark : Link → Bool → Link
with_mark l mark = link_with l l.current l.owners l.flows mark l.turn

abbrev pub with_turn : Link → ℕ → Link
with_turn l i = link_with l l.current l.owners l.flows l.marked i

-- flow i's holdings, changed by f at position p and at all later positions
abbrev pub held_from : Link → ℕ → ℕ → (ℕ → ℕ) → List ℕ
held_from l i p f = table (positions l.plan) (λ q. cond (from_on (window l) p q) (f (holding l i q)) (holding l i q))
