-- Several links, where the stream asks on each for a tile in the slot in which it comes: with shares of cells by how late they are given back, room is no
-- premise. It names no link's state, only calls and answers. Assumes nothing.
use Rattle.std.specs.Prelude.{ℕ, ◌+◌, ◌*◌, ◌%◌, ◌≤◌, ◌<◌, ◌≡◌, List, ◌∷◌, [], length}
use Rattle.model.specs.Tables.{tally}
use Rattle.model.specs.Word.{quantum_of, departure_of}
use Rattle.model.specs.Plan.{Plan, positions, entry}
use Rattle.model.specs.Calls.{History}
use Rattle.model.specs.History.{ticks, lends, of_flow, expected_number}
use Rattle.model.specs.Scheduler.{Scheduler}
use Rattle.model.specs.TwoHops.{InStep}
use Rattle.arrival.specs.SeveralLinks.{sent_slots, next_tile, next_slot, Together, Board, plan_on, OnTime}
use Rattle.arrival.specs.SharesOfCells.{GivenBack, KeepsShares, EachGrantedNow}

-- RULES 22.8: after h₁ and h₂ word w asks on the second board for flow j's next tile, in the slot in which it comes up on the first; its cells there
-- are given back as G says.
pub record AsksOnArrival (G : Plan → ℕ → History → Type 0) (P Q : Plan) (i j : ℕ) (h₁ : History) (w : ℕ) (h₂ : History) : Type 0 where
  pub sent : next_tile P Q i j h₂ < length (sent_slots P h₁ i)
  pub departs : departure_of w ≡ next_slot P Q i j h₁ h₂ % positions Q
  pub comes_now : next_slot P Q i j h₁ h₂ ≡ ticks h₂
  pub number : quantum_of w ≡ expected_number Q h₂ j
  pub given_back : G Q j h₂

-- b is the next board after a
pub record JoinedOnArrival {c : Scheduler} (a b : Board c) : Type 0 where
  pub in_step : InStep (plan_on a) (plan_on b)
  pub share_kept : (entry (plan_on a) a.stream).share ≤ (entry (plan_on b) b.stream).share
  -- how late cells are given back on b
  pub late : ℕ
  pub together :
      Together (plan_on a) (plan_on b) a.stream b.stream (AsksOnArrival (GivenBack late) (plan_on a) (plan_on b) a.stream b.stream)
      a.events b.events
  pub enough_cells : (late + 2) * (entry (plan_on b) b.stream).share ≤ (entry (plan_on b) b.stream).cells
  pub not_lent : tally (of_flow b.stream) (lends b.events) ≡ 0

abbrev pub WayOnArrival : {c : Scheduler} → Board c → List (Board c) → Type 0
WayOnArrival a [] = Unit {0}
WayOnArrival a (b ∷ rest) = JoinedOnArrival a b × WayOnArrival b rest

-- RULES 22.8: where the stream keeps such shares of cells on the first board too, it is modest there, and each request there is granted too. That the
-- reference scheduler keeps it is `over-links-on-arrival`, in proofs/LinksOnArrival.antt.
abbrev pub OverLinksOnArrival : Scheduler → Type 0
OverLinksOnArrival c =
    (late : ℕ) (a : Board c) (rest : List (Board c)) → WayOnArrival a rest
    → OnTime (KeepsShares late 0 (plan_on a) a.stream a.events) (EachGrantedNow (plan_on a) a.stream a.events) a rest
