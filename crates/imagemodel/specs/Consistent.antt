-- The conditions on a link of which an image is taken. RULES 12.3. Assumes nothing.
use Rattle.std.specs.Prelude.{ℕ, ◌+◌, ◌-◌, ◌*◌, ◌%◌, ◌≤◌, ◌<◌, ◌≡◌, List, Bool, true, false, not, ◌&&◌, ◌||◌, length, get_or, leb, ltb, eqb}
use Rattle.std.proofs.Math.Option.{Option, some, none}
use Rattle.model.specs.Tables.{every, sum, ahead, bit}
use Rattle.model.specs.Plan.{Plan, positions, flow_count, entry, Accepted}
use Rattle.model.specs.Window.{Window, size, head, later}
use Rattle.model.specs.Link.{Link, Flow, owner, flow}

-- ---- owners and bookings

-- RULES 12.3: an owner is one of n flows, or nobody
abbrev pub known : ℕ → Option ℕ → Bool
known n none = true
known n (some k) = ltb k n

-- flow i booked a position that has this owner
abbrev pub booked_by : ℕ → Option ℕ → Bool
booked_by i none = false
booked_by i (some k) = eqb k i

-- flow i's bookings in frame j, those that have gone by too
unfoldable pub bookings_in : Plan → List (Option ℕ) → (i j : ℕ) → ℕ
bookings_in P owners i j = sum P.slots (λ x. bit (booked_by i (get_or owners (j * P.slots + x) none)))

-- ---- frames and positions, going round

-- frame j comes after frame k: it lies further on from HF
unfoldable pub frame_after : Window → (j k : ℕ) → Bool
frame_after w j k = ltb (ahead w.frames (head w) k) (ahead w.frames (head w) j)

-- the position before p
abbrev pub before : Window → ℕ → ℕ
before w p = (p + size w - 1) % size w

abbrev pub window_at : Plan → ℕ → Window
window_at P current = record { slots = P.slots; frames = P.frames; current = current }

-- ---- a flow, with the plan, CP and the owners

module _ (P : Plan) (current : ℕ) (owners : List (Option ℕ)) (i : ℕ) (x : Flow) where
  -- RULES 12.3: the most that the flow may hold at p, if it is later than CP: what it holds before p, and one more where it is the owner of p
  abbrev pub grows_to : ℕ → ℕ
  grows_to p = get_or x.held (before (window_at P current) p) 0 + bit (booked_by i (get_or owners p none))

  pub record ConsistentFlow : Type 0 where
    -- IF is one of the frames
    pub injection_below : x.injection < P.frames
    -- RULES 12.3: in each frame at most its share is booked
    pub within_share : (j : ℕ) → j < P.frames → bookings_in P owners i j ≤ (entry P i).share
    -- RULES 12.3: nothing is booked after IF
    pub none_after : (j : ℕ) → j < P.frames → frame_after (window_at P current) j x.injection ≡ true → bookings_in P owners i j ≡ 0
    -- RULES 12.3: in IF its bookings and C make up the share
    pub spent : bookings_in P owners i x.injection + x.remainder ≡ (entry P i).share
    -- RULES 12.3: no position has more than its cells
    pub within_cells : (p : ℕ) → p < positions P → get_or x.held p 0 ≤ (entry P i).cells
    -- RULES 12.3: after CP a position has no more than the one before it, or one more where the flow is its owner
    pub grows : (p : ℕ) → p < positions P → later (window_at P current) p current ≡ true → get_or x.held p 0 ≤ grows_to p
    -- RULES 12.3: its next number fits ten bits
    pub number_below : x.number < 1024

  -- the same as a test
  unfoldable pub flow_test : Bool
  flow_test =
      ltb x.injection P.frames
      && every P.frames (λ j. leb (bookings_in P owners i j) (entry P i).share)
      && every P.frames (λ j. not (frame_after (window_at P current) j x.injection) || eqb (bookings_in P owners i j) 0)
      && eqb (bookings_in P owners i x.injection + x.remainder) (entry P i).share
      && every (positions P) (λ p. leb (get_or x.held p 0) (entry P i).cells)
      && every (positions P) (λ p. not (later (window_at P current) p current) || leb (get_or x.held p 0) (grows_to p))
      && ltb x.number 1024

-- ---- a link

pub record Consistent (l : Link) : Type 0 where
  -- RULES 12.3: CP is a position
  pub current_below : l.current < positions l.plan
  -- the next lend looks from a flow
  pub turn_below : l.turn < flow_count l.plan
  -- each position has a known owner
  pub owners_known : (p : ℕ) → p < positions l.plan → known (flow_count l.plan) (owner l p) ≡ true
  -- RULES 12.3: what is asked of each flow
  pub each_flow : (i : ℕ) → i < flow_count l.plan → ConsistentFlow l.plan l.current l.owners i (flow l i)

unfoldable pub consistent : Link → Bool
consistent l =
    ltb l.current (positions l.plan)
    && ltb l.turn (flow_count l.plan)
    && every (positions l.plan) (λ p. known (flow_count l.plan) (owner l p))
    && every (flow_count l.plan) (λ i. flow_test l.plan l.current l.owners i (flow l i))

-- ---- a link that an image can keep

-- T positions, n flows
pub record Whole (l : Link) : Type 0 where
  pub owners_long : length l.owners ≡ positions l.plan
  pub flows_long : length l.flows ≡ flow_count l.plan
  pub held_long : (i : ℕ) → i < flow_count l.plan → length (flow l i).held ≡ positions l.plan

pub record Keepable (l : Link) : Type 0 where
  pub accepted : Accepted l.plan
  pub whole : Whole l
  pub consistent : Consistent l
