-- The conditions on a flow, by the places of its fields. Assumes nothing.
use Rattle.std.specs.Prelude.{ℕ, ◌+◌, ◌-◌, ◌*◌, List, Bool, not, ◌&&◌, ◌||◌, leb, ltb, eqb}
use Rattle.model.specs.Tables.{every, sum, bit}
use Rattle.model.specs.Plan.{Plan, field16}
use Rattle.model.specs.Window.{Window, size, later}
use Rattle.imagemodel.specs.Image.{field_at, owner_in, flow_in, link_from}
use Rattle.imagemodel.specs.Consistent.{booked_by, frame_after, before, flow_test}

-- whether flow i booked the position whose owner stands at a place, as a number
abbrev pub booking_at : List ℕ → (i at : ℕ) → ℕ
booking_at b i at = bit (booked_by i (owner_in (field16 b at)))

-- how many of so many positions from a place on it booked
abbrev pub bookings_at : List ℕ → (i at count : ℕ) → ℕ
bookings_at b i at count = sum count (λ x. booking_at b i (at + 2 * x))

-- flow i's bookings in frame j are at most its share, and none where the frame comes after its injection frame
abbrev pub frame_kept : List ℕ → (owners : ℕ) → Window → (i share frame j : ℕ) → Bool
frame_kept b owners w i share frame j =
    leb (bookings_at b i (owners + 2 * (j * w.slots)) w.slots) share
    && (not (frame_after w j frame) || eqb (bookings_at b i (owners + 2 * (j * w.slots)) w.slots) 0)

-- RULES 12.3: where position p is later than CP, flow i holds no more there than before it, or one more if it booked p
abbrev pub grows_at : List ℕ → (owners held : ℕ) → Window → (i p : ℕ) → Bool
grows_at b owners held w i p =
    not (later w p w.current) || leb (field_at b held p) (field_at b held (before w p) + booking_at b i (owners + 2 * p))

-- RULES 12.3: the same at the k-th of the positions whose owners and holdings stand from these places on, and which have one before them
abbrev pub grows_on : List ℕ → (owners held i k : ℕ) → Bool
grows_on b owners held i k = leb (field_at b held k) (field16 b (held + 2 * k - 2) + booking_at b i (owners + 2 * k))

-- flow i's injection frame and remainder, which stand at a place, fit its bookings
abbrev pub spends_well : List ℕ → (owners at : ℕ) → Window → (i share : ℕ) → Bool
spends_well b owners at w i share =
    ltb (field16 b at) w.frames
    && every w.frames (frame_kept b owners w i share (field16 b at))
    && eqb (bookings_at b i (owners + 2 * (field16 b at * w.slots)) w.slots + field16 b (at + 2)) share

-- flow i's holdings, from a place on, fit its cells and its bookings
abbrev pub holds_well : List ℕ → (owners held : ℕ) → Window → (i cells : ℕ) → Bool
holds_well b owners held w i cells = every (size w) (λ p. leb (field_at b held p) cells) && every (size w) (grows_at b owners held w i)

-- flow i in an image of plan P
abbrev pub flow_kept : List ℕ → Plan → (current i : ℕ) → Bool
flow_kept b P current i = flow_test P current (link_from b P).owners i (flow_in b P i)
