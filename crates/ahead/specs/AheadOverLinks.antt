-- Sending ahead on the boards of a stream's way: its tiles leave within the bounds that their bookings have, and no link sends a tile on before it has come
-- on the link before. It names no link, only calls and answers. Assumes nothing.
--
-- A board's run with tiles sent ahead is set beside its run without any, which the bounds are of (SeveralLinks.antt). Since nobody's bookings move, the
-- stream's tiles have the same slots in both; and each leaves in its slot or before it. The next board asks by the slot that was booked, as it does without
-- any sending ahead: its calls are the same. So a tile is due there in the slot that was booked on the link before, and it leaves in a later one; if it was
-- sent ahead on both, it left the link before still earlier.
use Rattle.std.specs.Prelude.{ℕ, ◌+◌, ◌*◌, ◌≤◌, ◌<◌, ◌≡◌, List, ◌∷◌, [], cond, eqb, length}
use Rattle.model.specs.Plan.{Plan}
use Rattle.model.specs.Calls.{History}
use Rattle.model.specs.History.{frame_of}
use Rattle.model.specs.Scheduler.{Scheduler}
use Rattle.arrival.specs.SeveralLinks.{tile, Board, plan_on, sent_on, Joined, Within}
use Rattle.ahead.specs.AheadRuns.{WithAhead, BookedAlike}
use Rattle.ahead.specs.Sendings.{Tile, tiles, SentWell, sending_of, LentOnlyAhead}

-- the slots in which flow i's tiles leave, in the order of the list
unfoldable pub leaves_of : ℕ → List Tile → List ℕ
leaves_of i [] = []
leaves_of i (m ∷ ms) = cond (eqb m.flow i) (m.leaves ∷ leaves_of i ms) (leaves_of i ms)

-- RULES 24.8: board b's stream, with tiles sent ahead: each leaves at the latest k frames after the frame of its slot in `from`.
pub record LeaveWithin {c : Scheduler} (k : ℕ) (P : Plan) (from : List ℕ) (b : Board c) {h₂ : History} (x : WithAhead b.events h₂) : Type 0 where
  pub as_many : length (leaves_of b.stream (tiles (plan_on b) (sending_of x))) ≡ length (sent_on b)
  pub frames_later : (n : ℕ) → n < length (sent_on b)
      → frame_of (plan_on b) (tile n (leaves_of b.stream (tiles (plan_on b) (sending_of x)))) ≤ frame_of P (tile n from) + k
  pub slots_later : (n : ℕ) → n < length (sent_on b)
      → tile n (leaves_of b.stream (tiles (plan_on b) (sending_of x))) < tile n from + (k + 1) * (plan_on b).slots

-- That it follows is `leave-within`, in proofs/AheadOverLinks.antt.
abbrev pub KeptWithin : Scheduler → Type 0
KeptWithin c =
    (k : ℕ) (P : Plan) (from : List ℕ) (b : Board c) → Within k P from b → (h₂ : History) (x : WithAhead b.events h₂) → BookedAlike (plan_on b) x
    → LentOnlyAhead (sending_of x) b.stream → LeaveWithin k P from b x

-- ---- after the link before

-- the slots in which board b's stream leaves, where b's run is set beside one with tiles sent ahead
abbrev pub left_on : {c : Scheduler} (b : Board c) {h₂ : History} → WithAhead b.events h₂ → List ℕ
left_on b x = leaves_of b.stream (tiles (plan_on b) (sending_of x))

-- RULES 24.8: board b is the next after a. No tile leaves b in or before the slot that was booked for it on a, nor in or before the one in which it left a.
pub record LeaveAfter {c : Scheduler} (a b : Board c) {h₁ h₂ : History} (x : WithAhead a.events h₁) (y : WithAhead b.events h₂) : Type 0 where
  pub after_slot : (n : ℕ) → n < length (sent_on b) → tile n (sent_on a) < tile n (left_on b y)
  pub after_leaving : (n : ℕ) → n < length (sent_on b) → tile n (left_on a x) < tile n (left_on b y)

-- Bookings are alike on both, the stream is lent slots only to send ahead, and on b tiles are sent well. That the model's boards keep it is `leave-after`, in
-- proofs/LeaveAfter.antt.
abbrev pub KeptAfter : Scheduler → Type 0
KeptAfter c =
    (a b : Board c) → Joined a b → (h₁ h₂ : History) (x : WithAhead a.events h₁) (y : WithAhead b.events h₂)
    → BookedAlike (plan_on a) x → LentOnlyAhead (sending_of x) a.stream
    → BookedAlike (plan_on b) y → LentOnlyAhead (sending_of y) b.stream → SentWell (plan_on b) (sending_of y) → LeaveAfter a b x y
