-- How many cells a stream needs that asks on arrival and within its share, so that each request is granted in its frame or the next: by how late they
-- are given back. It names no link, only calls and answers. Assumes nothing.
--
-- A cell is `late` frames late if it is credited by the end of that many frames after the one in which its tile comes up, dated by the end of the frame
-- after the one of the credit (`CreditsEachBy`). Then late + 2 shares of cells are enough:
-- - two shares, where each cell is credited in the frame in which its tile comes up, as the next board does that credits it at its own grant;
-- - three, where the last board credits it only when the tile was shown, by the end of the next frame.
-- Why: what the stream holds from the next frame on is of tiles of the last `late` frames, this one and the next. A stream is lent nothing here, and no
-- reset is granted.
use Rattle.std.specs.Prelude.{ℕ, ◌+◌, ◌*◌, ◌≤◌, ◌<◌, ◌≡◌, List, true, ◌&&◌, eqb}
use Rattle.model.specs.Tables.{tally}
use Rattle.model.specs.Word.{flow_of, quantum_of, departure_of}
use Rattle.model.specs.Plan.{Plan, flow_count, entry, plan_of, refusal}
use Rattle.model.specs.Calls.{Call, Grant, History, accepted, refused}
use Rattle.model.specs.History.{ticks, slot_after, frame_of, well_formed, has_come, is_granted_reset, grants, lends, of_flow, granted_up_to, credited_up_to, expected_number}
use Rattle.model.specs.Claim.{Each, AtRequest}
use Rattle.model.specs.Scheduler.{Scheduler, run}
use Rattle.arrival.specs.Delay.{current_frame, made_in, AtAnswer, GrantedSoon}
use Rattle.arrival.specs.EnoughCells.{last_of, returns, in_slot}
use Rattle.arrival.specs.BooksInOrder.{AfterThoseAt}

-- ---- how late cells are given back

-- RULES 22.8: after h flow i's cells of the frames that are more than `late` frames back fall free by the end of frame late + 1 after theirs.
abbrev pub GivenBack : (late : ℕ) → Plan → ℕ → History → Type 0
GivenBack late P i h =
    (s : ℕ) → frame_of P s + late < current_frame P h → granted_up_to P h i s ≤ credited_up_to P h i (last_of P (frame_of P s + late + 1))

-- So it is where the cell of each tile is credited at most `late` frames after the one in which the tile comes up, dated by the end of the frame after the
-- one of the credit (`given-back-by`, in proofs/CreditsInTime.antt).
pub record CreditsEachBy (late : ℕ) (P : Plan) (i : ℕ) (h : History) : Type 0 where
  -- the slot in which the cell of the tile of slot t is credited
  pub credit_of : ℕ → ℕ
  pub in_frames : (t : ℕ) → frame_of P (credit_of t) ≤ frame_of P t + late
  -- in each slot that is gone flow i made as many such credits as it has tiles of which the cells are credited then
  pub each : (c : ℕ) → c < ticks h → tally (λ m. of_flow i m && eqb (credit_of m.slot) c) (grants P h) ≤ tally (in_slot P i c) (returns P h)

-- ---- the stream

-- RULES 22.8: what is asked of flow i's well-formed request with word w, after h: fewer than its share of grants were made in this frame, and room is
-- not asked
pub record AsksWithinShare (late : ℕ) (P : Plan) (i w : ℕ) (h : History) : Type 0 where
  pub come : has_come P (ticks h) (departure_of w) ≡ true
  pub number : quantum_of w ≡ expected_number P h i
  pub given_back : GivenBack late P i h
  pub few : made_in P h i (current_frame P h) < (entry P i).share

-- It asks so, and has late + 2 shares of cells, or `short` fewer.
pub record KeepsShares (late short : ℕ) (P : Plan) (i : ℕ) (h : History) : Type 0 where
  pub asks : Each (AtRequest (λ w h. well_formed P w ≡ true → flow_of w ≡ i → AsksWithinShare late P i w h)) h
  pub enough_cells : (late + 2) * (entry P i).share ≤ (entry P i).cells + short
  pub not_lent : tally (of_flow i) (lends h) ≡ 0
  pub no_reset : tally is_granted_reset h ≡ 0

-- ---- what follows

-- the request is granted, in this frame or the next
abbrev pub GrantedNow : Plan → Grant → History → Type 0
GrantedNow P (accepted v) h = GrantedSoon P (slot_after P (ticks h) (departure_of v)) h
GrantedNow P (refused r) h = ⊥

abbrev pub EachGrantedNow : Plan → ℕ → History → Type 0
EachGrantedNow P i = Each (AtAnswer (λ w a h. well_formed P w ≡ true → flow_of w ≡ i → GrantedNow P a h))

-- RULES 22.8: room may be missing in slots of the current frame, and still each request is granted so. That the reference scheduler keeps it, however late,
-- is `shares-of-cells`, in proofs/SharesOfCells.antt.
abbrev pub SharesOfCellsBy : (late short : ℕ) → Scheduler → Type 0
SharesOfCellsBy late short c =
    (bytes : List ℕ) → refusal bytes ≡ 0 → (calls : List Call) (i : ℕ) → i < flow_count (plan_of bytes)
    → KeepsShares late short (plan_of bytes) i (run c (plan_of bytes) calls).history
    → EachGrantedNow (plan_of bytes) i (run c (plan_of bytes) calls).history

abbrev pub SharesOfCells : Scheduler → Type 0
SharesOfCells c = (late : ℕ) → SharesOfCellsBy late 0 c

-- each cell is credited as its tile comes up, and when its tile was shown
abbrev pub TwoShares : Scheduler → Type 0
TwoShares = SharesOfCellsBy 0 0

abbrev pub ThreeShares : Scheduler → Type 0
ThreeShares = SharesOfCellsBy 1 0

-- ---- and in order

-- Each slot that the stream is granted comes after those that it was granted before, so that its tiles come up in the order in which it asked for them. Room
-- may be missing only in a frame of which the stream has its whole share. That the reference scheduler keeps it, however late, is `shares-in-order`, in
-- proofs/SharesInOrder.antt.
abbrev pub SharesInOrderBy : (late short : ℕ) → Scheduler → Type 0
SharesInOrderBy late short c =
    (bytes : List ℕ) → refusal bytes ≡ 0 → (calls : List Call) (i : ℕ) → i < flow_count (plan_of bytes)
    → KeepsShares late short (plan_of bytes) i (run c (plan_of bytes) calls).history
    → Each (AfterThoseAt (plan_of bytes) i) (run c (plan_of bytes) calls).history

abbrev pub SharesInOrder : Scheduler → Type 0
SharesInOrder c = (late : ℕ) → SharesInOrderBy late 0 c
