-- How many cells a stream needs whose words run ahead of their tiles by up to `ahead` frames: as many shares more. It names no link, only calls and answers.
-- Assumes nothing.
--
-- With ahead + late + 2 shares of cells, given back `late` frames late, each request is granted, in the frame in which its tile is due or the next. Why:
-- what the stream holds from the frame after the due one on is of tiles of the last `late` frames, this one, the `ahead` frames after it and the next.
use Rattle.std.specs.Prelude.{ℕ, ◌+◌, ◌*◌, ◌≤◌, ◌<◌, ◌≡◌, List, true}
use Rattle.model.specs.Tables.{tally}
use Rattle.model.specs.Word.{flow_of, quantum_of, departure_of}
use Rattle.model.specs.Plan.{Plan, flow_count, entry, plan_of, refusal}
use Rattle.model.specs.Calls.{Call, Grant, History, accepted, refused}
use Rattle.model.specs.History.{ticks, slot_after, well_formed, is_granted_reset, lends, of_flow, expected_number}
use Rattle.model.specs.Claim.{Each}
use Rattle.model.specs.Scheduler.{Scheduler, run}
use Rattle.arrival.specs.Delay.{current_frame, newest_frame, due_frame, due_in, AtAnswer, DueInOrder, AsksAt, InTime}
use Rattle.arrival.specs.SharesOfCells.{GivenBack}

-- RULES 22.9: what is asked of flow i's well-formed request with word w, after h: fewer than its share are due in the frame in which its tile is, and
-- room is not asked
pub record AsksAhead (ahead late : ℕ) (P : Plan) (i w : ℕ) (h : History) : Type 0 where
  pub within : due_frame P w h ≤ current_frame P h + ahead
  pub in_time : due_frame P w h < newest_frame P h
  pub in_order : DueInOrder P i w h
  pub number : quantum_of w ≡ expected_number P h i
  pub given_back : GivenBack late P i h
  pub few : due_in P h i (due_frame P w h) < (entry P i).share

-- It asks so, and has ahead + late + 2 shares of cells, or `short` fewer.
pub record KeepsSharesAhead (ahead late short : ℕ) (P : Plan) (i : ℕ) (h : History) : Type 0 where
  pub asks : Each (AsksAt (AsksAhead ahead late) P i) h
  pub enough_cells : (ahead + late + 2) * (entry P i).share ≤ (entry P i).cells + short
  pub not_lent : tally (of_flow i) (lends h) ≡ 0
  pub no_reset : tally is_granted_reset h ≡ 0

-- the request is granted, in the frame in which its tile is due or the next
abbrev pub GrantedInTime : Plan → (w : ℕ) → Grant → History → Type 0
GrantedInTime P w (accepted v) h = InTime P w (slot_after P (ticks h) (departure_of v)) h
GrantedInTime P w (refused r) h = ⊥

abbrev pub EachGrantedInTime : Plan → ℕ → History → Type 0
EachGrantedInTime P i = Each (AtAnswer (λ w a h. well_formed P w ≡ true → flow_of w ≡ i → GrantedInTime P w a h))

abbrev pub SharesAheadBy : (ahead late short : ℕ) → Scheduler → Type 0
SharesAheadBy ahead late short c =
    (bytes : List ℕ) → refusal bytes ≡ 0 → (calls : List Call) (i : ℕ) → i < flow_count (plan_of bytes)
    → KeepsSharesAhead ahead late short (plan_of bytes) i (run c (plan_of bytes) calls).history
    → EachGrantedInTime (plan_of bytes) i (run c (plan_of bytes) calls).history

-- RULES 22.9: that the reference scheduler keeps it, however far ahead and however late, is `shares-ahead`, in proofs/SharesAhead.antt.
abbrev pub SharesAhead : Scheduler → Type 0
SharesAhead c = (ahead late : ℕ) → SharesAheadBy ahead late 0 c
