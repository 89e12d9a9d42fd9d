-- What a stream can count on: when its tiles arrive, and how many cells keep it so. RULES 23.1. What the numbers say of streams is in Promised.antt.
-- Assumes nothing.
use Rattle.std.specs.Prelude.{ℕ, ◌+◌, ◌-◌, ◌*◌, ◌∷◌, [], Bool, not, ◌||◌, cond, ltb, eqb}
use Rattle.std.proofs.Math.Option.{Option, some, none}
use Rattle.model.specs.Tables.{within}
use Rattle.model.specs.Refusals.{first_of, ◌when◌}
use Rattle.model.specs.Calls.{Answer, accepted, refused}
use Rattle.arrival.specs.Source.{burst_frames}

-- RULES 23.1: the three numbers
pub record Bounds : Type 0 where
  -- slots from a tile's coming to its arrival, at most
  pub slots : ℕ
  -- cells on each link, where a cell is given back as its tile comes up
  pub cells : ℕ
  -- cells on the last link, where a cell is given back only when its tile was shown
  pub shown : ℕ

-- RULES 23.1: a frame for each of m links and one more, and those that `burst` tiles more than the share cost at the source
abbrev pub frames_in : (m share burst : ℕ) → ℕ
frames_in m share burst = m + 1 + burst_frames share burst

abbrev pub bounds : (F m share burst : ℕ) → Bounds
bounds F m share burst = record { slots = frames_in m share burst * F - 1; cells = 2 * share; shown = 3 * share }

-- RULES 23.1: only 1 to 14 links, and a burst of 0 to 999 tiles, can be asked about.
unfoldable pub no_question : (m burst : ℕ) → Bool
no_question m burst = not (within 1 14 m) || ltb 999 burst

-- RULES 23.1: the refusal, and 0 where there is none: a frame has 1 to 64 slots, and a share is 1 to F
unfoldable pub refusal_of : (F share : ℕ) → ℕ
refusal_of F share = first_of (3 when not (within 1 64 F) ∷ 4 when not (within 1 F share) ∷ [])

unfoldable pub delayed : (F m share burst : ℕ) → Answer Bounds
delayed F m share burst = cond (eqb (refusal_of F share) 0) (accepted (bounds F m share burst)) (refused (refusal_of F share))

-- nothing where nobody can ask, and else the answer
unfoldable pub answer_for : (F m share burst : ℕ) → Option (Answer Bounds)
answer_for F m share burst = cond (no_question m burst) none (some (delayed F m share burst))
