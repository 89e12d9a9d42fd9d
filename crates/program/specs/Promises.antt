-- What `start`, `feed` and `finish` promise, and a run of them over pieces of input. Assumes nothing.
use Rattle.std.specs.Prelude.{ℕ, ◌*◌, ◌/◌, ◌≤◌, min, ◌≡◌, length, take}
use mathlib.Core.List.{List, ◌∷◌, [], ◌++◌, foldr}
use Rattle.std.proofs.lemmas.List.Edits.{sets}
use Rattle.calls.specs.Lines.{out_with, next_after}
use Rattle.program.specs.declared.State.{State}
use Rattle.program.specs.declared.Fed.{Fed}
use Rattle.program.specs.Stage.{Stage, reading, at_end, stage_fed, written_fed}
use Rattle.program.specs.State.{stage_of, Stands}

-- ---- the promises

-- nothing has come yet
abbrev pub Started : State → Type 0
Started s = Stands s (reading [])

-- how many bytes of a piece are taken: five for each line that `out` has room for, seven bytes a line
abbrev pub taken_from : (piece out : List ℕ) → ℕ
taken_from piece out = min (length piece) (5 * (length out / 7))

-- `used` bytes of a piece are fed at stage s. What is to be written stands in the first `written` bytes of what was `out`; the rest is unchanged.
pub record FedPiece (s : Stage) (piece out : List ℕ) (r : Fed) (out' : List ℕ) : Type 0 where
  pub used_is : r.used ≡ taken_from piece out
  pub stands : Stands r.state (stage_fed s (take r.used piece))
  pub written_is : r.written ≡ length (written_fed s (take r.used piece))
  pub out_is : out' ≡ sets out 0 (written_fed s (take r.used piece))
  pub room : r.written ≤ length out

-- The input ends at stage s: what is to be written then stands in the first `written` bytes of what was `out`, if a line has room there.
pub record Finished (s : Stage) (out : List ℕ) (written : ℕ) (out' : List ℕ) : Type 0 where
  pub written_is : written ≡ next_after (at_end s) out 0
  pub out_is : out' ≡ out_with (at_end s) out 0
  pub room : written ≤ length out

-- ---- a run

-- Pieces are fed one after the other, the first to s and each later one to the state that the call before handed back; t is the last state.
-- `pieces` is what was taken of each, and `lines` what was to be written after them, in order.
pub data Feeds : (s : State) (pieces : List (List ℕ)) (lines : List ℕ) (t : State) → Type 0 where
  none : {s : State} → Feeds s [] [] s
  piece : {s t : State} {pieces : List (List ℕ)} {lines : List ℕ} (p out out' : List ℕ) (r : Fed)
      → FedPiece (stage_of s) p out r out' → Feeds r.state pieces lines t
      → Feeds s (take r.used p ∷ pieces) (take r.written out' ++ lines) t

-- the input that pieces come to
abbrev pub joined : List (List ℕ) → List ℕ
joined = foldr ◌++◌ []

-- A run from the start to the end of the input, and all that was to be written in it.
pub record Runs (pieces : List (List ℕ)) (lines : List ℕ) : Type 0 where
  pub first : State
  pub started : Started first
  pub last : State
  pub fed : List ℕ
  pub feeds : Feeds first pieces fed last
  pub out : List ℕ
  pub line_has_room : 7 ≤ length out
  pub out' : List ℕ
  pub written : ℕ
  pub finished : Finished (stage_of last) out written out'
  pub lines_are : lines ≡ fed ++ take written out'
