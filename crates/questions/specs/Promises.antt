-- The state read as the line that has begun; what `start`, `feed` and `finish` promise, and a run of them over pieces of input. Assumes nothing.
use Rattle.std.specs.Prelude.{ℕ, ◌≤◌, ◌≡◌, length, take}
use mathlib.Core.List.{List, ◌∷◌, [], ◌++◌, foldr}
use Rattle.std.proofs.lemmas.List.Edits.{sets}
use Rattle.replies.specs.Lines.{Says}
use Rattle.questions.specs.declared.State.{State}
use Rattle.questions.specs.declared.Fed.{Fed}
use Rattle.questions.specs.Feeding.{line_fed, said_fed, taken_from, at_end}

-- ---- the state

-- the line that has begun
abbrev pub line_of : State → List ℕ
line_of s = take s.count s.bytes

-- so many bytes of an array of 4,001 are this line
pub record Holds (bytes : List ℕ) (count : ℕ) (line : List ℕ) : Type 0 where
  pub long : length bytes ≡ 4001
  pub most : count ≤ 4001
  pub line_is : take count bytes ≡ line

-- the invariant of a state
abbrev pub Regular : State → Type 0
Regular s = Holds s.bytes s.count (line_of s)

abbrev pub Stands : State → (line : List ℕ) → Type 0
Stands s line = Holds s.bytes s.count line

-- ---- the promises

-- nothing has come yet
abbrev pub Started : State → Type 0
Started s = Stands s []

-- `used` bytes of a piece are fed. What is to be written stands in the first `written` bytes of what was `out`; the rest is unchanged.
pub record FedPiece (line piece out : List ℕ) (r : Fed) (out' : List ℕ) : Type 0 where
  pub used_is : r.used ≡ taken_from line piece (length out)
  pub stands : Stands r.state (line_fed line (take r.used piece))
  pub written_is : r.written ≡ length (said_fed line (take r.used piece))
  pub out_is : out' ≡ sets out 0 (said_fed line (take r.used piece))
  pub room : r.written ≤ length out

-- ---- a run

-- Pieces are fed one after the other, the first to s and each later one to the state that the call before handed back; t is the last state.
-- `pieces` is what was taken of each, and `said` what was to be written after them, in order.
pub data Feeds : (s : State) (pieces : List (List ℕ)) (said : List ℕ) (t : State) → Type 0 where
  none : {s : State} → Feeds s [] [] s
  piece : {s t : State} {pieces : List (List ℕ)} {said : List ℕ} (p out out' : List ℕ) (r : Fed)
      → FedPiece (line_of s) p out r out' → Feeds r.state pieces said t
      → Feeds s (take r.used p ∷ pieces) (take r.written out' ++ said) t

-- the input that pieces come to
abbrev pub joined : List (List ℕ) → List ℕ
joined = foldr ◌++◌ []

-- A run from the start to the end of the input, and all that was to be written in it.
pub record Runs (pieces : List (List ℕ)) (said : List ℕ) : Type 0 where
  pub first : State
  pub started : Started first
  pub last : State
  pub fed : List ℕ
  pub feeds : Feeds first pieces fed last
  pub out : List ℕ
  pub out' : List ℕ
  pub written : ℕ
  pub finished : Says (at_end (line_of last)) out out' written
  pub said_is : said ≡ fed ++ take written out'
