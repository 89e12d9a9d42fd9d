-- The state read as the input so far; what `start`, `feed` and `finish` promise, and a run of them over pieces of input. Assumes nothing.
use Rattle.std.specs.Prelude.{ℕ, ◌≤◌, ◌≡◌, length, take}
use mathlib.Core.List.{List, ◌∷◌, [], ◌++◌, foldr}
use Rattle.replies.specs.Lines.{Says}
use Rattle.showinput.specs.declared.State.{State}
use Rattle.showinput.specs.Input.{answer_to, kept}

-- ---- the state

-- the input so far, or its first bytes
abbrev pub input_of : State → List ℕ
input_of s = take s.count s.bytes

-- so many bytes of an array of 4,002 are this input
pub record Holds (bytes : List ℕ) (count : ℕ) (input : List ℕ) : Type 0 where
  pub long : length bytes ≡ 4002
  pub most : count ≤ 4002
  pub input_is : take count bytes ≡ input

abbrev pub Stands : State → (input : List ℕ) → Type 0
Stands s input = Holds s.bytes s.count input

-- the invariant of a state
abbrev pub Regular : State → Type 0
Regular s = Stands s (input_of s)

-- nothing has come yet
abbrev pub Started : State → Type 0
Started s = Stands s []

-- ---- a run

-- Pieces are fed one after the other, the first to s and each later one to the state that the call before handed back; t is the last state.
pub data Feeds : (s : State) (pieces : List (List ℕ)) (t : State) → Type 0 where
  none : {s : State} → Feeds s [] s
  piece : {s t : State} {pieces : List (List ℕ)} (p : List ℕ) (r : State) → Stands r (kept (input_of s ++ p)) → Feeds r pieces t → Feeds s (p ∷ pieces) t

-- the input that pieces come to
abbrev pub joined : List (List ℕ) → List ℕ
joined = foldr ◌++◌ []

-- A run from the start to the end of the input, and what was to be written at its end.
pub record Runs (pieces : List (List ℕ)) (said : List ℕ) : Type 0 where
  pub first : State
  pub started : Started first
  pub last : State
  pub feeds : Feeds first pieces last
  pub out : List ℕ
  pub out' : List ℕ
  pub written : ℕ
  pub finished : Says (answer_to (input_of last)) out out' written
  pub said_is : said ≡ take written out'
