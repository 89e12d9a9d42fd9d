-- What `domeplan` does with what it has read, and a run of its rounds. RULES 20.1. Assumes nothing.
use Rattle.std.specs.Prelude.{ℕ, zero, suc, ◌≤◌, ◌<◌, ◌≡◌, List, ◌∷◌, [], ◌++◌, ⊤, length, take}
use Rattle.std.proofs.lemmas.List.Edits.{sets}
use Rattle.replies.specs.Lines.{Says}
use Rattle.questions.specs.declared.State.{State}
use Rattle.questions.specs.Feeding.{line_fed, said_fed, at_end}
use Rattle.questions.specs.Promises.{line_of, Stands, Started, joined}
use Rattle.domeplan.specs.declared.Round.{Round}
use Rattle.domeplan.specs.declared.Round.TheVariants.{More, Over, Stopped}

-- ---- a piece of the input

-- what stands in `out` once each of some texts has been put at its start, one after the other
unfoldable pub put_each : (out : List ℕ) → (texts : List (List ℕ)) → List ℕ
put_each out [] = out
put_each out (text ∷ rest) = put_each (sets out 0 text) rest

-- What comes next after so many bytes of a piece, and what was handed on after them. More is to be read, after the state that these bytes leave, only where
-- all of the piece is fed; nothing more is to be read only where some answer was to be written. A piece isn't the end of the input.
abbrev pub Left : (r : Round) → (line piece : List ℕ) (fed : ℕ) (handed : List (List ℕ)) → Type 0
Left (More next) line piece fed handed = Stands next (line_fed line (take fed piece)) × (fed ≡ length piece)
Left (Over last) line piece fed handed = ⊥
Left Stopped line piece fed handed = 0 < length (joined handed)

-- A piece is taken, after a line that has begun.
pub record Takes (line piece out : List ℕ) (r : Round) (out' : List ℕ) : Type 0 where
  -- so many of its bytes are fed, the first ones, in their order
  pub fed : ℕ
  pub most : fed ≤ length piece
  -- what is handed on to be written, each text from the start of `out`: together the answers to the lines that end in these bytes, in their order
  pub handed : List (List ℕ)
  pub said : joined handed ≡ said_fed line (take fed piece)
  pub out_is : out' ≡ put_each out handed
  pub left : Left r line piece fed handed

-- what holds where more is to be read
abbrev pub OnMore : Round → Type 0 → Type 0
OnMore (More next) p = p
OnMore (Over last) p = ⊤
OnMore Stopped p = ⊤

-- ---- a round

-- nothing more is to be read, and where the input has ended the state is as it was
abbrev pub Ends : (s : State) → (r : Round) → Type 0
Ends s (More next) = ⊥
Ends s (Over last) = last ≡ s
Ends s Stopped = ⊤

-- after a read that brought so many bytes, the first of `space`: where there are none all stays as it was, and nothing more is to be read
abbrev pub Came : (have : ℕ) → (s : State) (out space : List ℕ) (r : Round) (out' : List ℕ) → Type 0
Came zero s out space r out' = Ends s r × (out' ≡ out)
Came (suc k) s out space r out' = Takes (line_of s) (take (suc k) space) out r out'

-- A round: something is read into `space`, and taken.
pub record Goes (s : State) (out space : List ℕ) (r : Round) (out' : List ℕ) : Type 0 where
  pub have : ℕ
  pub there : have ≤ length space
  pub taken : Came have s out space r out'

-- ---- a run

-- Pieces are taken one after the other, each after the state that the one before left, with more to be read after each; t is the last state.
-- `handed` is what was handed on to be written after them, in order.
pub data Rounds : (s : State) (pieces handed : List (List ℕ)) (t : State) → Type 0 where
  none : {s : State} → Rounds s [] [] s
  round : {s next t : State} {pieces handed : List (List ℕ)} (piece out out' : List ℕ) (takes : Takes (line_of s) piece out (More next) out')
      → Rounds next pieces handed t → Rounds s (piece ∷ pieces) (takes.handed ++ handed) t

-- A run from the start to the end of the input, and all that was handed on to be written in it.
pub record WholeRun (pieces handed : List (List ℕ)) : Type 0 where
  pub first : State
  pub started : Started first
  pub last : State
  pub handed_before : List (List ℕ)
  pub rounds : Rounds first pieces handed_before last
  pub out : List ℕ
  pub out' : List ℕ
  pub written : ℕ
  pub finished : Says (at_end (line_of last)) out out' written
  pub handed_are : handed ≡ handed_before ++ (take written out' ∷ [])
