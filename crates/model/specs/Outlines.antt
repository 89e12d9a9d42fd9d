-- What two runs have in common, as one list: a second way to say that they are aligned. RULES 21.11. Assumes nothing.
use Rattle.std.specs.Prelude.{ℕ, ◌≡◌, ◌↔◌, List, ◌∷◌, [], ◌++◌, Bool, true, false, cond, eqb}
use Rattle.model.specs.Tables.{tally}
use Rattle.model.specs.Word.{destination_of, flow_of, departure_of}
use Rattle.model.specs.Calls.{Event, History, requested, credited, ticked, lent}
use Rattle.model.specs.TwoRuns.{Aligned}

-- a tick, or a request or a credit of the flow, without quantum number and answer
pub data Place : Type 0 where
  tick : Place
  request : (destination departure : ℕ) → Place
  credit : (position : ℕ) → Place

-- calls of other flows and lends have none
abbrev pub places_of : ℕ → Event → List Place
places_of i (requested w a) = cond (eqb (flow_of w) i) (Place.request (destination_of w) (departure_of w) ∷ []) []
places_of i (credited j p a) = cond (eqb j i) (Place.credit p ∷ []) []
places_of i (ticked x) = Place.tick ∷ []
places_of i (lent m a) = []
places_of i (Event.reset a) = []

unfoldable pub outline : ℕ → History → List Place
outline i [] = []
outline i (e ∷ h) = places_of i e ++ outline i h

-- a reset, granted or refused
abbrev pub is_reset : Event → Bool
is_reset (requested w a) = false
is_reset (credited j p a) = false
is_reset (ticked x) = false
is_reset (lent m a) = false
is_reset (Event.reset a) = true

abbrev pub NoReset : History → Type 0
NoReset h = tally is_reset h ≡ 0

pub record SameOutline (i : ℕ) (h₁ h₂ : History) : Type 0 where
  pub none_first : NoReset h₁
  pub none_second : NoReset h₂
  pub same : outline i h₁ ≡ outline i h₂

-- Two histories are aligned exactly if there is no reset and their outlines are the same. That it is so is `aligned-is`, in proofs/Outlines.antt.
abbrev pub AlignedIs : Type 0
AlignedIs = (i : ℕ) (h₁ h₂ : History) → Aligned i h₁ h₂ ↔ SameOutline i h₁ h₂
