-- Edge cases of the mesh: F and streams, with the refusal and the links that are over. RULES 16.3. Assumes nothing.
use Rattle.std.specs.Prelude.{ℕ, zero, suc, ◌≡◌}
use mathlib.Core.List.{List, ◌∷◌, [], map, flat_map}
use Rattle.mesh.specs.Streams.{Stream}
use Rattle.mesh.specs.Admission.{refusal_before_links, refusal, over_links, over_numbers}

-- what comes of a set of streams
pub data Outcome : Type 0 where
  admitted : Outcome
  -- a test before the links gives this number
  refused : (number : ℕ) → Outcome
  -- it is refused with this number, and these links are over: from node, to node and load of each
  overloaded : (number : ℕ) → (links : List ℕ) → Outcome

abbrev links_outcome : (number : ℕ) → (links : List ℕ) → Outcome
links_outcome zero [] = admitted
links_outcome zero (x ∷ xs) = overloaded zero (x ∷ xs)
links_outcome (suc r) links = overloaded (suc r) links

abbrev outcome_after : (before : ℕ) → (F : ℕ) → List Stream → Outcome
outcome_after zero F streams = links_outcome (refusal F streams) (flat_map (over_numbers streams) (over_links F streams))
outcome_after (suc r) F streams = refused (refusal F streams)

abbrev pub outcome : (F : ℕ) → List Stream → Outcome
outcome F streams = outcome_after (refusal_before_links F streams) F streams

pub record Case : Type 0 where
  pub slots : ℕ
  pub streams : List Stream
  pub expected : Outcome

-- Each case has the expected outcome.
abbrev pub Passes : List Case → Type 0
Passes cases = map (λ e. outcome e.slots e.streams) cases ≡ map (λ e. e.expected) cases

-- ---- ways to write them

abbrev pub admits : (F : ℕ) → List Stream → Case
admits F streams = record { slots = F; streams = streams; expected = admitted }

abbrev pub refuses : (number : ℕ) → (F : ℕ) → List Stream → Case
refuses number F streams = record { slots = F; streams = streams; expected = refused number }

abbrev pub overloads : (F : ℕ) → List Stream → (links : List ℕ) → Case
overloads F streams links = record { slots = F; streams = streams; expected = overloaded 25 links }
