-- Edges of what a stream can count on, one table, worked out by hand from RULES 23.1. Assumes nothing.
use Rattle.std.specs.Prelude.{ℕ, ◌≡◌, List, ◌∷◌, [], map}
use Rattle.std.proofs.Math.Option.{Option, some, none}
use Rattle.model.specs.Calls.{Answer, accepted, refused}
use Rattle.delay.specs.Bounds.{Bounds, answer_for}

pub record Case : Type 0 where
  pub slots : ℕ
  pub links : ℕ
  pub share : ℕ
  pub burst : ℕ
  pub expected : Option (Answer Bounds)

abbrev gives : (F m share burst : ℕ) → Option (Answer Bounds) → Case
gives F m share burst expected = record { slots = F; links = m; share = share; burst = burst; expected = expected }

abbrev within : (slots cells shown : ℕ) → Option (Answer Bounds)
within slots cells shown = some (accepted (record { slots = slots; cells = cells; shown = shown }))

abbrev declined : (number : ℕ) → Option (Answer Bounds)
declined number = some (refused number)

abbrev no_question : Option (Answer Bounds)
no_question = none

-- Every case comes out as expected.
abbrev pub Pass : List Case → Type 0
Pass cases = map (λ e. answer_for e.slots e.links e.share e.burst) cases ≡ map (λ e. e.expected) cases

unfoldable pub edges : List Case
edges =
    -- two links: three frames of four slots, and two more for three tiles by shares of two, less one slot
    gives 4 2 2 3 (within 19 4 6)
    -- one link and no burst: two frames less one slot
    ∷ gives 4 1 2 0 (within 7 4 6)
    ∷ gives 1 1 1 0 (within 1 2 3)
    -- the most of each
    ∷ gives 64 14 64 999 (within 1983 128 192)
    ∷ gives 64 14 1 999 (within 64895 2 3)
    -- a burst that is a number of shares, and one tile more
    ∷ gives 4 1 2 4 (within 15 4 6)
    ∷ gives 4 1 2 5 (within 19 4 6)
    -- the frame, then the share, each at its ends
    ∷ gives 0 1 1 0 (declined 3)
    ∷ gives 65 1 1 0 (declined 3)
    ∷ gives 0 1 0 0 (declined 3)
    ∷ gives 4 1 0 0 (declined 4)
    ∷ gives 4 1 4 0 (within 7 8 12)
    ∷ gives 4 1 5 0 (declined 4)
    -- links and bursts that nobody can ask about, whatever the others are
    ∷ gives 4 0 2 0 no_question
    ∷ gives 4 15 2 0 no_question
    ∷ gives 4 1 2 1000 no_question
    ∷ gives 0 0 0 0 no_question
    ∷ []
