-- Edges of the count, one table. What each comes to is worked out from RULES 17.1 and 17.2. Assumes nothing.
use Rattle.std.specs.Prelude.{ℕ, ◌≡◌, List, ◌∷◌, [], map}
use Rattle.model.specs.Calls.{Answer, accepted, refused}
use Rattle.shares.specs.Counts.{Counts, counted}

pub record Case : Type 0 where
  pub slots : ℕ
  pub flows : ℕ
  pub expected : Answer Counts

abbrev gives : (F n accepts refuses : ℕ) → Case
gives F n a r = record { slots = F; flows = n; expected = accepted (record { accepts = a; refuses = r }) }

abbrev declines : (F n number : ℕ) → Case
declines F n number = record { slots = F; flows = n; expected = refused number }

-- Every case comes out as expected.
abbrev pub Pass : List Case → Type 0
Pass cases = map (λ e. counted e.slots e.flows) cases ≡ map (λ e. e.expected) cases

unfoldable pub count_edges : List Case
count_edges =
    -- the first example: four slots and two flows
    gives 4 2 6 10
    -- one list of one share, which fills the frame
    ∷ gives 1 1 1 0
    -- more flows than slots: each has a share of at least 1
    ∷ gives 1 2 0 1
    ∷ gives 7 8 0 5764801
    -- as many flows as slots: the list of ones alone, which fills the frame
    ∷ gives 8 8 1 16777215
    -- 26 lists that are refused are no refusal with 26
    ∷ gives 3 3 1 26
    -- one flow: all its shares fit
    ∷ gives 16 1 16 0
    -- the most lists: 2 to the power 32 of them, more than 32 bits hold
    ∷ gives 16 8 12870 4294954426
    -- F and n out of range, each at its ends, and both
    ∷ declines 0 1 26
    ∷ declines 17 1 26
    ∷ declines 1 0 26
    ∷ declines 1 9 26
    ∷ declines 0 0 26
    ∷ declines 17 9 26
    -- F and n are not exchanged
    ∷ gives 9 1 9 0
    ∷ []
