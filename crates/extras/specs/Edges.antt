-- Edges of the choice of layers, one table. RULES 18.1 to 18.3. Assumes nothing.
--
-- What each comes to is worked out from the rules.
use Rattle.std.specs.Prelude.{ℕ, ◌≡◌, List, ◌∷◌, [], map, replicate}
use Rattle.model.specs.Calls.{Answer, accepted, refused}
use Rattle.extras.specs.Extras.{Layer, Extras, Chosen, choose}

pub record Case : Type 0 where
  pub given : Extras
  pub expected : Answer Chosen

-- Every case comes out as expected.
abbrev pub Passes : List Case → Type 0
Passes cases = map (λ e. choose e.given) cases ≡ map (λ e. e.expected) cases

abbrev of : (share worth : ℕ) → Layer
of share worth = record { share = share; worth = worth }

abbrev asked : (slots budget : ℕ) → List Layer → Extras
asked slots budget layers = record { slots = slots; budget = budget; layers = layers }

-- the set with this mask is chosen
abbrev picks : (slots budget : ℕ) → List Layer → (mask worth ceiling : ℕ) → Case
picks slots budget layers mask worth ceiling = record {
  given = asked slots budget layers;
  expected = accepted (record { mask = mask; worth = worth; ceiling = ceiling });
}

abbrev declines : (slots budget : ℕ) → List Layer → Case
declines slots budget layers = record { given = asked slots budget layers; expected = refused 27 }

unfoldable pub edges : List Case
edges =
    -- a set that doesn't fit is looked at too and uses up the budget
    picks 1 2 (of 64 5 ∷ of 1 7 ∷ []) 0 0 7
    ∷ picks 1 3 (of 64 5 ∷ of 1 7 ∷ []) 2 7 7
    -- one set short of all the ceiling is the sum of the worths of the layers that fit singly, though no set is worth more; on a tie the lowest mask
    ∷ picks 1 3 (of 1 5 ∷ of 1 5 ∷ []) 1 5 10
    ∷ picks 1 4 (of 1 5 ∷ of 1 5 ∷ []) 1 5 5
    ∷ picks 1 1 (of 1 5 ∷ of 1 5 ∷ []) 0 0 10
    -- a layer that doesn't fit singly adds nothing to the ceiling
    ∷ picks 3 1 (of 3 5 ∷ of 4 100 ∷ []) 0 0 5
    -- a layer that is worth nothing stays out
    ∷ picks 2 4 (of 1 0 ∷ of 1 3 ∷ []) 2 3 3
    ∷ picks 64 8 (of 1 0 ∷ of 1 0 ∷ of 1 0 ∷ []) 0 0 0
    -- bit i is layer i
    ∷ picks 1 4 (of 2 3 ∷ of 1 10 ∷ []) 2 10 10
    -- neither the best single layer nor the most layers
    ∷ picks 4 8 (of 3 4 ∷ of 2 3 ∷ of 2 3 ∷ []) 6 6 6
    ∷ picks 4 8 (of 4 9 ∷ of 2 3 ∷ of 2 3 ∷ []) 1 9 9
    -- a tie between one layer and the two before it
    ∷ picks 3 8 (of 1 2 ∷ of 2 3 ∷ of 3 5 ∷ []) 3 5 5
    -- no slots, and no layers
    ∷ picks 0 2 (of 1 5 ∷ []) 0 0 0
    ∷ picks 0 1 [] 0 0 0
    ∷ picks 64 1 [] 0 0 0
    -- the shares are summed, and just fit
    ∷ picks 64 4 (of 64 1000 ∷ of 1 0 ∷ []) 1 1000 1000
    ∷ picks 64 4 (of 32 1 ∷ of 32 1 ∷ []) 3 2 2
    ∷ picks 63 4 (of 32 1 ∷ of 32 1 ∷ []) 1 1 1
    -- a budget above the number of sets, however large
    ∷ picks 1 5 (of 1 5 ∷ of 1 5 ∷ []) 1 5 5
    ∷ picks 1 18446744073709551615 (of 1 5 ∷ of 1 5 ∷ []) 1 5 5
    -- twelve layers that fit together: nine sets looked at, all but the last, and all
    ∷ picks 64 9 (replicate 12 (of 5 1000)) 7 3000 12000
    ∷ picks 64 4095 (replicate 12 (of 5 1000)) 2047 11000 12000
    ∷ picks 64 4096 (replicate 12 (of 5 1000)) 4095 12000 12000
    -- a budget of 0
    ∷ declines 1 0 (of 1 5 ∷ [])
    ∷ declines 1 0 []
    -- thirteen layers
    ∷ declines 64 1 (replicate 13 (of 1 1))
    -- shares of 0 and 65, a worth of 1,001, 65 slots
    ∷ declines 64 4 (of 1 1 ∷ of 0 1 ∷ [])
    ∷ declines 64 4 (of 65 1 ∷ of 1 1 ∷ [])
    ∷ declines 64 4 (of 1 1001 ∷ of 1 1 ∷ [])
    ∷ declines 65 4 (of 1 1 ∷ of 1 1 ∷ [])
    ∷ declines 65 1 []
    ∷ []
