-- Lists of shares, and the share test on them. RULES 17.1. Assumes nothing.
use Rattle.std.specs.Prelude.{ℕ, zero, suc, length, get_or, ltb}
use mathlib.Core.List.{List, ◌∷◌, [], map, flat_map}
use Rattle.model.specs.Tables.{table, sum}
use Rattle.model.specs.Refusals.{Line, ◌when◌}

-- RULES 17.1: the shares a flow may have: 1, 2 and so on to F
abbrev pub shares_up_to : (F : ℕ) → List ℕ
shares_up_to F = table F suc

-- RULES 17.1: all lists that are to be counted, of n such shares: each share, in front of each list of one share fewer
unfoldable pub share_lists : (F n : ℕ) → List (List ℕ)
share_lists F zero = [] ∷ []
share_lists F (suc n) = flat_map (λ share. map (share ∷◌) (share_lists F n)) (shares_up_to F)

-- the sum of a list's shares
unfoldable pub total : List ℕ → ℕ
total shares = sum (length shares) (λ i. get_or shares i 0)

-- RULES 2.3: test 6 on such a list
abbrev pub share_test : (F : ℕ) → (shares : List ℕ) → Line
share_test F shares = 6 when ltb F (total shares)
