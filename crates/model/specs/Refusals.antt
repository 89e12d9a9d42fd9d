-- Tables of refusals, of which the first that applies gives its number. RULES 1.3. Assumes nothing.
use Rattle.std.specs.Prelude.{ℕ, List, ◌∷◌, [], Bool, cond}

infix 68 ◌when◌
-- a line of a table: the number, and the condition under which it applies
pub data Line : Type 0 where
  ◌when◌ : (number : ℕ) → (condition : Bool) → Line

abbrev pub condition : Line → Bool
condition (r when b) = b

-- RULES 1.3: the number of the first line that applies, and 0 where none does
unfoldable pub first_of : List Line → ℕ
first_of [] = 0
first_of (r when b ∷ rest) = cond b r (first_of rest)
