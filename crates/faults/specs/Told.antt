-- Faults: limits that are broken, each named by three numbers. RULES 15.4. Assumes nothing.
use Rattle.std.specs.Prelude.{ℕ, ◌≡◌, Bool, cond}
use mathlib.Core.List.{List, ◌∷◌, [], ◌++◌, flat_map}
use Rattle.std.proofs.Math.Option.{Option, some, none}
use Rattle.model.specs.Tables.{table}
use Rattle.model.specs.Listing.{text, decimal}
use Rattle.replies.specs.Lines.{spaced}

-- RULES 15.4: the refusal that a limit gives and two numbers that name the place, where the limit is broken
abbrev pub told : (broken : Bool) → (number place which : ℕ) → List ℕ
told broken number place which = cond broken (number ∷ place ∷ which ∷ []) []

-- RULES 15.4: the first place that was found, if there is one, told of place j
abbrev pub first_told : (number : ℕ) → (first : Option ℕ) → (j : ℕ) → List ℕ
first_told number none j = []
first_told number (some i) j = number ∷ i ∷ j ∷ []

-- what is told of each of the first n places
abbrev pub each_below : (n : ℕ) → (ℕ → List ℕ) → List ℕ
each_below n f = flat_map f (table n (λ i. i))

-- RULES 20.4: the faults one after another, or the word for none
abbrev pub faults_line : (faults : List ℕ) → List ℕ
faults_line [] = text "ok\n"
faults_line (number ∷ rest) = decimal number ++ flat_map spaced rest ++ text "\n"

-- a fault of this refusal comes first
pub record Begins (number : ℕ) (faults : List ℕ) : Type 0 where
  pub place : ℕ
  pub which : ℕ
  pub others : List ℕ
  pub is : faults ≡ number ∷ place ∷ which ∷ others
