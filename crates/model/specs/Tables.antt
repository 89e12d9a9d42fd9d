-- Small executable helpers: tables, tests of all numbers below a bound, searches, sums and counts. Assumes nothing.
use Rattle.std.specs.Prelude.{ℕ, zero, suc, ◌+◌, ◌-◌, ◌%◌, List, ◌∷◌, [], Bool, true, false, ◌&&◌, ◌||◌, cond, leb}
use Rattle.std.proofs.Math.Option.{Option, some, none}

-- f 0, f 1, and so on, n of them
abbrev pub table {ℓ} : {A : Type ℓ} → ℕ → (ℕ → A) → List A
table zero f = []
table (suc n) f = f 0 ∷ table n (λ k. f (suc k))

-- whether f k holds for every k below n
unfoldable pub every : ℕ → (ℕ → Bool) → Bool
every zero f = true
every (suc n) f = f n && every n f

-- whether f k holds for some k below n
unfoldable pub any : ℕ → (ℕ → Bool) → Bool
any zero f = false
any (suc n) f = f n || any n f

-- the sum of f k over the k below n
unfoldable pub sum : ℕ → (ℕ → ℕ) → ℕ
sum zero f = 0
sum (suc n) f = f n + sum n f

-- the first of k, k + 1, .., n of them, that passes f
unfoldable pub first_from : ℕ → ℕ → (ℕ → Bool) → Option ℕ
first_from zero k f = none
first_from (suc n) k f = cond (f k) (some k) (first_from n (suc k) f)

-- how far `to` lies ahead of `at`, going round m places
unfoldable pub ahead : ℕ → ℕ → ℕ → ℕ
ahead m at to = (to + m - at) % m

-- low ≤ x ≤ high
abbrev pub within : ℕ → ℕ → ℕ → Bool
within low high x = leb low x && leb x high

-- 1 for true, 0 for false
abbrev pub bit : Bool → ℕ
bit true = 1
bit false = 0

-- the number of entries that pass f
unfoldable pub tally {ℓ} : {A : Type ℓ} → (A → Bool) → List A → ℕ
tally f [] = 0
tally f (x ∷ xs) = bit (f x) + tally f xs
