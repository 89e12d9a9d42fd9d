-- Decisions, how they combine, and a decision for all numbers from those below a bound. Assumes nothing.
use Prim.Native.Nat.{ℕ, zero, suc, ◌≤◌, ◌<◌}
use mathlib.Core.Path.{◌≡◌, refl, ap}
use mathlib.Core.Logic.Dec
use mathlib.Core.Bool.{Bool, true, false}
use native.Mathlib.Omega.{arith}
use native.Mathlib.Decide.{dec_lt, ℕ_discrete}
use Rattle.model.specs.Tables.{bit}

abbrev pub IsYes : {A : Type 0} → Dec A → Type 0
IsYes (yes a) = Unit {0}
IsYes (no n) = ⊥

abbrev pub IsNo : {A : Type 0} → Dec A → Type 0
IsNo (yes a) = ⊥
IsNo (no n) = Unit {0}

pub proved : {A : Type 0} (d : Dec A) → IsYes d → A
proved (yes a) t = a
proved (no n) t = absurd t

pub refuted : {A : Type 0} (d : Dec A) → IsNo d → A → ⊥
refuted (yes a) t = absurd t
refuted (no n) t = n

unfoldable pub same : {A B : Type 0} → (A → B) → (B → A) → Dec A → Dec B
same f g (yes a) = yes (f a)
same f g (no n) = no (λ b. n (g b))

unfoldable pub implies : {A B : Type 0} → Dec A → Dec B → Dec (A → B)
implies (yes a) (yes b) = yes (λ a. b)
implies (yes a) (no n) = no (λ f. n (f a))
implies (no n) d = yes (λ a. absurd (n a))

unfoldable pub is_true : (b : Bool) → Dec (b ≡ true)
is_true true = yes refl
is_true false = no (λ e. let z : ◌≡◌ {A = ℕ} 0 1 = ap bit e in omega arith)

unfoldable pub is_false : (b : Bool) → Dec (b ≡ false)
is_false true = no (λ e. let z : ◌≡◌ {A = ℕ} 1 0 = ap bit e in omega arith)
is_false false = yes refl

-- a number below n + 1 is n, or below n
pub below_suc : (Q : ℕ → Type 0) (n : ℕ) → Q n → ((k : ℕ) → k < n → Q k) → (k : ℕ) → k < suc n → Q k
below_suc Q n q below k lt = go (ℕ_discrete k n)
  where
    go : Dec (k ≡ n) → Q k
    go (yes e) = rw e q
    go (no d) = below k (omega arith)

unfoldable pub all-below : {Q : ℕ → Type 0} (n : ℕ) → ((k : ℕ) → Dec (Q k)) → Dec ((k : ℕ) → k < n → Q k)
all-below zero d = yes (λ k lt. absurd (omega arith))
all-below {Q} (suc n) d =
    same (λ r. below_suc Q n r.0 r.1) (λ all. (all n (omega arith), λ k lt. all k (omega arith))) (Dec.and (d n) (all-below n d))

-- The numbers below n decide for all, where the later ones follow from them.
unfoldable pub everywhere : {Q : ℕ → Type 0} (n : ℕ) → ((k : ℕ) → Dec (Q k)) → (((k : ℕ) → k < n → Q k) → (k : ℕ) → n ≤ k → Q k) → Dec ((k : ℕ) → Q k)
everywhere {Q} n d later = same (λ below k. go below k (dec_lt k n)) (λ all k lt. all k) (all-below n d)
  where
    go : ((k : ℕ) → k < n → Q k) → (k : ℕ) → Dec (k < n) → Q k
    go below k (yes lt) = below k lt
    go below k (no ge) = later below k (omega arith)
