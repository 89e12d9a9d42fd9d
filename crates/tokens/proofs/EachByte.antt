-- A test of each byte, made one by one. Assumes nothing.
use Prim.Native.Nat.{ℕ, zero, suc, ◌<◌}
use mathlib.Core.Path.{◌≡◌, refl}
use mathlib.Core.List.{List, ◌∷◌, []}
use mathlib.Core.Bool.{Bool, true, false, ◌&&◌}
use native.Mathlib.Omega.{arith}
use lib.ListN.{length, get_or}
use Rattle.tokens.specs.Pieces.{each}

-- where every byte passes, each does
pub each_at : (f : ℕ → Bool) (l : List ℕ) → each f l ≡ true → (i : ℕ) → i < length l → f (get_or l i 0) ≡ true
each_at f [] e i h = absurd (omega arith)
each_at f (b ∷ rest) e i h = go (f b) refl e (each_at f rest) i h
  where
    go : (t : Bool) → f b ≡ t → (t && each f rest) ≡ true → (each f rest ≡ true → (k : ℕ) → k < length rest → f (get_or rest k 0) ≡ true)
        → (k : ℕ) → k < length (b ∷ rest) → f (get_or (b ∷ rest) k 0) ≡ true
    go true p q more zero g = p
    go true p q more (suc k) g = more q k (omega arith)
    go false p q more k g = let z : ◌≡◌ {A = ℕ} 0 1 = cc in absurd (omega arith)
