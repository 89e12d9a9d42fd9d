-- The slots of a flow's tiles, of one kind or another, in the order of the list. Assumes nothing.
use Prim.Native.Nat.{ℕ, suc, ◌+◌, ◌≤◌}
use mathlib.Core.Path.{◌≡◌, refl, sym, ap, ap₂}
use mathlib.Core.List.{List, ◌∷◌, []}
use mathlib.Core.Bool.{Bool, true, false, cond}
use native.Mathlib.Omega.{arith}
use lib.Dec.{ltb, eqb}
use lib.ListN.{length}
use borrow.Author.Tests.{ltb-false}
use Rattle.model.specs.Tables.{bit, tally}
use Rattle.arrival.specs.SeveralLinks.{tile}
use Rattle.ahead.specs.Sendings.{Tile, waits, leaves_in}
use Rattle.ahead.specs.AheadOverLinks.{leaves_of}
use Rattle.ahead.proofs.Sendings.{waits-is}

-- what f tells of flow i's tiles
unfoldable pub field_of : (Tile → ℕ) → ℕ → List Tile → List ℕ
field_of f i [] = []
field_of f i (m ∷ ms) = cond (eqb m.flow i) (f m ∷ field_of f i ms) (field_of f i ms)

pub leaves-are : (i : ℕ) (ms : List Tile) → leaves_of i ms ≡ field_of (λ m. m.leaves) i ms
unfolding field_of leaves_of
leaves-are i [] = refl
leaves-are i (m ∷ ms) = ap (λ z. cond (eqb m.flow i) (m.leaves ∷ z) z) (leaves-are i ms)

pub as_many : (f g : Tile → ℕ) (i : ℕ) (ms : List Tile) → length (field_of f i ms) ≡ length (field_of g i ms)
unfolding field_of
as_many f g i [] = refl
as_many f g i (m ∷ ms) = go (eqb m.flow i) (as_many f g i ms)
  where
    go : (b : Bool) → length (field_of f i ms) ≡ length (field_of g i ms)
        → length (cond b (f m ∷ field_of f i ms) (field_of f i ms)) ≡ length (cond b (g m ∷ field_of g i ms) (field_of g i ms))
    go true rest = ap suc rest
    go false rest = rest

-- where f tells of no tile more than g, nor does it of tile n
pub none_more : (f g : Tile → ℕ) (i n : ℕ) (ms : List Tile) → tally (λ m. ltb (g m) (f m)) ms ≡ 0 → tile n (field_of f i ms) ≤ tile n (field_of g i ms)
unfolding field_of tile tally
none_more f g i n [] none = omega arith
none_more f g i n (m ∷ ms) none = go (λ rest. none_more f g i n ms rest) (ltb (g m) (f m)) refl none (eqb m.flow i)
  where
    after : f m ≤ g m → tile n (field_of f i ms) ≤ tile n (field_of g i ms) → (b : Bool)
        → cond b (f m) (tile n (field_of f i ms)) ≤ cond b (g m) (tile n (field_of g i ms))
    after le rest true = le
    after le rest false = rest

    go : (tally (λ m. ltb (g m) (f m)) ms ≡ 0 → tile n (field_of f i ms) ≤ tile n (field_of g i ms))
        → (more : Bool) → ltb (g m) (f m) ≡ more → bit more + tally (λ m. ltb (g m) (f m)) ms ≡ 0 → (b : Bool)
        → tile n (cond b (f m ∷ field_of f i ms) (field_of f i ms)) ≤ tile n (cond b (g m ∷ field_of g i ms) (field_of g i ms))
    go rest true e none b = absurd (omega arith)
    go rest false e none true =
        rw (as_many f g i ms) (after (ltb-false (g m) (f m) e) (rest (omega arith)) (eqb n (length (field_of g i ms))))
    go rest false e none false = rest (omega arith)

-- a tile that leaves in another slot is the same but for that
pub moved-field : (f : Tile → ℕ) (i j s t : ℕ) (ms : List Tile)
    → ((m : Tile) → waits j s m ≡ true → f (record { flow = j; from = m.from; slot = s; leaves = t }) ≡ f m) → field_of f i (leaves_in j s t ms) ≡ field_of f i ms
unfolding field_of leaves_in
moved-field f i j s t [] same = refl
moved-field f i j s t (m ∷ ms) same = go (waits j s m) refl (moved-field f i j s t ms same)
  where
    go : (b : Bool) → waits j s m ≡ b → field_of f i (leaves_in j s t ms) ≡ field_of f i ms
        → field_of f i (cond b (record { flow = j; from = m.from; slot = s; leaves = t } ∷ ms) (m ∷ leaves_in j s t ms))
        ≡ cond (eqb m.flow i) (f m ∷ field_of f i ms) (field_of f i ms)
    go true e rest = ap₂ (λ k y. cond (eqb k i) (y ∷ field_of f i ms) (field_of f i ms)) (sym (waits-is j s m e).flow) (same m e)
    go false e rest = ap (λ z. cond (eqb m.flow i) (f m ∷ z) z) rest
