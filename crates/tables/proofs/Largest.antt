-- The largest of some values, and what it tells of each; that of a range of holdings, found one at a step. Assumes nothing.
use Prim.Native.Nat.{ℕ, zero, suc, ◌+◌, ◌≤◌, ◌<◌, max}
use mathlib.Core.Path.{◌≡◌, refl, sym, ◌∙◌}
use mathlib.Core.List.{List}
use native.Mathlib.Decide.{dec_lt, ℕ_discrete}
use native.Mathlib.Omega.{arith}
use lib.ListN.{length, get_or}
use Rattle.std.proofs.Common.{add-one}
use lib.Dec.{ltb}
use borrow.Author.Tests.{lt-ltb, le-ltb, ltb-true, ltb-false}
use Rattle.window.specs.Ranges.{Miss, All}
use Rattle.tables.specs.Holdings.{room_at, largest}

-- ---- of f 0 to f (n - 1)

pub largest-none : (f : ℕ → ℕ) → largest 0 f ≡ 0
unfolding largest
largest-none f = refl

pub largest-one-more : (n : ℕ) (f : ℕ → ℕ) → largest (suc n) f ≡ max (largest n f) (f n)
unfolding largest
largest-one-more n f = refl

pub largest-most : (n : ℕ) (f : ℕ → ℕ) (k : ℕ) → k < n → f k ≤ largest n f
unfolding largest
largest-most zero f k h = absurd (omega arith)
largest-most (suc n) f k h = go (ℕ_discrete k n) (largest-most n f k)
  where
    go : Dec (k ≡ n) → (k < n → f k ≤ largest n f) → f k ≤ max (largest n f) (f n)
    go (yes d) below = rw d (omega arith)
    go (no d) below = let b = below (omega arith) in omega arith

pub largest-same : (n : ℕ) (f g : ℕ → ℕ) → ((k : ℕ) → k < n → f k ≡ g k) → largest n f ≡ largest n g
unfolding largest
largest-same zero f g e = refl
largest-same (suc n) f g e = rw (e n (omega arith), largest-same n f g (λ k h. e k (omega arith)))

-- it is below c exactly if each of them is
module _ (f : ℕ → ℕ) (c : ℕ) where
  largest-reached : (n : ℕ) → 0 < n → c ≤ largest n f → Miss (λ k. ltb (f k) c) 0 n
  unfolding largest
  largest-reached zero h l = absurd (omega arith)
  largest-reached (suc n) h l = go (dec_lt (f n) c) (dec_lt 0 n) (largest-reached n)
    where
      go : Dec (f n < c) → Dec (0 < n) → (0 < n → c ≤ largest n f → Miss (λ k. ltb (f k) c) 0 n) → Miss (λ k. ltb (f k) c) 0 (suc n)
      go (no d) some below = record { at = n; from = omega arith; below = omega arith; fails = le-ltb _ c (omega arith) }
      go (yes d) (yes some) below =
          let m = below some (omega arith) in
          record { at = m.at; from = omega arith; below = omega (arith, m.below); fails = m.fails }
      go (yes d) (no none) below =
          let z : n ≡ 0 = omega arith in
          let nothing : largest n f ≡ 0 = rw z (largest-none f) in
          absurd (omega arith)

  pub largest-below : (n : ℕ) → 0 < n → All (λ k. ltb (f k) c) 0 n (ltb (largest n f) c)
  largest-below n some = record {
    pass = λ r k _ l. lt-ltb _ c (let most = largest-most n f k l in let s = ltb-true _ c r in omega arith);
    miss = λ r. largest-reached n some (ltb-false _ c r);
  }

-- ---- of a list, found one at a step

-- what stands at place k
abbrev place_in : List ℕ → (k : ℕ) → ℕ
place_in held k = get_or held k 0

-- most is the largest of the first k, or 0 where there is none
pub record LargestTo (held : List ℕ) (k most : ℕ) : Type 0 where
  pub to : k ≤ length held
  pub is : most ≡ largest k (place_in held)

pub largest-to-none : (held : List ℕ) → LargestTo held 0 0
largest-to-none held = record { to = omega arith; is = sym (largest-none (place_in held)) }

module _ {held : List ℕ} {k most : ℕ} (v : LargestTo held k most) where
  pub largest-to-more : k < length held → {more : ℕ} → more ≡ max most (get_or held k 0) → LargestTo held (k + 1) more
  largest-to-more h z = record { to = omega arith; is = rw add-one (z ∙ rw (largest-one-more k (place_in held), ← v.is)) }

  pub largest-to-done : length held ≤ k → most ≡ largest (length held) (place_in held)
  largest-to-done h = let z : k ≡ length held = omega (arith, v.to) in rw z at v.is

  -- it tells whether fewer than the cells are held at each place of a list that has one
  pub room-to-done : 0 < length held → length held ≤ k → (cells : ℕ) → All (room_at held cells) 0 (length held) (ltb most cells)
  room-to-done some h cells = rw (largest-to-done h) (largest-below (place_in held) cells (length held) some)
