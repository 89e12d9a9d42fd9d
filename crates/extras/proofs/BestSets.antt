-- The best of the sets 0 to k - 1: that there is one, that there is only one, and that it is the one defined. Assumes nothing.
use Prim.Native.Nat.{ℕ, zero, suc, ◌+◌, ◌^◌, ◌≤◌, ◌<◌, max}
use mathlib.Core.Path.{◌≡◌, refl, sym, ap, ◌∙◌}
use mathlib.Core.Bool.{Bool, true, false, ◌&&◌, cond}
use mathlib.Core.Option.{Option, some, none}
use native.Mathlib.Decide.{dec_lt, dec_le}
use native.Mathlib.Numerals.{add-one}
use native.Mathlib.Nat.{zero-div}
use native.Mathlib.Omega.{arith}
use lib.Dec.{eqb}
use borrow.Author.Tests.{le-leb, lt-leb, leb-true, lt-ltb, le-ltb, eq-eqb, eqb-true}
use Rattle.model.specs.Tables.{sum, first_from}
use Rattle.model.specs.Calls.{in_mask, accepted}
use Rattle.model.proofs.Tables.{Hit, first_from-some, first_from-none}
use Rattle.model.proofs.Tests.{and-true}
use Rattle.extras.specs.Extras.{Extras, Layer, layer_count, layer, share_of, worth_of, fits, greatest, best_worth, lowest_best, best_mask, mask_found}
use Rattle.extras.specs.Extras.{looked_at, all_looked_at, singles_worth, outside, choose}
use Rattle.extras.specs.Best.{Best}
use Rattle.extras.specs.declared.search.SetWorth.{SetWorth}
use Rattle.extras.specs.Search.{better_of}
use Rattle.extras.proofs.Summing.{sum-zero}

-- ---- the empty set

not-in-empty : (i : ℕ) → in_mask 0 i ≡ false
not-in-empty i = rw (zero-div (2 ^ i))

empty-sum : (x : Extras) (n : ℕ) (f : Layer → ℕ) → sum n (λ i. cond (in_mask 0 i) (f (layer x i)) 0) ≡ 0
empty-sum x n f = sum-zero n _ (λ i l. rw (not-in-empty i))

pub empty-fits : (x : Extras) → fits x 0 ≡ true
unfolding share_of
empty-fits x = le-leb (share_of x 0) x.slots (omega (arith, empty-sum x (layer_count x) (λ e. e.share)))

pub empty-worth : (x : Extras) → worth_of x 0 ≡ 0
unfolding worth_of
empty-worth x = empty-sum x (layer_count x) (λ e. e.worth)

-- ---- set by set

pub first-best : (x : Extras) → Best x 1 0 0
first-best x = record {
  looked_at = omega arith;
  fitting = empty-fits x;
  worth_is = empty-worth x;
  greatest = λ m l h. let z : m ≡ 0 = omega arith in omega (arith, ap (worth_of x) z, empty-worth x);
  lowest = λ m l h. absurd (omega arith);
}

module _ {x : Extras} {k mask worth : ℕ} (b : Best x k mask worth) where
  -- the next set is no better
  pub still-best : (fits x k ≡ true → worth_of x k ≤ worth) → Best x (k + 1) mask worth
  still-best h = record {
    looked_at = omega (arith, b.looked_at);
    fitting = b.fitting;
    worth_is = b.worth_is;
    greatest = λ m l f. go m l f (dec_lt m k);
    lowest = b.lowest;
  }
    where
      go : (m : ℕ) → m < k + 1 → fits x m ≡ true → Dec (m < k) → worth_of x m ≤ worth
      go m l f (yes y) = b.greatest m y f
      go m l f (no n) = let z : k ≡ m = omega arith in omega (arith, ap (worth_of x) z, h (ap (fits x) z ∙ f))

  -- the next set is better
  pub new-best : fits x k ≡ true → worth < worth_of x k → Best x (k + 1) k (worth_of x k)
  new-best f h = record {
    looked_at = omega arith;
    fitting = f;
    worth_is = refl;
    greatest = λ m l g. go m l g (dec_lt m k);
    lowest = λ m l g. omega (arith, b.greatest m l g);
  }
    where
      go : (m : ℕ) → m < k + 1 → fits x m ≡ true → Dec (m < k) → worth_of x m ≤ worth_of x k
      go m l g (yes y) = omega (arith, b.greatest m y g)
      go m l g (no n) = let z : m ≡ k = omega arith in omega (arith, ap (worth_of x) z)

abbrev BestNow : Extras → ℕ → SetWorth → Type 0
BestNow x k r = Best x (k + 1) r.mask r.worth

-- the code's choice between the best so far and the next set
pub next-best : {x : Extras} {k share worth : ℕ} {b : SetWorth} → Best x k b.mask b.worth → share ≡ share_of x k → worth ≡ worth_of x k
    → BestNow x k (better_of b (record { mask = k; worth = worth }) share x.slots)
next-best {x} {k} {share} {worth} {b} h e f = go (dec_lt x.slots share) (dec_le worth b.worth)
  where
    go : Dec (x.slots < share) → Dec (worth ≤ b.worth) → BestNow x k (better_of b (record { mask = k; worth = worth }) share x.slots)
    go (yes over) d = rw (lt-ltb x.slots share over) (still-best h (λ g. absurd (omega (arith, leb-true (share_of x k) x.slots g))))
    go (no fit) (yes less) = rw (le-ltb x.slots share (omega arith), le-leb worth b.worth less) (still-best h (λ g. omega arith))
    go (no fit) (no more) =
        rw (le-ltb x.slots share (omega arith), lt-leb worth b.worth (omega arith), f)
        (new-best h (le-leb (share_of x k) x.slots (omega arith)) (omega arith))

-- ---- there is one

pub record SomeBest (x : Extras) (k : ℕ) : Type 0 where
  pub mask : ℕ
  pub worth : ℕ
  pub best : Best x k mask worth

some_next : (x : Extras) (k : ℕ) → SomeBest x k → SomeBest x (k + 1)
some_next x k s =
    let r = better_of (record { mask = s.mask; worth = s.worth }) (record { mask = k; worth = worth_of x k }) (share_of x k) x.slots in
    record { mask = r.mask; worth = r.worth; best = next-best s.best refl refl }

pub some-best : (x : Extras) (k : ℕ) → SomeBest x (suc k)
some-best x zero = record { mask = 0; worth = 0; best = first-best x }
some-best x (suc k) = rw (← add-one (suc k)) (some_next x (suc k) (some-best x k))

-- ---- it is the one defined

unlike : {t : Bool} → t ≡ false → t ≡ true → ⊥
unlike f g = let z : ◌≡◌ {A = ℕ} 0 1 = cc in omega arith

-- the greatest of some numbers is at least each of them, and one of them, or 0
greatest-least : (k : ℕ) (t : ℕ → Bool) (f : ℕ → ℕ) (w : ℕ) → ((m : ℕ) → m < k → t m ≡ true → f m ≤ w) → greatest k t f ≤ w
unfolding greatest
greatest-least zero t f w h = omega arith
greatest-least (suc k) t f w h = go (greatest-least k t f w (λ m l e. h m (omega arith) e)) (t k) refl
  where
    go : greatest k t f ≤ w → (b : Bool) → t k ≡ b → max (cond (t k) (f k) 0) (greatest k t f) ≤ w
    go rest true e = rw e (omega (arith, h k (omega arith) e))
    go rest false e = rw e (omega arith)

greatest-most : (k : ℕ) (t : ℕ → Bool) (f : ℕ → ℕ) (m : ℕ) → m < k → t m ≡ true → f m ≤ greatest k t f
unfolding greatest
greatest-most zero t f m l e = absurd (omega arith)
greatest-most (suc k) t f m l e = go (λ h. greatest-most k t f m h e) (dec_lt m k)
  where
    go : (m < k → f m ≤ greatest k t f) → Dec (m < k) → f m ≤ max (cond (t k) (f k) 0) (greatest k t f)
    go rest (yes y) = omega (arith, rest y)
    go rest (no n) = let z : k ≡ m = omega arith in rw (ap t z ∙ e) (omega (arith, ap f z))

module _ {x : Extras} {k mask worth : ℕ} (b : Best x k mask worth) where
  pub worth-defined : best_worth x k ≡ worth
  worth-defined =
      let low = greatest-least k (fits x) (worth_of x) worth b.greatest in
      let high = greatest-most k (fits x) (worth_of x) mask b.looked_at b.fitting in
      omega (arith, low, high, b.worth_is)

  -- a set passes the search's test where it fits and has the greatest worth
  abbrev passes : ℕ → Bool
  passes m = fits x m && eqb (worth_of x m) (best_worth x k)

  best-passes : passes mask ≡ true
  best-passes = rw b.fitting (eq-eqb _ _ (b.worth_is ∙ sym worth-defined))

  -- the first that passes is the best: none below the best does, and the best does
  same-mask : {m : ℕ} → Hit k 0 m passes → m ≡ mask
  same-mask {m} hit = go (dec_lt m mask) (dec_lt mask m)
    where
      both : (fits x m ≡ true) × (eqb (worth_of x m) (best_worth x k) ≡ true)
      both = and-true _ _ hit.passes

      go : Dec (m < mask) → Dec (mask < m) → m ≡ mask
      go (yes l) d = absurd (omega (arith, b.lowest m l both.0, eqb-true (worth_of x m) (best_worth x k) both.1, worth-defined))
      go (no n) (yes l) = absurd (unlike (hit.none_before mask (omega arith) l) best-passes)
      go (no n) (no o) = omega arith

  found : (o : Option ℕ) → first_from k 0 passes ≡ o → mask_found o ≡ mask
  found (some m) e = same-mask (first_from-some k 0 passes m e)
  found none e = absurd (unlike (first_from-none k 0 passes e mask (omega arith) (omega (arith, b.looked_at))) best-passes)

  pub mask-defined : best_mask x k ≡ mask
  mask-defined = found (lowest_best x k) refl

-- ---- the answer

-- an answer that is the best of the sets looked at, with the ceiling that goes with its worth
pub chosen_is : {x : Extras} {mask worth ceiling : ℕ} → outside x ≡ false → Best x (looked_at x) mask worth
    → ceiling ≡ cond (all_looked_at x) worth (singles_worth x) → accepted (record { mask = mask; worth = worth; ceiling = ceiling }) ≡ choose x
unfolding choose
chosen_is {x} {mask} {worth} {ceiling} inside b e =
    rw (inside, mask-defined b, worth-defined b, e)
