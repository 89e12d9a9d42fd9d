-- From p on, which is p and every later position: by rank, a test of these positions, and elements replaced at them. Assumes nothing.
use Rattle.std.proofs.Common.{◌≡◌, ℕ, ◌<◌, ◌≤◌, Bool, true, false, cond, not, ◌||◌, leb, List, get_or, sym, refl, ◌∙◌, arith, le-ltb, lt-ltb, le-leb, leb-true}
use native.Mathlib.Decide.{dec_lt}
use Rattle.model.specs.Tables.{every}
use Rattle.model.specs.Window as model
use Rattle.model.specs.Window.{from_on, every_from}
use Rattle.window.specs.declared.Window.{Window}
use Rattle.window.specs.Ranges.{replaced, All}
use Rattle.window.specs.Window.{window_of, size_of, Proper, from_in}
use Rattle.window.proofs.Tabulated.{every-intro, every-at, every-miss, every-same}
use Rattle.window.proofs.Ranges.{replaced-same}
use Rattle.window.proofs.Ranks.{rank_in}

-- two tests that agree at every position
pub every_from-same : (w : model.Window) (p : ℕ) (t t' : ℕ → Bool) → ((q : ℕ) → q < model.size w → t q ≡ t' q)
    → every_from w p t ≡ every_from w p t'
unfolding every_from
every_from-same w p t t' e = every-same (model.size w) _ _ (λ q l. rw (e q l))

module _ (w : Window) (v : Proper w) (p : ℕ) (lp : p < size_of w) where
  -- ---- by rank

  -- a position of no lower rank
  pub from_is : (q : ℕ) → q < size_of w → from_in (window_of w) p q ≡ leb (rank_in w p) (rank_in w q)
  unfolding from_in from_on
  from_is q l = rw (lt-ltb q (size_of w) l)

  pub from_past : (q : ℕ) → size_of w ≤ q → from_in (window_of w) p q ≡ false
  unfolding from_in
  from_past q l = rw (le-ltb q (size_of w) l)

  -- ---- a test

  module _ (t : ℕ → Bool) where
    pub every-from : ((q : ℕ) → q < size_of w → rank_in w p ≤ rank_in w q → t q ≡ true) → every_from (window_of w) p t ≡ true
    unfolding every_from from_on
    every-from n = every-intro (size_of w) _ (λ q l. go q l (leb (rank_in w p) (rank_in w q)) refl)
      where
        go : (q : ℕ) → q < size_of w → (b : Bool) → leb (rank_in w p) (rank_in w q) ≡ b → not b || t q ≡ true
        go q l true e = n q l (leb-true _ _ e)
        go q l false e = refl

    pub miss-from : (q : ℕ) → q < size_of w → rank_in w p ≤ rank_in w q → t q ≡ false → every_from (window_of w) p t ≡ false
    unfolding every_from from_on
    miss-from q l h e = every-miss (size_of w) _ q l (rw (le-leb (rank_in w p) (rank_in w q) h, e))

    -- what it says of each position from p on
    from_at : every_from (window_of w) p t ≡ true → (q : ℕ) → from_in (window_of w) p q ≡ true → t q ≡ true
    unfolding every_from from_in
    from_at e q f = go (dec_lt q (size_of w))
      where
        go : Dec (q < size_of w) → t q ≡ true
        go (yes l) = rw (rw (lt-ltb q (size_of w) l) at f) at (every-at (size_of w) _ q e l)
        go (no l) = cc (rw (le-ltb q (size_of w) (omega arith)) at f)

    -- a test of all positions that passes every one before p
    pub all_from : (s : ℕ → Bool) (r : Bool) → ((q : ℕ) → q < size_of w → s q ≡ not (from_in (window_of w) p q) || t q)
        → All s 0 (size_of w) r → r ≡ every_from (window_of w) p t
    unfolding every_from from_in
    all_from s r same x = go r x
      where
        at : (q : ℕ) → q < size_of w → s q ≡ not (from_on (window_of w) p q) || t q
        at q l = rw (lt-ltb q (size_of w) l) at (same q l)

        go : (r : Bool) → All s 0 (size_of w) r → r ≡ every (size_of w) (λ q. not (from_on (window_of w) p q) || t q)
        go true y = sym (every-intro (size_of w) _ (λ q l. sym (at q l) ∙ y.pass refl q (omega arith) l))
        go false y =
            let m = y.miss refl in
            sym (every-miss (size_of w) _ m.at m.below (sym (at m.at m.below) ∙ m.fails))

  -- ---- elements replaced

  -- by two functions that agree where a test holds from p on
  pub replaced-from : (t : ℕ → Bool) (f g : ℕ → ℕ) (xs : List ℕ) → ((x : ℕ) → t x ≡ true → f x ≡ g x)
      → every_from (window_of w) p (λ q. t (get_or xs q 0)) ≡ true
      → replaced (from_in (window_of w) p) (λ q. f) xs ≡ replaced (from_in (window_of w) p) (λ q. g) xs
  replaced-from t f g xs same e = replaced-same _ _ _ _ xs 0 (λ i _. go i (from_in (window_of w) p i) refl)
    where
      go : (i : ℕ) (b : Bool) → from_in (window_of w) p i ≡ b
          → cond b (f (get_or xs i 0)) (get_or xs i 0) ≡ cond b (g (get_or xs i 0)) (get_or xs i 0)
      go i true q = same _ (from_at (λ q. t (get_or xs q 0)) e i q)
      go i false q = refl
