-- Loops over a range of positions, one at a step: elements replaced, a test of each, and a search back for the last that fails it.
-- Assumes nothing.
use Rattle.std.proofs.Common.{◌≡◌, ℕ, ◌+◌, ◌-◌, ◌<◌, ◌≤◌, Bool, true, false, List, length, get_or, set, sym, ◌∙◌, true≢false, arith}
use native.Mathlib.Decide.{dec_le, ℕ_discrete}
use borrow.Rule.Slice.PartMut.{put_mid, mid_of}
use Rattle.window.specs.Ranges.{in_range, replaced, Miss, All, LastIn}
use Rattle.window.proofs.Ranges.{replaced-none, replaced-more, replaced-done, replaced-inner, length-mid}

-- ---- elements replaced: those from a up to q are

module _ {A : Type 0} where
  pub record Replacing (f : ℕ → A → A) (a e : ℕ) (before after : List A) (q : ℕ) : Type 0 where
    pub from : a ≤ q
    pub to : q ≤ e
    pub is : after ≡ replaced (in_range a q) f before

  module _ (d : A) {f : ℕ → A → A} {a e : ℕ} {before : List A} where
    pub replacing-none : a ≤ e → Replacing f a e before before a
    replacing-none h = record { from = omega arith; to = h; is = replaced-none a f before d }

    module _ {after : List A} {q : ℕ} (v : Replacing f a e before after q) where
      pub replacing-more : {x : A} → q < e → x ≡ f q (get_or after q d) → Replacing f a e before (set after q x) (q + 1)
      replacing-more {x} h z = record {
        from = omega (arith, v.from);
        to = omega arith;
        is = replaced-more a q f before d after x v.is v.from z;
      }

      pub replacing-done : e ≤ q → after ≡ replaced (in_range a e) f before
      replacing-done h = replaced-done a q e f before after v.is (omega (arith, v.to))

  -- the elements from a up to e, counted from the first of them
  pub replacing-inner : (a e : ℕ) (xs : List A) (d : A) {f : ℕ → A → A} {ys : List A} {q : ℕ} → a ≤ e → e ≤ length xs
      → Replacing f 0 (length (mid_of a (e - a) xs)) (mid_of a (e - a) xs) ys q → length (mid_of a (e - a) xs) ≤ q
      → put_mid a (e - a) xs ys ≡ replaced (in_range a e) (λ k. f (k - a)) xs
  replacing-inner a e xs d {f} {ys} h l v done = replaced-inner a e f xs ys d h l (replacing-done d v done)

-- ---- a test of each: r says whether those from a up to q pass

pub record Testing (t : ℕ → Bool) (a e q : ℕ) (r : Bool) : Type 0 where
  pub from : a ≤ q
  pub to : q ≤ e
  pub all : All t a q r

module _ {t : ℕ → Bool} {a e : ℕ} where
  pub testing-none : a ≤ e → Testing t a e a true
  testing-none h = record {
    from = omega arith;
    to = h;
    all = record { pass = λ _ x h₁ h₂. absurd (omega arith); miss = λ z. absurd (true≢false z) };
  }

  module _ {q : ℕ} {s : Bool} (v : Testing t a e q s) where
    pub testing-done : e ≤ q → All t a e s
    testing-done h = let z : q ≡ e = omega (arith, v.to) in rw z at v.all

    module _ (h : q < e) {r : Bool} where
      -- the next one fails
      pub testing-miss : t q ≡ false → r ≡ false → Testing t a e (q + 1) r
      testing-miss z y = record {
        from = omega (arith, v.from);
        to = omega arith;
        all = record {
          pass = λ x. absurd (true≢false (sym x ∙ y));
          miss = λ _. record { at = q; from = v.from; below = omega arith; fails = z };
        };
      }

      -- the next one passes
      pub testing-pass : t q ≡ true → r ≡ s → Testing t a e (q + 1) r
      testing-pass z y = rw y (record {
        from = omega (arith, v.from);
        to = omega arith;
        all = record { pass = λ p x h₁ h₂. passes p x h₁ h₂ (ℕ_discrete x q); miss = λ p. wider (v.all.miss p) };
      })
        where
          wider : Miss t a q → Miss t a (q + 1)
          wider m = record { at = m.at; from = m.from; below = omega (arith, m.below); fails = m.fails }

          passes : s ≡ true → (x : ℕ) → a ≤ x → x < q + 1 → Dec (x ≡ q) → t x ≡ true
          passes p x h₁ h₂ (yes d) = rw d z
          passes p x h₁ h₂ (no d) = v.all.pass p x h₁ (omega arith)

-- of the elements from a up to e, counted from the first of them
pub all-inner : {A : Type 0} (a e : ℕ) (xs : List A) {t s : ℕ → Bool} {r : Bool} → a ≤ e → e ≤ length xs
    → ((k : ℕ) → k < e - a → t k ≡ s (a + k)) → All t 0 (length (mid_of a (e - a) xs)) r → All s a e r
all-inner a e xs h l same x =
    let long = length-mid a e xs l in
    record {
      pass = λ y q b m.
          let place : a + (q - a) ≡ q = omega arith in
          rw place at (sym (same (q - a) (omega arith)) ∙ x.pass y (q - a) (omega arith) (omega arith));
      miss = λ y.
          let m = x.miss y in
          let high : m.at < e - a = omega (arith, m.below) in
          record { at = a + m.at; from = omega arith; below = omega arith; fails = sym (same m.at high) ∙ m.fails };
    }

-- ---- a search back: those from q up to e pass

pub record SearchingBack (t : ℕ → Bool) (a e q : ℕ) : Type 0 where
  pub from : a ≤ q
  pub to : q ≤ e
  pub pass : (x : ℕ) → q ≤ x → x < e → t x ≡ true

module _ {t : ℕ → Bool} {a e : ℕ} where
  pub searching-none : a ≤ e → SearchingBack t a e e
  searching-none h = record { from = h; to = omega arith; pass = λ x h₁ h₂. absurd (omega arith) }

  module _ {q : ℕ} (v : SearchingBack t a e q) where
    -- the one before passes
    pub searching-more : a < q → t (q - 1) ≡ true → SearchingBack t a e (q - 1)
    searching-more h z = record { from = omega arith; to = omega (arith, v.to); pass = λ x h₁ h₂. passes x h₁ h₂ (dec_le q x) }
      where
        passes : (x : ℕ) → q - 1 ≤ x → x < e → Dec (q ≤ x) → t x ≡ true
        passes x h₁ h₂ (yes d) = v.pass x d h₂
        passes x h₁ h₂ (no d) = let y : x ≡ q - 1 = omega arith in rw y z

    -- the one before fails
    pub searching-hit : t (q - 1) ≡ false → LastIn t a e q
    searching-hit z = record {
      low = v.from;
      high = v.to;
      miss = λ x h y. let y' : x ≡ q - 1 = omega arith in rw y' z;
      pass = v.pass;
    }

    -- none is left
    pub searching-out : q ≤ a → LastIn t a e q
    searching-out h = record { low = v.from; high = v.to; miss = λ x h₁ y. absurd (omega arith); pass = v.pass }
