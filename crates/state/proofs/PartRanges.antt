-- A range of a part's places as a range of the list's: tested there, and replaced. Assumes nothing.
use Prim.Native.Nat.{ℕ, ◌+◌, ◌-◌, ◌≤◌, ◌<◌}
use mathlib.Core.Path.{◌≡◌, sym, ap, ◌∙◌}
use mathlib.Core.List.{List}
use mathlib.Core.Bool.{Bool, false, cond}
use native.Mathlib.Decide.{dec_lt}
use native.Mathlib.Omega.{arith}
use lib.ListN.{length, get_or}
use Rattle.window.specs.Ranges.{in_range, replaced, All, LastIn}
use Rattle.window.proofs.Ranges.{in-range, before-range, past-range, replaced-at, replaced-off}
use Rattle.state.specs.Parts.{part, with_part}
use Rattle.state.proofs.Parts.{length_part, part_at, beside-replaced, beside-wider, with-part-is}

-- ---- a test t of places, and s of positions, where position 0 stands at place o

module _ (t s : ℕ → Bool) (o a e : ℕ) (same : (q : ℕ) → q < e → t (o + q) ≡ s q) {f g : ℕ} (from : f ≡ o + a) (to : g ≡ o + e) where
  same_back : (k : ℕ) → o ≤ k → k < o + e → t k ≡ s (k - o)
  same_back k h l = let place : k ≡ o + (k - o) = omega arith in ap t place ∙ same (k - o) (omega arith)

  pub all-in-part : {r : Bool} → All t f g r → All s a e r
  all-in-part x = record {
    pass = λ y q h l. sym (same q l) ∙ x.pass y (o + q) (omega arith) (omega arith);
    miss = λ y.
        let m = x.miss y in
        let low = m.from in
        let high = m.below in
        record { at = m.at - o; from = omega arith; below = omega arith; fails = sym (same_back m.at (omega arith) (omega arith)) ∙ m.fails };
  }

  pub last-in-part : {k : ℕ} → LastIn t f g k → LastIn s a e (k - o)
  last-in-part x = record {
    low = omega (arith, x.low);
    high = omega (arith, x.high);
    miss = λ q h y. sym (same q (omega (arith, x.high))) ∙ x.miss (o + q) (omega arith) (omega (arith, x.low));
    pass = λ q h l. sym (same q l) ∙ x.pass (o + q) (omega arith) (omega arith);
  }

-- ---- the range from a to e of a part replaced by f, where f is g at the positions that pass t and leaves the others

module _ (s : List ℕ) (o n a e : ℕ) (t : ℕ → Bool) (f g : ℕ → ℕ → ℕ) (few : e ≤ n)
    (same : (q x : ℕ) → a ≤ q → q < e → f q x ≡ cond (t q) (g q x) x) (before : (q : ℕ) → q < a → t q ≡ false) (past : (q : ℕ) → e ≤ q → t q ≡ false) where
  -- the list replaced at the places
  abbrev placed : List ℕ
  placed = replaced (in_range (o + a) (o + e)) (λ k x. f (k - o) x) s

  off : (p : ℕ) → p < n → t p ≡ false → (o + a ≤ o + p → o + p < o + e → ⊥) → get_or placed (o + p) 0 ≡ get_or (replaced t g (part s o n)) p 0
  off p b fails out =
      (beside-replaced (o + a) (o + e) _ s).kept (o + p) out ∙ sym (part_at s o n p b) ∙ sym (replaced-off t g (part s o n) p 0 fails)

  placed_at : (p : ℕ) → p < n → o + p < length s → Dec (p < a) → Dec (p < e) → get_or placed (o + p) 0 ≡ get_or (replaced t g (part s o n)) p 0
  placed_at p b k (yes l) d = off p b (before p l) (λ low _. omega arith)
  placed_at p b k (no l) (yes d) =
      let inside = in-range (o + a) (o + e) (o + p) (omega arith) (omega arith) in
      let place : o + p - o ≡ p = omega arith in
      let asked = replaced-at t g (part s o n) p 0 (omega (arith, length_part s o n)) in
      replaced-at _ _ s (o + p) 0 k ∙ rw (inside, place, ← part_at s o n p b) (same p _ (omega arith) d ∙ sym asked)
  placed_at p b k (no l) (no d) = off p b (past p (omega arith)) (λ _ high. omega arith)

  pub replaced-in-part : placed ≡ with_part s o n (replaced t g (part s o n))
  replaced-in-part =
      with-part-is s o n _ _ (beside-wider (omega arith) (omega arith) (beside-replaced (o + a) (o + e) _ s))
      (λ p b k. placed_at p b k (dec_lt p a) (dec_lt p e))

-- f at each position of the range
pub replaced-in : (s : List ℕ) (o n a e : ℕ) (f : ℕ → ℕ → ℕ) → e ≤ n
    → replaced (in_range (o + a) (o + e)) (λ k x. f (k - o) x) s ≡ with_part s o n (replaced (in_range a e) f (part s o n))
replaced-in s o n a e f few =
    replaced-in-part s o n a e (in_range a e) f f few (λ q x h l. rw (in-range a e q h l)) (λ q h. before-range a e q h) (λ q h. past-range a e q h)
