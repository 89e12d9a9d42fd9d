-- One pass over a range that lowers holdings and finds the largest of them then; what that tells of what was held; and what was lowered from
-- p on, raised again. Assumes nothing.
use Prim.Native.Nat.{ℕ, ◌+◌, ◌*◌, ◌%◌, ◌≤◌, ◌<◌, max}
use mathlib.Core.Path.{◌≡◌, refl, sym, ◌∙◌}
use mathlib.Core.List.{List}
use mathlib.Core.Bool.{Bool, true, false, true≢false, cond}
use native.Mathlib.Decide.{dec_lt, ℕ_discrete}
use native.Mathlib.Omega.{arith}
use lib.ListN.{length, get_or, set}
use Rattle.std.proofs.Common.{add-one}
use lib.Dec.{ltb}
use borrow.Author.Tests.{le-leb, lt-ltb}
use Rattle.model.specs.Window.{every_from}
use Rattle.window.specs.declared.Window.{Window}
use Rattle.window.specs.Bytes.{wrapped}
use Rattle.window.specs.Window.{window_of, size_of, Proper, from_in}
use Rattle.window.proofs.Bytes.{wrapped-is}
use Rattle.window.proofs.Ranks.{rank_in}
use Rattle.window.proofs.FromOn.{from_is, from_past, every-from}
use Rattle.window.proofs.Ranges.{replaced-at}
use Rattle.tables.specs.Rows.{row}
use Rattle.tables.specs.Padded.{pad}
use Rattle.tables.specs.Holdings.{some_held, largest, most_held, shifted_row, shifted}
use Rattle.state.proofs.Parts.{beside_back}
use Rattle.tables.proofs.Places.{row_at, with-row-in, with-row-is, beside-row}
use Rattle.tables.proofs.Rows.{length-row, length-with-row}
use Rattle.tables.proofs.Largest.{largest-none, largest-one-more, largest-most}
use Rattle.tables.proofs.Shifting.{AllBytes, Shifting, shifting-none, shifting-more, shifted-put}

-- ---- the pass

-- one fewer than what stands at place k of a list, where that is late
abbrev pub fewer_in : (base from : ℕ) → List ℕ → ℕ → ℕ
fewer_in base from h k = wrapped (pad base from 0 255 k) (get_or h k 0)

-- the places up to k are lowered, and `most` is the largest of them then
pub record Lowering (base from : ℕ) (before after : List ℕ) (most k x : ℕ) : Type 0 where
  pub shifting : Shifting base from 255 before after k x
  pub most_is : most ≡ largest k (fewer_in base from before)

module _ {base from : ℕ} (low : base < 256) {before : List ℕ} where
  pub lowering-none : {x : ℕ} → x < 256 → (x + base) % 256 ≡ 0 → Lowering base from before before 0 0 x
  lowering-none b z = record { shifting = shifting-none low b z; most_is = sym (largest-none _) }

  module _ {after : List ℕ} {most k x : ℕ} (v : Lowering base from before after most k x) where
    pub lowering-more : AllBytes before → k < length before → {by : ℕ} → by < 256 → by ≡ cond (ltb x from) 0 255
        → {most' : ℕ} → most' ≡ max most ((get_or after k 0 + by) % 256)
        → Lowering base from before (set after k ((get_or after k 0 + by) % 256)) most' (k + 1) ((x + 1) % 256)
    lowering-more bytes more {by} fits is {most'} n = record {
      shifting = shifting-more low bytes v.shifting more fits is;
      most_is =
          let put = shifted-put low bytes v.shifting more fits is in
          rw add-one (n ∙ rw (put, v.most_is) (sym (largest-one-more k (fewer_in base from before))));
    }

    pub lowering-done : length before ≤ k → most ≡ largest (length before) (fewer_in base from before)
    lowering-done ends = let z : k ≡ length before = omega (arith, v.shifting.replaced.to) in rw z at v.most_is

-- ---- what was lowered from p on

wrapped-back : (y : ℕ) → y < 256 → wrapped 1 (wrapped 255 y) ≡ y
wrapped-back y b =
    let down = wrapped-is 255 y (omega arith) b in
    let up = wrapped-is 1 (wrapped 255 y) (omega arith) (omega arith) in
    sym up ∙ omega arith

module _ (w : Window) (v : Proper w) (p : ℕ) (lp : p < size_of w) (h : List ℕ) (i : ℕ) where
  -- from p on
  abbrev from : ℕ → Bool
  from = from_in (window_of w) p

  abbrev fewer : List ℕ
  fewer = shifted (window_of w) 255 i p h

  -- what it is at a position
  lowered-at : (q : ℕ) → q < 256 → 256 * i + q < length h
      → get_or fewer (256 * i + q) 0 ≡ cond (from q) (wrapped 255 (get_or h (256 * i + q) 0)) (get_or h (256 * i + q) 0)
  lowered-at q b l =
      with-row-in h i (shifted_row (window_of w) 255 p (row h i)) q b l
      ∙ replaced-at from _ (row h i) q 0 (omega (arith, length-row h i))
      ∙ rw (row_at h i q b)

  -- something was held at each position where none is 255 after it
  pub some_held_lem : most_held (size_of w) (shifted_row (window_of w) 255 p (row h i)) < 255 → every_from (window_of w) p (some_held (row h i)) ≡ true
  some_held_lem low = every-from w v p lp (some_held (row h i)) (λ q l r. held q l r (ℕ_discrete (get_or (row h i) q 0) 0))
    where
      held : (q : ℕ) → q < size_of w → rank_in w p ≤ rank_in w q → Dec (get_or (row h i) q 0 ≡ 0) → some_held (row h i) q ≡ true
      held q l r (yes z) =
          let is-from : from q ≡ true = from_is w v p lp q l ∙ le-leb _ _ r in
          let there = replaced-at from (λ _. wrapped 255) (row h i) q 0 (omega (arith, length-row h i, v.measures.positions_most)) in
          let is-255 : get_or (shifted_row (window_of w) 255 p (row h i)) q 0 ≡ 255 =
          there ∙ rw (is-from, z) (sym (wrapped-is 255 0 (omega arith) (omega arith))) in
          let below = largest-most (size_of w) (λ q. get_or (shifted_row (window_of w) 255 p (row h i)) q 0) q l in
          absurd (omega arith)
      held q l r (no z) = lt-ltb 0 (get_or (row h i) q 0) (omega arith)

  pub raised-again : ((k : ℕ) → get_or h k 0 < 256) → shifted (window_of w) 1 i p fewer ≡ h
  raised-again bytes =
      sym (with-row-is fewer i (shifted_row (window_of w) 1 p (row fewer i)) h (beside_back (beside-row h i _)) at)
    where
      -- y at position q, lowered and raised
      back : (q : ℕ) (b : Bool) → from q ≡ b → Dec (q < size_of w) → (y : ℕ) → (q < size_of w → y < 256)
          → y ≡ cond b (wrapped 1 (cond b (wrapped 255 y) y)) (cond b (wrapped 255 y) y)
      back q true z (yes d) y byte = sym (wrapped-back y (byte d))
      back q true z (no d) y byte = absurd (true≢false (sym z ∙ from_past w v p lp q (omega arith)))
      back q false z d y byte = refl

      at : (q : ℕ) → q < 256 → 256 * i + q < length fewer → get_or h (256 * i + q) 0 ≡ get_or (shifted_row (window_of w) 1 p (row fewer i)) q 0
      at q b l =
          let first = lowered-at q b (rw (length-with-row h i _) at l) in
          let second = replaced-at from (λ q x. wrapped 1 x) (row fewer i) q 0 (omega (arith, length-row fewer i)) in
          rw (second, row_at fewer i q b, first)
          (back q (from q) refl (dec_lt q (size_of w)) _ (λ _. bytes (256 * i + q)))
