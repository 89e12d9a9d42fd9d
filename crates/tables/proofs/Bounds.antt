-- For each flow a bound of what it holds: kept by one more or one fewer from a position on, by a frame change, and by what changes neither.
-- Assumes nothing.
use Prim.Native.Nat.{ℕ, ◌+◌, ◌-◌, ◌*◌, ◌≤◌, ◌<◌, min}
use mathlib.Core.Path.{◌≡◌, refl, sym, ap, ◌∙◌}
use mathlib.Core.List.{List}
use mathlib.Core.Bool.{Bool, true, false, cond}
use native.Mathlib.Nat.{mod-lt}
use native.Mathlib.Decide.{dec_lt, ℕ_discrete}
use native.Mathlib.Omega.{arith}
use lib.ListN.{get_or}
use lib.Seq.{get_or-set_same, get_or-set_other}
use Rattle.window.specs.declared.Window.{Window}
use Rattle.window.specs.Bytes.{wrapped}
use Rattle.window.specs.Window.{window_of, size_of, base_of, head_range, Proper, from_in}
use Rattle.window.proofs.Bytes.{wrapped-up}
use Rattle.window.proofs.Ranges.{length-replaced, replaced-at}
use Rattle.state.specs.Parts.{Beside, Apart}
use Rattle.state.specs.State.{Whole, held_of, bound_at, with_bound}
use Rattle.tables.specs.Rows.{row, Sixteen}
use Rattle.tables.specs.Holdings.{nothing_held, most_held, shifted_row, shifted, last_of, carried_row, carried}
use Rattle.tables.specs.Bounds.{AtMost, Bounds, raised, lowered}
use Rattle.tables.proofs.Largest.{largest-most}
use Rattle.state.proofs.State.{length-held}
use Rattle.tables.proofs.Places.{same_row, beside-row}
use Rattle.tables.proofs.Rows.{length-row, length-with-row, row-with-same, row-with-other}
use Rattle.tables.proofs.HeldRows.{row-held}
use Rattle.tables.proofs.FreshTables.{nothing-at, row-of-nothing}
use Rattle.tables.proofs.HoldingChanges.{row_carried, row-not-carried}

most-known : (T : ℕ) (h : List ℕ) → AtMost T (most_held T h) h
most-known T h = record { most = λ low q l. largest-most T (λ q. get_or h q 0) q l }

most-unknown : {T : ℕ} {h : List ℕ} → AtMost T 255 h
most-unknown = record { most = λ low. absurd (omega arith) }

module _ (w : Window) (v : Proper w) (h : List ℕ) (long : Sixteen h) where
  -- ---- flow i from p on

  module _ (by i p : ℕ) (few : i < 16) where
    row-shifted : row (shifted (window_of w) by i p h) i ≡ shifted_row (window_of w) by p (row h i)
    row-shifted = row-with-same h i _ long few (length-replaced _ _ (row h i) ∙ length-row h i)

    -- what is known of the row is known of the flow
    most-shifted : {n : ℕ} → AtMost (size_of w) n (shifted_row (window_of w) by p (row h i)) → AtMost (size_of w) n (row (shifted (window_of w) by i p h) i)
    most-shifted m = rw row-shifted m

    -- another flow holds what it held
    most_other : (j : ℕ) → (j ≡ i → ⊥) → {n : ℕ} → AtMost (size_of w) n (row h j) → AtMost (size_of w) n (row (shifted (window_of w) by i p h) j)
    most_other j other m = rw (row-with-other h i (shifted_row (window_of w) by p (row h i)) j other) m

  -- one more
  most-more : (i p : ℕ) → (n : ℕ) → AtMost (size_of w) n (row h i) → AtMost (size_of w) (min (n + 1) 255) (shifted_row (window_of w) 1 p (row h i))
  most-more i p n m = record { most = λ low q l. at low q l (from_in (window_of w) p q) refl }
    where
      at : min (n + 1) 255 < 255 → (q : ℕ) → q < size_of w → (b : Bool) → from_in (window_of w) p q ≡ b
          → get_or (shifted_row (window_of w) 1 p (row h i)) q 0 ≤ min (n + 1) 255
      at low q l b e =
          let there = replaced-at (from_in (window_of w) p) (λ _. wrapped 1) (row h i) q 0 (omega (arith, length-row h i, v.measures.positions_most)) in
          rw (there, e) (go b)
        where
          go : (b : Bool) → cond b (wrapped 1 (get_or (row h i) q 0)) (get_or (row h i) q 0) ≤ min (n + 1) 255
          go true =
              let was = m.most (omega arith) q l in
              rw (wrapped-up (get_or (row h i) q 0) (omega arith)) (omega arith)
          go false = let was = m.most (omega arith) q l in omega arith

  -- ---- a frame change of k flows

  most-carried : (k i : ℕ) → i < 16 → {n : ℕ} → AtMost (size_of w) n (row h i) → AtMost (size_of w) n (row (carried w k h) i)
  most-carried k i few {n} m = go (dec_lt i k)
    where
      last-there : last_of w < size_of w
      last-there = mod-lt (base_of w + size_of w - 1) (omega (arith, v.measures.current_below))

      at : n < 255 → (q : ℕ) → q < size_of w → (b : Bool) → head_range w q ≡ b → get_or (carried_row w (row h i)) q 0 ≤ n
      at low q l b e =
          let there = replaced-at (head_range w) (λ _ _. get_or (row h i) (last_of w) 0) (row h i) q 0 (omega (arith, length-row h i, v.measures.positions_most)) in
          rw (there, e) (pick b)
        where
          pick : (b : Bool) → cond b (get_or (row h i) (last_of w) 0) (get_or (row h i) q 0) ≤ n
          pick true = m.most low (last_of w) last-there
          pick false = m.most low q l

      go : Dec (i < k) → AtMost (size_of w) n (row (carried w k h) i)
      go (yes d) = rw (row_carried w v k h long i d few) (record { most = λ low q l. at low q l (head_range w q) refl })
      go (no d) = rw (row-not-carried w k h i (omega arith)) m

-- ---- the bounds of all flows

-- what changes neither the holdings nor the bounds
pub bounds-beside : {T a e : ℕ} {s t : List ℕ} → Beside a e s t → 4096 ≤ a → Apart 4480 16 a e → Bounds T s → Bounds T t
bounds-beside {s = s} {t = t} v past apart b = record {
  bound = λ i few.
      rw (v.kept (4480 + i) (λ low high. apart (4480 + i) (omega arith) (omega arith) low high), same_row t s i (λ p l. v.kept (256 * i + p) (λ low _. omega arith)))
      (b.bound i few);
}

-- nothing is held
pub bounds-nothing : {T : ℕ} {s : List ℕ} → held_of s ≡ nothing_held → Bounds T s
bounds-nothing {T} {s} none = record {
  bound = λ i few. record {
    most = λ _ q l.
        let zero : get_or (row s i) q 0 ≡ 0 = ap (λ (h : List ℕ). get_or h q 0) (sym (row-held s i few) ∙ ap (λ (h : List ℕ). row h i) none ∙ row-of-nothing i few) ∙ nothing-at q in
        omega (arith, zero);
  };
}

-- bounds that say nothing
pub bounds_unknown : {T : ℕ} {s : List ℕ} → ((i : ℕ) → i < 16 → bound_at s i ≡ 255) → Bounds T s
bounds_unknown all = record { bound = λ i few. rw (all i few) most-unknown }

module _ {w : Window} (v : Proper w) {s : List ℕ} (whole : Whole s) (b : Bounds (size_of w) s) where
  long : Sixteen s
  long = omega (arith, whole)

  -- flow i's holdings from p on are moved, and its bound is this one
  bounds-shifted : (by i p n : ℕ) → i < 16 → AtMost (size_of w) n (shifted_row (window_of w) by p (row s i))
      → Bounds (size_of w) (with_bound (shifted (window_of w) by i p s) i n)
  bounds-shifted by i p n few m = record { bound = λ j lj. at j lj (ℕ_discrete j i) }
    where
      moved : List ℕ
      moved = shifted (window_of w) by i p s

      same_rows : (j : ℕ) → j < 16 → row (with_bound moved i n) j ≡ row moved j
      same_rows j lj = same_row _ _ j (λ q l. get_or-set_other moved (4480 + i) (256 * j + q) n 0 (λ z. omega arith))

      at : (j : ℕ) → j < 16 → Dec (j ≡ i) → AtMost (size_of w) (bound_at (with_bound moved i n) j) (row (with_bound moved i n) j)
      at j lj (yes d) =
          rw (d, same_rows i few, get_or-set_same moved (4480 + i) n 0 (rw length-with-row (omega (arith, whole))))
          (most-shifted w v s long by i p few m)
      at j lj (no d) =
          rw (same_rows j lj, get_or-set_other moved (4480 + i) (4480 + j) n 0 (λ z. d (omega arith)), (beside-row s i _).kept (4480 + j) (λ _ high. omega arith))
          (most_other w v s long by i p few j d (b.bound j lj))

  pub bounds-raised : (i p : ℕ) → i < 16 → Bounds (size_of w) (raised w i p s)
  unfolding raised
  bounds-raised i p few = bounds-shifted 1 i p _ few (most-more w v s long i p _ (b.bound i few))

  pub bounds-lowered : (i p : ℕ) → i < 16 → Bounds (size_of w) (lowered w i p s)
  unfolding lowered
  bounds-lowered i p few = bounds-shifted 255 i p _ few (most-known (size_of w) _)

  -- a frame change of k flows
  pub bounds-carried : (k : ℕ) {t : List ℕ} → held_of t ≡ carried w k (held_of s) → Beside 0 4480 s t → Bounds (size_of w) t
  bounds-carried k {t} e rest = record {
    bound = λ i few.
        let is = sym (row-held t i few) ∙ ap (λ (h : List ℕ). row h i) e in
        rw (is, rest.kept (4480 + i) (λ _ high. omega arith))
        (most-carried w v (held_of s) (rw length-held (omega arith)) k i few (rw (row-held s i few) (b.bound i few)));
  }
