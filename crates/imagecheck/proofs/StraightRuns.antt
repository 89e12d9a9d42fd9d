-- The positions later than CP in straight runs: those behind CP, position 0, and those up to the head frame. Assumes nothing.
use Prim.Native.Nat.{ℕ, ◌+◌, ◌-◌, ◌*◌, ◌%◌, ◌≤◌, ◌<◌}
use mathlib.Core.Path.{◌≡◌, refl, sym, ap, ◌∙◌}
use mathlib.Core.List.{List}
use mathlib.Core.Bool.{Bool, true, false, not, ◌||◌}
use native.Mathlib.Nat.{mod-eq_of_lt, add-mod_right}
use native.Mathlib.Decide.{dec_le, ℕ_discrete}
use native.Mathlib.Omega.{arith}
use lib.Dec.{leb, eqb}
use borrow.Author.Tests.{le-leb, lt-leb}
use Rattle.model.specs.Tables.{every, bit}
use Rattle.model.specs.Plan.{field16}
use Rattle.model.specs.Window.{later}
use Rattle.imagemodel.specs.Image.{owner_in}
use Rattle.imagemodel.specs.Consistent.{booked_by}
use Rattle.window.proofs.Tabulated.{every-at, every-intro, every-miss}
use Rattle.window.specs.declared.Window.{Window}
use Rattle.window.specs.Window.{window_of, size_of, base_of, Proper}
use Rattle.window.proofs.Ranks.{rank_in, rank-high, rank-low, passed_is}
use Rattle.imagecheck.specs.Flows.{booking_at, grows_at, grows_on}
use Rattle.imagecheck.proofs.Owners.{booked-in}
use Rattle.imagecheck.proofs.LaterPositions.{later-is}

-- what is booked may be taken off
pub moved : (x y b : ℕ) → leb (x - b) y ≡ leb x (y + b)
moved x y b = go (dec_le x (y + b))
  where
    go : Dec (x ≤ y + b) → leb (x - b) y ≡ leb x (y + b)
    go (yes h) = le-leb (x - b) y (omega arith) ∙ sym (le-leb x (y + b) h)
    go (no h) = lt-leb (x - b) y (omega arith) ∙ sym (lt-leb x (y + b) (omega arith))

-- what was read of a position, as the image has it
pub alike : {x x' l l' o o' : ℕ} (i : ℕ) → x ≡ x' → l ≡ l' → o ≡ o' → i < 16
    → bit (leb x (l + bit (eqb o i))) ≡ bit (leb x' (l' + bit (booked_by i (owner_in o'))))
alike {x' = x'} {l' = l'} {o' = o'} i e f g few =
    (λ j. bit (leb (e j) (f j + bit (eqb (g j) i)))) ∙ ap (λ y. bit (leb x' (l' + bit y))) (sym (booked-in i o' few))

-- a test that fails where another does
fails : (x : Bool) {y : Bool} → (x ≡ true → y ≡ true) → y ≡ false → false ≡ x
fails true h e = sym e ∙ h refl
fails false h e = refl

-- the position before one that is not 0
before-is : (m p : ℕ) → 0 < p → p < m → (p + m - 1) % m ≡ p - 1
before-is m p h l =
    let e : p + m - 1 ≡ p - 1 + m = omega arith in
    ap (◌% m) e ∙ add-mod_right (p - 1) m ∙ mod-eq_of_lt (omega arith)

module _ (b : List ℕ) (owners held : ℕ) (w : Window) (v : Proper w) (i : ℕ) where
  abbrev test : ℕ → Bool
  test = grows_at b owners held (window_of w) i

  -- the run that begins with position a
  abbrev run : ℕ → ℕ → Bool
  run a = grows_on b (owners + 2 * a) (held + 2 * a) i

  abbrev grows_to : ℕ → ℕ
  grows_to p = field16 b (held + 2 * ((p + size_of w - 1) % size_of w)) + booking_at b i (owners + 2 * p)

  late-as : (p : ℕ) → p < size_of w → {x : Bool} → leb (rank_in w p) (w.current - base_of w) ≡ x → later (window_of w) p w.current ≡ not x
  late-as p l e = later-is w v p l ∙ ap not (passed_is w v p l ∙ e)

  -- up to CP nothing is asked
  early : (p : ℕ) → base_of w ≤ p → p ≤ w.current → test p ≡ true
  early p h l =
      let below : p < size_of w = omega (arith, v.measures.current_below) in
      let high = rank-high w v p below h in
      ap (λ x. not x || leb (field16 b (held + 2 * p)) (grows_to p)) (late-as p below (le-leb (rank_in w p) (w.current - base_of w) (omega (arith, high))))

  late-high : (p : ℕ) → p < size_of w → w.current < p → later (window_of w) p w.current ≡ true
  late-high p l h =
      let high = rank-high w v p l (omega (arith, v.base_low)) in
      late-as p l (lt-leb (rank_in w p) (w.current - base_of w) (omega (arith, high, v.base_low)))

  late-low : (p : ℕ) → p < base_of w → later (window_of w) p w.current ≡ true
  late-low p h =
      let low = rank-low w v p h in
      let m = v.measures.current_below in
      late-as p (omega (arith, m, v.base_low)) (lt-leb (rank_in w p) (w.current - base_of w) (omega (arith, low, m, v.base_low)))

  -- a run's test is that of its position
  run_is : (a k : ℕ) → 0 < a → a + k < size_of w → later (window_of w) (a + k) w.current ≡ true → run a k ≡ test (a + k)
  run_is a k h l late =
      (λ j. leb (field16 b (here j)) (field16 b (last j) + booking_at b i (owner j)))
      ∙ sym (ap (λ x. not x || leb (field16 b (held + 2 * (a + k))) (grows_to (a + k))) late)
    where
      here : held + 2 * a + 2 * k ≡ held + 2 * (a + k)
      here = omega arith

      last : held + 2 * a + 2 * k - 2 ≡ held + 2 * ((a + k + size_of w - 1) % size_of w)
      last = let e = before-is (size_of w) (a + k) (omega arith) l in omega (arith, e)

      owner : owners + 2 * a + 2 * k ≡ owners + 2 * (a + k)
      owner = omega arith

  -- ---- all positions, by the runs

  abbrev next : ℕ
  next = w.current + 1

  abbrev all : Bool
  all = every (size_of w) test

  abbrev behind : Bool
  behind = every (size_of w - next) (run next)

  abbrev ahead : Bool
  ahead = every (base_of w - 1) (run 1)

  behind-is : (k : ℕ) → k < size_of w - next → run next k ≡ test (next + k)
  behind-is k h = run_is next k (omega arith) (omega arith) (late-high (next + k) (omega arith) (omega arith))

  ahead-is : (k : ℕ) → k < base_of w - 1 → run 1 k ≡ test (1 + k)
  ahead-is k h = run_is 1 k (omega arith) (omega (arith, v.measures.current_below, v.base_low)) (late-low (1 + k) (omega arith))

  from-head : behind ≡ true → (p : ℕ) → p < size_of w → base_of w ≤ p → test p ≡ true
  from-head e p l h = go (dec_le p w.current)
    where
      go : Dec (p ≤ w.current) → test p ≡ true
      go (yes low) = early p h low
      go (no high) =
          let k = p - next in
          let is : next + k ≡ p = omega arith in
          ap test (sym is) ∙ sym (behind-is k (omega arith)) ∙ every-at (size_of w - next) (run next) k e (omega arith)

  pub behind-fails : {r : Bool} → r ≡ behind → r ≡ false → false ≡ all
  behind-fails e said =
      fails all (λ z. every-intro (size_of w - next) (run next) (λ k h. behind-is k h ∙ every-at (size_of w) test (next + k) z (omega arith)))
      (sym e ∙ said)

  pub head_first : {r : Bool} → r ≡ behind → r ≡ true → base_of w ≡ 0 → true ≡ all
  head_first e said z = sym (every-intro (size_of w) test (λ p l. from-head (sym e ∙ said) p l (omega (arith, z))))

  pub zero-fails : {r : Bool} → r ≡ test 0 → r ≡ false → false ≡ all
  zero-fails e said = sym (every-miss (size_of w) test 0 (omega (arith, v.measures.current_below)) (sym e ∙ said))

  module _ {r₁ r₀ : Bool} (e₁ : r₁ ≡ behind) (said₁ : r₁ ≡ true) (e₀ : r₀ ≡ test 0) (said₀ : r₀ ≡ true) where
    each : ahead ≡ true → (p : ℕ) → p < size_of w → test p ≡ true
    each e p l = go (dec_le (base_of w) p) (ℕ_discrete p 0)
      where
        go : Dec (base_of w ≤ p) → Dec (p ≡ 0) → test p ≡ true
        go (yes h) d = from-head (sym e₁ ∙ said₁) p l h
        go (no h) (yes z) = ap test z ∙ sym e₀ ∙ said₀
        go (no h) (no z) =
            let is : 1 + (p - 1) ≡ p = omega arith in
            ap test (sym is) ∙ sym (ahead-is (p - 1) (omega arith)) ∙ every-at (base_of w - 1) (run 1) (p - 1) e (omega arith)

    pub all_runs : {r : Bool} → r ≡ ahead → r ≡ all
    all_runs {r} e = e ∙ go ahead refl
      where
        go : (x : Bool) → ahead ≡ x → ahead ≡ all
        go true q = q ∙ sym (every-intro (size_of w) test (each q))
        go false q =
            q ∙ fails all
            (λ z. every-intro (base_of w - 1) (run 1) (λ k h. ahead-is k h ∙ every-at (size_of w) test (1 + k) z
            (omega (arith, v.measures.current_below, v.base_low)))) q
