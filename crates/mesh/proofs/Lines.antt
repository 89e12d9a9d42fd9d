-- The places of one side of a line's nodes, and loads that are raised along it. Assumes nothing.
use Prim.Native.Nat.{ℕ, ◌+◌, ◌-◌, ◌/◌, ◌%◌, ◌≤◌, ◌<◌}
use mathlib.Core.Path.{◌≡◌, sym, ap, ◌∙◌}
use mathlib.Core.List.{List}
use mathlib.Core.Bool.{true, false}
use native.Mathlib.Decide.{dec_lt, dec_le}
use native.Mathlib.Omega.{arith}
use lib.ListN.{length, get_or, set}
use borrow.Author.Tests.{ltb-true, leb-true, eqb-true, lt-ltb, le-leb, eq-eqb, ne_eqb}
use Rattle.model.proofs.Tests.{and-true, same_truth}
use Rattle.mesh.specs.Mesh.{Side, north, west, east, south}
use Rattle.mesh.specs.Reading.{side_at}
use Rattle.mesh.specs.Loads.{Small, line_of, step_of, Place, in_line, raised}
use Rattle.mesh.proofs.Raised.{raised-small, raised-nowhere, raised-same, raised-more}

-- ---- which places those are

pub record InLine (side line low high k : ℕ) : Type 0 where
  pub side_is : k % 4 ≡ side
  pub line_is : line_of (side_at side) (k / 4) ≡ line
  pub low_most : low ≤ step_of (side_at side) (k / 4)
  pub below : step_of (side_at side) (k / 4) < high

module _ {side line low high k : ℕ} where
  pub in-line : InLine side line low high k → in_line side line low high k ≡ true
  unfolding in_line
  in-line h = rw (eq-eqb _ _ h.side_is, eq-eqb _ _ h.line_is, le-leb _ _ h.low_most, lt-ltb _ _ h.below)

  pub line-parts : in_line side line low high k ≡ true → InLine side line low high k
  unfolding in_line
  line-parts e =
      let side = and-true _ _ e in
      let line = and-true _ _ side.1 in
      let step = and-true _ _ line.1 in
      record {
        side_is = eqb-true _ _ side.0;
        line_is = eqb-true _ _ line.0;
        low_most = leb-true _ _ step.0;
        below = ltb-true _ _ step.1;
      }

-- another side's places
pub off-side : (side line low high k : ℕ) → (k % 4 ≡ side → ⊥) → in_line side line low high k ≡ false
unfolding in_line
off-side side line low high k d = rw (ne_eqb (k % 4) side d)

-- none where there is nothing between the two
pub no_line : (side line low high k : ℕ) → high ≤ low → in_line side line low high k ≡ false
no_line side line low high k l =
    same_truth _ _ (λ e. let p = line-parts e in absurd (omega (arith, p.low_most, p.below))) (λ e. let z : ◌≡◌ {A = ℕ} 0 1 = cc in absurd (omega arith))

-- a place is told by side, line and step
one_place : (s : Side) (k i : ℕ) → k % 4 ≡ i % 4 → line_of s (k / 4) ≡ line_of s (i / 4) → step_of s (k / 4) ≡ step_of s (i / 4) → k ≡ i
one_place north k i e f g = omega arith
one_place west k i e f g = omega arith
one_place east k i e f g = omega arith
one_place south k i e f g = omega arith

-- ---- a line, step by step

module _ {side line step i : ℕ} (P : Place side line step i) (low : ℕ) where
  not_yet : in_line side line low step i ≡ false
  not_yet =
      same_truth _ _ (λ e. let p = line-parts e in absurd (omega (arith, p.below, P.step_is))) (λ e. let z : ◌≡◌ {A = ℕ} 0 1 = cc in absurd (omega arith))

  now-there : low ≤ step → in_line side line low (step + 1) i ≡ true
  now-there l = in-line (record { side_is = P.side_is; line_is = P.line_is; low_most = omega (arith, P.step_is); below = omega (arith, P.step_is) })

  elsewhere : (k : ℕ) → (k ≡ i → ⊥) → in_line side line low step k ≡ in_line side line low (step + 1) k
  elsewhere k d =
      same_truth _ _
      (λ e. let p = line-parts e in in-line (record { side_is = p.side_is; line_is = p.line_is; low_most = p.low_most; below = omega (arith, p.below) }))
      (λ e. let p = line-parts e in
      in-line (record { side_is = p.side_is; line_is = p.line_is; low_most = p.low_most; below = before p }))
    where
      before : InLine side line low (step + 1) k → step_of (side_at side) (k / 4) < step
      before p = go p (decided p)
        where
          decided : InLine side line low (step + 1) k → Dec (step_of (side_at side) (k / 4) < step)
          decided p = dec_lt _ _

          go : InLine side line low (step + 1) k → Dec (step_of (side_at side) (k / 4) < step) → step_of (side_at side) (k / 4) < step
          go p (yes l) = l
          go p (no l) =
              absurd (d (one_place (side_at side) k i (p.side_is ∙ sym P.side_is) (p.line_is ∙ sym P.line_is) (omega (arith, p.below, P.step_is))))

-- ---- the loop

pub record AddedTo (before after : List ℕ) (side line low high share step : ℕ) : Type 0 where
  pub low_most : low ≤ step
  pub step_most : step - low ≤ high - low
  pub loads_are : after ≡ raised (in_line side line low step) share before

pub none-added : {before : List ℕ} (side line low high share : ℕ) → length before ≡ 256 → AddedTo before before side line low high share low
none-added {before} side line low high share w = record {
  low_most = omega arith;
  step_most = omega arith;
  loads_are = raised-nowhere share before (in_line side line low low) w (λ k. no_line side line low low k (omega arith));
}

module _ {before after : List ℕ} {side line low high share step : ℕ} (s : AddedTo before after side line low high share step) where
  pub one-added : {i : ℕ} → step < high → Place side line step i → AddedTo before (set after i (get_or after i 0 + share)) side line low high share (step + 1)
  one-added {i} l P = record {
    low_most = omega (arith, s.low_most);
    step_most = omega (arith, s.low_most);
    loads_are =
        ap (λ xs. set xs i (get_or xs i 0 + share)) s.loads_are
        ∙ raised-more share before (in_line side line low step) (in_line side line low (step + 1)) i P.within (not_yet P low) (now-there P low s.low_most) (elsewhere P low);
  }

  pub added-small : Small before 4352 → share ≤ 64 → (k : ℕ) → get_or after k 0 ≤ 4416
  added-small small l k = omega (arith, ap (λ xs. get_or xs k 0) s.loads_are, (raised-small share before (in_line side line low step) 4352 small).small k)

  -- the line is done
  pub all-added : high ≤ step → after ≡ raised (in_line side line low high) share before
  all-added l = s.loads_are ∙ raised-same share before (in_line side line low step) (in_line side line low high) same
    where
      same : (k : ℕ) → in_line side line low step k ≡ in_line side line low high k
      same k = go (dec_le low high)
        where
          go : Dec (low ≤ high) → in_line side line low step k ≡ in_line side line low high k
          go (yes h) = let z : step ≡ high = omega (arith, s.low_most, s.step_most) in ap (λ t. in_line side line low t k) z
          go (no h) = no_line side line low step k (omega (arith, s.low_most, s.step_most)) ∙ sym (no_line side line low high k (omega arith))
