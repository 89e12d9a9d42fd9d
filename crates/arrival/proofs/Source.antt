-- A source asks for each tile within the frames that its burst costs. Assumes nothing.
use Prim.Native.Nat.{ℕ, zero, suc, ◌+◌, ◌-◌, ◌*◌, ◌≤◌, ◌<◌}
use mathlib.Core.Path.{◌≡◌, refl, ap}
use native.Mathlib.Nat.{mod-lt, div-add-mod'}
use native.Mathlib.Decide.{dec_lt, dec_le}
use native.Mathlib.Omega.{arith}
use Rattle.model.specs.Tables.{sum}
use Rattle.arrival.specs.Source.{Source, Bursts, burst_frames, AskedSoon}

sum-next : (count : ℕ → ℕ) (f : ℕ) → sum f count ≤ sum (suc f) count
unfolding sum
sum-next count f = omega arith

pub sum_more : (count : ℕ → ℕ) (f k : ℕ) → sum f count ≤ sum (k + f) count
sum_more count f zero = let same : 0 + f ≡ f = omega arith in omega (arith, ap (λ n. sum n count) same)
sum_more count f (suc k) =
    let next : suc k + f ≡ suc (k + f) = omega arith in
    omega (arith, ap (λ n. sum n count) next, sum-next count (k + f), sum_more count f k)

-- the shares of a burst hold it
pub burst-held : (share burst : ℕ) → 0 < share → burst ≤ burst_frames share burst * share
burst-held share burst some = omega (arith, div-add-mod' (burst + share - 1) share, mod-lt (burst + share - 1) some)

module _ (share burst : ℕ) (comes asks : ℕ → ℕ) (source : Source share comes asks) where
  -- before frame f it asked for its share in each of the last `busy` frames, and for all that had come before those
  record Since (f : ℕ) : Type 0 where
    idle : ℕ
    busy : ℕ
    frames : idle + busy ≡ f
    asked : sum idle comes + busy * share ≤ sum f asks

  since : (f : ℕ) → Since f
  unfolding sum
  since zero = record { idle = 0; busy = 0; frames = refl; asked = omega arith }
  since (suc f) = go (since f) (dec_lt (asks f) share)
    where
      go : Since f → Dec (asks f < share) → Since (suc f)
      go x (yes few) = record { idle = suc f; busy = 0; frames = omega arith; asked = omega (arith, source.none_waits f (omega arith)) }
      go x (no full) = record { idle = x.idle; busy = suc x.busy; frames = omega (arith, x.frames); asked = omega (arith, x.asked) }

  module _ (bursts : Bursts share burst comes) (k : ℕ) (held : burst ≤ k * share) (f : ℕ) where
    all_asked : Since (f + k) → sum f comes ≤ sum (f + k) asks
    all_asked x = go (dec_le f x.idle)
      where
        go : Dec (f ≤ x.idle) → sum f comes ≤ sum (f + k) asks
        go (yes le) =
            let idle-is : x.idle - f + f ≡ x.idle = omega arith in
            omega (arith, sum_more comes f (x.idle - f), ap (λ n. sum n comes) idle-is, x.asked)
        go (no gt) =
            let more = f - x.idle in
            let f-is : x.idle + more ≡ f = omega arith in
            let busy-is : x.busy ≡ more + k = omega (arith, x.frames) in
            omega (arith, bursts x.idle more, ap (λ n. sum n comes) f-is, x.asked, ap (λ n. n * share) busy-is)

pub asked-soon : AskedSoon
asked-soon share burst some comes asks source bursts n f lt =
    let k = burst_frames share burst in
    let next : suc f + k ≡ suc (f + k) = omega arith in
    let all = all_asked share burst comes asks source bursts k (burst-held share burst some) (suc f) (since share burst comes asks source (suc f + k)) in
    omega (arith, all, ap (λ n. sum n asks) next)
