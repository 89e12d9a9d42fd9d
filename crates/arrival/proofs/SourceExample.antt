-- A source to which a share and a burst come at once: the frames that `asked-soon` allows are needed, whatever share and burst are. And two boards in step
-- on which all that `from-source-on-arrival` asks holds, and the latest slot that it allows is granted. Assumes nothing.
use Prim.Native.Nat.{ℕ, zero, suc, ◌+◌, ◌-◌, ◌*◌, ◌≤◌, ◌<◌, min}
use mathlib.Core.Path.{◌≡◌, refl, ap}
use mathlib.Core.List.{List, ◌∷◌, []}
use mathlib.Core.Option.{some, none}
use native.Mathlib.Nat.{div-mul-le_self}
use native.Mathlib.Decide.{dec_lt, ℕ_discrete}
use native.Mathlib.Omega.{arith}
use lib.Dec.{lit<, lit≤}
use Rattle.model.specs.Tables.{sum, tally}
use Rattle.model.specs.Plan.{Plan, flow_count, plan_of, refusal}
use Rattle.model.specs.Calls.{Call, History, requested, ticked, accepted}
use Rattle.model.specs.History.{frame_of, is_granted_reset}
use Rattle.model.specs.Scheduler.{reference}
use Rattle.model.specs.PlanBytes.{plan1}
use Rattle.arrival.specs.Delay.{due_since}
use Rattle.arrival.specs.SeveralLinks.{slots_of, dues, tile, start, both_tick, first_alone, second_alone, Ran, Board, plan_on, sent_on}
use Rattle.arrival.specs.SharesOfCells.{KeepsShares}
use Rattle.arrival.specs.LinksOnArrival.{WayOnArrival}
use Rattle.arrival.specs.Source.{Source, Bursts, burst_frames, AskedWithin, AsksAs, EachCameWithin}
use Rattle.model.proofs.Decidable.{implies, all-below, everywhere, proved}
use Rattle.model.proofs.PastMarks.{above}
use Rattle.arrival.proofs.DelayDecided.{none_in, delays-compute}
use Rattle.arrival.proofs.CellsNeeded.{given_back, keeps-shares}
use Rattle.arrival.proofs.Source.{burst-held}
use Rattle.arrival.proofs.FromSource.{from-source-on-arrival}

-- ---- n tiles come in frame 0, and none later

abbrev pub at_once : ℕ → ℕ → ℕ
at_once n zero = n
at_once n (suc f) = 0

-- they are asked for by shares
abbrev pub in_turn : (share n : ℕ) → ℕ → ℕ
in_turn share n f = min share (n - f * share)

came : (n f : ℕ) → sum (suc f) (at_once n) ≡ n
unfolding sum
came n zero = omega arith
came n (suc f) = omega (arith, came n f)

asked : (share n f : ℕ) → sum f (in_turn share n) ≡ min (f * share) n
unfolding sum
asked share n zero = omega arith
asked share n (suc f) = omega (arith, asked share n f)

pub at-once-source : (share n : ℕ) → Source share (at_once n) (in_turn share n)
at-once-source share n = record {
  come = λ f. omega (arith, came n f, asked share n (suc f));
  within_share = λ f. omega arith;
  none_waits = λ f few. omega (arith, came n f, asked share n (suc f));
}

-- a share and a burst
pub at-once-bursts : (share burst : ℕ) → Bursts share burst (at_once (share + burst))
unfolding sum
at-once-bursts share burst zero zero = omega arith
at-once-bursts share burst zero (suc k) =
    let next : 0 + suc k ≡ suc k = omega arith in
    omega (arith, ap (λ n. sum n (at_once (share + burst))) next, came (share + burst) k)
at-once-bursts share burst (suc f) k =
    let next : suc f + k ≡ suc (f + k) = omega arith in
    omega (arith, ap (λ n. sum n (at_once (share + burst))) next, came (share + burst) (f + k), came (share + burst) f)

-- one frame less is too few, for the last of the tiles
pub not-sooner : (share burst : ℕ) → 0 < share → 0 < burst
    → AskedWithin (burst_frames share burst - 1) (at_once (share + burst)) (in_turn share (share + burst)) → ⊥
not-sooner share burst one more within =
    let n = share + burst in
    let c = burst_frames share burst in
    let held = burst-held share burst one in
    let some-frame : 0 < c = positive c held in
    let last = within (n - 1) 0 (omega (arith, came n 0)) in
    let is : suc (0 + (c - 1)) ≡ c = omega arith in
    omega (arith, last, ap (λ k. sum k (in_turn share n)) is, asked share n c, div-mul-le_self (burst + share - 1) share)
  where
    positive : (c : ℕ) → burst ≤ c * share → 0 < c
    positive zero le = absurd (omega arith)
    positive (suc c) le = omega arith

-- ---- over two links: F = 1, W = 2, one flow with share 1 and 2 cells on each, and two tiles that come in slot 0

abbrev pub bytes : List ℕ
bytes = plan1 1 2 4 1 2

pub passes : refusal bytes ≡ 0
unfolding delays-compute
passes = refl

pub known : 0 < flow_count (plan_of bytes)
known = lit< tt

-- On the first board the tiles are asked for in slots 0 and 1, and granted slots 1 and 2.
abbrev pub events₁ : History
events₁ = ticked (some 0) ∷ requested 0x24000401 (accepted 0x24000400) ∷ ticked (some 0) ∷ requested 0x24000000 (accepted 0x24000001) ∷ []

pub ran₁ : Ran reference (plan_of bytes) events₁
unfolding delays-compute
ran₁ = record { calls = Call.request 0x24000000 ∷ Call.tick ∷ Call.request 0x24000401 ∷ Call.tick ∷ []; is = refl }

pub none₁ : tally is_granted_reset events₁ ≡ 0
unfolding tally
none₁ = refl

abbrev pub first : Board reference
first = record { bytes = bytes; passes = passes; events = events₁; ran = ran₁; no_reset = none₁; stream = 0; known = known }

-- On the second they are asked for in slots 1 and 2, and granted slots 2 and 3.
abbrev pub before₂ : History
before₂ = ticked (some 0) ∷ requested 0x24000001 (accepted 0x24000000) ∷ ticked none ∷ []

abbrev pub events₂ : History
events₂ = requested 0x24000400 (accepted 0x24000401) ∷ before₂

pub ran₂ : Ran reference (plan_of bytes) events₂
unfolding delays-compute
ran₂ = record { calls = Call.tick ∷ Call.request 0x24000001 ∷ Call.tick ∷ Call.request 0x24000400 ∷ []; is = refl }

pub none₂ : tally is_granted_reset events₂ ≡ 0
unfolding tally
none₂ = refl

abbrev pub second : Board reference
second = record { bytes = bytes; passes = passes; events = events₂; ran = ran₂; no_reset = none₂; stream = 0; known = known }

-- ---- the premises

pub way_there : WayOnArrival first (second ∷ [])
unfolding delays-compute given_back slots_of dues tile
way_there = (
  record {
    in_step = record { slots = refl; frames = refl };
    share_kept = lit≤ tt;
    late = 0;
    together =
        second_alone (requested 0x24000400 (accepted 0x24000401)) tt
        (λ well own. record {
          sent = lit< tt;
          departs = refl;
          comes_now = refl;
          number = refl;
          given_back = proved (given_back 0 (plan_of bytes) (lit< tt) 0 before₂) tt;
        })
        (both_tick
        (second_alone (requested 0x24000001 (accepted 0x24000000)) tt
        (λ well own. record {
          sent = lit< tt;
          departs = refl;
          comes_now = refl;
          number = refl;
          given_back = proved (given_back 0 (plan_of bytes) (lit< tt) 0 (ticked none ∷ [])) tt;
        })
        (first_alone (requested 0x24000401 (accepted 0x24000400)) tt
        (both_tick (first_alone (requested 0x24000000 (accepted 0x24000001)) tt start)))));
    enough_cells = lit≤ tt;
    not_lent = refl;
  },
  tt,
)

pub two-shares-there : KeepsShares 0 0 (plan_of bytes) 0 events₁
unfolding delays-compute given_back keeps-shares
two-shares-there = proved (keeps-shares 0 0 (plan_of bytes) (lit< tt) 0 events₁) tt

unfoldable pub asks-as : (asks : ℕ → ℕ) (P : Plan) (i : ℕ) (h : History) → Dec (AsksAs asks P i h)
asks-as asks P i h =
    everywhere (above (λ m. frame_of P m.slot) (due_since P h)) (λ g. implies (dec_lt _ _) (all-below g (λ f. ℕ_discrete _ _)))
    (λ below g past due. absurd (omega (arith, none_in P i g (due_since P h) past)))

pub asks-there : AsksAs (in_turn 1 2) (plan_of bytes) 0 events₁
unfolding delays-compute asks-as
asks-there = proved (asks-as (in_turn 1 2) (plan_of bytes) 0 events₁) tt

-- ---- what follows, and that the bound is attained

pub both-within : EachCameWithin (burst_frames 1 1 + 1) (at_once 2) (first ∷ second ∷ [])
unfolding delays-compute
both-within =
    from-source-on-arrival 0 first (second ∷ []) way_there two-shares-there 1 (at_once 2) (in_turn 1 2) (at-once-source 1 2) (at-once-bursts 1 1) asks-there

-- tile 1 came in slot 0, and comes up on the second board in slot 3: the last that comes fewer than (2 + 1 + 1) × F slots later
pub attained : tile 1 (sent_on second) + 1 ≡ 0 + (burst_frames 1 1 + 2 + 1) * (plan_on second).slots
unfolding delays-compute slots_of dues tile
attained = refl
