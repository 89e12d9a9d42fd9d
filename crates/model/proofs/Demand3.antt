-- Demand 3: the scheduler of the rules meets it. Assumes nothing.
use Prim.Native.Nat.{ℕ, suc, ◌+◌, ◌-◌, ◌*◌, ◌≤◌, ◌<◌}
use mathlib.Core.Path.{◌≡◌, subst}
use mathlib.Core.List.{[], ◌∷◌}
use mathlib.Core.Bool.{Bool, true, false, cond}
use native.Mathlib.Omega.{arith}
use lib.Dec.{eqb}
use borrow.Author.Tests.{eqb-true, eq-eqb}
use Rattle.model.specs.Tables.{sum}
use Rattle.model.specs.Plan.{Plan, flow_count, entry, plan_of, Accepted}
use Rattle.model.specs.Calls.{Event, History}
use Rattle.model.specs.Link.{Link}
use Rattle.model.specs.History.{Mark, ticks, frame_of, is_granted_reset, origin, changes, grants_since, granted, granted_in, of_flow, at_slot, in_frame}
use Rattle.model.specs.Claim.{Each, EachSince, Clause, Says, Demand3}
use Rattle.model.specs.Scheduler.{Meets, MeetsOn, reference}
use Rattle.model.proofs.Tests.{and-true}
use Rattle.model.proofs.Tallies.{all_map, sum-le, sum-const, sum-tail, tally-join, tally-split, Classed}
use Rattle.model.proofs.Slots.{frame-high}
use Rattle.model.proofs.Invariant.{Granted}
use Rattle.model.proofs.HistoryCounts.{changes-are, raises-are}
use Rattle.model.proofs.AfterHistory.{AskedOn, After}
use Rattle.model.proofs.Plan.{accepted}
use Rattle.model.proofs.AfterCalls.{after_run}

pub each_map : (Q R : Event → History → Type 0) → ((e : Event) (h : History) → Q e h → R e h) → (h : History) → Each Q h → Each R h
each_map Q R f [] a = tt
each_map Q R f (e ∷ h) a = (f e h a.0, each_map Q R f h a.1)

pub each-since-map : (Q R : Event → History → Type 0) → ((e : Event) (h : History) → Q e h → R e h) → (h : History) → EachSince Q h → EachSince R h
each-since-map Q R f [] a = tt
each-since-map Q R f (e ∷ h) a = go (is_granted_reset e) (each-since-map Q R f h) a
  where
    go : (b : Bool) → (EachSince Q h → EachSince R h) → cond b (Unit {0}) (Q e h × EachSince Q h) → cond b (Unit {0}) (R e h × EachSince R h)
    go true rest a = tt
    go false rest a = (f e h a.0, rest a.1)

module _ (l : Link) (h : History) (g : After l.plan l h) (i : ℕ) (known : i < flow_count l.plan) where
  open l use {plan as P}
  open g.invariant.current use {accepted as ok}

  abbrev share : ℕ
  share = (entry P i).share

  -- the frame with which the counts of grants begin
  abbrev first : ℕ
  first = origin P h

  -- the grants in each frame from it on
  abbrev in_each : ℕ → ℕ
  in_each k = granted_in P h i (first + k)

  -- how many frames have begun since then: those already gone, and the window's
  abbrev begun : ℕ
  begun = P.frames + changes P h

  change-count : first + changes P h ≡ frame_of P (ticks h)
  change-count = changes-are P ok h

  in_frame_lem : Says Clause.most-in-a-frame P i h
  in_frame_lem = (g.invariant.injects i known).in_frames

  -- flow i's grants, frame by frame
  frames-cover : granted P h i ≤ sum begun in_each
  frames-cover =
      tally-split begun (of_flow i) (λ k. in_frame P i (first + k)) (grants_since P h)
      (all_map _ _ in_one (grants_since P h) g.invariant.marks.grants_in)
    where
      in_one : (m : Mark) → Granted P (ticks h) first m → of_flow i m ≡ true → Classed begun (λ k. in_frame P i (first + k)) m
      in_one m x e =
          let frame = frame_of P m.slot in
          let below = frame-high ok (frame_of P (ticks h) + P.frames) m.slot (omega (arith, x.begun)) in
          record {
            class = frame - first;
            below = omega (arith, x.since, change-count);
            belongs = rw (e, eq-eqb frame (first + (frame - first)) (omega (arith, x.since)));
          }

  frames-exclude : sum begun in_each ≤ granted P h i
  frames-exclude =
      tally-join begun (of_flow i) (λ k. in_frame P i (first + k))
      (λ m j k p q. let a = frame_is m j p in let b = frame_is m k q in omega arith)
      (λ m j below p. (and-true (of_flow i m) (eqb (frame_of P m.slot) (first + j)) p).0) (grants_since P h)
    where
      frame_is : (m : Mark) (j : ℕ) → in_frame P i (first + j) m ≡ true → frame_of P m.slot ≡ first + j
      frame_is m j p = eqb-true (frame_of P m.slot) (first + j) (and-true (of_flow i m) (eqb (frame_of P m.slot) (first + j)) p).1

  most : Says Clause.most P i h
  most = omega (arith, frames-cover, sum-le begun in_each (λ k. share) (λ k below. in_frame_lem (first + k)), sum-const begun share)

  least : Says Clause.least P i h
  least p =
      let n = P.frames - 1 + changes P h in
      let now = frame_of P (ticks h) in
      let asked : AskedOn P h i = record {
        ready = p.ready_at_each_request;
        refused_before = λ f since lt. p.refused_in_each_frame f since (omega (arith, change-count));
      } in
      let full = (g.least i known asked).after_a_refusal (p.refused_in_each_frame now (omega (arith, change-count)) (omega (arith, change-count))) in
      let two = ok.two_frames in
      let one_more : begun ≡ suc n = omega arith in
      let all-but-first : n * share ≤ sum (suc n) in_each =
      sum-tail n share in_each (λ k since below. full (first + k) (omega arith) (omega (arith, change-count))) in
      let together : sum (suc n) in_each ≤ granted P h i = subst (λ m. sum m in_each ≤ granted P h i) one_more frames-exclude in
      omega arith

  pub demand3 : Demand3 P i h
  demand3 Clause.most = most
  demand3 Clause.most-in-a-frame = in_frame_lem
  demand3 Clause.least = least
  demand3 Clause.within_cells = each_map _ _ (λ e h c. c.held i known) h g.events
  demand3 Clause.one_owner = λ s. omega (arith, g.invariant.owned.one_owner s, raises-are P (at_slot s) h)
  demand3 Clause.within-a-window = each_map _ _ (λ e h c. c.soon) h g.events
  demand3 Clause.comes_up = each_map _ _ (λ e h c. c.comes_up) h g.events
  demand3 Clause.granted-words = each_map _ _ (λ e h c. c.word) h g.events
  demand3 Clause.after_departure = each_map _ _ (λ e h c. c.after_departure) h g.events
  demand3 Clause.lent-flows = each_map _ _ (λ e h c. c.loan) h g.events

-- demand 3 on any plan that keeps the limits, and so on the plan of any bytes that are accepted
pub meets-accepted : (P : Plan) → Accepted P → MeetsOn reference P
meets-accepted = after_run (λ P l h. (i : ℕ) → i < flow_count P → Demand3 P i h) demand3

pub meets : Meets reference
meets bytes passes = meets-accepted (plan_of bytes) (accepted bytes passes)
