-- What is known of an accepted plan, from its refusal being 0. Assumes nothing.
use Prim.Native.Nat.{ℕ, ◌+◌, ◌*◌, ◌≤◌}
use mathlib.Core.Path.{◌≡◌, refl}
use mathlib.Core.List.{List}
use mathlib.Core.Bool.{Bool, true, false, not}
use native.Mathlib.Omega.{arith}
use lib.ListN.{drop}
use lib.Dec.{eqb}
use borrow.Author.Tests.{ltb-false, eqb-true, eqb-false, eq-eqb, not-false}
use Rattle.model.specs.Refusals.{condition, first_of}
use Rattle.model.specs.Plan.{Plan, Entry, positions, flow_count, entry, Header, header_of, entry_of, plan_of}
use Rattle.model.specs.Plan.{entry_fits, same_pair, count_test, limit_tests, refusal, FittingEntry, Accepted}
use Rattle.model.proofs.Tables.{length-table}
use Rattle.model.proofs.Tests.{and-true, or-false, within-true, in-range, any_none, line-passed}

-- an entry that passes the test of its limits
pub fitting-entry : (P : Plan) (e : Entry) → entry_fits P.slots e ≡ true → FittingEntry P e
unfolding entry_fits
fitting-entry P e q =
    let a = and-true _ _ q in
    let b = and-true _ _ a.0 in
    let c = and-true _ _ b.0 in
    let d = and-true _ _ c.0 in
    let share = within-true 1 P.slots e.share d.0 in
    let cells = within-true 1 255 e.cells d.1 in
    record {
      some_share = share.0;
      share_most = share.1;
      some_cell = cells.0;
      cells_most = cells.1;
      source_most = (within-true 0 63 e.source c.1).1;
      destination_most = (within-true 0 63 e.destination b.1).1;
      ends_differ = eqb-false e.source e.destination (not-true-false (eqb e.source e.destination) a.1);
    }
  where
    not-true-false : (b : Bool) → not b ≡ true → b ≡ false
    not-true-false true e = cc
    not-true-false false e = refl

-- a plan of 1 to 16 flows that passes tests 3 to 7
pub limits-passed : (P : Plan) → 1 ≤ flow_count P → flow_count P ≤ 16 → first_of (limit_tests P) ≡ 0 → Accepted P
limits-passed P some_flow few e =
    let l3 = line-passed _ 2 _ e in
    let l4 = line-passed _ 3 _ l3.1 in
    let l5 = line-passed _ 4 _ l4.1 in
    let l6 = line-passed _ 5 _ l5.1 in
    let l7 = line-passed _ 6 _ l6.1 in
    let a = or-false _ _ l3.0 in
    let b = or-false _ _ a.0 in
    let c = or-false _ _ b.0 in
    let slots = in-range 1 64 P.slots c.0 in
    let frames = in-range 2 8 P.frames c.1 in
    let buffer = in-range 1 4095 P.buffer b.1 in
    record {
      some_flow = some_flow;
      flows_most = few;
      some_slot = slots.0;
      slots_most = slots.1;
      two_frames = frames.0;
      frames_most = frames.1;
      some_place = buffer.0;
      buffer_most = buffer.1;
      positions_most = ltb-false 256 (positions P) a.1;
      entries_fit = λ i h. fitting-entry P (entry P i) (not-false _ (any_none (flow_count P) _ l4.0 i h));
      pairs_differ = λ i j h k. differ (entry P j) (entry P i) (any_none i _ (any_none (flow_count P) _ l5.0 i h) j k);
      shares_fit = ltb-false P.slots _ l6.0;
      cells_fit = ltb-false P.buffer _ l7.0;
    }
  where
    differ : (a b : Entry) → same_pair a b ≡ false → a.source ≡ b.source → a.destination ≡ b.destination → ⊥
    differ a b q s d =
        let z : same_pair a b ≡ true = rw (eq-eqb a.source b.source s, eq-eqb a.destination b.destination d) in
        let n : ◌≡◌ {A = ℕ} 0 1 = cc in
        omega arith

-- a header whose counts pass test 2
pub record Counted (h : Header) : Type 0 where
  pub some_flow : 1 ≤ h.count
  pub flows_most : h.count ≤ 16
  pub offset_is : h.offset ≡ 12
  pub total_is : h.total ≡ 12 + 4 * h.count

pub counts-passed : (h : Header) → condition (count_test h) ≡ false → Counted h
counts-passed h e =
    let a = or-false _ _ e in
    let b = or-false _ _ a.0 in
    let n = in-range 1 16 h.count b.0 in
    record {
      some_flow = n.0;
      flows_most = n.1;
      offset_is = eqb-true h.offset 12 (not-false _ b.1);
      total_is = eqb-true h.total (12 + 4 * h.count) (not-false _ a.1);
    }

pub accepted : (b : List ℕ) → refusal b ≡ 0 → Accepted (plan_of b)
unfolding refusal
accepted b e =
    let l1 = line-passed _ 0 _ e in
    let l2 = line-passed _ 1 _ l1.1 in
    let n = counts-passed (header_of b) l2.0 in
    let count = length-table {A = Entry} (header_of b).count (entry_of (drop 12 b)) in
    limits-passed (plan_of b) (omega arith) (omega arith) l2.1
