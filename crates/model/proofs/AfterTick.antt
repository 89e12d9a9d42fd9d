-- A tick on a link that stands after a history. Assumes nothing.
use Prim.Native.Nat.{ℕ, suc, ◌%◌, ◌<◌}
use mathlib.Core.Path.{◌≡◌, ap, ◌∙◌}
use mathlib.Core.List.{◌∷◌}
use native.Mathlib.Decide.{ℕ_discrete}
use native.Mathlib.Numerals.{add-one}
use native.Mathlib.Omega.{arith}
use Rattle.model.specs.Tables.{tally}
use Rattle.model.specs.Plan.{flow_count}
use Rattle.model.specs.Calls.{TickAnswer, History, ticked}
use Rattle.model.specs.Link.{Link, flow}
use Rattle.model.specs.Tick.{advanced, tick}
use Rattle.model.specs.History.{ticks, frame_of, origin, grant_at, grants, credits, grants_since, refusals_since, of_flow, at_slot}
use Rattle.model.specs.Claim.{ComesUpAt}
use Rattle.model.proofs.Tests.{and-true}
use Rattle.model.proofs.Tallies.{tally-le}
use Rattle.model.proofs.Slots.{frame-stays, frame_changes}
use Rattle.model.proofs.SlotOwners.{grants_of, owned}
use Rattle.model.proofs.TickKeeps.{Advances, advances}
use Rattle.model.proofs.HistoryCounts.{changes-are, refused-later, marks_before, split-at-reset, raises, raises-are}
use Rattle.model.proofs.AfterHistory.{AskedOn, LeastOf, After, after-event}

module _ {l : Link} {h : History} (g : After l.plan l h) where
  open l use {plan as P}
  open g use {invariant as v}
  open v.current use {accepted as ok}

  abbrev t : ℕ
  t = ticks h

  on : Advances v (advanced l)
  on = advances v

  least-ticked : (x : TickAnswer) (q : ℕ) → q < flow_count P → Dec (suc t % P.slots ≡ 0) → LeastOf P (ticked x ∷ h) q (flow (advanced l) q)
  unfolding ticks origin grants_since refusals_since
  least-ticked x q known (no d) asked =
      let same-frame = frame-stays ok t d in
      let same-injection = ap (λ y. y.injection) (on.flows_in_frame d q) in
      let so_far : AskedOn P h q = record {
        ready = asked.ready.1;
        refused_before = λ f since lt. asked.refused_before f since (rw same-frame lt);
      } in
      rw (same-frame, same-injection) (g.least q known so_far)
  least-ticked x q known (yes e) asked =
      let step = frame_changes ok t e in
      let so_far : AskedOn P h q = record {
        ready = asked.ready.1;
        refused_before = λ f since lt. asked.refused_before f since (rw step (omega arith));
      } in
      let old = g.least q known so_far in
      let full = old.after_a_refusal (asked.refused_before (frame_of P t) (omega (arith, changes-are P ok h)) (rw step (omega arith))) in
      record {
        before_injection = λ a low high e f since below. full f since (let a-below = rw step at high in omega arith);
        after_a_change = λ change f since below. full f since (let f-below = rw step at below in omega arith);
        after_a_refusal = λ re. absurd (omega (arith, refused-later P ok q (frame_of P (suc t)) h (rw step (omega arith))));
      }

  -- a slot to come was granted since the last granted reset, if at all
  still-to-come : (i s : ℕ) → t < s → tally (grants_of i s) (grants P h) ≡ tally (grants_of i s) (grants_since P h)
  unfolding grants grants_since
  still-to-come i s lt =
      omega (
        arith,
        split-at-reset (grant_at P) (grants_of i s) h,
        split-at-reset (grant_at P) (at_slot s) h,
        tally-le (grants_of i s) (at_slot s) (λ m e. (and-true (of_flow i m) (at_slot s m) e).1) (marks_before (grant_at P) h),
        raises-are P (at_slot s) h,
        v.owned.to_come s lt,
      )

  -- the answer is the flow that was granted the slot
  comes_up : ComesUpAt P (ticked (tick l).answer) h
  unfolding tick
  comes_up i = rw (on.answer_is, add-one t, still-to-come i (suc t) (omega arith)) (owned i (suc t) (grants_since P h) (v.bookings.once (suc t)))

  pub after_tick : After P (tick l).link (ticked (tick l).answer ∷ h)
  unfolding tick ticks origin grants grants_since raises credits
  after_tick = after-event g (record {
    plan_is = on.plan_is;
    keeps = on.keeps;
    soon = tt;
    comes_up = comes_up;
    word = tt;
    after_departure = tt;
    loan = tt;
    numbered = tt;
    least = λ q known. least-ticked (tick l).answer q known (ℕ_discrete (suc t % P.slots) 0);
    numbers = λ q known. on.numbers_stay q known ∙ g.numbers q known;
  })
