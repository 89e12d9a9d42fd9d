-- What a flow's neighbours can't change (RULES 21.11): of two runs from one plan with the same calls of one flow, which in each of them asks until it
-- is refused with 11, that flow's requests are answered alike from the first frame change on, with grants in the same frames. Assumes nothing.
use Prim.Native.Nat.{ℕ, ◌<◌}
use mathlib.Core.Path.{◌≡◌, sym, ap, ◌∙◌}
use mathlib.Core.List.{List, [], ◌∷◌}
use native.Mathlib.Omega.{arith}
use Rattle.model.specs.Word.{flow_of}
use Rattle.model.specs.Plan.{Plan, flow_count, plan_of, Accepted}
use Rattle.model.specs.Calls.{Call, Grant, Event, History, requested, accepted, refused}
use Rattle.model.specs.History.{ticks, frame_of}
use Rattle.model.specs.Claim.{Each}
use Rattle.model.specs.Scheduler.{run, reference}
use Rattle.model.specs.TwoRuns.{SameButNumber, Aligned, start, both_tick, both_request, both_credit, first_alone, second_alone}
use Rattle.model.specs.TwoRuns.{AsksUntil11, SameFrame, SameFrames, UnmovedOn, Unmoved}
use Rattle.model.proofs.Plan as plan
use Rattle.model.proofs.HistoryCounts.{NoneGranted, changes-are}
use Rattle.model.proofs.EventsOfRuns.{Happened, each-happened}
use Rattle.model.proofs.AskedInFrames.{asked_in}
use Rattle.model.proofs.NewestGrants.{now, DecidedAt, paced}
use Rattle.model.proofs.AlignedRuns.{aligned-ticks, none-granted, same-well-formed, aligned-asked}

-- what is known of an event of one run
record Settled (P : Plan) (i : ℕ) (e : Event) (h : History) : Type 0 where
  happened : Happened P e h
  decided : DecidedAt P i e h

module _ {P : Plan} (ok : Accepted P) (i : ℕ) where
  -- one request of flow i, in both runs
  module _ {h₁ h₂ : History} (aligned : Aligned i h₁ h₂) {w₁ w₂ : ℕ} (own : flow_of w₁ ≡ i) (same : SameButNumber w₁ w₂) (later : 0 < now P h₁) where
    same_slot : ticks h₁ ≡ ticks h₂
    same_slot = aligned-ticks i aligned

    own-too : flow_of w₂ ≡ i
    own-too = sym same.flow ∙ own

    later-too : 0 < now P h₂
    later-too = omega (arith, ap (frame_of P) same_slot)

    -- the flow's requests before it in the frame
    same_count : asked_in P h₁ i (now P h₁) ≡ asked_in P h₂ i (now P h₂)
    same_count = aligned-asked i P (now P h₁) aligned ∙ ap (λ t. asked_in P h₂ i (frame_of P t)) same_slot

    alike : (a₁ a₂ : Grant) → Settled P i (requested w₁ a₁) h₁ → Settled P i (requested w₂ a₂) h₂ → SameFrame P h₁ a₁ h₂ a₂
    alike (accepted v₁) (accepted v₂) x y =
        let one = x.decided x.happened.word.asked_well_formed own later in
        let two = y.decided y.happened.word.asked_well_formed own-too later-too in
        omega (arith, one.1, two.1, ap (frame_of P) same_slot)
    alike (accepted v₁) (refused r₂) x y =
        let well = x.happened.word.asked_well_formed in
        let one = x.decided well own later in
        let two = y.decided (sym (same-well-formed P same) ∙ well) own-too later-too in
        omega (arith, one.0, same_count)
    alike (refused r₁) (accepted v₂) x y =
        let well = y.happened.word.asked_well_formed in
        let one = x.decided (same-well-formed P same ∙ well) own later in
        let two = y.decided well own-too later-too in
        omega (arith, two.0, same_count)
    alike (refused r₁) (refused r₂) x y = tt

  each-alike : {h₁ h₂ : History} (aligned : Aligned i h₁ h₂) → Each (Settled P i) h₁ → Each (Settled P i) h₂ → SameFrames P 1 aligned
  each-alike start s₁ s₂ = tt
  each-alike (both_tick x) s₁ s₂ = each-alike x s₁.1 s₂.1
  each-alike (both_request {h₁ = h₁} {a₁ = a₁} {a₂ = a₂} own same x) s₁ s₂ =
      (λ later. alike x own same (omega (arith, changes-are P ok h₁)) a₁ a₂ s₁.0 s₂.0, each-alike x s₁.1 s₂.1)
  each-alike (both_credit x) s₁ s₂ = each-alike x s₁.1 s₂.1
  each-alike (first_alone e other x) s₁ s₂ = each-alike x s₁.1 s₂
  each-alike (second_alone e other x) s₁ s₂ = each-alike x s₁ s₂.1

  -- one run
  each-settled : i < flow_count P → (calls : List Call) → NoneGranted (run reference P calls).history → AsksUntil11 P i (run reference P calls).history
      → Each (Settled P i) (run reference P calls).history
  each-settled known calls none on =
      let happened = each-happened P ok calls in
      each_both (run reference P calls).history happened (paced ok known (run reference P calls).history happened none on).decided
    where
      each_both : (h : History) → Each (Happened P) h → Each (DecidedAt P i) h → Each (Settled P i) h
      each_both [] x y = tt
      each_both (e ∷ h) x y = (record { happened = x.0; decided = y.0 }, each_both h x.1 y.1)

-- on any plan that keeps the limits, and so on the plan of any bytes that are accepted
pub same-frames-accepted : (P : Plan) → Accepted P → UnmovedOn reference P 1 AsksUntil11
same-frames-accepted P ok calls₁ calls₂ i known aligned on₁ on₂ =
    let none = none-granted i aligned in
    each-alike ok i aligned (each-settled ok i known calls₁ none.0 on₁) (each-settled ok i known calls₂ none.1 on₂)

pub same-frames : Unmoved reference
same-frames bytes passes = same-frames-accepted (plan_of bytes) (plan.accepted bytes passes)
