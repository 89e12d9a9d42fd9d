-- Whether a flow asks until it is refused with 11 in a run, or keeps a part of what that is, is decided by computation. Assumes nothing.
use Prim.Native.Nat.{ℕ, suc, ◌<◌}
use mathlib.Core.Logic.Dec
use native.Mathlib.Omega.{arith}
use native.Mathlib.Decide.{dec_lt, ℕ_discrete}
use Rattle.model.specs.Tables.{tally}
use Rattle.model.specs.Word.{flow_of}
use Rattle.model.specs.Plan.{Plan}
use Rattle.model.specs.Calls.{History}
use Rattle.model.specs.History.{ticks, frame_of, well_formed, marks_of, in_frame}
use Rattle.model.specs.OtherPremises.{Premise}
use Rattle.model.specs.TwoRuns.{refusal11_at, Refused11InEachFrame, AsksUntil11}
use Rattle.model.specs.LessAsked.{AsksUntil11By}
use Rattle.model.proofs.Decidable.{same, implies, is_true, all-below}
use Rattle.model.proofs.ClaimDecided.{at-request, ready_at, each}
use Rattle.model.proofs.OtherPremises.{Decides}

unfoldable pub refused-11-in-each : (P : Plan) (i : ℕ) (h : History) → Dec (Refused11InEachFrame P i h)
refused-11-in-each P i h = all-below (frame_of P (ticks h)) (λ f. dec_lt _ _)

unfoldable pub asks-until-11 : (P : Plan) (i : ℕ) (h : History) → Dec (AsksUntil11 P i h)
unfolding refused-11-in-each
asks-until-11 P i h =
    same (λ r. record { refused_11_in_each_frame = r.0; ready_at_each_request = r.1 }) (λ x. (x.refused_11_in_each_frame, x.ready_at_each_request))
    (Dec.and (refused-11-in-each P i h) (each (ready_at P i) h))

unfoldable pub asks-until-11-by : {Counts : ℕ → Type 0} {Q : Premise} → ((f : ℕ) → Dec (Counts f)) → Decides Q → (P : Plan) (i : ℕ) (h : History)
    → Dec (AsksUntil11By Counts Q P i h)
asks-until-11-by {Counts} counts q P i h =
    same
    (λ r. record { refused_11_in_each_frame = λ f c le. r.0 f (omega arith) c; ready_at_each_request = r.1 })
    (λ x. (λ f lt c. x.refused_11_in_each_frame f c (omega arith), x.ready_at_each_request))
    (Dec.and
    (all-below {Q = λ f. Counts f → 0 < tally (in_frame P i f) (marks_of refusal11_at h)} (suc (frame_of P (ticks h))) (λ f. implies (counts f) (dec_lt _ _)))
    (each (at-request (λ w h. implies (is_true (well_formed P w)) (implies (ℕ_discrete (flow_of w) i) (q P i w h)))) h))
