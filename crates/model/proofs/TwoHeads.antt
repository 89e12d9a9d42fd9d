-- Two flows that wait at each of five lends: the premise of fairness is met, and 'once more' is reached. Assumes nothing.
use mathlib.Core.Path.{◌≡◌, refl}
use mathlib.Core.List.{List, ◌∷◌, []}
use Rattle.model.specs.Plan.{Plan, plan_of}
use Rattle.model.specs.Calls.{Call, History}
use Rattle.model.specs.Scheduler.{run, reference}
use Rattle.model.specs.PlanBytes.{roomy}
use Rattle.model.specs.Fairness.{Waiting, lent_in}
use Rattle.model.proofs.Decidable.{proved}
use Rattle.model.proofs.FairDecided.{waiting}
use Rattle.model.proofs.WrongTurns.{turns-compute}

abbrev P : Plan
P = plan_of roomy

abbrev calls : List Call
calls = Call.lend 3 ∷ Call.tick ∷ Call.lend 3 ∷ Call.tick ∷ Call.lend 3 ∷ Call.tick ∷ Call.lend 3 ∷ Call.tick ∷ Call.lend 3 ∷ []

abbrev h : History
h = (run reference P calls).history

pub both-wait : Waiting P 0 h [] × Waiting P 1 h []
unfolding turns-compute
both-wait = (proved (waiting P 0 h []) tt, proved (waiting P 1 h []) tt)

pub lent-to-each : (lent_in h 0 ≡ 3) × (lent_in h 1 ≡ 2)
unfolding turns-compute
lent-to-each = (refl, refl)
