-- Definitions to unfold in proofs by computation. Assumes nothing.
use Rattle.model.specs.Tables.{any}
use Rattle.model.specs.History.{marks_of}
use Rattle.arrival.specs.SeveralLinks.{slots_of}
use Rattle.model.proofs.Unfoldings.{calls-compute, counts-compute}
use Rattle.crossings.specs.Crossing.{pass_on, pass_waiting, served}
use Rattle.crossings.specs.Playing.{others, in_slots}
use Rattle.crossings.specs.WrongBoards.{pass_by, pass_waiting_by, came_at}

-- a crossing that is played, and what is counted over its links
unfoldable pub crossings-compute : Unit {0}
unfolding calls-compute counts-compute any marks_of slots_of pass_on pass_waiting served others in_slots pass_by pass_waiting_by came_at
crossings-compute = tt
