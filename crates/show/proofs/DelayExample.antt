-- A show of one stream over two links, and a run of its boards in which all that `in_time` asks holds. Assumes nothing.
use mathlib.Core.Path.{◌≡◌, refl}
use mathlib.Core.List.{◌∷◌, [], flat_map}
use lib.Dec.{lit<, lit≤}
use Rattle.model.specs.Tables.{any, sum}
use Rattle.model.specs.Refusals.{first_of}
use Rattle.model.specs.Plan.{entry_fits}
use Rattle.model.specs.WrittenPlan.{bytes_of}
use Rattle.arrival.proofs.ByCreditsExample.{board₁, board₂, way_there, modest-there}
use Rattle.mesh.specs.Mesh.{keep, some_of, links}
use Rattle.mesh.specs.Streams.{uses, load}
use Rattle.mesh.specs.Way.{way}
use Rattle.mesh.specs.Admission as admission
use Rattle.show.specs.Show.{Show, show_stream, link_plan, flow_on, used, first_number, refusal}
use Rattle.show.specs.Edges.{sent, show_with}
use Rattle.show.specs.Delay.{OnLinks, PassedAlong, InTime}
use Rattle.show.proofs.Delay.{in_time}

-- F = 2, W = 2, N = 8: a stream from board 0 over board 1 to board 9, with share 2, 4 cells on the first link and 6 on the last
abbrev example : Show
example = show_with 2 2 8 (sent 0 9 2 4 6 ∷ [])

no-refusal : refusal example ≡ 0
unfolding refusal first_number used link_plan admission.refusal admission.stream_fits keep some_of links uses load any sum first_of entry_fits flat_map
no-refusal = refl

-- the boards of the model's example run the plans of its links
on-links : OnLinks example 0 (way (show_stream example 0).stream) (board₁ ∷ board₂ ∷ [])
unfolding way link_plan flow_on keep uses bytes_of flat_map
on-links = (record { bytes_are = refl; flow_is = refl }, (record { bytes_are = refl; flow_is = refl }, tt))

passed : PassedAlong 1 board₁ (board₂ ∷ [])
passed = (record { together = way_there.0.together; credits = way_there.0.credits; not_lent = way_there.0.not_lent }, way_there.1.given_back)

pub example-in-time : InTime example 0 board₁ (board₂ ∷ [])
example-in-time =
    in_time example no-refusal 0 (lit< tt) 1 (record { usual = λ h. lit≤ tt; last = lit≤ tt }) board₁ (board₂ ∷ []) on-links modest-there passed
