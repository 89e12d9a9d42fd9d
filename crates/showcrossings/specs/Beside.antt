-- Two crossings of a board that have a link in common: the tiles of one in-link go on by two links, or those of two go on by one. RULES 27.1 and 27.6.
-- Assumes nothing.
use Rattle.std.specs.Prelude.{ℕ, ◌<◌, ◌≡◌, List}
use Rattle.std.proofs.Math.Option.{some, none}
use Rattle.model.specs.Plan.{flow_count, plan_of, refusal}
use Rattle.model.specs.Calls.{Call, TickAnswer}
use Rattle.model.specs.Scheduler.{Played, reference, run}
use Rattle.crossings.specs.Crossing.{Crossing, crossing_with, goes_on_as, served}
use Rattle.crossings.specs.Playing.{Other, others}

-- y has this in-link after some calls of others, and is as it was but for it; and this out-link
pub record ToArriving (y : Crossing) (link : Played reference) : Type 0 where
  pub calls : List Other
  pub come_to : others calls y ≡ crossing_with y link y.leaving y.waiting

pub record ToLeaving (y : Crossing) (link : Played reference) : Type 0 where
  pub calls : List Other
  pub come_to : others calls y ≡ crossing_with y y.arriving link y.waiting

-- RULES 27.6: to y the part of x on their in-link is calls of others, where no flow goes on at both: `part-beside`, in proofs/Beside.antt.
abbrev pub BesideArriving : Type 0
BesideArriving =
    (owner : TickAnswer) (x y : Crossing) → y.arriving ≡ x.arriving → ((i j : ℕ) → goes_on_as x i ≡ some j → goes_on_as y i ≡ none)
    → ToArriving y (served owner x).arriving

-- RULES 27.6: and so its part on their out-link, a run of an accepted plan, where no two flows of theirs go on as the same one: `part-beside-out`, there
abbrev pub BesideLeaving : Type 0
BesideLeaving =
    (bytes : List ℕ) → refusal bytes ≡ 0 → (calls : List Call) (owner : TickAnswer) (x y : Crossing) → run reference (plan_of bytes) calls ≡ x.leaving
    → y.leaving ≡ x.leaving → ((i j : ℕ) → goes_on_as x i ≡ some j → j < flow_count (plan_of bytes))
    → ((i k j : ℕ) → goes_on_as x i ≡ some j → goes_on_as y k ≡ some j → ⊥) → ToLeaving y (served owner x).leaving
