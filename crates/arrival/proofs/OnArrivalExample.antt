-- Two boards in step on which a stream asks on arrival and gives its cells back in time: all that `over-links-on-arrival` asks. Assumes nothing.
use Prim.Native.Nat.{ℕ, ◌<◌}
use mathlib.Core.Path.{◌≡◌, refl}
use mathlib.Core.List.{List, ◌∷◌, []}
use mathlib.Core.Option.{some, none}
use lib.Dec.{lit<, lit≤}
use Rattle.model.specs.Tables.{tally}
use Rattle.model.specs.Plan.{flow_count, plan_of, refusal}
use Rattle.model.specs.Calls.{Call, History, requested, credited, ticked, accepted}
use Rattle.model.specs.History.{is_granted_reset}
use Rattle.model.specs.Scheduler.{reference}
use Rattle.model.specs.PlanBytes.{plan1}
use Rattle.arrival.specs.SeveralLinks.{slots_of, dues, tile, start, both_tick, first_alone, second_alone, Ran, Board, plan_on, due_on, EachWithin}
use Rattle.arrival.specs.SharesOfCells.{KeepsShares}
use Rattle.arrival.specs.LinksOnArrival.{WayOnArrival}
use Rattle.model.proofs.Decidable.{proved}
use Rattle.arrival.proofs.DelayDecided.{delays-compute}
use Rattle.arrival.proofs.CellsNeeded.{given_back, keeps-shares}
use Rattle.arrival.proofs.LinksOnArrival.{over-links-on-arrival}

-- F = 2, W = 2, one flow with share 1 and 2 cells
abbrev pub bytes : List ℕ
bytes = plan1 2 2 8 1 2

pub passes : refusal bytes ≡ 0
unfolding delays-compute
passes = refl

pub known : 0 < flow_count (plan_of bytes)
known = lit< tt

-- On the first board a tile is granted slot 1, and its cell is given back in that slot.
abbrev pub events₁ : History
events₁ = credited 0 2 (accepted tt) ∷ ticked (some 0) ∷ requested 0x24000000 (accepted 0x24000001) ∷ []

pub ran₁ : Ran reference (plan_of bytes) events₁
unfolding delays-compute
ran₁ = record { calls = Call.request 0x24000000 ∷ Call.tick ∷ Call.credit 0 2 ∷ []; is = refl }

pub none₁ : tally is_granted_reset events₁ ≡ 0
unfolding tally
none₁ = refl

abbrev pub first : Board reference
first = record { bytes = bytes; passes = passes; events = events₁; ran = ran₁; no_reset = none₁; stream = 0; known = known }

-- On the second it is asked for in slot 1, and granted slot 2.
abbrev pub events₂ : History
events₂ = requested 0x24000001 (accepted 0x24000002) ∷ ticked none ∷ []

pub ran₂ : Ran reference (plan_of bytes) events₂
unfolding delays-compute
ran₂ = record { calls = Call.tick ∷ Call.request 0x24000001 ∷ []; is = refl }

pub none₂ : tally is_granted_reset events₂ ≡ 0
unfolding tally
none₂ = refl

abbrev pub second : Board reference
second = record { bytes = bytes; passes = passes; events = events₂; ran = ran₂; no_reset = none₂; stream = 0; known = known }

pub way_there : WayOnArrival first (second ∷ [])
unfolding delays-compute given_back slots_of dues tile
way_there = (
  record {
    in_step = record { slots = refl; frames = refl };
    share_kept = lit≤ tt;
    late = 0;
    together =
        second_alone (requested 0x24000001 (accepted 0x24000002)) tt
        (λ well own. record {
          sent = lit< tt;
          departs = refl;
          comes_now = refl;
          number = refl;
          given_back = proved (given_back 0 (plan_of bytes) (lit< tt) 0 (ticked none ∷ [])) tt;
        })
        (first_alone (credited 0 2 (accepted tt)) tt (both_tick (first_alone (requested 0x24000000 (accepted 0x24000001)) tt start)));
    enough_cells = lit≤ tt;
    not_lent = refl;
  },
  tt,
)

pub two-shares-there : KeepsShares 0 0 (plan_of bytes) 0 events₁
unfolding delays-compute given_back keeps-shares
two-shares-there = proved (keeps-shares 0 0 (plan_of bytes) (lit< tt) 0 events₁) tt

pub both-within : EachWithin 1 (plan_on first) (due_on first) (first ∷ second ∷ [])
both-within = (over-links-on-arrival 0 first (second ∷ []) way_there).from_due two-shares-there
