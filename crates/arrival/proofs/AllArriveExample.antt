-- Two boards on which each tile is asked for arrives, and one that stops asking, which keeps every bound and is told. Assumes nothing.
use mathlib.Core.Path.{◌≡◌, refl}
use mathlib.Core.List.{◌∷◌, []}
use mathlib.Core.Option.{some, none}
use native.Mathlib.Omega.{arith}
use lib.Dec.{lit<, lit≤}
use Rattle.model.specs.Tables.{tally}
use Rattle.model.specs.Plan.{plan_of}
use Rattle.model.specs.Calls.{Call, History, requested, credited, ticked, accepted}
use Rattle.model.specs.History.{is_granted_reset}
use Rattle.model.specs.Scheduler.{reference}
use Rattle.arrival.specs.SeveralLinks.{slots_of, dues, tile, start, both_tick, first_alone, second_alone, Ran, Board, EachWithin, plan_on, due_on}
use Rattle.arrival.specs.SharesOfCells.{KeepsShares}
use Rattle.arrival.specs.LinksOnArrival.{WayOnArrival}
use Rattle.arrival.specs.AllArrive.{asked, AllAsked, Up}
use Rattle.model.proofs.Decidable.{proved}
use Rattle.arrival.proofs.DelayDecided.{delays-compute}
use Rattle.arrival.proofs.CellsNeeded.{given_back, keeps-shares}
use Rattle.arrival.proofs.LinksOnArrival.{over-links-on-arrival}
use Rattle.arrival.proofs.AllArrive.{all-arrive-on-arrival}
use Rattle.arrival.proofs.OnArrivalExample.{bytes, passes, known}

-- F = 2, W = 2, share 1, 2 cells, as in OnArrivalExample.antt, and five slots more
abbrev pub events₁ : History
events₁ =
    ticked none ∷ ticked none ∷ ticked none ∷ ticked none ∷ ticked none ∷ credited 0 2 (accepted tt) ∷ ticked (some 0)
    ∷ requested 0x24000000 (accepted 0x24000001) ∷ []

pub ran₁ : Ran reference (plan_of bytes) events₁
unfolding delays-compute
ran₁ = record {
  calls = Call.request 0x24000000 ∷ Call.tick ∷ Call.credit 0 2 ∷ Call.tick ∷ Call.tick ∷ Call.tick ∷ Call.tick ∷ Call.tick ∷ [];
  is = refl;
}

pub none₁ : tally is_granted_reset events₁ ≡ 0
unfolding tally
none₁ = refl

abbrev pub first : Board reference
first = record { bytes = bytes; passes = passes; events = events₁; ran = ran₁; no_reset = none₁; stream = 0; known = known }

abbrev pub events₂ : History
events₂ =
    ticked none ∷ ticked none ∷ ticked none ∷ ticked none ∷ ticked (some 0) ∷ requested 0x24000001 (accepted 0x24000002) ∷ ticked none ∷ []

pub ran₂ : Ran reference (plan_of bytes) events₂
unfolding delays-compute
ran₂ = record { calls = Call.tick ∷ Call.request 0x24000001 ∷ Call.tick ∷ Call.tick ∷ Call.tick ∷ Call.tick ∷ Call.tick ∷ []; is = refl }

pub none₂ : tally is_granted_reset events₂ ≡ 0
unfolding tally
none₂ = refl

abbrev pub second : Board reference
second = record { bytes = bytes; passes = passes; events = events₂; ran = ran₂; no_reset = none₂; stream = 0; known = known }

way_there : WayOnArrival first (second ∷ [])
unfolding delays-compute given_back slots_of dues tile
way_there = (
  record {
    in_step = record { slots = refl; frames = refl };
    share_kept = lit≤ tt;
    late = 0;
    together =
        both_tick (both_tick (both_tick (both_tick (both_tick
        (second_alone (requested 0x24000001 (accepted 0x24000002)) tt
        (λ well own. record {
          sent = lit< tt;
          departs = refl;
          comes_now = refl;
          number = refl;
          given_back = proved (given_back 0 (plan_of bytes) (lit< tt) 0 (ticked none ∷ [])) tt;
        })
        (first_alone (credited 0 2 (accepted tt)) tt (both_tick (first_alone (requested 0x24000000 (accepted 0x24000001)) tt start))))))));
    enough_cells = lit≤ tt;
    not_lent = refl;
  },
  tt,
)

shares-there : KeepsShares 0 0 (plan_of bytes) 0 events₁
unfolding delays-compute given_back keeps-shares
shares-there = proved (keeps-shares 0 0 (plan_of bytes) (lit< tt) 0 events₁) tt

pub each-is-asked : AllAsked first second
unfolding delays-compute slots_of asked
each-is-asked n there gone = there

-- the tile that is due in slot 0 of the first has come up on the second after 3 frames
pub arrives : Up 0 second
unfolding delays-compute slots_of dues tile
arrives = (all-arrive-on-arrival 0 first (second ∷ []) way_there (each-is-asked, tt) shares-there 0 (lit< tt)).1.0 (lit≤ tt)

-- ---- a second board that never asks

abbrev pub silent_events : History
silent_events = ticked none ∷ ticked none ∷ ticked none ∷ ticked none ∷ ticked none ∷ ticked none ∷ []

pub ran-silent : Ran reference (plan_of bytes) silent_events
unfolding delays-compute
ran-silent = record { calls = Call.tick ∷ Call.tick ∷ Call.tick ∷ Call.tick ∷ Call.tick ∷ Call.tick ∷ []; is = refl }

pub none-silent : tally is_granted_reset silent_events ≡ 0
unfolding tally
none-silent = refl

abbrev pub silent : Board reference
silent = record { bytes = bytes; passes = passes; events = silent_events; ran = ran-silent; no_reset = none-silent; stream = 0; known = known }

silent-way : WayOnArrival first (silent ∷ [])
unfolding delays-compute
silent-way = (
  record {
    in_step = record { slots = refl; frames = refl };
    share_kept = lit≤ tt;
    late = 0;
    together =
        both_tick (both_tick (both_tick (both_tick (both_tick
        (first_alone (credited 0 2 (accepted tt)) tt (both_tick (first_alone (requested 0x24000000 (accepted 0x24000001)) tt start)))))));
    enough_cells = lit≤ tt;
    not_lent = refl;
  },
  tt,
)

-- it is within every bound
pub silent-within : EachWithin 1 (plan_on first) (due_on first) (first ∷ silent ∷ [])
silent-within = (over-links-on-arrival 0 first (silent ∷ []) silent-way).from_due shares-there

-- and the tile of slot 1 was not asked for
pub silent-is-told : AllAsked first silent → ⊥
unfolding delays-compute slots_of tile asked
silent-is-told all = omega (arith, all 0 (lit< tt) (lit< tt))
