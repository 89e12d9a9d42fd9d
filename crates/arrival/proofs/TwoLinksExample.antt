-- Two boards in step on which all that is asked of a stream's way holds, and the latest slot that `over-links` allows is granted. Assumes nothing.
use Prim.Native.Nat.{ℕ, ◌+◌, ◌*◌, ◌<◌}
use mathlib.Core.Path.{◌≡◌, refl}
use mathlib.Core.List.{List, ◌∷◌, []}
use native.Mathlib.Omega.{arith}
use lib.Dec.{lit<, lit≤}
use Rattle.model.specs.Tables.{tally}
use Rattle.model.specs.Plan.{flow_count, plan_of, refusal}
use Rattle.model.specs.Calls.{Call, History, requested, accepted}
use Rattle.model.specs.History.{is_granted_reset}
use Rattle.model.specs.Scheduler.{reference}
use Rattle.model.specs.PlanBytes.{plan2}
use Rattle.arrival.specs.Delay.{TimelyInOrder, Modest}
use Rattle.arrival.specs.SeveralLinks.{slots_of, dues, tile, start, first_alone, second_alone, Ran, Board, plan_on, sent_on, due_on, Way, EachWithin}
use Rattle.model.proofs.Decidable.{proved}
use Rattle.model.proofs.OtherPremises.{both}
use Rattle.arrival.proofs.DelayDecided.{ordered, room-from, timely, modest, delays-compute}
use Rattle.arrival.proofs.SeveralLinks.{over-links}

-- F = 2, W = 3, two flows with share 1 and 4 cells, of which flow 0 is the stream
abbrev pub bytes : List ℕ
bytes = plan2 2 3 8 1 4 1 4

pub passes : refusal bytes ≡ 0
unfolding delays-compute
passes = refl

pub known : 0 < flow_count (plan_of bytes)
known = lit< tt

-- ---- the first board: flow 1 takes slots 1 and 2, and the stream's tile, which has come, is granted slot 3

abbrev pub events₁ : History
events₁ = requested 0x24000000 (accepted 0x24000003) ∷ requested 0x24100400 (accepted 0x24100402) ∷ requested 0x24100000 (accepted 0x24100001) ∷ []

pub ran₁ : Ran reference (plan_of bytes) events₁
unfolding delays-compute
ran₁ = record { calls = Call.request 0x24100000 ∷ Call.request 0x24100400 ∷ Call.request 0x24000000 ∷ []; is = refl }

pub none₁ : tally is_granted_reset events₁ ≡ 0
unfolding tally
none₁ = refl

abbrev pub first : Board reference
first = record { bytes = bytes; passes = passes; events = events₁; ran = ran₁; no_reset = none₁; stream = 0; known = known }

-- ---- the second: flow 1 takes slots 1, 2 and 4, and the tile, which departs in slot 3, is granted slot 5

abbrev pub before : History
before = requested 0x24100800 (accepted 0x24100804) ∷ requested 0x24100400 (accepted 0x24100402) ∷ requested 0x24100000 (accepted 0x24100001) ∷ []

abbrev pub events₂ : History
events₂ = requested 0x24000003 (accepted 0x24000005) ∷ before

pub ran₂ : Ran reference (plan_of bytes) events₂
unfolding delays-compute
ran₂ = record { calls = Call.request 0x24100000 ∷ Call.request 0x24100400 ∷ Call.request 0x24100800 ∷ Call.request 0x24000003 ∷ []; is = refl }

pub none₂ : tally is_granted_reset events₂ ≡ 0
unfolding tally
none₂ = refl

abbrev pub second : Board reference
second = record { bytes = bytes; passes = passes; events = events₂; ran = ran₂; no_reset = none₂; stream = 0; known = known }

-- ---- the premises

pub way_there : Way first (second ∷ [])
unfolding delays-compute slots_of dues tile
way_there = (
  record {
    in_step = record { slots = refl; frames = refl };
    share_kept = lit≤ tt;
    together =
        second_alone (requested 0x24000003 (accepted 0x24000005)) tt
        (λ well own. record {
          for_next = record { sent = lit< tt; departs = refl; not_late = lit≤ tt };
          in_time = lit< tt;
          room = proved (room-from (plan_of bytes) 0 4 before) tt;
          number = refl;
        })
        (second_alone (requested 0x24100800 (accepted 0x24100804)) tt (λ well own. absurd (omega (arith, own)))
        (second_alone (requested 0x24100400 (accepted 0x24100402)) tt (λ well own. absurd (omega (arith, own)))
        (second_alone (requested 0x24100000 (accepted 0x24100001)) tt (λ well own. absurd (omega (arith, own)))
        (first_alone (requested 0x24000000 (accepted 0x24000003)) tt
        (first_alone (requested 0x24100400 (accepted 0x24100402)) tt
        (first_alone (requested 0x24100000 (accepted 0x24100001)) tt start))))));
  },
  tt,
)

pub modest-there : Modest TimelyInOrder 0 (plan_of bytes) 0 events₁
unfolding delays-compute
modest-there =
    let m = proved (modest (both timely ordered) 0 (plan_of bytes) 0 events₁) tt in
    record {
      asks = (
        λ well own. let x = m.asks.0 well own in record { timely = x.0; in_order = x.1 },
        (λ well own. absurd (omega (arith, own)), (λ well own. absurd (omega (arith, own)), tt)),
      );
      within_share = m.within_share;
    }

-- ---- what follows, and that the bound is attained

pub both-within : EachWithin 1 (plan_on first) (due_on first) (first ∷ second ∷ [])
both-within = (over-links first (second ∷ []) way_there).from_due modest-there

-- the tile is due in slot 0 on the first board, and comes up on the second in slot 5: the last that comes fewer than 3 × F slots later
pub due-there : tile 0 (due_on first) ≡ 0
unfolding delays-compute slots_of dues tile
due-there = refl

pub attained : tile 0 (sent_on second) + 1 ≡ tile 0 (due_on first) + 3 * (plan_on second).slots
unfolding delays-compute slots_of dues tile
attained = refl
