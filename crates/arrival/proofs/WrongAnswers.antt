-- Schedulers that refuse a lend or a reset that should be answered, or grant a reset over what is booked, are sent back. Assumes nothing.
use mathlib.Core.Path.{refl}
use mathlib.Core.List.{◌∷◌, []}
use native.Mathlib.Omega.{arith}
use lib.Dec.{lit<}
use Rattle.model.specs.Plan.{plan_of}
use Rattle.model.specs.Calls.{Call, History}
use Rattle.model.specs.Scheduler.{Scheduler, run, reference}
use Rattle.model.specs.PlanBytes.{listing}
use Rattle.arrival.specs.AnsweredLends.{Lendable, LendAnswered, ResetGranted}
use Rattle.arrival.specs.WrongAnswers.{lends_at_rest, refuses_resets, grants_resets}
use Rattle.model.proofs.Decidable.{proved}
use Rattle.model.proofs.ClaimDecided.{has_room}
use Rattle.arrival.proofs.DelayDecided.{delays-compute}

-- ---- the listing's plan: flow 0 is granted slot 1, and holds one of its two cells there

abbrev before : Scheduler → History
before c = (run c (plan_of listing) (Call.request 0x24000000 ∷ [])).history

-- slot 0 can be lent to it
pub can-be-lent : Lendable (plan_of listing) 1 (before reference)
unfolding delays-compute has_room
can-be-lent = record {
  mask_below = lit< tt;
  idle = refl;
  taker = 0;
  known = lit< tt;
  waits = record { in_mask = refl; can_take = proved (has_room (plan_of listing) 0 (before reference)) tt };
}

pub lends-at-rest : LendAnswered lends_at_rest → ⊥
unfolding delays-compute has_room
lends-at-rest answered =
    (answered listing refl (Call.request 0x24000000 ∷ Call.lend 1 ∷ [])).0.1 (record {
      mask_below = lit< tt;
      idle = refl;
      taker = 0;
      known = lit< tt;
      waits = record { in_mask = refl; can_take = proved (has_room (plan_of listing) 0 (before lends_at_rest)) tt };
    })

-- ---- a reset on a fresh link, and one while slot 1 is to come

pub refuses-resets : ResetGranted refuses_resets → ⊥
unfolding delays-compute
refuses-resets granted =
    (granted listing refl (Call.reset ∷ [])).0.1 (record { none_booked = λ s lt. refl; none-held = λ i known s le. omega arith })

pub grants-resets : ResetGranted grants_resets → ⊥
unfolding delays-compute
grants-resets granted = let x = (granted listing refl (Call.request 0x24000000 ∷ Call.reset ∷ [])).0.0 tt in omega (arith, x.none_booked 1 (omega arith))
