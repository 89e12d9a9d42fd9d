-- Every tile of a show arrives, where the code plays the crossings: what it plays are slots of our board. Assumes nothing.
use Prim.Native.Nat.{ℕ}
use mathlib.Core.Path.{◌≡◌, refl, sym, ap, ◌∙◌, subst}
use mathlib.Core.List.{List, ◌∷◌, []}
use lib.ListN.{get_or}
use Rattle.model.specs.Scheduler.{reference}
use Rattle.arrival.specs.SeveralLinks.{Board, plan_on}
use Rattle.plan.specs.Reading.{plan_for}
use Rattle.crossings.specs.Crossing as crossings
use Rattle.crossings.specs.Crossing.{served, waits}
use Rattle.crossings.specs.Playing.{others, in_slots}
use Rattle.crossing.specs.declared.Crossing.{Crossing}
use Rattle.crossing.specs.Reading.{onward_of}
use Rattle.crossing.specs.CodePlayed.{InHand}
use Rattle.crossing.proofs.CodeCrosses.{in-hand-reads}
use Rattle.showcrossings.specs.Ways.{Crossed, crossing_of, CrossedAlong, NoneWaits}
use Rattle.showcrossings.specs.OfCode.{CodeCrossed, CodeCrossedAlong, NoneWaiting, CodeDomeArrives}
use Rattle.showcrossings.proofs.PlayedAs.{PlayedAs, calls-more, slot-more}
use Rattle.showcrossings.proofs.Dome.{dome-arrives}

-- ---- a crossing in hand is one that our board plays

played-in-hand : {x : Crossing} {p : crossings.Crossing} {a b k : List ℕ} → InHand x p a b k
    → PlayedAs (plan_for x.arriving) (plan_for x.leaving) (onward_of x) p
unfolding others in_slots
played-in-hand (InHand.by_fresh first second) = record { begin = []; slots = []; is = refl }
played-in-hand (InHand.by_others calls h first second) = calls-more (played-in-hand h) calls
played-in-hand (InHand.by_slot before h first second comes) = slot-more (played-in-hand h) (record { before = before; after = [] })
played-in-hand (InHand.by_cross h comes) = slot-more (played-in-hand h) (record { before = []; after = [] })

-- ---- so of two links of a stream's way

module _ {a b : Board reference} (x : CodeCrossed a b) where
  as-played : PlayedAs (plan_on a) (plan_on b) (onward_of x.crossing) x.so_far
  as-played =
      subst (λ P. PlayedAs P (plan_on b) (onward_of x.crossing) x.so_far) x.plan₁
      (subst (λ Q. PlayedAs (plan_for x.crossing.arriving) Q (onward_of x.crossing) x.so_far) x.plan₂ (played-in-hand x.in_hand))

  abbrev as-crossed : Crossed served a b
  as-crossed = record {
    onward = onward_of x.crossing;
    goes_on = x.goes_on;
    stream_goes_on = x.stream_goes_on;
    begin = as-played.begin;
    slots = as-played.slots;
    arriving_is = ap (λ (p : crossings.Crossing). p.arriving.history) as-played.is ∙ x.arriving_is;
    leaving_is = ap (λ (p : crossings.Crossing). p.leaving.history) as-played.is ∙ x.leaving_is;
    not_lent = x.not_lent;
  }

  as-waiting : waits (crossing_of as-crossed) a.stream ≡ 0 → get_or x.waiting a.stream 0 ≡ 0
  as-waiting none =
      ap (λ ks. get_or ks a.stream 0) (sym (in-hand-reads x.in_hand).waiting_is)
      ∙ ap (λ (p : crossings.Crossing). waits p a.stream) (sym as-played.is) ∙ none

abbrev crossed-along : (a : Board reference) (rest : List (Board reference)) → CodeCrossedAlong a rest → CrossedAlong served a rest
crossed-along a [] x = tt
crossed-along a (b ∷ rest) x = (as-crossed x.0, crossed-along b rest x.1)

none-along : (a : Board reference) (rest : List (Board reference)) (x : CodeCrossedAlong a rest) → NoneWaits served a rest (crossed-along a rest x)
    → NoneWaiting a rest x
none-along a [] x none = tt
none-along a (b ∷ rest) x none = (as-waiting x.0 none.0, none-along b rest x.1 none.1)

pub code-dome-arrives : CodeDomeArrives
code-dome-arrives show none i below late enough a rest on modest ends x =
    let arrives = dome-arrives show none i below late enough a rest on modest ends (crossed-along a rest x) in
    record { none_waiting = none-along a rest x arrives.none_waits; in_time = arrives.in_time; all_in_time = arrives.all_in_time }
