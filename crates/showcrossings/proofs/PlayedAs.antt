-- A crossing that our board plays, with calls and slots more. Assumes nothing.
use Prim.Native.Nat.{ℕ}
use mathlib.Core.Path.{◌≡◌, refl, ap, ◌∙◌}
use mathlib.Core.List.{List, ◌∷◌, [], ◌++◌}
use mathlib.Core.Option.{Option}
use Rattle.model.specs.Plan.{Plan}
use Rattle.crossings.specs.Crossing.{Crossing, served}
use Rattle.crossings.specs.Playing.{Other, another, others, Slot, both_tick, tick_answer_of, in_slot, in_slots, begun, played}

-- ---- calls and slots more

pub others-then : (os more : List Other) (y : Crossing) → others (os ++ more) y ≡ others more (others os y)
unfolding others
others-then [] more y = refl
others-then (o ∷ os) more y = others-then os more (another o y)

-- after the last slot
abbrev after_last : (s : Slot) → List Slot → (calls : List Other) → List Slot
after_last s [] calls = record { before = s.before; after = s.after ++ calls } ∷ []
after_last s (t ∷ ss) calls = s ∷ after_last t ss calls

after_last_lem : (s : Slot) (ss : List Slot) (calls : List Other) (y : Crossing)
    → in_slots served (after_last s ss calls) y ≡ others calls (in_slots served (s ∷ ss) y)
unfolding in_slots
after_last_lem s [] calls y = others-then s.after calls (served (tick_answer_of y) (others s.before (both_tick y)))
after_last_lem s (t ∷ ss) calls y = after_last_lem t ss calls (in_slot served s y)

slot-then : (ss : List Slot) (s : Slot) (y : Crossing) → in_slots served (ss ++ (s ∷ [])) y ≡ in_slot served s (in_slots served ss y)
unfolding in_slots
slot-then [] s y = refl
slot-then (t ∷ ss) s y = slot-then ss s (in_slot served t y)

-- ---- our board plays a crossing

-- by some calls in slot 0, and slots
pub record PlayedAs (P Q : Plan) (onward : List (Option ℕ)) (p : Crossing) : Type 0 where
  pub begin : List Other
  pub slots : List Slot
  pub is : played served P Q onward begin slots ≡ p

module _ {P Q : Plan} {onward : List (Option ℕ)} {p : Crossing} (x : PlayedAs P Q onward p) where
  pub calls-more : (calls : List Other) → PlayedAs P Q onward (others calls p)
  unfolding in_slots
  calls-more calls = go x.slots x.is
    where
      go : (slots : List Slot) → played served P Q onward x.begin slots ≡ p → PlayedAs P Q onward (others calls p)
      go [] is = record { begin = x.begin ++ calls; slots = []; is = others-then x.begin calls (begun P Q onward) ∙ ap (others calls) is }
      go (s ∷ ss) is = record {
        begin = x.begin;
        slots = after_last s ss calls;
        is = after_last_lem s ss calls (others x.begin (begun P Q onward)) ∙ ap (others calls) is;
      }

  pub slot-more : (s : Slot) → PlayedAs P Q onward (in_slot served s p)
  slot-more s = record {
    begin = x.begin;
    slots = x.slots ++ (s ∷ []);
    is = slot-then x.slots s (others x.begin (begun P Q onward)) ∙ ap (in_slot served s) x.is;
  }
