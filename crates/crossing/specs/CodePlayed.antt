-- A crossing that the code plays: what its contracts, and those of the calls of others, say of two states and of the tiles that wait. RULES 27.2 and
-- 27.6. Assumes nothing.
use Rattle.std.specs.Prelude.{ℕ, ◌≡◌, List, replicate}
use Rattle.model.specs.Fresh.{fresh}
use Rattle.plan.specs.Reading.{plan_for}
use Rattle.link.specs.Steps.{read_in}
use Rattle.crossings.specs.Crossing as crossings
use Rattle.crossings.specs.Playing.{Other, others, both_tick, tick_answer_of, begun}
use Rattle.crossing.specs.declared.Crossing.{Crossing}
use Rattle.crossing.specs.Reading.{onward_of, Comes}

-- The states a and b and the tiles `waiting` are in hand, and p has what was asked of both links so far, with the answers. Each case has what the
-- contracts ensure of what a step leaves.
pub data InHand (x : Crossing) : (p : crossings.Crossing) → (a b waiting : List ℕ) → Type 0 where
  -- both links are fresh, and no tile waits
  by_fresh : {a b : List ℕ} → read_in x.arriving a ≡ fresh (plan_for x.arriving) → read_in x.leaving b ≡ fresh (plan_for x.leaving)
      → InHand x (begun (plan_for x.arriving) (plan_for x.leaving) (onward_of x)) a b (replicate 16 0)
  -- calls of others on the two links, one after the other: another board's part of a slot may be among them
  by_others : {p : crossings.Crossing} {a b k a' b' : List ℕ} (calls : List Other) → InHand x p a b k
      → read_in x.arriving a' ≡ (others calls p).arriving.state → read_in x.leaving b' ≡ (others calls p).leaving.state
      → InHand x (others calls p) a' b' k
  -- a slot: both links tick, others call them, and then `serve`, with what the in-link's tick answered
  by_slot : {p : crossings.Crossing} {a b k a' b' a'' b'' k'' : List ℕ} (before : List Other) → InHand x p a b k
      → read_in x.arriving a' ≡ (others before (both_tick p)).arriving.state → read_in x.leaving b' ≡ (others before (both_tick p)).leaving.state
      → Comes x (crossings.served (tick_answer_of p)) a' b' k a'' b'' k''
      → InHand x (crossings.served (tick_answer_of p) (others before (both_tick p))) a'' b'' k''
  -- a slot of two links alone: `cross`
  by_cross : {p : crossings.Crossing} {a b k a' b' k' : List ℕ} → InHand x p a b k
      → Comes x (λ q. crossings.served (tick_answer_of q) (both_tick q)) a b k a' b' k' → InHand x (crossings.served (tick_answer_of p) (both_tick p)) a' b' k'
