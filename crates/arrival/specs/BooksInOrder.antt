-- A flow that books its slots in the order of its requests: each grant comes after those before it. It names no link, only calls and answers. Assumes
-- nothing.
--
-- It does so if it has room at each request, and its tiles are due in order. A flow that is ready at each request is one of these: its tiles have come, and
-- are due when it asks (`ready-in-order`). All is counted since the last granted reset.
use Rattle.std.specs.Prelude.{ℕ, ◌<◌, ◌≡◌, List, ◌&&◌, ltb}
use Rattle.model.specs.Tables.{tally}
use Rattle.model.specs.Word.{flow_of, departure_of}
use Rattle.model.specs.Plan.{Plan, flow_count, plan_of, refusal}
use Rattle.model.specs.Calls.{Call, Event, History}
use Rattle.model.specs.History.{ticks, slot_after, grants_since, of_flow, at_slot}
use Rattle.model.specs.Claim.{EachSince, AtGrant, Room, ReadyAt}
use Rattle.model.specs.Scheduler.{Scheduler, run}
use Rattle.arrival.specs.Delay.{due_slot, due_since, AsksAt}

-- Flow i was granted slot s.
abbrev pub GrantedSince : Plan → History → (i s : ℕ) → Type 0
GrantedSince P h i s = 0 < tally (λ m. of_flow i m && at_slot s m) (grants_since P h)

-- No grant of flow i is for a tile that is due after slot d.
abbrev pub NoneDueAfter : Plan → History → (i d : ℕ) → Type 0
NoneDueAfter P h i d = tally (λ m. of_flow i m && ltb d m.slot) (due_since P h) ≡ 0

-- RULES 24.6: what is asked of flow i's request with word w after h
pub record InTurn (P : Plan) (i w : ℕ) (h : History) : Type 0 where
  pub room : Room P i h
  pub none_due_after : NoneDueAfter P h i (due_slot P w h)

-- where the event is a grant to flow i: it comes after those before it
abbrev pub AfterThoseAt : Plan → ℕ → Event → History → Type 0
AfterThoseAt P i = AtGrant (λ w v h. flow_of w ≡ i → (s : ℕ) → GrantedSince P h i s → s < slot_after P (ticks h) (departure_of v))

abbrev pub InOrder : Plan → ℕ → History → Type 0
InOrder P i = EachSince (AfterThoseAt P i)

abbrev pub BooksInOrderOn : Scheduler → Plan → Type 0
BooksInOrderOn c P =
    (calls : List Call) (i : ℕ) → i < flow_count P → EachSince (AsksAt InTurn P i) (run c P calls).history → InOrder P i (run c P calls).history

-- for the bytes of every accepted plan. That the reference scheduler keeps it is `books-in-order`, in proofs/BooksInOrder.antt.
abbrev pub BooksInOrder : Scheduler → Type 0
BooksInOrder c = (bytes : List ℕ) → refusal bytes ≡ 0 → BooksInOrderOn c (plan_of bytes)

-- A flow that is ready at each request is in turn at each. That it is so on the reference scheduler is `ready-in-order`, in proofs/BooksInOrder.antt.
abbrev pub ReadyInOrder : Scheduler → Type 0
ReadyInOrder c =
    (bytes : List ℕ) → refusal bytes ≡ 0 → (calls : List Call) (i : ℕ) → i < flow_count (plan_of bytes)
    → EachSince (ReadyAt (plan_of bytes) i) (run c (plan_of bytes) calls).history
    → EachSince (AsksAt InTurn (plan_of bytes) i) (run c (plan_of bytes) calls).history
