-- A request, a credit and a tick leave the flow to lend from. Assumes nothing.
use Prim.Native.Nat.{ℕ, zero, suc, ◌%◌}
use mathlib.Core.Path.{◌≡◌, refl}
use mathlib.Core.Bool.{Bool, true, false, cond}
use lib.Dec.{eqb}
use Rattle.model.specs.Refusals.{first_of}
use Rattle.model.specs.Word.{flow_of, departure_of}
use Rattle.model.specs.Link.{Link, flow}
use Rattle.model.specs.Request.{Found, found, nowhere, request_tests, sought, booked, refused_at_newest, answered, request_after, request}
use Rattle.model.specs.Credit.{credit_tests, lowered, credit_after, credit}
use Rattle.model.specs.Tick.{next_position, recycled, advanced, tick}

pub request-leaves : (l : Link) (w : ℕ) → (request l w).link.turn ≡ l.turn
unfolding request request_after answered booked refused_at_newest
request-leaves l w = go (first_of (request_tests l.plan (flow l (flow_of w)).number w))
  where
    at-found : (f : Found) → (answered l w f).link.turn ≡ l.turn
    at-found (found j c p) = refl
    at-found (nowhere c) = refl

    go : (r : ℕ) → (request_after r l w).link.turn ≡ l.turn
    go zero = at-found (sought l (flow_of w) (departure_of w))
    go (suc r) = refl

pub credit-leaves : (l : Link) (i p : ℕ) → (credit l i p).link.turn ≡ l.turn
unfolding credit credit_after lowered
credit-leaves l i p = go (first_of (credit_tests l i p))
  where
    go : (r : ℕ) → (credit_after r l i p).link.turn ≡ l.turn
    go zero = refl
    go (suc r) = refl

pub tick-leaves : (l : Link) → (tick l).link.turn ≡ l.turn
unfolding tick advanced recycled
tick-leaves l = go (eqb (next_position l % l.plan.slots) 0)
  where
    go : (b : Bool) → (cond b (recycled l) l).turn ≡ l.turn
    go true = refl
    go false = refl
