-- A board's part of a slot is calls of others to the board before it and to the one after it: so a link may lie between two. RULES 27.6. Assumes
-- nothing.
use Prim.Native.Nat.{ℕ, zero, suc}
use mathlib.Core.Path.{◌≡◌, refl, ap, ◌∙◌}
use mathlib.Core.List.{List, ◌∷◌, [], ◌++◌}
use mathlib.Core.Option.{Option, some, none}
use mathlib.Core.Bool.{Bool, true, false, cond}
use lib.Dec.{eqb}
use Rattle.model.specs.Word.{departure_of}
use Rattle.model.specs.Plan.{flow_count}
use Rattle.model.specs.Calls.{Call, Grant, TickAnswer, accepted, refused}
use Rattle.model.specs.Scheduler.{Played, reference, step}
use Rattle.crossings.specs.Crossing.{Crossing, crossing_with, goes_on_as, waits, with_waiting, asking, answer_for, asked_for, leaves, on_grant}
use Rattle.crossings.specs.Crossing.{pass_on, pass_as, pass_waiting, queued, comes, served}
use Rattle.crossings.specs.Playing.{Other, on_arriving, on_leaving, another, others}

-- ---- what a request on the out-link, a credit on the in-link and a count of tiles keep, a board's part keeps

module _ {Keeps : Crossing → Type 0} (asked : (j : ℕ) (x : Crossing) → Keeps x → Keeps (asked_for j x))
    (left : (i p : ℕ) (x : Crossing) → Keeps x → Keeps (leaves i p x))
    (counted : (i k : ℕ) (x : Crossing) → Keeps x → Keeps (with_waiting x i k)) where
  grant-keeps : (i : ℕ) (a : Grant) {rest : Crossing → Crossing} → ((x : Crossing) → Keeps x → Keeps (rest x)) → (x : Crossing) → Keeps x
      → Keeps (on_grant i a rest x)
  grant-keeps i (accepted v) rest-keeps x z = rest-keeps (leaves i (departure_of v) x) (left i (departure_of v) x z)
  grant-keeps i (refused r) rest-keeps x z = z

  pass-on-keeps : (k i j : ℕ) (x : Crossing) → Keeps x → Keeps (pass_on k i j x)
  unfolding pass_on
  pass-on-keeps zero i j x z = z
  pass-on-keeps (suc k) i j x z = grant-keeps i (answer_for j x) (pass-on-keeps k i j) (asked_for j x) (asked j x z)

  pass-as-keeps : (o : Option ℕ) (k i : ℕ) (x : Crossing) → Keeps x → Keeps (pass_as o k i x)
  pass-as-keeps none k i x z = z
  pass-as-keeps (some j) k i x z = pass-on-keeps k i j x z

  pass-waiting-keeps : (n : ℕ) (x : Crossing) → Keeps x → Keeps (pass_waiting n x)
  unfolding pass_waiting
  pass-waiting-keeps zero x z = z
  pass-waiting-keeps (suc i) x z =
      let y = pass_waiting i x in
      pass-as-keeps (goes_on_as y i) (waits y i) i y (pass-waiting-keeps i x z)

  comes-keeps : (o : Option ℕ) (i : ℕ) (x : Crossing) → Keeps x → Keeps (comes o i x)
  comes-keeps none i x z = z
  comes-keeps (some j) i x z = go (eqb (waits x i) 0)
    where
      one_more : Keeps (queued i x)
      one_more = counted i _ x z

      go : (b : Bool) → Keeps (cond b (pass_on 1 i j (queued i x)) (queued i x))
      go true = pass-on-keeps 1 i j (queued i x) one_more
      go false = one_more

  pub served-keeps : (owner : TickAnswer) (x : Crossing) → Keeps x → Keeps (served owner x)
  unfolding served
  served-keeps none x z = pass-waiting-keeps (flow_count x.arriving.state.plan) x z
  served-keeps (some i) x z =
      let y = pass_waiting (flow_count x.arriving.state.plan) x in
      comes-keeps (goes_on_as y i) i y (pass-waiting-keeps (flow_count x.arriving.state.plan) x z)

-- ---- one call more

others-then : (os : List Other) (o : Other) (y : Crossing) → others (os ++ (o ∷ [])) y ≡ another o (others os y)
unfolding others
others-then [] o y = refl
others-then (first ∷ os) o y = others-then os o (another first y)

-- calls of others after which crossing y has this in-link, and is as it was but for it; and this out-link
pub record CallsArriving (y : Crossing) (link : Played reference) : Type 0 where
  pub calls : List Other
  pub come_to : others calls y ≡ crossing_with y link y.leaving y.waiting

pub record CallsLeaving (y : Crossing) (link : Played reference) : Type 0 where
  pub calls : List Other
  pub come_to : others calls y ≡ crossing_with y y.arriving link y.waiting

request-more : {y : Crossing} {link : Played reference} (w : ℕ) → CallsArriving y link → CallsArriving y (step reference link (Call.request w))
request-more {y} w z = record {
  calls = z.calls ++ (on_arriving (Call.request w) ∷ []);
  come_to = others-then z.calls (on_arriving (Call.request w)) y ∙ ap (another (on_arriving (Call.request w))) z.come_to;
}

credit-more : {y : Crossing} {link : Played reference} (i p : ℕ) → CallsLeaving y link → CallsLeaving y (step reference link (Call.credit i p))
credit-more {y} i p z = record {
  calls = z.calls ++ (on_leaving (Call.credit i p) ∷ []);
  come_to = others-then z.calls (on_leaving (Call.credit i p)) y ∙ ap (another (on_leaving (Call.credit i p))) z.come_to;
}

-- ---- a board's part, to the one after it, whose in-link is its out-link; and to the one before it

pub part-before : (owner : TickAnswer) (x y : Crossing) → y.arriving ≡ x.leaving → CallsArriving y (served owner x).leaving
unfolding others
part-before owner x y same =
    served-keeps {Keeps = λ z. CallsArriving y z.leaving} (λ j z. request-more (asking z.leaving.state j)) (λ i p z c. c) (λ i k z c. c) owner x
    (record { calls = []; come_to = ap (λ link. crossing_with y link y.leaving y.waiting) same })

pub part-after : (owner : TickAnswer) (x y : Crossing) → y.leaving ≡ x.arriving → CallsLeaving y (served owner x).arriving
unfolding others
part-after owner x y same =
    served-keeps {Keeps = λ z. CallsLeaving y z.arriving} (λ j z c. c) (λ i p z. credit-more i p) (λ i k z c. c) owner x
    (record { calls = []; come_to = ap (λ link. crossing_with y y.arriving link y.waiting) same })
