-- Two crossings of a board with one in-link, or with one out-link: to each the part of the other is calls of others. Assumes nothing.
use Prim.Native.Nat.{ℕ, zero, suc, ◌<◌}
use mathlib.Core.Path.{◌≡◌, refl, sym, ap, ◌∙◌, subst}
use mathlib.Core.List.{List, ◌∷◌, [], ◌++◌}
use mathlib.Core.Option.{Option, some, none}
use mathlib.Core.Bool.{Bool, true, false, not, cond}
use lib.Dec.{eqb}
use lib.ListN.{get_or, length}
use borrow.Author.Tests.{ne_eqb}
use Rattle.model.specs.Word.{flow_of, departure_of}
use Rattle.model.specs.Plan.{Plan, flow_count, plan_of, Accepted}
use Rattle.model.specs.Calls.{Call, Grant, TickAnswer, accepted, refused}
use Rattle.model.specs.Scheduler.{Played, reference, step}
use Rattle.model.proofs.Tests.{any-of-none}
use Rattle.model.proofs.Plan.{accepted as accepted_plan}
use Rattle.crossings.specs.Crossing.{Crossing, crossing_with, goes_on_as, waits, with_waiting, asking, answer_for, asked_for, leaves, on_grant, pass_on, pass_as}
use Rattle.crossings.specs.Crossing.{pass_flow, pass_waiting, queued, comes, served}
use Rattle.crossings.specs.Playing.{on_arriving, on_leaving, is_flow, is_none, goes_onto, another, others}
use Rattle.crossings.proofs.OneLink.{Reached, reached-more, known}
use Rattle.crossings.proofs.Kept.{asks-so}
use Rattle.showcrossings.specs.Beside.{ToArriving, ToLeaving, BesideArriving, BesideLeaving}
use Rattle.showcrossings.proofs.PlayedAs.{others-then}

-- ---- a part is made of requests, and of credits of flows that go on

module _ (t : List (Option ℕ)) {Keeps : Crossing → Type 0} (asked : (i j : ℕ) → get_or t i none ≡ some j → (x : Crossing) → Keeps x → Keeps (asked_for j x))
    (left : (i j p : ℕ) → get_or t i none ≡ some j → (x : Crossing) → Keeps x → Keeps (leaves i p x))
    (counted : (i k : ℕ) (x : Crossing) → Keeps x → Keeps (with_waiting x i k)) where
  record On (x : Crossing) : Type 0 where
    onward_is : x.onward ≡ t
    keeps : Keeps x

  pass_on_lem : (k i j : ℕ) → get_or t i none ≡ some j → (x : Crossing) → On x → On (pass_on k i j x)
  unfolding pass_on
  pass_on_lem zero i j e x z = z
  pass_on_lem (suc k) i j e x z = go (answer_for j x) (λ y. pass_on_lem k i j e y)
    where
      there : On (asked_for j x)
      there = record { onward_is = z.onward_is; keeps = asked i j e x z.keeps }

      go : (a : Grant) → ((y : Crossing) → On y → On (pass_on k i j y)) → On (on_grant i a (pass_on k i j) (asked_for j x))
      go (accepted v) rest =
          rest _ (record { onward_is = there.onward_is; keeps = left i j (departure_of v) e (asked_for j x) there.keeps })
      go (refused r) rest = there

  pass-flow : (i : ℕ) (x : Crossing) → On x → On (pass_flow i x)
  pass-flow i x z = subst (λ o. On (pass_as (get_or o i none) (waits x i) i x)) (sym z.onward_is) (go (get_or t i none) refl)
    where
      go : (o : Option ℕ) → get_or t i none ≡ o → On (pass_as o (waits x i) i x)
      go none e = z
      go (some j) e = pass_on_lem (waits x i) i j e x z

  pass-waiting : (n : ℕ) (x : Crossing) → On x → On (pass_waiting n x)
  unfolding pass_waiting
  pass-waiting zero x z = z
  pass-waiting (suc i) x z = pass-flow i (pass_waiting i x) (pass-waiting i x z)

  one-comes : (i : ℕ) (x : Crossing) → On x → On (comes (goes_on_as x i) i x)
  one-comes i x z = subst (λ o. On (comes (get_or o i none) i x)) (sym z.onward_is) (go (get_or t i none) refl)
    where
      more : On (queued i x)
      more = record { onward_is = z.onward_is; keeps = counted i _ x z.keeps }

      both : (j : ℕ) → get_or t i none ≡ some j → (b : Bool) → On (cond b (pass_on 1 i j (queued i x)) (queued i x))
      both j e true = pass_on_lem 1 i j e (queued i x) more
      both j e false = more

      go : (o : Option ℕ) → get_or t i none ≡ o → On (comes o i x)
      go none e = z
      go (some j) e = both j e (eqb (waits x i) 0)

  serve-on : (owner : TickAnswer) (x : Crossing) → On x → On (served owner x)
  unfolding served
  serve-on none x z = pass-waiting (flow_count x.arriving.state.plan) x z
  serve-on (some i) x z =
      let n = flow_count x.arriving.state.plan in
      one-comes i (pass_waiting n x) (pass-waiting n x z)

-- ---- the other crossing

credit-more : {y : Crossing} {link : Played reference} (i p : ℕ) → goes_on_as y i ≡ none → ToArriving y link → ToArriving y (step reference link (Call.credit i p))
unfolding others
credit-more {y} {link} i p free z = record {
  calls = z.calls ++ (on_arriving (Call.credit i p) ∷ []);
  come_to = others-then z.calls (on_arriving (Call.credit i p) ∷ []) y ∙ ap (another (on_arriving (Call.credit i p))) z.come_to
      ∙ ap (λ o. cond (is_none o) (crossing_with y (step reference link (Call.credit i p)) y.leaving y.waiting)
      (crossing_with y link y.leaving y.waiting)) free;
}

pub part-beside : BesideArriving
unfolding others
part-beside owner x y same apart =
    (serve-on x.onward {Keeps = λ z. ToArriving y z.arriving} (λ i j e z c. c) (λ i j p e z c. credit-more i p (apart i j e) c) (λ i k z c. c) owner x
    (record { onward_is = refl; keeps = record { calls = []; come_to = ap (λ link. crossing_with y link y.leaving y.waiting) same } })
    ).keeps

-- ---- one out-link

-- no flow of y goes on as flow j
not-onto : (y : Crossing) (j : ℕ) → ((k : ℕ) → goes_on_as y k ≡ some j → ⊥) → goes_onto y j ≡ false
not-onto y j apart = any-of-none (length y.onward) (λ k. is_flow j (goes_on_as y k)) (λ k below. one k (goes_on_as y k) refl)
  where
    one : (k : ℕ) (o : Option ℕ) → goes_on_as y k ≡ o → is_flow j o ≡ false
    one k none e = refl
    one k (some m) e = ne_eqb m j (λ same. apart k (e ∙ ap some same))

request-more : {y : Crossing} {link : Played reference} (w : ℕ) → goes_onto y (flow_of w) ≡ false → ToLeaving y link
    → ToLeaving y (step reference link (Call.request w))
unfolding others
request-more {y} {link} w free z = record {
  calls = z.calls ++ (on_leaving (Call.request w) ∷ []);
  come_to = others-then z.calls (on_leaving (Call.request w) ∷ []) y ∙ ap (another (on_leaving (Call.request w))) z.come_to
      ∙ ap (λ b. cond (not b) (crossing_with y y.arriving (step reference link (Call.request w)) y.waiting)
      (crossing_with y y.arriving link y.waiting)) free;
}

record Leaves (Q : Plan) (y z : Crossing) : Type 0 where
  reached : Reached Q z.leaving
  to_leaving : ToLeaving y z.leaving

module _ {Q : Plan} (good : Accepted Q) (y : Crossing) where
  asked-there : (i j : ℕ) → j < flow_count Q → ((k : ℕ) → goes_on_as y k ≡ some j → ⊥) → (z : Crossing) → Leaves Q y z → Leaves Q y (asked_for j z)
  asked-there i j below apart z c =
      let w = asking z.leaving.state j in
      let own = (asks-so j (known good c.reached) good below).flow in
      record {
        reached = reached-more (Call.request w) c.reached;
        to_leaving = request-more w (ap (goes_onto y) own ∙ not-onto y j apart) c.to_leaving;
      }

pub part-beside-out : BesideLeaving
unfolding others
part-beside-out bytes passes calls owner x y is same below apart =
    let good = accepted_plan bytes passes in
    (serve-on x.onward {Keeps = Leaves (plan_of bytes) y} (λ i j e z c. asked-there good y i j (below i j e) (λ k. apart i k j e) z c)
    (λ i j p e z c. record { reached = c.reached; to_leaving = c.to_leaving }) (λ i k z c. record { reached = c.reached; to_leaving = c.to_leaving }) owner x
    (record {
      onward_is = refl;
      keeps = record {
        reached = record { calls = calls; played = is };
        to_leaving = record { calls = []; come_to = ap (λ link. crossing_with y y.arriving link y.waiting) same };
      };
    })
    ).keeps.to_leaving
