-- The reference scheduler over several links on which each board credits the one before it at its own grant. Assumes nothing.
use Prim.Native.Nat.{ℕ, ◌+◌, ◌-◌, ◌*◌, ◌/◌, ◌≤◌, ◌<◌}
use mathlib.Core.Path.{◌≡◌, refl, sym, ap, subst}
use mathlib.Core.List.{List, [], ◌∷◌}
use mathlib.Core.Bool.{Bool, true, false, ◌&&◌}
use native.Mathlib.Omega.{arith}
use lib.Dec.{eqb}
use borrow.Author.Tests.{le-leb, ltb-true, eqb-true, ne_eqb}
use Rattle.model.specs.Tables.{bit, tally}
use Rattle.model.specs.Word.{flow_of, departure_of}
use Rattle.model.specs.Plan.{Plan, entry, Accepted}
use Rattle.model.specs.Calls.{Event, History, requested, credited, ticked, lent, accepted, refused}
use Rattle.model.specs.History.{ticks, slot_after, frame_of, well_formed, grant_at, grants, of_flow, at_slot}
use Rattle.model.specs.Claim.{Each, AtRequest}
use Rattle.model.specs.Scheduler.{reference}
use Rattle.model.specs.TwoHops.{InStep}
use Rattle.arrival.specs.Delay.{TimelyInOrder, Modest, GrantedSoonAt}
use Rattle.arrival.specs.SeveralLinks.{AskedAt, Together, start, both_tick, first_alone, second_alone, Board, plan_on, Way}
use Rattle.arrival.specs.EnoughCells.{last_of, Return, return_at, returns, in_slot, CreditsEachTile}
use Rattle.arrival.specs.SharesOfCells.{GivenBack, AsksWithinShare, KeepsShares, EachGrantedNow}
use Rattle.arrival.specs.LinksOnArrival.{AsksOnArrival, JoinedOnArrival, WayOnArrival}
use Rattle.arrival.specs.CreditedByNext.{Pass, passes, granted_then, CreditedByNext, JoinedByCredits, WayByCredits, AsksModestly, ModestFirst}
use Rattle.arrival.specs.CreditedByNext.{OverLinksByCredits, FromSourceByCredits, GrantedByCredits}
use Rattle.model.proofs.Tests.{and-true, and-false}
use Rattle.model.proofs.Tallies.{All, tally-append, tally-le}
use Rattle.model.proofs.Demand3.{each_map}
use Rattle.arrival.proofs.SeveralLinks.{ok, over-links}
use Rattle.arrival.proofs.CreditsInTime.{given-back-by, each-tile-by, granted-slot-dates}
use Rattle.arrival.proofs.SharesOfCells.{shares-of-cells}
use Rattle.arrival.proofs.LinksOnArrival.{way-with-room, modest-first, granted_first, soon-on-next}
use Rattle.arrival.proofs.FromSource.{in_time}

-- ---- what holds of credits over a list of calls holds of each beginning

module _ (P : Plan) (i t : ℕ) where
  -- a credit that is made now was not made in a slot that is gone
  none_made : (e : Event) (h : History) → t < ticks h → tally (in_slot P i t) (return_at P e h) ≡ 0
  unfolding tally
  none_made (requested w a) h lt = refl
  none_made (credited k p (accepted u)) h lt = rw (ne_eqb (ticks h) t (λ e. omega arith), and-false (eqb k i))
  none_made (credited k p (refused r)) h lt = refl
  none_made (ticked x) h lt = refl
  none_made (lent m a) h lt = refl
  none_made (Event.reset a) h lt = refl

  still-gone : (e : Event) (h : History) → t < ticks h → t < ticks (e ∷ h)
  unfolding ticks
  still-gone (requested w a) h lt = lt
  still-gone (credited k p a) h lt = lt
  still-gone (ticked x) h lt = omega arith
  still-gone (lent m a) h lt = lt
  still-gone (Event.reset a) h lt = lt

each-tile-before : (P : Plan) (i : ℕ) (e : Event) (h : History) → CreditsEachTile P i (e ∷ h) → CreditsEachTile P i h
unfolding grants returns
each-tile-before P i e h each t gone =
    omega (
      arith,
      each t (still-gone P i t e h gone),
      tally-append (λ m. of_flow i m && at_slot t m) (grant_at P e h) (grants P h),
      tally-append (in_slot P i t) (return_at P e h) (returns P h),
      none_made P i t e h gone,
    )

pub each-tile-at-each : (P : Plan) (i : ℕ) (h : History) → CreditsEachTile P i h → Each (λ e h. CreditsEachTile P i h) h
each-tile-at-each P i [] each = tt
each-tile-at-each P i (e ∷ h) each = let before = each-tile-before P i e h each in (before, each-tile-at-each P i h before)

-- ---- credits that are dated the next board's grants

tally-some : {A : Type 0} (R : A → Type 0) (p : A → Bool) (xs : List A) → All R xs → 0 < tally p xs → (Z : Type 0) → ((x : A) → R x → p x ≡ true → Z) → Z
unfolding tally
tally-some R p [] all some Z f = absurd (omega arith)
tally-some R p (x ∷ xs) all some Z f = go (p x) refl (λ more. tally-some R p xs all.1 more Z f)
  where
    go : (b : Bool) → p x ≡ b → (0 < tally p xs → Z) → Z
    go true e rest = f x all.0 e
    go false e rest = rest (omega (arith, some, ap bit e))

module _ {Q : Plan} (ok₂ : Accepted Q) (j : ℕ) where
  abbrev DatedSoon : Pass → Type 0
  DatedSoon g = g.flow ≡ j → g.slot ≤ last_of Q (frame_of Q g.made + 1)

  passes-soon : (h : History) → Each (GrantedSoonAt Q j) h → All DatedSoon (passes Q h)
  unfolding passes
  passes-soon [] soon = tt
  passes-soon (requested w (accepted v) ∷ h) soon =
      (λ own. granted-slot-dates ok₂ (slot_after Q (ticks h) (departure_of v)) h (soon.0 own), passes-soon h soon.1)
  passes-soon (requested w (refused r) ∷ h) soon = passes-soon h soon.1
  passes-soon (credited k p a ∷ h) soon = passes-soon h soon.1
  passes-soon (ticked x ∷ h) soon = passes-soon h soon.1
  passes-soon (lent m a ∷ h) soon = passes-soon h soon.1
  passes-soon (Event.reset a ∷ h) soon = passes-soon h soon.1

  dated-soon : (h : History) → Each (GrantedSoonAt Q j) h → (t s : ℕ) → granted_then Q j t s h ≡ true → s ≤ last_of Q (frame_of Q t + 1)
  dated-soon h soon t s e =
      tally-some DatedSoon (λ g. eqb g.flow j && eqb g.made t && eqb g.slot s) (passes Q h) (passes-soon h soon) (ltb-true 0 _ e)
      (s ≤ last_of Q (frame_of Q t + 1)) one
    where
      one : (g : Pass) → DatedSoon g → (eqb g.flow j && eqb g.made t && eqb g.slot s) ≡ true → s ≤ last_of Q (frame_of Q t + 1)
      one g dated e =
          let all = and-true (eqb g.flow j && eqb g.made t) (eqb g.slot s) e in
          let first = and-true (eqb g.flow j) (eqb g.made t) all.0 in
          let made_then = ap (λ t. last_of Q (frame_of Q t + 1)) (eqb-true g.made t first.1) in
          omega (arith, dated (eqb-true g.flow j first.0), made_then, eqb-true g.slot s all.1)

module _ {P Q : Plan} (ok₂ : Accepted Q) (step : InStep P Q) (i j : ℕ) (h₁ h₂ : History) (soon : Each (GrantedSoonAt Q j) h₂) where
  pub credited-each-tile-by : CreditedByNext P Q i j h₁ h₂ → CreditsEachTile P i h₁
  credited-each-tile-by by t gone =
      omega (
        arith,
        by t gone,
        tally-le (λ r. eqb r.flow i && eqb r.made t && granted_then Q j t r.dated h₂) (in_slot P i t) in-slot (returns P h₁),
      )
    where
      same-last : last_of P (frame_of P t + 1) ≡ last_of Q (frame_of Q t + 1)
      same-last = ap (λ F. (t / F + 1 + 1) * F - 1) step.slots

      in-slot : (r : Return) → (eqb r.flow i && eqb r.made t && granted_then Q j t r.dated h₂) ≡ true → in_slot P i t r ≡ true
      in-slot r e =
          let all = and-true (eqb r.flow i && eqb r.made t) (granted_then Q j t r.dated h₂) e in
          let last = dated-soon ok₂ j h₂ soon t r.dated all.1 in
          rw all.0 (le-leb r.dated (last_of P (frame_of P t + 1)) (omega (arith, last, same-last)))

-- ---- from the last board to the first

-- R holds at each well-formed request of flow i
abbrev AtRequestsOf : Plan → ℕ → (R : ℕ → History → Type 0) → History → Type 0
AtRequestsOf P i R = Each (AtRequest (λ w h. well_formed P w ≡ true → flow_of w ≡ i → R w h))

module _ (P : Plan) (i : ℕ) {R S T : ℕ → History → Type 0} (f : (w : ℕ) (h : History) → R w h → S w h → T w h) where
  both-at-requests : (h : History) → AtRequestsOf P i R h → AtRequestsOf P i S h → AtRequestsOf P i T h
  both-at-requests [] r s = tt
  both-at-requests (requested w a ∷ h) r s = (λ well own. f w h (r.0 well own) (s.0 well own), both-at-requests h r.1 s.1)
  both-at-requests (credited k p a ∷ h) r s = (tt, both-at-requests h r.1 s.1)
  both-at-requests (ticked x ∷ h) r s = (tt, both-at-requests h r.1 s.1)
  both-at-requests (lent m a ∷ h) r s = (tt, both-at-requests h r.1 s.1)
  both-at-requests (Event.reset a ∷ h) r s = (tt, both-at-requests h r.1 s.1)

-- the cells of board a are given back so late, and there are enough of them
record Back (a : Board reference) : Type 0 where
  late : ℕ
  back : AtRequestsOf (plan_on a) a.stream (λ w h. GivenBack late (plan_on a) a.stream h) a.events
  enough : (late + 2) * (entry (plan_on a) a.stream).share ≤ (entry (plan_on a) a.stream).cells

-- where they are on b, the stream asks there as `over-links-on-arrival` has it
module _ (P Q : Plan) (i j late : ℕ) where
  with-back : {h₁ h₂ : History} → Together P Q i j (AsksOnArrival (λ P i h. Unit {0}) P Q i j) h₁ h₂
      → AtRequestsOf Q j (λ w h. GivenBack late Q j h) h₂ → Together P Q i j (AsksOnArrival (GivenBack late) P Q i j) h₁ h₂
  with-back start back = start
  with-back (both_tick t) back = both_tick (with-back t back.1)
  with-back (first_alone e alone t) back = first_alone e alone (with-back t back)
  with-back (second_alone {h₁ = h₁} {h₂ = h₂} e alone asks t) back = second_alone e alone (one e asks back.0) (with-back t back.1)
    where
      one : (e : Event) → AskedAt P Q i j (AsksOnArrival (λ P i h. Unit {0}) P Q i j) h₁ e h₂
          → AtRequest (λ w h. well_formed Q w ≡ true → flow_of w ≡ j → GivenBack late Q j h) e h₂
          → AskedAt P Q i j (AsksOnArrival (GivenBack late) P Q i j) h₁ e h₂
      one (requested w a) x y = λ well own.
          let z = x well own in
          record { sent = z.sent; departs = z.departs; comes_now = z.comes_now; number = z.number; given_back = y well own }
      one (credited k p a) x y = tt
      one (ticked a) x y = tt
      one (lent m a) x y = tt
      one (Event.reset a) x y = tt

joined-with-back : (a b : Board reference) → JoinedByCredits a b → Back b → JoinedOnArrival a b
joined-with-back a b x y = record {
  in_step = x.in_step;
  share_kept = x.share_kept;
  late = y.late;
  together = with-back (plan_on a) (plan_on b) a.stream b.stream y.late x.together y.back;
  enough_cells = y.enough;
  not_lent = x.not_lent;
}

-- and then its grants are soon, so that they are given back on a too
back-before : (a b : Board reference) → JoinedByCredits a b → Back b → Back a
back-before a b x y = record { late = 0; back = each_map _ _ one a.events at_each; enough = omega (arith, x.two_shares) }
  where
    P : Plan
    P = plan_on a

    at_each : Each (λ e h. CreditsEachTile P a.stream h) a.events
    at_each =
        each-tile-at-each P a.stream a.events (credited-each-tile-by (ok b) x.in_step a.stream b.stream a.events b.events
        (soon-on-next a b (joined-with-back a b x y)) x.credits)

    one : (e : Event) (h : History) → CreditsEachTile P a.stream h
        → AtRequest (λ w h. well_formed P w ≡ true → flow_of w ≡ a.stream → GivenBack 0 P a.stream h) e h
    one (requested w r) h each = λ well own. given-back-by (ok a) a.stream h (each-tile-by (ok a) a.stream h each)
    one (credited k p r) h each = tt
    one (ticked r) h each = tt
    one (lent m r) h each = tt
    one (Event.reset r) h each = tt

record Along (a : Board reference) (rest : List (Board reference)) : Type 0 where
  way : WayOnArrival a rest
  back : Back a

along : (late : ℕ) (a : Board reference) (rest : List (Board reference)) → WayByCredits late a rest → Along a rest
along late a [] x = record { way = tt; back = record { late = late; back = x.given_back; enough = x.enough_cells } }
along late a (b ∷ rest) x =
    let y = along late b rest x.1 in
    record { way = (joined-with-back a b x.0 y.back, y.way); back = back-before a b x.0 y.back }

-- ---- the first board

shares-there : (a : Board reference) (x : Back a) → ModestFirst (plan_on a) a.stream a.events → KeepsShares x.late 0 (plan_on a) a.stream a.events
shares-there a x m = record {
  asks = both-at-requests (plan_on a) a.stream with-cells a.events m.asks x.back;
  enough_cells = omega (arith, x.enough);
  not_lent = m.not_lent;
  no_reset = a.no_reset;
}
  where
    with-cells : (w : ℕ) (h : History) → AsksModestly (plan_on a) a.stream w h → GivenBack x.late (plan_on a) a.stream h
        → AsksWithinShare x.late (plan_on a) a.stream w h
    with-cells w h y back = record { come = y.come; number = y.number; given_back = back; few = y.few }

modest-there : (a : Board reference) → Back a → ModestFirst (plan_on a) a.stream a.events → Modest TimelyInOrder 0 (plan_on a) a.stream a.events
modest-there a x m = modest-first x.late a (shares-there a x m)

-- so it is a way with room at each request, and the stream is modest on the first board
pub way-by-credits : (late : ℕ) (a : Board reference) (rest : List (Board reference)) → WayByCredits late a rest → Way a rest
way-by-credits late a rest way = way-with-room a rest (along late a rest way).way

pub modest-by-credits : (late : ℕ) (a : Board reference) (rest : List (Board reference)) → WayByCredits late a rest → ModestFirst (plan_on a) a.stream a.events
    → Modest TimelyInOrder 0 (plan_on a) a.stream a.events
modest-by-credits late a rest way = modest-there a (along late a rest way).back

pub over-links-by-credits : OverLinksByCredits reference
over-links-by-credits late a rest way =
    let x = along late a rest way in
    let y = over-links a rest (way-with-room a rest x.way) in
    record {
      granted = y.granted;
      served = λ m. granted_first x.back.late a (shares-there a x.back m);
      from_first = y.from_first;
      from_due = λ m. y.from_due (modest-there a x.back m);
    }

pub from-source-by-credits : FromSourceByCredits reference
from-source-by-credits late a rest way m =
    let x = along late a rest way in
    let modest = modest-there a x.back m in
    in_time a rest modest ((over-links a rest (way-with-room a rest x.way)).from_due modest)

pub granted-by-credits : GrantedByCredits reference
granted-by-credits late a rest way m =
    let back = (along late a rest way).back in
    let i = a.stream in
    subst (EachGrantedNow (plan_on a) i) a.ran.is
    (shares-of-cells back.late a.bytes a.passes a.ran.calls i a.known
    (subst (KeepsShares back.late 0 (plan_on a) i) (sym a.ran.is) (shares-there a back m)))
