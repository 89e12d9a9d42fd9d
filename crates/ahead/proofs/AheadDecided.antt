-- What is asked of flows that send ahead, and of their tiles, is decided by computation. Assumes nothing.
use Prim.Native.Nat.{ℕ, ◌<◌}
use mathlib.Core.Path.{◌≡◌, refl, ap, ◌∙◌}
use mathlib.Core.Logic.Dec
use mathlib.Core.List.{List}
use mathlib.Core.Bool.{◌&&◌, cond}
use native.Mathlib.Omega.{arith}
use native.Mathlib.Decide.{dec_lt, ℕ_discrete}
use lib.Dec.{leb, ltb, eqb}
use borrow.Author.Tests.{le-leb, lt-ltb, eq-eqb, ne_eqb}
use Rattle.model.specs.Tables.{tally}
use Rattle.model.specs.Word.{flow_of}
use Rattle.model.specs.Plan.{Plan}
use Rattle.model.specs.Calls.{History}
use Rattle.model.specs.History.{well_formed}
use Rattle.model.specs.Claim.{Each, EachSince}
use Rattle.model.specs.OtherPremises.{Premise}
use Rattle.arrival.specs.Delay.{AsksAt}
use Rattle.arrival.specs.BooksInOrder.{InTurn}
use Rattle.ahead.specs.AheadRuns.{WithAhead, latest}
use Rattle.ahead.specs.Sendings.{Sending, nothing, event, ahead, Tile, leaves_in, LentOnlyAhead}
use Rattle.ahead.specs.LessAhead.{DueInTurn}
use Rattle.model.proofs.Tallies.{tally-le}
use Rattle.model.proofs.Decidable.{same, implies, is_true}
use Rattle.model.proofs.ClaimDecided.{at-request, at-loan, has_room, each, each-since}
use Rattle.model.proofs.OtherPremises.{Decides}
use Rattle.arrival.proofs.DelayDecided.{delays-compute}
use Rattle.ahead.proofs.LeaveInOrder.{is, is-so}

-- ---- requests

unfoldable pub due-in-turn : Decides DueInTurn
due-in-turn P i w h = ℕ_discrete _ _

unfoldable pub in-turn : Decides InTurn
in-turn P i w h =
    same (λ r. record { room = λ s le. r.0 s (omega arith); none_due_after = r.1 }) (λ x. (x.room, x.none_due_after)) (Dec.and (has_room P i h) (ℕ_discrete _ _))

-- each of flow i's well-formed requests, and each since the last granted reset
unfoldable pub all-ask : {Q : Premise} → Decides Q → (P : Plan) (i : ℕ) (h : History) → Dec (Each (AsksAt Q P i) h)
all-ask q P i h = each (at-request λ w h. implies (is_true (well_formed P w)) (implies (ℕ_discrete (flow_of w) i) (q P i w h))) h

unfoldable pub ask-since : {Q : Premise} → Decides Q → (P : Plan) (i : ℕ) (h : History) → Dec (EachSince (AsksAt Q P i) h)
ask-since q P i h = each-since (at-request λ w h. implies (is_true (well_formed P w)) (implies (ℕ_discrete (flow_of w) i) (q P i w h))) h

-- where flow 0 alone sends ahead, and slot s is the latest
pub zero-alone : (Q : Premise) (P : Plan) {h₁ h₂ : History} (x : WithAhead h₁ h₂) (h : History) (s : ℕ) → ((i : ℕ) → latest P x i ≡ cond (eqb i 0) s 0)
    → Each (AsksAt Q P 0) h → (i : ℕ) → 0 < latest P x i → Each (AsksAt Q P i) h
zero-alone Q P x h s is asks i some = go (ℕ_discrete i 0)
  where
    go : Dec (i ≡ 0) → Each (AsksAt Q P i) h
    go (yes e) = rw e asks
    go (no d) = absurd (omega (arith, is i ∙ ap (λ b. cond b s 0) (ne_eqb i 0 d)))

-- ---- tiles

-- Each tile of flow i with a slot before p left before slot t, if a count says so.
pub all_left : (i p t : ℕ) (ms : List Tile) → tally (λ m. eqb m.flow i && ltb m.slot p && leb t m.leaves) ms ≡ 0
    → (a r : ℕ) → 0 < tally (is i a r) ms → a < p → r < t
all_left i p t ms none a r has before = go (dec_lt r t)
  where
    go : Dec (r < t) → r < t
    go (yes lt) = lt
    go (no ge) =
        absurd (omega (
          arith,
          none,
          tally-le (is i a r) (λ m. eqb m.flow i && ltb m.slot p && leb t m.leaves) (λ m e.
              let so = is-so i a r m e in
              rw (
                eq-eqb m.flow i so.flow,
                lt-ltb m.slot p (omega (arith, so.slot)),
                le-leb t m.leaves (omega (arith, so.leaves)),
              ) refl) ms,
        ))

-- that flow i is lent slots to send ahead only
unfoldable pub lent-only : {h : History} (x : Sending h) (i : ℕ) → Dec (LentOnlyAhead x i)
lent-only nothing i = yes tt
lent-only (event {h = h} e x) i = Dec.and (at-loan (λ m j. implies (ℕ_discrete j i) (no (λ z. z))) e h) (lent-only x i)
lent-only (ahead j p x) i = lent-only x i

unfoldable pub ahead-computes : Unit {0}
unfolding delays-compute leaves_in due-in-turn in-turn all-ask ask-since at-loan lent-only
ahead-computes = tt
