-- Lends that both runs make are answered alike, and nothing stands between a lend and its credit: then the second run sends tiles ahead. Without either, the
-- two runs grant other slots. Assumes nothing.
use Prim.Native.Nat.{ℕ, ◌<◌}
use mathlib.Core.Path.{◌≡◌, refl, sym, ap, subst}
use mathlib.Core.List.{List, ◌∷◌, [], ◌++◌}
use mathlib.Core.Option.{Option, some, none}
use native.Mathlib.Omega.{arith}
use native.Mathlib.Decide.{ℕ_discrete}
use Rattle.model.specs.Tables.{tally}
use Rattle.model.specs.Plan.{Plan, flow_count, plan_of}
use Rattle.model.specs.Calls.{Call, LendAnswer, History, credited, lent, accepted, refused}
use Rattle.model.specs.History.{at_slot}
use Rattle.model.specs.Claim.{Each}
use Rattle.model.specs.LessAsked.{HasRoom}
use Rattle.model.specs.Scheduler.{reference}
use Rattle.model.specs.PlanBytes.{plan1, plan2}
use Rattle.arrival.specs.Delay.{AsksAt}
use Rattle.ahead.specs.AheadRuns.{WithAhead, start, both_tick, both_request, both_credit, both_lend, first_refused, second_refused, both_reset, sent_ahead}
use Rattle.ahead.specs.SameCalls.{SameCalls, no_call, same_tick, same_request, same_credit, same_lend, same_reset, refused_first, refused_second, lent_besides}
use Rattle.ahead.specs.SameCalls.{credited_besides}
use Rattle.ahead.specs.SameCalls.{SameLoan, LendsAlike, AtOnceAfter, AtOnce, SameIsAhead, AheadIsSame, Plain, SameGrantsIf}
use Rattle.model.proofs.Decidable.{proved}
use Rattle.arrival.proofs.DelayDecided.{room}
use Rattle.ahead.proofs.AheadDecided.{all-ask, ahead-computes}
use Rattle.ahead.proofs.LessAhead.{after}

-- ---- with both premises

-- the run so far; and where a credit of flow i waits for its lend, the run with that credit
abbrev So : Option ℕ → (h₁ h₂ : History) → Type 0
So none h₁ h₂ = WithAhead h₁ h₂
So (some i) h₁ h₂ = (p : ℕ) → WithAhead h₁ (credited i p (accepted tt) ∷ h₂)

one-lend : {h₁ h₂ : History} (m₁ m₂ : ℕ) (a₁ a₂ : LendAnswer) → SameLoan a₁ a₂ → WithAhead h₁ h₂ → WithAhead (lent m₁ a₁ ∷ h₁) (lent m₂ a₂ ∷ h₂)
one-lend {h₁} {h₂} m₁ m₂ (accepted i) (accepted j) same x =
    subst (λ k. WithAhead (lent m₁ (accepted i) ∷ h₁) (lent m₂ (accepted k) ∷ h₂)) same (both_lend i x)
one-lend m₁ m₂ (accepted i) (refused s) same x = absurd same
one-lend m₁ m₂ (refused r) (accepted j) same x = absurd same
one-lend m₁ m₂ (refused r) (refused s) same x = first_refused (second_refused x)

both : (o : Option ℕ) {h₁ h₂ : History} (x : SameCalls h₁ h₂) → LendsAlike x → AtOnceAfter o x → So o h₁ h₂
both none no_call alike once = start
both none (same_tick x) alike once = both_tick (both none x alike once)
both none (same_request w x) alike once = both_request w (both none x alike once)
both none (same_credit j p x) alike once = both_credit j p (both none x alike once)
both none (same_lend {a₁ = a₁} {a₂ = a₂} m₁ m₂ x) alike once = one-lend m₁ m₂ a₁ a₂ alike.0 (both none x alike.1 once)
both none (same_reset x) alike once = both_reset (both none x alike once)
both none (refused_first x) alike once = first_refused (both none x alike once)
both none (refused_second x) alike once = second_refused (both none x alike once)
both none (lent_besides m j x) alike once = absurd once
both none (credited_besides i p x) alike once = both (some i) x alike once p
both (some i) no_call alike once = absurd once
both (some i) (same_tick x) alike once = absurd once
both (some i) (same_request w x) alike once = absurd once
both (some i) (same_credit j p x) alike once = absurd once
both (some i) (same_lend m₁ m₂ x) alike once = absurd once
both (some i) (same_reset x) alike once = absurd once
both (some i) (refused_first x) alike once = absurd once
both (some i) (refused_second x) alike once = absurd once
both (some i) {h₁} (lent_besides {h₂ = h₂} m j x) alike once =
    λ p. subst (λ k. WithAhead h₁ (credited i p (accepted tt) ∷ lent m (accepted k) ∷ h₂)) (sym once.0) (sent_ahead i p (both none x alike once.1))
both (some i) (credited_besides j p x) alike once = absurd once

pub same-is-ahead : SameIsAhead
same-is-ahead h₁ h₂ x alike once = both none x alike once

-- the other way round
pub ahead-is-same : AheadIsSame
ahead-is-same h₁ h₂ start = record { same = no_call; lends_alike = tt; at-once = tt }
ahead-is-same h₁ h₂ (both_tick {h₁ = k₁} {h₂ = k₂} x) =
    let y = ahead-is-same k₁ k₂ x in
    record { same = same_tick y.same; lends_alike = y.lends_alike; at-once = y.at-once }
ahead-is-same h₁ h₂ (both_request {h₁ = k₁} {h₂ = k₂} w x) =
    let y = ahead-is-same k₁ k₂ x in
    record { same = same_request w y.same; lends_alike = y.lends_alike; at-once = y.at-once }
ahead-is-same h₁ h₂ (both_credit {h₁ = k₁} {h₂ = k₂} j p x) =
    let y = ahead-is-same k₁ k₂ x in
    record { same = same_credit j p y.same; lends_alike = y.lends_alike; at-once = y.at-once }
ahead-is-same h₁ h₂ (both_lend {h₁ = k₁} {h₂ = k₂} {m₁ = m₁} {m₂ = m₂} j x) =
    let y = ahead-is-same k₁ k₂ x in
    record { same = same_lend m₁ m₂ y.same; lends_alike = (refl, y.lends_alike); at-once = y.at-once }
ahead-is-same h₁ h₂ (first_refused {h₁ = k₁} {h₂ = k₂} x) =
    let y = ahead-is-same k₁ k₂ x in
    record { same = refused_first y.same; lends_alike = y.lends_alike; at-once = y.at-once }
ahead-is-same h₁ h₂ (second_refused {h₁ = k₁} {h₂ = k₂} x) =
    let y = ahead-is-same k₁ k₂ x in
    record { same = refused_second y.same; lends_alike = y.lends_alike; at-once = y.at-once }
ahead-is-same h₁ h₂ (both_reset {h₁ = k₁} {h₂ = k₂} x) =
    let y = ahead-is-same k₁ k₂ x in
    record { same = same_reset y.same; lends_alike = y.lends_alike; at-once = y.at-once }
ahead-is-same h₁ h₂ (sent_ahead {h₁ = k₁} {h₂ = k₂} {m = m} i p x) =
    let y = ahead-is-same k₁ k₂ x in
    record { same = credited_besides i p (lent_besides m i y.same); lends_alike = y.lends_alike; at-once = (refl, y.at-once) }

-- ---- without lends that are answered alike

-- F = 2, W = 2, two flows with share 1; flow 0 has 3 cells, and flow 1 has one
abbrev three_and_one : List ℕ
three_and_one = plan2 2 2 4 1 3 1 1

-- Flow 0 books slot 1, and sends it ahead in slot 0. In slot 2 a lend to either of them goes to flow 0 in the run without; in the other it is flow 1's turn,
-- and its only cell is held: there its request is refused, where the first grants it slot 3.
abbrev turned : List Call → List Call
turned sent = Call.request 0x24000000 ∷ (sent ++ Call.tick ∷ Call.tick ∷ Call.lend 3 ∷ Call.request 0x24100002 ∷ [])

abbrev turned₁ : List Call
turned₁ = turned []

abbrev turned₂ : List Call
turned₂ = turned (Call.lend 1 ∷ Call.credit 0 1 ∷ [])

unfoldable other-turn : SameCalls (after three_and_one turned₁) (after three_and_one turned₂)
unfolding ahead-computes
other-turn =
    same_request 0x24100002 (same_lend 3 3 (same_tick (same_tick (credited_besides 0 1 (lent_besides 1 0 (same_request 0x24000000 no_call))))))

-- room at each request of either flow of two, and of no others
each-of-two : (P : Plan) (h : History) → flow_count P ≡ 2 → Each (AsksAt HasRoom P 0) h → Each (AsksAt HasRoom P 1) h
    → (i : ℕ) → i < flow_count P → Each (AsksAt HasRoom P i) h
each-of-two P h two first second i known = go (ℕ_discrete i 0)
  where
    go : Dec (i ≡ 0) → Each (AsksAt HasRoom P i) h
    go (yes e) = rw e first
    go (no d) = let z : i ≡ 1 = omega arith in rw z second

pub not-without-alike : SameGrantsIf (λ h₁ h₂ x. AtOnce x) reference → ⊥
unfolding ahead-computes other-turn
not-without-alike same =
    let P = plan_of three_and_one in
    let h₁ = after three_and_one turned₁ in
    let plain : Plain P h₁ = record {
      room = each-of-two P h₁ refl (proved (all-ask room P 0 h₁) tt) (proved (all-ask room P 1 h₁) tt);
      credits_accepted = (tt, (tt, (tt, (tt, (tt, tt)))));
      no_reset = (tt, (tt, (tt, (tt, (tt, tt)))));
    } in
    let z = ap (tally (at_slot 3)) (same three_and_one refl turned₁ turned₂ other-turn plain (refl, tt)) in
    omega arith

-- ---- with a request between a lend and its credit

-- F = 4, W = 2, one flow with share 2 and 2 cells
abbrev two_of_two : List ℕ
two_of_two = plan1 4 2 4 2 2

-- The flow books slot 1. In the second run slot 0 is lent to it, so that it holds both cells from slot 1 on, and its next request is refused; only then the
-- credit comes. The first grants it slot 2.
abbrev between : List Call → List Call → List Call
between loan receipt = Call.request 0x24000000 ∷ (loan ++ Call.request 0x24000400 ∷ receipt)

abbrev between₁ : List Call
between₁ = between [] []

abbrev between₂ : List Call
between₂ = between (Call.lend 1 ∷ []) (Call.credit 0 1 ∷ [])

unfoldable one-between : SameCalls (after two_of_two between₁) (after two_of_two between₂)
unfolding ahead-computes
one-between = credited_besides 0 1 (same_request 0x24000400 (lent_besides 1 0 (same_request 0x24000000 no_call)))

pub not-without-at-once : SameGrantsIf (λ h₁ h₂ x. LendsAlike x) reference → ⊥
unfolding ahead-computes one-between
not-without-at-once same =
    let P = plan_of two_of_two in
    let h₁ = after two_of_two between₁ in
    let plain : Plain P h₁ = record {
      room = λ i known. let z : i ≡ 0 = omega arith in rw z (proved (all-ask room P 0 h₁) tt);
      credits_accepted = (tt, (tt, tt));
      no_reset = (tt, (tt, tt));
    } in
    let z = ap (tally (at_slot 2)) (same two_of_two refl between₁ between₂ one-between plain tt) in
    omega arith
