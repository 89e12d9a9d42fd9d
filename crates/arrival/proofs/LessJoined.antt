-- What each premise of `OverLinks` is for: without it the reference scheduler does not keep what follows on the next board, by two short lists of calls.
-- Assumes nothing.
use Prim.Native.Nat.{ℕ}
use mathlib.Core.Path.{◌≡◌, refl}
use mathlib.Core.List.{◌∷◌, [], reverse}
use mathlib.Core.Option.{some, none}
use native.Mathlib.Omega.{arith}
use lib.Dec.{lit<, lit≤}
use Rattle.model.specs.Plan.{Plan, plan_of}
use Rattle.model.specs.Calls.{Call, Event, History, requested, credited, ticked, lent, accepted, refused}
use Rattle.model.specs.Scheduler.{reference, run}
use Rattle.model.specs.PlanBytes.{plan1, plan2}
use Rattle.model.specs.TwoHops.{InStep}
use Rattle.arrival.specs.SeveralLinks.{sent_slots, AsksForNext, AskedAt, Together, start, both_tick, first_alone, second_alone, Board}
use Rattle.arrival.specs.LessJoined.{with_lent, AllAsked, AllButOrder, AllButLate, AllButNewest, AllButRoom, AllButNumber, SharesKept, NoReset, TwoBoardsBy}
use Rattle.arrival.specs.LessJoined.{TwoBoards}
use Rattle.arrival.proofs.DelayDecided.{delays-compute}
use Rattle.arrival.proofs.JoinedDecided.{all_asked, all-but-order, all-but-late, all-but-newest, all-but-room, all-but-number}
use Rattle.arrival.proofs.JoinedDecided.{both, first, second, firsts, seconds, calls_of, by-moves, joins-compute}
use Rattle.arrival.proofs.SeveralLinks.{over-links}

-- ---- nothing left out

-- a stream that asks as A says asks as B says
together-map : (P Q : Plan) (i j : ℕ) {A B : (h₁ : History) (w : ℕ) (h₂ : History) → Type 0} → ((h₁ : History) (w : ℕ) (h₂ : History) → A h₁ w h₂ → B h₁ w h₂)
    → {h₁ h₂ : History} → Together P Q i j A h₁ h₂ → Together P Q i j B h₁ h₂
together-map P Q i j {A} {B} f start = start
together-map P Q i j {A} {B} f (both_tick t) = both_tick (together-map P Q i j f t)
together-map P Q i j {A} {B} f (first_alone e alone t) = first_alone e alone (together-map P Q i j f t)
together-map P Q i j {A} {B} f (second_alone {h₁ = h₁} {h₂ = h₂} e alone asks t) = second_alone e alone (one e asks) (together-map P Q i j f t)
  where
    one : (e : Event) → AskedAt P Q i j A h₁ e h₂ → AskedAt P Q i j B h₁ e h₂
    one (requested w a) x = λ well own. f h₁ w h₂ (x well own)
    one (credited k p a) x = tt
    one (ticked a) x = tt
    one (lent m a) x = tt
    one (Event.reset a) x = tt

pub two-boards : TwoBoards reference
two-boards bytes₁ bytes₂ passes₁ passes₂ step i j known₁ known₂ kept h₁ h₂ ran₁ ran₂ none₁ none₂ together =
    let a : Board reference = record { bytes = bytes₁; passes = passes₁; events = h₁; ran = ran₁; no_reset = none₁; stream = i; known = known₁ } in
    let b : Board reference = record { bytes = bytes₂; passes = passes₂; events = h₂; ran = ran₂; no_reset = none₂; stream = j; known = known₂ } in
    let x = over-links a (b ∷ []) (record { in_step = step; share_kept = kept; together = together-map P Q i j as-asked together }, tt) in
    record { granted = x.granted.0; frames_later = x.from_first.0.frames_later }
  where
    P : Plan
    P = plan_of bytes₁

    Q : Plan
    Q = plan_of bytes₂

    as-asked : (h₁ : History) (w : ℕ) (h₂ : History) → AllAsked sent_slots P Q i j h₁ w h₂ → AsksForNext P Q i j h₁ w h₂
    as-asked h₁ w h₂ x = record {
      for_next = record { sent = x.0.0; departs = x.0.1; not_late = x.1.0 };
      in_time = x.1.1.0;
      room = x.1.1.1.0;
      number = x.1.1.1.1;
    }

-- ---- one part left out

-- F = 3, W = 2, and a neighbour with share 2 on the second board. The first is reset in slot 4, and grants slots 3 and 5, both of frame 1: the second refuses
-- the tile of slot 5 with 11.
pub not-with-a-reset : TwoBoardsBy InStep SharesKept (λ h. Unit {0}) sent_slots (AllAsked sent_slots) reference → ⊥
unfolding joins-compute
not-with-a-reset two =
    let ms =
    reverse (
    both none none ∷ both none none ∷ first (requested 0x24000002 (accepted 0x24000003)) ∷ both (some 0) none
    ∷ second (requested 0x24100003 (accepted 0x24100004)) ∷ second (requested 0x24100403 (accepted 0x24100405))
    ∷ second (requested 0x24000003 (accepted 0x24000000)) ∷ first (credited 0 4 (accepted tt)) ∷ both none (some 1)
    ∷ first (Event.reset (accepted tt)) ∷ first (requested 0x24000404 (accepted 0x24000405)) ∷ both (some 0) (some 1)
    ∷ second (requested 0x24000405 (refused 11)) ∷ []) in
    let x = two (plan1 3 2 8 1 4) (plan2 3 2 8 1 4 2 4) refl refl (record { slots = refl; frames = refl }) 0 0 (lit< tt) (lit< tt) (lit≤ tt)
    (firsts ms) (seconds ms)
    (record { calls = calls_of (firsts ms); is = refl }) (record { calls = calls_of (seconds ms); is = refl }) tt tt
    (by-moves (all_asked sent_slots) (plan_of (plan1 3 2 8 1 4)) (plan_of (plan2 3 2 8 1 4 2 4)) 0 0 ms tt) in
    x.granted.0 refl refl

-- F = 2, W = 2. The first board grants slot 2 and lends slot 3, both of frame 1: the second refuses the tile of slot 3 with 11.
pub not-with-a-lent-slot : TwoBoardsBy InStep SharesKept NoReset with_lent (AllAsked with_lent) reference → ⊥
unfolding joins-compute
not-with-a-lent-slot two =
    let ms =
    reverse (
    both none none ∷ first (requested 0x24000001 (accepted 0x24000002)) ∷ both (some 0) none
    ∷ second (requested 0x24100002 (accepted 0x24100003)) ∷ second (requested 0x24000002 (accepted 0x24000000))
    ∷ first (credited 0 0 (accepted tt)) ∷ both none (some 1) ∷ first (lent 1 (accepted 0)) ∷ second (requested 0x24000403 (refused 11))
    ∷ []) in
    let x = two (plan1 2 2 8 1 4) (plan2 2 2 8 1 4 1 4) refl refl (record { slots = refl; frames = refl }) 0 0 (lit< tt) (lit< tt) (lit≤ tt)
    (firsts ms) (seconds ms)
    (record { calls = calls_of (firsts ms); is = refl }) (record { calls = calls_of (seconds ms); is = refl }) refl refl
    (by-moves (all_asked with_lent) (plan_of (plan1 2 2 8 1 4)) (plan_of (plan2 2 2 8 1 4 1 4)) 0 0 ms tt) in
    x.granted.0 refl refl

-- F = 2, W = 2, share 2 on the first board and 1 on the second. Slots 1, 2 and 3 are granted on the first: the second refuses the tile of slot 3 with 11.
pub not-with-a-smaller-share : TwoBoardsBy InStep (λ share₁ share₂. Unit {0}) NoReset sent_slots (AllAsked sent_slots) reference → ⊥
unfolding joins-compute
not-with-a-smaller-share two =
    let ms =
    reverse (
    first (requested 0x24000000 (accepted 0x24000001)) ∷ first (requested 0x24000400 (accepted 0x24000402))
    ∷ first (requested 0x24000800 (accepted 0x24000803)) ∷ second (requested 0x24000001 (accepted 0x24000002)) ∷ both (some 0) none
    ∷ both (some 0) (some 0) ∷ second (requested 0x24000402 (accepted 0x24000400)) ∷ both (some 0) none
    ∷ second (requested 0x24000803 (refused 11)) ∷ []) in
    let x = two (plan1 2 2 8 2 8) (plan1 2 2 8 1 8) refl refl (record { slots = refl; frames = refl }) 0 0 (lit< tt) (lit< tt) tt
    (firsts ms) (seconds ms)
    (record { calls = calls_of (firsts ms); is = refl }) (record { calls = calls_of (seconds ms); is = refl }) refl refl
    (by-moves (all_asked sent_slots) (plan_of (plan1 2 2 8 2 8)) (plan_of (plan1 2 2 8 1 8)) 0 0 ms tt) in
    x.granted.0 refl refl

-- F = 1 and W = 4 on the first board, F = 2 and W = 2 on the second. Slots 1, 2 and 3 are granted on the first, each of another frame; on the second the last
-- two are of one frame, and the tile of slot 3 is refused with 11.
pub not-with-other-frames : TwoBoardsBy (λ P Q. Unit {0}) SharesKept NoReset sent_slots (AllAsked sent_slots) reference → ⊥
unfolding joins-compute
not-with-other-frames two =
    let ms =
    reverse (
    first (requested 0x24000000 (accepted 0x24000001)) ∷ first (requested 0x24000400 (accepted 0x24000402))
    ∷ first (requested 0x24000800 (accepted 0x24000803)) ∷ second (requested 0x24000001 (accepted 0x24000002)) ∷ both (some 0) none
    ∷ both (some 0) (some 0) ∷ second (requested 0x24000402 (accepted 0x24000400)) ∷ both (some 0) none
    ∷ second (requested 0x24000803 (refused 11)) ∷ []) in
    let x = two (plan1 1 4 8 1 8) (plan1 2 2 8 1 8) refl refl tt 0 0 (lit< tt) (lit< tt) (lit≤ tt)
    (firsts ms) (seconds ms)
    (record { calls = calls_of (firsts ms); is = refl }) (record { calls = calls_of (seconds ms); is = refl }) refl refl
    (by-moves (all_asked sent_slots) (plan_of (plan1 1 4 8 1 8)) (plan_of (plan1 2 2 8 1 8)) 0 0 ms tt) in
    x.granted.0 refl refl

-- F = 1, W = 5. Slots 1 and 2 are granted on the first board. The tile of slot 2 is asked for first on the second, and granted slot 3; the other then slot 4,
-- three frames after it came. By number, the first grant on the second board is two frames after the first on the first.
pub not-out-of-order : TwoBoardsBy InStep SharesKept NoReset sent_slots (AllButOrder sent_slots) reference → ⊥
unfolding joins-compute
not-out-of-order two =
    let ms =
    reverse (
    first (requested 0x24000000 (accepted 0x24000001)) ∷ first (requested 0x24000401 (accepted 0x24000402))
    ∷ second (requested 0x24000002 (accepted 0x24000003)) ∷ second (requested 0x24000401 (accepted 0x24000404)) ∷ []) in
    let x = two (plan1 1 5 8 1 8) (plan1 1 5 8 1 8) refl refl (record { slots = refl; frames = refl }) 0 0 (lit< tt) (lit< tt) (lit≤ tt)
    (firsts ms) (seconds ms)
    (record { calls = calls_of (firsts ms); is = refl }) (record { calls = calls_of (seconds ms); is = refl }) refl refl
    (by-moves (all-but-order sent_slots) (plan_of (plan1 1 5 8 1 8)) (plan_of (plan1 1 5 8 1 8)) 0 0 ms tt) in
    omega (arith, x.frames_later 0 (lit< tt))

-- F = 1, W = 3. The tile of slot 1 is asked for in slot 2, where its departure is the newest frame's: 20.
pub not-when-late : TwoBoardsBy InStep SharesKept NoReset sent_slots (AllButLate sent_slots) reference → ⊥
unfolding joins-compute
not-when-late two =
    let ms =
    reverse (
    first (requested 0x24000000 (accepted 0x24000001)) ∷ both (some 0) none ∷ both none none ∷ second (requested 0x24000001 (refused 20))
    ∷ []) in
    let x = two (plan1 1 3 8 1 4) (plan1 1 3 8 1 4) refl refl (record { slots = refl; frames = refl }) 0 0 (lit< tt) (lit< tt) (lit≤ tt)
    (firsts ms) (seconds ms)
    (record { calls = calls_of (firsts ms); is = refl }) (record { calls = calls_of (seconds ms); is = refl }) refl refl
    (by-moves (all-but-late sent_slots) (plan_of (plan1 1 3 8 1 4)) (plan_of (plan1 1 3 8 1 4)) 0 0 ms tt) in
    x.granted.0 refl refl

-- F = 1, W = 2. The tile of slot 1 is asked for in slot 0, where frame 1 is the newest: 20.
pub not-in-the-newest-frame : TwoBoardsBy InStep SharesKept NoReset sent_slots (AllButNewest sent_slots) reference → ⊥
unfolding joins-compute
not-in-the-newest-frame two =
    let ms =
    reverse (
    first (requested 0x24000000 (accepted 0x24000001)) ∷ second (requested 0x24000001 (refused 20)) ∷ []) in
    let x = two (plan1 1 2 8 1 4) (plan1 1 2 8 1 4) refl refl (record { slots = refl; frames = refl }) 0 0 (lit< tt) (lit< tt) (lit≤ tt)
    (firsts ms) (seconds ms)
    (record { calls = calls_of (firsts ms); is = refl }) (record { calls = calls_of (seconds ms); is = refl }) refl refl
    (by-moves (all-but-newest sent_slots) (plan_of (plan1 1 2 8 1 4)) (plan_of (plan1 1 2 8 1 4)) 0 0 ms tt) in
    x.granted.0 refl refl

-- F = 2, W = 3, one cell on the second board, which the first tile holds from slot 2 on: the next gets 12.
pub not-without-room : TwoBoardsBy InStep SharesKept NoReset sent_slots (AllButRoom sent_slots) reference → ⊥
unfolding joins-compute
not-without-room two =
    let ms =
    reverse (
    first (requested 0x24000000 (accepted 0x24000001)) ∷ second (requested 0x24000001 (accepted 0x24000002)) ∷ both (some 0) none
    ∷ both none (some 0) ∷ first (requested 0x24000402 (accepted 0x24000403)) ∷ second (requested 0x24000403 (refused 12)) ∷ []) in
    let x = two (plan1 2 3 8 1 4) (plan1 2 3 8 1 1) refl refl (record { slots = refl; frames = refl }) 0 0 (lit< tt) (lit< tt) (lit≤ tt)
    (firsts ms) (seconds ms)
    (record { calls = calls_of (firsts ms); is = refl }) (record { calls = calls_of (seconds ms); is = refl }) refl refl
    (by-moves (all-but-room sent_slots) (plan_of (plan1 2 3 8 1 4)) (plan_of (plan1 2 3 8 1 1)) 0 0 ms tt) in
    x.granted.0 refl refl

-- number 1 on a fresh board: 24
pub not-without-number : TwoBoardsBy InStep SharesKept NoReset sent_slots (AllButNumber sent_slots) reference → ⊥
unfolding joins-compute
not-without-number two =
    let ms =
    reverse (
    first (requested 0x24000000 (accepted 0x24000001)) ∷ second (requested 0x24000401 (refused 24)) ∷ []) in
    let x = two (plan1 2 3 8 1 4) (plan1 2 3 8 1 4) refl refl (record { slots = refl; frames = refl }) 0 0 (lit< tt) (lit< tt) (lit≤ tt)
    (firsts ms) (seconds ms)
    (record { calls = calls_of (firsts ms); is = refl }) (record { calls = calls_of (seconds ms); is = refl }) refl refl
    (by-moves (all-but-number sent_slots) (plan_of (plan1 2 3 8 1 4)) (plan_of (plan1 2 3 8 1 4)) 0 0 ms tt) in
    x.granted.0 refl refl

-- ---- on one board

-- F = 4, W = 2, share 3, two cells. Credits are dated slots 5 and 3, in this order; the third tile is granted slot 5, and the fourth slot 4.
pub slots-out-of-order :
    reverse (run reference (plan_of (plan1 4 2 8 3 2)) (Call.request 0x24000000 ∷ Call.request 0x24000400 ∷ Call.tick ∷ Call.credit 0 5 ∷ Call.request 0x24000801
    ∷ Call.tick ∷ Call.credit 0 3 ∷ Call.request 0x24000C02 ∷ [])).history
    ≡ requested 0x24000000 (accepted 0x24000001) ∷ requested 0x24000400 (accepted 0x24000402) ∷ ticked (some 0) ∷ credited 0 5 (accepted tt)
    ∷ requested 0x24000801 (accepted 0x24000805) ∷ ticked (some 0) ∷ credited 0 3 (accepted tt) ∷ requested 0x24000C02 (accepted 0x24000C04) ∷ []
unfolding delays-compute
slots-out-of-order = refl

-- F = 2, W = 3, share 1, one cell. A tile that waits for a cell and is asked for again in the next frame gets 20 with its old departure, and is granted slot 6
-- with the current position.
pub waits-with-its-departure :
    reverse (run reference (plan_of (plan1 2 3 8 1 1)) (Call.request 0x24000000 ∷ Call.tick ∷ Call.request 0x24000401 ∷ Call.tick ∷ Call.credit 0 3
    ∷ Call.request 0x24000401 ∷ Call.request 0x24000402 ∷ [])).history
    ≡ requested 0x24000000 (accepted 0x24000001) ∷ ticked (some 0) ∷ requested 0x24000401 (refused 12) ∷ ticked none ∷ credited 0 3 (accepted tt)
    ∷ requested 0x24000401 (refused 20) ∷ requested 0x24000402 (accepted 0x24000400) ∷ []
unfolding delays-compute
waits-with-its-departure = refl
