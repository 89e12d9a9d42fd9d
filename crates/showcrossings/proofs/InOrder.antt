-- A stream that is granted its slots in order: which tile comes next. Assumes nothing.
use Prim.Native.Nat.{ℕ, suc, ◌+◌, ◌≤◌, ◌<◌}
use mathlib.Core.Path.{◌≡◌, refl, ap}
use mathlib.Core.List.{List, ◌∷◌, []}
use mathlib.Core.Bool.{Bool, true, false, ◌&&◌, cond}
use native.Mathlib.Decide.{dec_le, ℕ_discrete}
use native.Mathlib.Omega.{arith}
use lib.Dec.{leb, eqb}
use lib.ListN.{length}
use borrow.Author.Tests.{le-leb, lt-leb, eq-eqb}
use Rattle.model.specs.Tables.{bit, tally}
use Rattle.model.specs.Word.{flow_of, departure_of}
use Rattle.model.specs.Plan.{Plan}
use Rattle.model.specs.Calls.{Event, History, requested, credited, ticked, lent, accepted, refused}
use Rattle.model.specs.History.{Mark, ticks, slot_after, grants, of_flow, at_slot}
use Rattle.model.specs.Claim.{Each}
use Rattle.arrival.specs.SeveralLinks.{slots_of, sent_slots, tile}
use Rattle.arrival.specs.BooksInOrder.{AfterThoseAt}
use Rattle.model.proofs.Tallies.{All, tally-hit, tally-skip}
use Rattle.model.proofs.HistoryCounts.{NoneGranted}
use Rattle.arrival.proofs.TileSlots.{tile-newest, tile-older}
use Rattle.arrival.proofs.NextLink.{grants-are, sent-own, sent-other}

-- ---- slots from the newest to the oldest, each before those behind it

-- how many are up to slot s
abbrev pub up_to_slot : ℕ → List ℕ → ℕ
up_to_slot s = tally (λ t. leb t s)

abbrev pub Descends : List ℕ → Type 0
Descends [] = Unit {0}
Descends (s ∷ older) = All (λ t. t < s) older × Descends older

all-up-to : (s : ℕ) (ts : List ℕ) → All (λ t. t < s) ts → (k : ℕ) → s ≤ k → up_to_slot k ts ≡ length ts
unfolding tally
all-up-to s [] all k le = refl
all-up-to s (t ∷ ts) all k le = omega (arith, ap bit (le-leb t k (omega (arith, all.0))), all-up-to s ts all.1 k le)

pub up-to-length : (k : ℕ) (ts : List ℕ) → up_to_slot k ts ≤ length ts
unfolding tally
up-to-length k [] = omega arith
up-to-length k (t ∷ ts) = go (leb t k) (up-to-length k ts)
  where
    go : (b : Bool) → up_to_slot k ts ≤ length ts → bit b + up_to_slot k ts ≤ suc (length ts)
    go true rest = omega (arith, rest)
    go false rest = omega (arith, rest)

-- tile m is among those up to slot k
pub tile-up-to : (ts : List ℕ) → Descends ts → (k m : ℕ) → m < up_to_slot k ts → tile m ts ≤ k
unfolding tally
tile-up-to [] down k m lt = absurd (omega arith)
tile-up-to (s ∷ older) down k m lt = go (dec_le s k) (ℕ_discrete m (length older)) (tile-up-to older down.1 k m)
  where
    go : Dec (s ≤ k) → Dec (m ≡ length older) → (m < up_to_slot k older → tile m older ≤ k) → tile m (s ∷ older) ≤ k
    go (yes le) (yes last) rest = omega (arith, ap (λ n. tile n (s ∷ older)) last, tile-newest s older)
    go (yes le) (no d) rest =
        let all = all-up-to s older down.0 k le in
        let below : m < length older = omega (arith, lt, tally-hit (λ t. leb t k) s older (le-leb s k le)) in
        omega (arith, tile-older s older m below, rest (omega arith))
    go (no past) d rest =
        let here : m < up_to_slot k older = omega (arith, lt, tally-skip (λ t. leb t k) s older (lt-leb s k (omega arith))) in
        omega (arith, rest here, tile-older s older m (omega (arith, up-to-length k older)))

pub tile-past : (ts : List ℕ) → Descends ts → (k m : ℕ) → up_to_slot k ts ≤ m → m < length ts → k < tile m ts
unfolding tally
tile-past [] down k m le lt = absurd (omega arith)
tile-past (s ∷ older) down k m le lt = go (dec_le s k) (ℕ_discrete m (length older)) (tile-past older down.1 k m)
  where
    go : Dec (s ≤ k) → Dec (m ≡ length older) → (up_to_slot k older ≤ m → m < length older → k < tile m older) → k < tile m (s ∷ older)
    go (yes low) d rest =
        absurd (omega (arith, all-up-to s older down.0 k low, le, lt, tally-hit (λ t. leb t k) s older (le-leb s k low)))
    go (no past) (yes last) rest = omega (arith, ap (λ n. tile n (s ∷ older)) last, tile-newest s older)
    go (no past) (no d) rest =
        let here : up_to_slot k older ≤ m = omega (arith, le, tally-skip (λ t. leb t k) s older (lt-leb s k (omega arith))) in
        omega (arith, rest here (omega arith), tile-older s older m (omega arith))

-- ---- a stream that is granted each slot after those before it

all_from : (R : ℕ → Type 0) (ts : List ℕ) → ((t : ℕ) → 0 < tally (λ u. eqb u t) ts → R t) → All R ts
unfolding tally
all_from R [] each = tt
all_from R (s ∷ ts) each = (
  each s (omega (arith, tally-hit (λ u. eqb u s) s ts (eq-eqb s s refl))),
  all_from R ts (λ t some-there. each t (omega (arith, some-there))),
)

at_slots : (i s : ℕ) (ms : List Mark) → tally (λ m. of_flow i m && at_slot s m) ms ≡ tally (λ t. eqb t s) (slots_of i ms)
unfolding tally slots_of
at_slots i s [] = refl
at_slots i s (m ∷ ms) = go (eqb m.flow i) (at_slots i s ms)
  where
    go : (b : Bool) → tally (λ m. of_flow i m && at_slot s m) ms ≡ tally (λ t. eqb t s) (slots_of i ms)
        → bit (b && eqb m.slot s) + tally (λ m. of_flow i m && at_slot s m) ms ≡ tally (λ t. eqb t s) (cond b (m.slot ∷ slots_of i ms) (slots_of i ms))
    go true rest = omega (arith, rest)
    go false rest = omega (arith, rest)

pub sent-descends : (P : Plan) (i : ℕ) (h : History) → NoneGranted h → Each (AfterThoseAt P i) h → Descends (sent_slots P h i)
unfolding grants slots_of
sent-descends P i [] none ordered = tt
sent-descends P i (requested w (accepted v) ∷ h) none ordered = go (sent-descends P i h none.1 ordered.1) (ℕ_discrete (flow_of w) i)
  where
    s : ℕ
    s = slot_after P (ticks h) (departure_of v)

    before : flow_of w ≡ i → (t : ℕ) → 0 < tally (λ u. eqb u t) (sent_slots P h i) → t < s
    before own t some-there =
        let there : 0 < tally (λ m. of_flow i m && at_slot t m) (grants P h) = omega (arith, some-there, at_slots i t (grants P h)) in
        ordered.0 own t (rw (grants-are P h none.1) there)

    go : Descends (sent_slots P h i) → Dec (flow_of w ≡ i) → Descends (sent_slots P (requested w (accepted v) ∷ h) i)
    go rest (yes own) = rw (sent-own P w v h i own) (all_from (λ t. t < s) (sent_slots P h i) (before own), rest)
    go rest (no other) = rw (sent-other P w v h i other) rest
sent-descends P i (requested w (refused r) ∷ h) none ordered = sent-descends P i h none.1 ordered.1
sent-descends P i (credited j p a ∷ h) none ordered = sent-descends P i h none.1 ordered.1
sent-descends P i (ticked x ∷ h) none ordered = sent-descends P i h none.1 ordered.1
sent-descends P i (lent m a ∷ h) none ordered = sent-descends P i h none.1 ordered.1
sent-descends P i (Event.reset a ∷ h) none ordered = sent-descends P i h none.1 ordered.1
