-- Sendings: no tile leaves late, no two in one slot, and no more of a flow than its cells; and they leave in order. Assumes nothing.
use Prim.Native.Nat.{ℕ, zero, suc, ◌+◌, ◌≤◌, ◌<◌}
use mathlib.Core.Path.{◌≡◌, refl, ap}
use mathlib.Core.List.{List, ◌∷◌, [], ◌++◌}
use mathlib.Core.Bool.{Bool, true, false, ◌&&◌, cond}
use native.Mathlib.Omega.{arith}
use lib.Dec.{leb, ltb, eqb}
use borrow.Author.Tests.{leb-true, le-leb, le-ltb, eqb-true}
use Rattle.model.specs.Tables.{bit, tally}
use Rattle.model.specs.Word.{departure_of}
use Rattle.model.specs.Plan.{Plan, flow_count, entry, plan_of}
use Rattle.model.specs.Calls.{Event, History, requested, credited, ticked, lent, accepted, refused}
use Rattle.model.specs.History.{Mark, ticks, slot_after, has_come, marks_of, grant_at, credit_at, lend_at, grants, credits, lends, up_to, owners_of}
use Rattle.model.specs.Claim.{Each, HeldAt, AfterDepartureAt, GrantedWordAt, Demand3}
use Rattle.model.specs.Claim as claim
use Rattle.model.specs.Scheduler.{Scheduler, Meets}
use Rattle.arrival.specs.Delay.{due_slot}
use Rattle.ahead.specs.Sendings.{Sending, nothing, event, ahead, Tile, tile_at, waits, ready, leaves_in, tiles, given_back, EachReady, EachCome}
use Rattle.ahead.specs.Sendings.{SentInTime, SentWell, SendsInTime, SendsWell}
use Rattle.model.proofs.Tests.{and-true}
use Rattle.model.proofs.Plan.{accepted as accepted_plan}
use Rattle.model.proofs.Tallies.{tally-append, tally-le}
use Rattle.model.proofs.NewestGrants.{slot-to-come}
use Rattle.arrival.proofs.AnsweredLends.{owners-more}
use Rattle.arrival.proofs.TimelyRequests.{due-if-come, due-if-not}

-- ---- a tile that leaves in another slot

-- what the waiting tile of flow i with slot s is
pub record Waits (i s : ℕ) (m : Tile) : Type 0 where
  pub flow : m.flow ≡ i
  pub slot : m.slot ≡ s
  pub leaves : m.leaves ≡ s

pub waits-is : (i s : ℕ) (m : Tile) → waits i s m ≡ true → Waits i s m
waits-is i s m e =
    let a = and-true (eqb m.flow i && eqb m.slot s) (eqb m.leaves s) e in
    let b = and-true (eqb m.flow i) (eqb m.slot s) a.0 in
    record { flow = eqb-true m.flow i b.0; slot = eqb-true m.slot s b.1; leaves = eqb-true m.leaves s a.1 }

-- a tile that is ready in slot t waits, and may leave in it
ready-waits : (i s t : ℕ) (m : Tile) → ready i s t m ≡ true → waits i s m ≡ true
ready-waits i s t m e = (and-true (waits i s m) _ e).0

ready-from : (i s t : ℕ) (m : Tile) → ready i s t m ≡ true → m.from ≤ t
ready-from i s t m e = leb-true m.from t (and-true (waits i s m) (leb m.from t) e).1

-- tiles counted by flow and by the slot in which they leave
abbrev by_leaving : (ℕ → ℕ → Bool) → Tile → Bool
by_leaving q m = q m.flow m.leaves

abbrev by_slot : (ℕ → ℕ → Bool) → Mark → Bool
by_slot q m = q m.flow m.slot

-- the count with the tile where it leaves now, and with it where it waited
moved-count : (q : ℕ → ℕ → Bool) (i s t : ℕ) (ms : List Tile) → 0 < tally (waits i s) ms
    → tally (by_leaving q) (leaves_in i s t ms) + bit (q i s) ≡ tally (by_leaving q) ms + bit (q i t)
unfolding tally leaves_in
moved-count q i s t [] some = absurd (omega arith)
moved-count q i s t (m ∷ ms) some = go (waits i s m) refl some (moved-count q i s t ms)
  where
    go : (b : Bool) → waits i s m ≡ b → 0 < bit b + tally (waits i s) ms
        → (0 < tally (waits i s) ms → tally (by_leaving q) (leaves_in i s t ms) + bit (q i s) ≡ tally (by_leaving q) ms + bit (q i t))
        → tally (by_leaving q) (cond b (record { flow = i; from = m.from; slot = s; leaves = t } ∷ ms) (m ∷ leaves_in i s t ms)) + bit (q i s)
        ≡ bit (q m.flow m.leaves) + tally (by_leaving q) ms + bit (q i t)
    go true e some rest = let w = waits-is i s m e in rw (w.flow, w.leaves) (omega arith)
    go false e some rest = omega (arith, rest (omega arith))

-- where no tile waits, none leaves
none-moved : (i s t : ℕ) (ms : List Tile) → tally (waits i s) ms ≡ 0 → leaves_in i s t ms ≡ ms
unfolding tally leaves_in
none-moved i s t [] none = refl
none-moved i s t (m ∷ ms) none = go (waits i s m) none (none-moved i s t ms)
  where
    go : (b : Bool) → bit b + tally (waits i s) ms ≡ 0 → (tally (waits i s) ms ≡ 0 → leaves_in i s t ms ≡ ms)
        → cond b (record { flow = i; from = m.from; slot = s; leaves = t } ∷ ms) (m ∷ leaves_in i s t ms) ≡ m ∷ ms
    go true none rest = absurd (omega arith)
    go false none rest = ap (m ∷◌) (rest (omega arith))

-- what the count rises by, at most: in all, and where a slot counts if a later one does
moved-most : (q : ℕ → ℕ → Bool) (i s t : ℕ) (ms : List Tile) → tally (by_leaving q) (leaves_in i s t ms) ≤ tally (by_leaving q) ms + bit (q i t)
moved-most q i s t ms = go (tally (waits i s) ms) refl
  where
    go : (n : ℕ) → tally (waits i s) ms ≡ n → tally (by_leaving q) (leaves_in i s t ms) ≤ tally (by_leaving q) ms + bit (q i t)
    go zero e = omega (arith, ap (tally (by_leaving q)) (none-moved i s t ms e))
    go (suc n) e = omega (arith, moved-count q i s t ms (omega arith))

moved-up-to : (q : ℕ → ℕ → Bool) (i s t : ℕ) (ms : List Tile) → bit (q i s) ≤ bit (q i t)
    → tally (by_leaving q) (leaves_in i s t ms) + bit (q i s) ≤ tally (by_leaving q) ms + bit (q i t)
moved-up-to q i s t ms le = go (tally (waits i s) ms) refl
  where
    go : (n : ℕ) → tally (waits i s) ms ≡ n → tally (by_leaving q) (leaves_in i s t ms) + bit (q i s) ≤ tally (by_leaving q) ms + bit (q i t)
    go zero e = omega (arith, ap (tally (by_leaving q)) (none-moved i s t ms e))
    go (suc n) e = omega (arith, moved-count q i s t ms (omega arith))

-- ---- tiles, grants, lends and credits

module _ (P : Plan) where
  -- the slots that tiles were sent ahead of
  abbrev dates : {h : History} → Sending h → List Mark
  dates nothing = []
  dates (event e x) = dates x
  dates (ahead {h = h} i p x) = record { flow = i; slot = slot_after P (ticks h) p } ∷ dates x

  new-count : (q : ℕ → ℕ → Bool) (e : Event) (h : History)
      → tally (by_leaving q) (tile_at P e h) ≡ tally (by_slot q) (grant_at P e h) + tally (by_slot q) (lend_at e h)
  unfolding tally
  new-count q (requested w (accepted v)) h = omega arith
  new-count q (requested w (refused r)) h = refl
  new-count q (credited i p a) h = refl
  new-count q (ticked x) h = refl
  new-count q (lent m (accepted i)) h = omega arith
  new-count q (lent m (refused r)) h = refl
  new-count q (Event.reset a) h = refl

  -- what an event gives
  one_more : (q : ℕ → ℕ → Bool) {h : History} (e : Event) (x : Sending h) (d : ℕ)
      → tally (by_leaving q) (tiles P x) + d ≤ tally (by_slot q) (grants P h) + tally (by_slot q) (lends h)
      → tally (by_leaving q) (tile_at P e h ++ tiles P x) + d ≤ tally (by_slot q) (grants P (e ∷ h)) + tally (by_slot q) (lends (e ∷ h))
  unfolding grants lends marks_of
  one_more q {h} e x d so_far =
      omega (
        arith,
        tally-append (by_leaving q) (tile_at P e h) (tiles P x),
        new-count q e h,
        tally-append (by_slot q) (grant_at P e h) (grants P h),
        tally-append (by_slot q) (lend_at e h) (lends h),
      )

  -- at most a tile for each grant and each lend
  tile-most : (q : ℕ → ℕ → Bool) {h : History} (x : Sending h) → tally (by_leaving q) (tiles P x) + 0 ≤ tally (by_slot q) (grants P h) + tally (by_slot q) (lends h)
  unfolding tally grants lends marks_of
  tile-most q nothing = omega arith
  tile-most q (event e x) = one_more q e x 0 (tile-most q x)
  tile-most q (ahead {h = h} i p x) = omega (arith, moved-most q i (slot_after P (ticks h) p) (ticks h) (tiles P x), tile-most q x)

  -- and the pairs' dates are among them, where a slot counts if a later one does
  tile-up-to : (q : ℕ → ℕ → Bool) → ((i s t : ℕ) → t < s → bit (q i s) ≤ bit (q i t)) → {h : History} (x : Sending h)
      → tally (by_leaving q) (tiles P x) + tally (by_slot q) (dates x) ≤ tally (by_slot q) (grants P h) + tally (by_slot q) (lends h)
  unfolding tally grants lends marks_of
  tile-up-to q falls nothing = omega arith
  tile-up-to q falls (event e x) = one_more q e x (tally (by_slot q) (dates x)) (tile-up-to q falls x)
  tile-up-to q falls (ahead {h = h} i p x) =
      let s = slot_after P (ticks h) p in
      omega (arith, moved-up-to q i s (ticks h) (tiles P x) (falls i s (ticks h) (slot-to-come P (ticks h) p)), tile-up-to q falls x)

  credit-count : (f : Mark → Bool) {h : History} (x : Sending h) → tally f (credits P h) ≡ tally f (given_back P x) + tally f (dates x)
  unfolding tally credits marks_of ticks
  credit-count f nothing = refl
  credit-count f (event {h = h} e x) =
      omega (arith, tally-append f (credit_at P e h) (credits P h), tally-append f (credit_at P e h) (given_back P x), credit-count f x)
  credit-count f (ahead {h = h} {m = m} i p x) =
      let dated = bit (f (record { flow = i; slot = slot_after P (ticks h) p })) in
      let one_more : tally f (credits P (credited i p (accepted tt) ∷ lent m (accepted i) ∷ h)) ≡ dated + tally f (credits P h) = refl in
      let sent : tally f (dates (ahead {h = h} {m = m} i p x)) ≡ dated + tally f (dates x) = refl in
      let given : tally f (given_back P (ahead {h = h} {m = m} i p x)) ≡ tally f (given_back P x) = refl in
      omega (arith, one_more, sent, given, credit-count f x)

  -- ---- never late

  abbrev late : Tile → Bool
  late m = ltb m.slot m.leaves

  moved-late : (i s t : ℕ) (ms : List Tile) → t ≤ s → tally late ms ≡ 0 → tally late (leaves_in i s t ms) ≡ 0
  unfolding tally leaves_in
  moved-late i s t [] le none = refl
  moved-late i s t (m ∷ ms) le none = go (waits i s m) (moved-late i s t ms le)
    where
      go : (b : Bool) → (tally late ms ≡ 0 → tally late (leaves_in i s t ms) ≡ 0)
          → tally late (cond b (record { flow = i; from = m.from; slot = s; leaves = t } ∷ ms) (m ∷ leaves_in i s t ms)) ≡ 0
      go true rest = rw (le-ltb s t le) (omega arith)
      go false rest = omega (arith, rest (omega arith))

  new-late : (e : Event) (h : History) → tally late (tile_at P e h) ≡ 0
  unfolding tally
  new-late (requested w (accepted v)) h = rw (le-ltb (slot_after P (ticks h) (departure_of v)) (slot_after P (ticks h) (departure_of v)) (omega arith)) refl
  new-late (requested w (refused r)) h = refl
  new-late (credited i p a) h = refl
  new-late (ticked x) h = refl
  new-late (lent m (accepted i)) h = rw (le-ltb (ticks h) (ticks h) (omega arith)) refl
  new-late (lent m (refused r)) h = refl
  new-late (Event.reset a) h = refl

  pub none-late : {h : History} (x : Sending h) → tally late (tiles P x) ≡ 0
  unfolding tally
  none-late nothing = refl
  none-late (event {h = h} e x) = omega (arith, tally-append late (tile_at P e h) (tiles P x), new-late e h, none-late x)
  none-late (ahead {h = h} i p x) =
      moved-late i (slot_after P (ticks h) p) (ticks h) (tiles P x) (omega (arith, slot-to-come P (ticks h) p)) (none-late x)

  -- ---- never early

  abbrev early : Tile → Bool
  early m = ltb m.leaves m.from

  -- each tile that waits for slot s is ready, if as many are as wait
  moved-early : (i s t : ℕ) (ms : List Tile) → tally (waits i s) ms ≤ tally (ready i s t) ms → tally early ms ≡ 0 → tally early (leaves_in i s t ms) ≡ 0
  unfolding tally leaves_in
  moved-early i s t [] all none = refl
  moved-early i s t (m ∷ ms) all none = go (waits i s m) refl (ready i s t m) refl (moved-early i s t ms)
    where
      fewer : tally (ready i s t) ms ≤ tally (waits i s) ms
      fewer = tally-le (ready i s t) (waits i s) (λ m e. ready-waits i s t m e) ms

      go : (b : Bool) → waits i s m ≡ b → (d : Bool) → ready i s t m ≡ d
          → (tally (waits i s) ms ≤ tally (ready i s t) ms → tally early ms ≡ 0 → tally early (leaves_in i s t ms) ≡ 0)
          → tally early (cond b (record { flow = i; from = m.from; slot = s; leaves = t } ∷ ms) (m ∷ leaves_in i s t ms)) ≡ 0
      go true e true f rest = rw (le-ltb t m.from (ready-from i s t m f)) (omega arith)
      go true e false f rest = absurd (omega (arith, ap bit e, ap bit f, fewer))
      go false e d f rest =
          let another : ready i s t m ≡ false = rw e refl in
          omega (arith, rest (omega (arith, ap bit e, ap bit another)) (omega arith))

  -- a granted slot comes after the tile is due
  granted_later : (w v : ℕ) (h : History) → AfterDepartureAt P (requested w (accepted v)) h → GrantedWordAt P (requested w (accepted v)) h
      → due_slot P w h < slot_after P (ticks h) (departure_of v)
  granted_later w v h after word = go (has_come P (ticks h) (departure_of w)) refl
    where
      go : (b : Bool) → has_come P (ticks h) (departure_of w) ≡ b → due_slot P w h < slot_after P (ticks h) (departure_of v)
      go true e = omega (arith, due-if-come P w h e, slot-to-come P (ticks h) (departure_of v))
      go false e = omega (arith, due-if-not P w h e, after word.asked_well_formed e)

  new-early : (e : Event) (h : History) → AfterDepartureAt P e h → GrantedWordAt P e h → tally early (tile_at P e h) ≡ 0
  unfolding tally
  new-early (requested w (accepted v)) h after word =
      rw (le-ltb (slot_after P (ticks h) (departure_of v)) (suc (due_slot P w h)) (granted_later w v h after word)) refl
  new-early (requested w (refused r)) h after word = refl
  new-early (credited i p a) h after word = refl
  new-early (ticked x) h after word = refl
  new-early (lent m (accepted i)) h after word = rw (le-ltb (ticks h) (ticks h) (omega arith)) refl
  new-early (lent m (refused r)) h after word = refl
  new-early (Event.reset a) h after word = refl

  -- a slot has one owner at the most, and so had it before the last event
  abbrev OneOwner : History → Type 0
  OneOwner h = (s : ℕ) → owners_of P h s ≤ 1

  owned-before : (e : Event) (h : History) → OneOwner (e ∷ h) → OneOwner h
  owned-before e h one s = omega (arith, one s, owners-more P e h s)

  -- no two tiles wait for one slot
  one-waits : (i s : ℕ) {h : History} (x : Sending h) → OneOwner h → tally (waits i s) (tiles P x) ≤ 1
  one-waits i s x one =
      omega (
        arith,
        tally-le (waits i s) (λ m. eqb m.leaves s) (λ m e. (and-true (eqb m.flow i && eqb m.slot s) (eqb m.leaves s) e).1) (tiles P x),
        tile-most (λ j r. eqb r s) x,
        one s,
      )

  none-early : {h : History} (x : Sending h) → EachReady P x → OneOwner h → Each (AfterDepartureAt P) h → Each (GrantedWordAt P) h → tally early (tiles P x) ≡ 0
  unfolding tally
  none-early nothing each one after word = refl
  none-early (event {h = h} e x) each one after word =
      omega (
        arith,
        tally-append early (tile_at P e h) (tiles P x),
        new-early e h after.0 word.0,
        none-early x each (owned-before e h one) after.1 word.1,
      )
  none-early (ahead {h = h} {m = m} i p x) each one after word =
      let before : OneOwner h = owned-before _ h (owned-before _ (lent m (accepted i) ∷ h) one) in
      let s = slot_after P (ticks h) p in
      moved-early i s (ticks h) (tiles P x) (omega (arith, one-waits i s x before, each.0)) (none-early x each.1 before after.1.1 word.1.1)

  -- a tile that came before a slot has come in it
  pub ready-come : {h : History} (x : Sending h) → EachReady P x → EachCome P x
  ready-come nothing each = tt
  ready-come (event e x) each = ready-come x each
  ready-come (ahead {h = h} i p x) each =
      let s = slot_after P (ticks h) p in
      (omega (arith, each.0, tally-le (ready i s (ticks h)) (ready i s (suc (ticks h))) (λ m e. on s m e) (tiles P x)), ready-come x each.1)
    where
      on : (s : ℕ) (m : Tile) → ready i s (ticks h) m ≡ true → ready i s (suc (ticks h)) m ≡ true
      on s m e = rw (ready-waits i s (ticks h) m e, le-leb m.from (suc (ticks h)) (omega (arith, ready-from i s (ticks h) m e))) refl

  -- ---- by demand 3

  within_cells : (i s : ℕ) (h : History) → Each (HeldAt P i) h
      → tally (up_to i s) (grants P h) + tally (up_to i s) (lends h) ≤ tally (up_to i s) (credits P h) + (entry P i).cells
  unfolding tally grants lends credits marks_of
  within_cells i s [] held = omega arith
  within_cells i s (e ∷ h) held = let x = held.0 s in omega (arith, x.is, x.within)

  -- a slot is up to s if a later one is
  up-to-falls : (i s j r t : ℕ) → t < r → bit (eqb j i && leb r s) ≤ bit (eqb j i && leb t s)
  up-to-falls i s j r t lt = go (eqb j i) (leb r s) refl
    where
      go : (own late : Bool) → leb r s ≡ late → bit (own && late) ≤ bit (own && leb t s)
      go false late e = omega arith
      go true true e = rw (le-leb t s (omega (arith, leb-true r s e))) (omega arith)
      go true false e = omega arith

  pub sent-in-time : {h : History} (x : Sending h) → 0 < flow_count P → ((i : ℕ) → i < flow_count P → Demand3 P i h) → SentInTime P x
  sent-in-time {h} x some_flow claims = record {
    never_late = none-late x;
    never_over = λ i s known.
        omega (
          arith,
          tile-up-to (λ j r. eqb j i && leb r s) (up-to-falls i s) x,
          credit-count (up_to i s) x,
          within_cells i s h (claims i known claim.Clause.within_cells),
        );
    one_to_a_slot = λ s. omega (arith, tile-most (λ j r. eqb r s) x, claims 0 some_flow claim.Clause.one_owner s);
  }

  pub sent-well : {h : History} (x : Sending h) → EachReady P x → 0 < flow_count P → ((i : ℕ) → i < flow_count P → Demand3 P i h) → SentWell P x
  sent-well x each some_flow claims = record {
    never_early =
        none-early x each (claims 0 some_flow claim.Clause.one_owner) (claims 0 some_flow claim.Clause.after_departure)
        (claims 0 some_flow claim.Clause.granted-words);
    in_time = sent-in-time x some_flow claims;
  }

pub sends-in-time : (c : Scheduler) → Meets c → SendsInTime c
sends-in-time c meets bytes passes calls x = sent-in-time (plan_of bytes) x (accepted_plan bytes passes).some_flow (meets bytes passes calls)

pub sends-well : (c : Scheduler) → Meets c → SendsWell c
sends-well c meets bytes passes calls x each =
    sent-well (plan_of bytes) x each (accepted_plan bytes passes).some_flow (meets bytes passes calls)
