-- What a stream holds from the next frame on, where its grants are soon and its cells are given back `late` frames late: tiles of late + 2 frames.
-- Assumes nothing.
use Prim.Native.Nat.{ℕ, zero, suc, ◌+◌, ◌-◌, ◌*◌, ◌%◌, ◌≤◌, ◌<◌}
use mathlib.Core.Path.{◌≡◌, refl, ap}
use mathlib.Core.List.{List, [], ◌∷◌}
use mathlib.Core.Bool.{Bool, true, false, ◌&&◌}
use native.Mathlib.Nat.{mul-le-mul_right}
use native.Mathlib.Decide.{dec_lt, ℕ_discrete}
use native.Mathlib.Omega.{arith}
use lib.Dec.{leb, ltb, eqb}
use borrow.Author.Tests.{leb-true, le-leb, ltb-false, eqb-true, eq-eqb, ne_eqb}
use Rattle.model.specs.Tables.{bit, tally, sum, within}
use Rattle.model.specs.Word.{flow_of, departure_of}
use Rattle.model.specs.Plan.{Plan, flow_count, entry, Accepted}
use Rattle.model.specs.Calls.{Event, History, requested, credited, ticked, lent, accepted, refused}
use Rattle.model.specs.History.{Mark, ticks, slot_after, frame_of, grants, credits, lends, of_flow, in_frame, up_to, granted_up_to, credited_up_to}
use Rattle.model.specs.Claim.{EachSince}
use Rattle.arrival.specs.Delay.{current_frame, made_since, made_in, RoomFrom, GrantedSoonAt}
use Rattle.arrival.specs.EnoughCells.{last_of}
use Rattle.arrival.specs.SharesOfCells.{GivenBack}
use Rattle.model.proofs.Tests.{and-true, and-false}
use Rattle.model.proofs.Tallies.{All, all_map, Classed, sum-le, sum-const, tally-le, tally-none, tally-split}
use Rattle.model.proofs.Slots.{frame-low, frame-high, frame-stays, frame_changes}
use Rattle.model.proofs.Marks.{mark, in-frame-hit, in-frame-skip, in-frame-other}
use Rattle.model.proofs.HistoryCounts.{NoneGranted}
use Rattle.model.proofs.EventsOfRuns.{Counts}
use Rattle.arrival.proofs.NextLink.{grants-are}
use Rattle.arrival.proofs.EnoughCells.{below, all_of, up-to-more, below_none, below-up-to, soon-marks}

-- ---- marks up to a slot, by those before frame a, those of frames a to a + n and those of frame g

module _ {P : Plan} (ok : Accepted P) (i s a n g : ℕ) where
  abbrev pub spans : Mark → Bool
  spans m = of_flow i m && within a (a + n) (frame_of P m.slot)

  -- flow i's mark up to s that is not of frame g is of frame a + n at the latest
  abbrev pub Near : Mark → Type 0
  Near m = m.flow ≡ i → m.slot ≤ s → (frame_of P m.slot ≡ g → ⊥) → frame_of P m.slot ≤ a + n

  one-mark : (m : Mark) → Near m → bit (up_to i s m) ≤ bit (below i (a * P.slots) m) + (bit (in_frame P i g m) + bit (spans m))
  one-mark m near = go (of_flow i m) refl (leb m.slot s) refl (ltb m.slot (a * P.slots)) refl (ℕ_discrete f g)
    where
      f : ℕ
      f = frame_of P m.slot

      go : (x : Bool) → of_flow i m ≡ x → (y : Bool) → leb m.slot s ≡ y → (z : Bool) → ltb m.slot (a * P.slots) ≡ z → Dec (f ≡ g)
          → bit (x && y) ≤ bit (x && z) + (bit (x && eqb f g) + bit (x && within a (a + n) f))
      go false own y up z lt d = omega arith
      go true own false up z lt d = omega arith
      go true own true up true lt d = omega arith
      go true own true up false lt (yes e) = rw (eq-eqb f g e) (omega arith)
      go true own true up false lt (no d) =
          let from : a ≤ f = frame-low ok a m.slot (ltb-false m.slot (a * P.slots) lt) in
          let to : f ≤ a + n = near (eqb-true m.flow i own) (leb-true m.slot s up) d in
          rw (le-leb a f from, le-leb f (a + n) to) (omega arith)

  by_parts : (ms : List Mark) → All Near ms → tally (up_to i s) ms ≤ tally (below i (a * P.slots)) ms + (tally (in_frame P i g) ms + tally spans ms)
  unfolding tally
  by_parts [] near = omega arith
  by_parts (m ∷ ms) near = omega (arith, one-mark m near.0, by_parts ms near.1)

  frame-by-frame : (ms : List Mark) → tally spans ms ≤ sum (suc n) (λ k. tally (in_frame P i (a + k)) ms)
  frame-by-frame ms = tally-split (suc n) spans (λ k. in_frame P i (a + k)) ms (all_of _ in_one ms)
    where
      in_one : (m : Mark) → spans m ≡ true → Classed (suc n) (λ k. in_frame P i (a + k)) m
      in_one m e =
          let f = frame_of P m.slot in
          let both = and-true (of_flow i m) (within a (a + n) f) e in
          let ends = and-true (leb a f) (leb f (a + n)) both.1 in
          let from = leb-true a f ends.0 in
          let to = leb-true f (a + n) ends.1 in
          record { class = f - a; below = omega arith; belongs = rw both.0 (eq-eqb f (a + (f - a)) (omega arith)) }

  pub from-frame : (ms : List Mark) → All Near ms
      → tally (up_to i s) ms ≤ tally (below i (a * P.slots)) ms + (tally (in_frame P i g) ms + sum (suc n) (λ k. tally (in_frame P i (a + k)) ms))
  from-frame ms near = omega (arith, by_parts ms near, frame-by-frame ms)

module _ {P : Plan} (ok : Accepted P) (i : ℕ) (known : i < flow_count P) where
  -- ---- what is booked in the next frame was made in this one

  grant-made : (w v : ℕ) (h : History) → GrantedSoonAt P i (requested w (accepted v)) h
      → tally (in_frame P i (suc (current_frame P h))) (grants P h) ≤ made_in P h i (current_frame P h)
      → tally (in_frame P i (suc (current_frame P h))) (grants P (requested w (accepted v) ∷ h)) ≤ made_in P (requested w (accepted v) ∷ h) i (current_frame P h)
  unfolding grants made_since
  grant-made w v h soon so_far = go (ℕ_discrete (flow_of w) i) (ℕ_discrete (frame_of P slot) next)
    where
      slot : ℕ
      slot = slot_after P (ticks h) (departure_of v)

      next : ℕ
      next = suc (current_frame P h)

      go : Dec (flow_of w ≡ i) → Dec (frame_of P slot ≡ next)
          → tally (in_frame P i next) (mark (flow_of w) slot ∷ grants P h) ≤ tally (in_frame P i (current_frame P h)) (mark (flow_of w) (ticks h) ∷ made_since h)
      go (yes own) (yes there) =
          omega (
            arith,
            in-frame-hit P i next (mark (flow_of w) slot) (grants P h) own there,
            in-frame-hit P i (current_frame P h) (mark (flow_of w) (ticks h)) (made_since h) own refl,
          )
      go (yes own) (no elsewhere) =
          omega (
            arith,
            in-frame-skip P i next (mark (flow_of w) slot) (grants P h) elsewhere,
            in-frame-hit P i (current_frame P h) (mark (flow_of w) (ticks h)) (made_since h) own refl,
          )
      go (no other) d =
          omega (
            arith,
            in-frame-other P i next (mark (flow_of w) slot) (grants P h) other,
            in-frame-other P i (current_frame P h) (mark (flow_of w) (ticks h)) (made_since h) other,
          )

  next-made : (h : History) → NoneGranted h → EachSince (GrantedSoonAt P i) h
      → tally (in_frame P i (suc (current_frame P h))) (grants P h) ≤ made_in P h i (current_frame P h)
  unfolding ticks grants made_since tally
  next-made [] none soon = omega arith
  next-made (requested w (accepted v) ∷ h) none soon = grant-made w v h soon.0 (next-made h none.1 soon.1)
  next-made (requested w (refused r) ∷ h) none soon = next-made h none.1 soon.1
  next-made (credited j p a ∷ h) none soon = next-made h none.1 soon.1
  next-made (lent m a ∷ h) none soon = next-made h none.1 soon.1
  next-made (Event.reset (accepted u) ∷ h) none soon = absurd (let z : ◌≡◌ {A = ℕ} 1 0 = ap bit none.0 in omega arith)
  next-made (Event.reset (refused r) ∷ h) none soon = next-made h none.1 soon.1
  next-made (ticked x ∷ h) none soon = go (next-made h none.1 soon.1) (ℕ_discrete (suc (ticks h) % P.slots) 0)
    where
      now : ℕ
      now = frame_of P (suc (ticks h))

      go : tally (in_frame P i (suc (current_frame P h))) (grants P h) ≤ made_in P h i (current_frame P h) → Dec (suc (ticks h) % P.slots ≡ 0)
          → tally (in_frame P i (suc now)) (grants P h) ≤ made_in P h i now
      go rest (no same) = let stays = frame-stays ok (ticks h) same in rw stays rest
      go rest (yes change) =
          let begins : now ≡ suc (current_frame P h) = frame_changes ok (ticks h) change in
          omega (arith, tally-none (in_frame P i (suc now)) (grants P h) (all_map _ _ not_yet (grants P h) (soon-marks ok i known h none.1 soon.1)))
        where
          not_yet : (m : Mark) → (m.flow ≡ i → frame_of P m.slot ≤ current_frame P h + 1) → in_frame P i (suc now) m ≡ false
          not_yet m near = own (ℕ_discrete m.flow i)
            where
              own : Dec (m.flow ≡ i) → in_frame P i (suc now) m ≡ false
              own (yes e) = rw (ne_eqb (frame_of P m.slot) (suc now) (λ z. omega (arith, near e, frame_changes ok (ticks h) change))) (and-false (of_flow i m))
              own (no d) = rw (ne_eqb m.flow i d)

  -- ---- room from the next frame on, where it holds less than late + 2 shares

  -- no more than the share lies in a frame
  pub most : (h : History) → NoneGranted h → Counts P h → (a : ℕ) → tally (in_frame P i a) (grants P h) ≤ (entry P i).share
  most h none c a = omega (arith, c.in_frames i known a, ap (tally (in_frame P i a)) (grants-are P h none))

  -- where tiles of the frames before frame o are given back by the end of frame late + 1 after theirs, they are so by slot s of frame o + late + 1 or a later one
  pub before-frame : (late : ℕ) (h : History) (e o s : ℕ)
      → ((r : ℕ) → frame_of P r < o → granted_up_to P h i r ≤ credited_up_to P h i (last_of P (frame_of P r + late + 1)))
      → (0 < o → o + late + 1 ≤ e) → e * P.slots ≤ s → tally (below i (o * P.slots)) (grants P h) ≤ credited_up_to P h i s
  before-frame late h e zero s back far le =
      let none : 0 * P.slots ≡ 0 = omega arith in
      omega (arith, below_none i (grants P h), ap (λ b. tally (below i b) (grants P h)) none)
  before-frame late h e (suc o) s back far le =
      let r = suc o * P.slots - 1 in
      let starts : suc o * P.slots ≡ suc r = omega (arith, ok.some_slot) in
      let before : frame_of P r < suc o = frame-high ok (suc o) r (omega arith) in
      let ends : (frame_of P r + late + 1 + 1) * P.slots ≤ e * P.slots = mul-le-mul_right P.slots (omega (arith, far (omega arith))) in
      omega (
        arith,
        below-up-to i r (grants P h),
        ap (λ b. tally (below i b) (grants P h)) starts,
        back r before,
        up-to-more i (last_of P (frame_of P r + late + 1)) s (omega arith) (credits P h),
      )

  pub older-given-back : (late : ℕ) (h : History) → GivenBack late P i h → (s : ℕ) → (current_frame P h + 1) * P.slots ≤ s
      → tally (below i ((current_frame P h - late) * P.slots)) (grants P h) ≤ credited_up_to P h i s
  older-given-back late h given_back s le =
      before-frame late h (current_frame P h + 1) (current_frame P h - late) s (λ r lt. given_back r (omega arith)) (λ some. omega arith) le

  pub room_next : (late : ℕ) (h : History) → NoneGranted h → EachSince (GrantedSoonAt P i) h → GivenBack late P i h → tally (of_flow i) (lends h) ≡ 0
      → Counts P h → (late + 2) * (entry P i).share ≤ (entry P i).cells + 0 → made_in P h i (current_frame P h) < (entry P i).share
      → RoomFrom P i ((current_frame P h + 1) * P.slots) h
  room_next late h none soon given_back not_lent c enough few s le =
      omega (
        arith,
        from-frame ok i s oldest late (suc f) (grants P h) (all_map _ _ near (grants P h) (soon-marks ok i known h none soon)),
        sum-le (suc late) (λ k. tally (in_frame P i (oldest + k)) (grants P h)) (λ k. (entry P i).share) (λ k lt. most h none c (oldest + k)),
        sum-const (suc late) (entry P i).share,
        older-given-back late h given_back s le,
        next-made h none soon,
        tally-le (up_to i s) (of_flow i) (λ m e. (and-true (of_flow i m) (leb m.slot s) e).0) (lends h),
      )
    where
      f : ℕ
      f = current_frame P h

      -- the oldest frame of which cells may be held from the next frame on
      oldest : ℕ
      oldest = f - late

      near : (m : Mark) → (m.flow ≡ i → frame_of P m.slot ≤ f + 1) → Near ok i s oldest late (suc f) m
      near m soon-enough own up other = omega (arith, soon-enough own)

  -- ---- room in this frame too, where less than the share of it is booked in it

  pub room-now : (late : ℕ) (h : History) → NoneGranted h → EachSince (GrantedSoonAt P i) h → GivenBack late P i h → tally (of_flow i) (lends h) ≡ 0
      → Counts P h → (late + 2) * (entry P i).share ≤ (entry P i).cells + 0 → made_in P h i (current_frame P h) < (entry P i).share
      → tally (in_frame P i (current_frame P h)) (grants P h) < (entry P i).share → RoomFrom P i (current_frame P h * P.slots) h
  room-now late h none soon given_back not_lent c enough few left s le = go (dec_lt s ((f + 1) * P.slots))
    where
      f : ℕ
      f = current_frame P h

      -- the oldest frame of which cells may be held in this one
      oldest : ℕ
      oldest = f - 1 - late

      go : Dec (s < (f + 1) * P.slots) → tally (up_to i s) (grants P h) + tally (up_to i s) (lends h) < credited_up_to P h i s + (entry P i).cells
      go (no next) = room_next late h none soon given_back not_lent c enough few s (omega arith)
      go (yes now) =
          omega (
            arith,
            from-frame ok i s oldest late f (grants P h) (all_of _ near (grants P h)),
            sum-le (suc late) (λ k. tally (in_frame P i (oldest + k)) (grants P h)) (λ k. (entry P i).share) (λ k lt. most h none c (oldest + k)),
            sum-const (suc late) (entry P i).share,
            before-frame late h f oldest s (λ r lt. given_back r (omega arith)) (λ some. omega arith) le,
            tally-le (up_to i s) (of_flow i) (λ m e. (and-true (of_flow i m) (leb m.slot s) e).0) (lends h),
          )
        where
          near : (m : Mark) → Near ok i s oldest late f m
          near m own up other = omega (arith, frame-high ok (f + 1) m.slot (omega arith))
