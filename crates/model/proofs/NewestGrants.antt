-- A flow that asks until it is refused with 11: in a frame after the first, each of its well-formed requests is granted exactly if fewer than its
-- share of them came before it in that frame, and then in the newest frame. Assumes nothing.
use Prim.Native.Nat.{ℕ, suc, ◌+◌, ◌-◌, ◌%◌, ◌≤◌, ◌<◌, min}
use mathlib.Core.Path.{◌≡◌, refl, ap, ◌∙◌}
use mathlib.Core.List.{[], ◌∷◌}
use mathlib.Core.Bool.{Bool, true, false}
use native.Mathlib.Nat.{zero-div}
use native.Mathlib.Decide.{dec_lt, ℕ_discrete}
use native.Mathlib.Omega.{arith}
use borrow.Author.Tests.{ne_eqb}
use Rattle.model.specs.Tables.{bit, tally}
use Rattle.model.specs.Word.{flow_of, departure_of}
use Rattle.model.specs.Plan.{Plan, flow_count, entry, Accepted}
use Rattle.model.specs.Calls.{Grant, TickAnswer, Event, History, requested, credited, ticked, lent, accepted, refused}
use Rattle.model.specs.History.{Mark, ticks, slot_after, frame_of, well_formed, is_granted_reset, origin, grants_since, refusals_since, of_flow, in_frame}
use Rattle.model.specs.History.{granted_in, refused_in}
use Rattle.model.specs.Claim.{Each}
use Rattle.model.specs.TwoRuns.{AsksUntil11}
use Rattle.model.proofs.Tests.{and-false}
use Rattle.model.proofs.Tallies.{all_map, tally-none}
use Rattle.model.proofs.Slots.{frame-begins, frame-low, frame-high, frame-stays, frame_changes}
use Rattle.model.proofs.Marks.{mark, in-frame-hit, in-frame-other}
use Rattle.model.proofs.Invariant.{Begun}
use Rattle.model.proofs.HistoryCounts.{NoneGranted, from-frame-0, refusals-with}
use Rattle.model.proofs.AfterHistory.{AskedOn}
use Rattle.model.proofs.EventsOfRuns.{Counts, Happened}
use Rattle.model.proofs.AskedInFrames.{asks, asked_in, asked-one-more, asked-ill-formed, asked-by-another, asked-later}
use Rattle.model.proofs.AskingUntil11.{asked-on, until-11-before}

-- the frame of the current slot, and the newest one
abbrev pub now : Plan → History → ℕ
now P h = frame_of P (ticks h)

abbrev pub newest_frame : Plan → History → ℕ
newest_frame P h = now P h + P.frames - 1

module _ (P : Plan) (i : ℕ) where
  -- In a frame after the first, the newest frame has as many of flow i's grants as it asked for in this one, up to its share.
  abbrev Exact : History → Type 0
  Exact h = 0 < now P h → granted_in P h i (newest_frame P h) ≡ min (entry P i).share (asked_in P h i (now P h))

  -- how a request of flow i is answered, by the number of those before it in its frame
  abbrev pub Decided : Grant → History → Type 0
  Decided (accepted v) h = (asked_in P h i (now P h) < (entry P i).share) × (frame_of P (slot_after P (ticks h) (departure_of v)) ≡ newest_frame P h)
  Decided (refused r) h = (entry P i).share ≤ asked_in P h i (now P h)

  abbrev pub DecidedAt : Event → History → Type 0
  DecidedAt (requested w a) h = well_formed P w ≡ true → flow_of w ≡ i → 0 < now P h → Decided a h
  DecidedAt (credited j p a) h = Unit {0}
  DecidedAt (ticked x) h = Unit {0}
  DecidedAt (lent m a) h = Unit {0}
  DecidedAt (Event.reset a) h = Unit {0}

pub slot-to-come : (P : Plan) (t p : ℕ) → t < slot_after P t p
unfolding slot_after
slot-to-come P t p = omega arith

module _ {P : Plan} (ok : Accepted P) {i : ℕ} (known : i < flow_count P) {h : History} (from-0 : origin P h ≡ 0) (asked : AskedOn P h i) where
  abbrev share : ℕ
  share = (entry P i).share

  abbrev newest : ℕ
  newest = newest_frame P h

  -- ---- a grant

  module _ (w v : ℕ) (x : Happened P (requested w (accepted v)) h) where
    abbrev slot : ℕ
    slot = slot_after P (ticks h) (departure_of v)

    abbrev with_it : History
    with_it = requested w (accepted v) ∷ h

    -- the frames before the newest have the whole share already
    falls-in-newest : flow_of w ≡ i → 0 < now P h → frame_of P slot ≡ newest
    unfolding ticks grants_since
    falls-in-newest own later = go (dec_lt frame newest)
      where
        frame : ℕ
        frame = frame_of P slot

        low : now P h ≤ frame
        low = frame-low ok (now P h) slot (omega (arith, slot-to-come P (ticks h) (departure_of v), frame-begins ok (ticks h)))

        high : frame < now P h + P.frames
        high = frame-high ok (now P h + P.frames) slot (omega (arith, x.counts_after.begun.0))

        go : Dec (frame < newest) → frame ≡ newest
        go (no at_least_lem) = omega (arith, high)
        go (yes before) =
            let full = x.counts_before.after_a_change i known asked (omega (arith, from-0)) frame (omega (arith, from-0, low)) before in
            let most = x.counts_after.in_frames i known frame in
            absurd (omega (arith, in-frame-hit P i frame (mark (flow_of w) slot) (grants_since P h) own refl))

    grant-decided : Exact P i h → DecidedAt P i (requested w (accepted v)) h
    unfolding grants_since
    grant-decided exact well own later =
        let in-newest = falls-in-newest own later in
        let most = x.counts_after.in_frames i known newest in
        let one_more = in-frame-hit P i newest (mark (flow_of w) slot) (grants_since P h) own in-newest in
        (omega (arith, exact later), in-newest)

    grant-exact : Exact P i h → Exact P i with_it
    unfolding ticks grants_since
    grant-exact exact later = go (ℕ_discrete (flow_of w) i)
      where
        go : Dec (flow_of w ≡ i) → granted_in P with_it i newest ≡ min share (asked_in P with_it i (now P h))
        go (yes own) =
            let most = x.counts_after.in_frames i known newest in
            omega (
              arith,
              exact later,
              in-frame-hit P i newest (mark (flow_of w) slot) (grants_since P h) own (falls-in-newest own later),
              asked-one-more P w (accepted v) h i x.word.asked_well_formed own,
            )
        go (no other) =
            omega (
              arith,
              exact later,
              in-frame-other P i newest (mark (flow_of w) slot) (grants_since P h) other,
              asked-by-another P w (accepted v) h i (now P h) other,
            )

  -- ---- a refusal

  module _ (w r : ℕ) (x : Happened P (requested w (refused r)) h) (asked-too : AskedOn P (requested w (refused r) ∷ h) i) where
    abbrev with-refusal : History
    with-refusal = requested w (refused r) ∷ h

    -- the newest frame has the whole share too
    newest-full : well_formed P w ≡ true → flow_of w ≡ i → 0 < now P h → granted_in P h i newest ≡ share
    unfolding ticks origin grants_since
    newest-full well own later =
        let counted : refused_in P with-refusal i (now P h) ≡ suc (refused_in P h i (now P h)) =
        ap (tally (in_frame P i (now P h))) (refusals-with P w r h well)
        ∙ in-frame-hit P i (now P h) (mark (flow_of w) (ticks h)) (refusals_since P h) own refl in
        let two = ok.two_frames in
        x.counts_after.after_a_refusal i known asked-too (omega (arith, counted)) newest (omega (arith, from-0)) (omega arith)

    refusal-decided : Exact P i h → DecidedAt P i (requested w (refused r)) h
    refusal-decided exact well own later = omega (arith, exact later, newest-full well own later)

    refusal-exact : Exact P i h → Exact P i with-refusal
    unfolding ticks grants_since
    refusal-exact exact later = go (well_formed P w) refl (ℕ_discrete (flow_of w) i)
      where
        go : (b : Bool) → well_formed P w ≡ b → Dec (flow_of w ≡ i) → granted_in P h i newest ≡ min share (asked_in P with-refusal i (now P h))
        go true well (yes own) =
            omega (arith, newest-full well own later, refusal-decided exact well own later, asked-one-more P w (refused r) h i well own)
        go true well (no other) = omega (arith, exact later, asked-by-another P w (refused r) h i (now P h) other)
        go false ill d = omega (arith, exact later, asked-ill-formed P w (refused r) h i (now P h) ill)

-- ---- a tick

module _ {P : Plan} (ok : Accepted P) (i : ℕ) (h : History) (before : Counts P h) where
  -- nothing is granted yet in a frame past the newest
  pub none-past-newest : (f : ℕ) → now P h + P.frames ≤ f → granted_in P h i f ≡ 0
  none-past-newest f past = tally-none (in_frame P i f) (grants_since P h) (all_map _ _ below (grants_since P h) before.begun)
    where
      below : (m : Mark) → Begun P (ticks h) m → in_frame P i f m ≡ false
      below m begun =
          let high = frame-high ok (now P h + P.frames) m.slot (omega arith) in
          rw (ne_eqb (frame_of P m.slot) f (λ z. omega arith)) (and-false (of_flow i m))

  tick-exact : (x : TickAnswer) → Exact P i h → Exact P i (ticked x ∷ h)
  unfolding ticks grants_since asks
  tick-exact x exact later = go (ℕ_discrete (suc (ticks h) % P.slots) 0)
    where
      next : ℕ
      next = frame_of P (suc (ticks h))

      go : Dec (suc (ticks h) % P.slots ≡ 0) → granted_in P h i (next + P.frames - 1) ≡ min (entry P i).share (asked_in P h i next)
      go (yes change) =
          let begins : next ≡ suc (now P h) = frame_changes ok (ticks h) change in
          omega (arith, none-past-newest (next + P.frames - 1) (omega arith), asked-later ok i next h (omega arith))
      go (no same) = let stays = frame-stays ok (ticks h) same in rw stays (exact (rw stays at later))

-- ---- each request of the flow

pub record Paced (P : Plan) (i : ℕ) (h : History) : Type 0 where
  pub exact : Exact P i h
  pub decided : Each (DecidedAt P i) h

module _ {P : Plan} (ok : Accepted P) {i : ℕ} (known : i < flow_count P) where
  -- one event more
  one_more : (e : Event) (h : History) → Happened P e h → is_granted_reset e ≡ false → origin P h ≡ 0 → AskedOn P h i → AskedOn P (e ∷ h) i
      → Exact P i h → Exact P i (e ∷ h) × DecidedAt P i e h
  unfolding ticks grants_since asks
  one_more (requested w (accepted v)) h x none from-0 asked asked-too exact =
      (grant-exact ok known from-0 asked w v x exact, grant-decided ok known from-0 asked w v x exact)
  one_more (requested w (refused r)) h x none from-0 asked asked-too exact =
      (refusal-exact ok known from-0 asked w r x asked-too exact, refusal-decided ok known from-0 asked w r x asked-too exact)
  one_more (credited j p a) h x none from-0 asked asked-too exact = (exact, tt)
  one_more (ticked a) h x none from-0 asked asked-too exact = (tick-exact ok i h x.counts_before a exact, tt)
  one_more (lent m a) h x none from-0 asked asked-too exact = (exact, tt)
  one_more (Event.reset (accepted u)) h x none from-0 asked asked-too exact = absurd (let z : ◌≡◌ {A = ℕ} 1 0 = ap bit none in omega arith)
  one_more (Event.reset (refused r)) h x none from-0 asked asked-too exact = (exact, tt)

  pub paced : (h : History) → Each (Happened P) h → NoneGranted h → AsksUntil11 P i h → Paced P i h
  unfolding ticks
  paced [] happened none on = record { exact = λ later. absurd (omega (arith, zero-div P.slots)); decided = tt }
  paced (e ∷ h) happened none on =
      let before = until-11-before ok on in
      let rest = paced h happened.1 none.1 before in
      let more = one_more e h happened.0 none.0 (from-frame-0 P h none.1) (asked-on happened.1 none.1 before) (asked-on happened none on)
      rest.exact in
      record { exact = more.0; decided = (more.1, rest.decided) }
