-- The search of flow i on link l, as it is read. Assumes nothing.
use Prim.Native.Nat.{ℕ, ◌+◌, ◌*◌, ◌≤◌, ◌<◌}
use mathlib.Core.Path.{◌≡◌, sym, ap, ◌∙◌, subst}
use mathlib.Core.Bool.{Bool, not, ◌&&◌, and_assoc}
use native.Mathlib.Nat.{mod-lt}
use native.Mathlib.Decide.{dec_lt}
use native.Mathlib.Omega.{arith}
use lib.Dec.{ltb}
use borrow.Author.Tests.{le-ltb}
use Rattle.model.specs.Tables.{ahead}
use Rattle.model.specs.Plan as reference
use Rattle.model.specs.Window.{Window, start, passed, every_from, newest}
use Rattle.model.specs.Link as model
use Rattle.model.specs.Request.{unbooked, valid, can_leave, valid_for, some_in_newest, would_be_valid, Found, found, nowhere, search, sought}
use Rattle.model.proofs.Tests.{any_same}
use Rattle.window.proofs.GoingRound.{ahead-on}
use Rattle.window.proofs.Windows.{frame-fits}
use Rattle.window.proofs.FromOn.{every_from-same}
use Rattle.tables.specs.Owners.{owner_of}
use Rattle.tables.specs.Holdings.{room_at}
use Rattle.tables.specs.Search.{late_at, late_after, valid_at, search_from, ValidSlots}
use Rattle.tables.proofs.ValidPositions.{search-same}
use Rattle.tables.proofs.FoundPosition.{search-books, Booking, Books}
use Rattle.link.specs.Parts.{Parts}
use Rattle.link.specs.Layout.{size_of, entry_at, flow_at, owner_at}
use Rattle.link.specs.Reading.{link_of}
use Rattle.link.specs.Sound.{Sound}
use Rattle.link.proofs.Readings.{read-entry, read-flow, read-holding, read-owner, read-size, read-frames}

module _ (l : Parts) (s : Sound l) (v : Window) (is : v ≡ model.window (link_of l)) (i : ℕ) (hi : i < l.plan.count) where
  -- position p is late enough for it
  abbrev pub late_here : ℕ → Bool
  late_here = late_at v (flow_at l i).held (entry_at l i).cells

  -- position p is valid for it, whatever the departure
  abbrev pub valid_here : ℕ → Bool
  valid_here = valid_at l.owner late_here

  -- position p is valid for its request with departure d
  abbrev pub valid_after : (d p : ℕ) → Bool
  valid_after d = valid_at l.owner (late_after v d late_here)

  -- there is room from p on
  room-same : (p : ℕ) → every_from (model.window (link_of l)) p (λ q. ltb (model.holding (link_of l) i q) (model.cells (link_of l) i))
      ≡ every_from (model.window (link_of l)) p (room_at (flow_at l i).held (entry_at l i).cells)
  unfolding link_of
  room-same p =
      every_from-same (model.window (link_of l)) p (λ q. ltb (model.holding (link_of l) i q) (model.cells (link_of l) i))
      (room_at (flow_at l i).held (entry_at l i).cells)
      (λ q b. rw (read-holding l i q hi b, ap (λ (e : reference.Entry). e.cells) (read-entry l i hi)))

  valid_same : (p : ℕ) → p < size_of l → valid (link_of l) i p ≡ valid_here p
  unfolding valid valid_at
  valid_same p hp =
      let unowned = unbooked (owner_of (owner_at l p)) in
      let later = not (passed (model.window (link_of l)) p) in
      let room = every_from (model.window (link_of l)) p (room_at (flow_at l i).held (entry_at l i).cells) in
      rw (is, read-owner l p hp, room-same p) (and_assoc unowned later room)

  after_same : (d p : ℕ) → p < size_of l → valid_for (link_of l) i d p ≡ valid_after d p
  unfolding valid_for valid_at
  after_same d p hp =
      let leaves = can_leave (model.window (link_of l)) d p in
      rw (valid_same p hp, is) (and_assoc (unbooked (owner_of (owner_at l p))) (late_at (model.window (link_of l)) (flow_at l i).held (entry_at l i).cells p) leaves)

  -- a frame's word of slots, for two tests that agree on the window
  slots_same : (here there : ℕ → Bool) → ((p : ℕ) → p < size_of l → there p ≡ here p) → (j word : ℕ) → j < v.frames
      → ValidSlots v here j word → ValidSlots v there j word
  slots_same here there same j word hj x = record { is = λ k. x.is k ∙ go k (dec_lt k v.slots) }
    where
      fits : (k : ℕ) → k < v.slots → j * v.slots + k < size_of l
      fits k h = rw (← read-size l is) (omega (arith, frame-fits v.slots v.frames j hj))

      go : (k : ℕ) → Dec (k < v.slots) → ltb k v.slots && here (j * v.slots + k) ≡ ltb k v.slots && there (j * v.slots + k)
      go k (yes h) = ap (ltb k v.slots &&◌) (sym (same (j * v.slots + k) (fits k h)))
      go k (no h) = rw (le-ltb k v.slots (omega arith))

  -- a frame's word of valid slots has the positions that are valid by the model
  pub valid-slots-same : (j word : ℕ) → j < v.frames → ValidSlots v valid_here j word → ValidSlots v (valid (link_of l) i) j word
  valid-slots-same = slots_same valid_here (valid (link_of l) i) valid_same

  -- and the word that a request with departure d is answered from, those that are valid for it
  pub valid-slots-for : (d j word : ℕ) → j < v.frames → ValidSlots v (valid_after d) j word → ValidSlots v (valid_for (link_of l) i d) j word
  valid-slots-for d = slots_same (valid_after d) (valid_for (link_of l) i d) (after_same d)

  two : 2 ≤ v.frames
  two = rw (read-frames l is) s.plan.accepted.two_frames

  pub frame-there : (flow_at l i).flow.injection < v.frames
  frame-there = rw (read-frames l is) (s.flows i hi).frame

  pub sought-same : (d : ℕ) → sought (link_of l) i d ≡ search_from v (valid_after d) (entry_at l i).share (flow_at l i).flow.injection (flow_at l i).flow.remainder
  unfolding sought
  sought-same d =
      let j = ap (λ (x : model.Flow). x.injection) (read-flow l i hi) in
      let c = ap (λ (x : model.Flow). x.remainder) (read-flow l i hi) in
      let e = ap (λ (x : reference.Entry). x.share) (read-entry l i hi) in
      rw (j, c, e)
      (ap from-frame (sym is)
      ∙ search-same v two (valid_for (link_of l) i d) (valid_after d) (λ p h. after_same d p (rw (← read-size l is) h)) _ _ _ _ frame-there)
    where
      from-frame : Window → Found
      from-frame x = search_from x (valid_for (link_of l) i d) (entry_at l i).share (flow_at l i).flow.injection (flow_at l i).flow.remainder

  -- what is found: a position of the window that is valid
  pub found_at : (d j c p : ℕ) → found j c p ≡ sought (link_of l) i d → Booking v (valid_after d) j p
  found_at d j c p e = subst (Books v (valid_after d)) (sym (e ∙ sought-same d)) (search-books v two _ _ _ _ _ frame-there)

  -- in the newest frame, with nothing left of the share
  pub spent-at-newest : (d : ℕ) → (flow_at l i).flow.injection ≡ newest v → (flow_at l i).flow.remainder ≡ 0 → nowhere 0 ≡ sought (link_of l) i d
  unfolding sought search
  spent-at-newest d e z =
      let last = newest (model.window (link_of l)) in
      let frames = (model.window (link_of l)).frames in
      let j = ap (λ (x : model.Flow). x.injection) (read-flow l i hi) ∙ e ∙ ap newest is in
      let c = ap (λ (x : model.Flow). x.remainder) (read-flow l i hi) ∙ z in
      let below : last < frames = mod-lt _ (rw (← ap (λ (x : Window). x.frames) is) (omega (arith, two))) in
      let none : ahead frames last last ≡ 0 = ahead-on _ _ _ (omega arith) below ∙ omega arith in
      rw (j, c, none)

  -- the newest frame has a position that only the departure rules out
  pub would_same : some_in_newest v valid_here ≡ would_be_valid (link_of l) i
  unfolding would_be_valid
  would_same =
      let first = start v (newest v) in
      let fits = frame-fits v.slots v.frames (newest v) (mod-lt _ (omega (arith, two))) in
      any_same v.slots (λ k. valid_here (first + k)) (λ k. valid (link_of l) i (first + k))
      (λ k h. sym (valid_same (first + k) (rw (← read-size l is) (omega (arith, fits)))))
      ∙ ap (λ (x : Window). some_in_newest x (valid (link_of l) i)) is
