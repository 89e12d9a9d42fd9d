-- A sound link with its plan and its window at hand, which a call and the loop over records work with, and what they give of it. Assumes nothing.
use Prim.Native.Nat.{ℕ, ◌≤◌, ◌<◌}
use mathlib.Core.Path.{◌≡◌, refl, sym, ap, ◌∙◌}
use mathlib.Core.List.{List}
use mathlib.Core.Bool.{Bool, true, false, cond}
use native.Mathlib.Omega.{arith}
use lib.Dec.{ltb}
use lib.ListN.{get_or}
use borrow.Author.Tests.{ltb-true}
use Rattle.plan.specs.declared.Entry.{Entry}
use Rattle.plan.specs.declared.Plan.{Plan}
use Rattle.plan.specs.Reading.{Valid, no_entry}
use Rattle.model.specs.Word.{split}
use Rattle.model.specs.Window as seen
use Rattle.model.specs.Window.{newest}
use Rattle.model.specs.Link as model
use Rattle.model.specs.Request.{nowhere, sought, some_in_newest, would_be_valid}
use Rattle.word.specs.declared.Fields.{Fields}
use Rattle.word.specs.Reading.{fields_of}
use Rattle.window.specs.declared.Window.{Window}
use Rattle.window.specs.Window.{window_of, size_of, Proper, Ticked, ranks_from, FromRank}
use Rattle.state.specs.State.{held_of, owners_of}
use Rattle.tables.specs.Asked.{MasksIn, SearchFrom}
use Rattle.tables.specs.Bounds.{Bounds}
use Rattle.tables.specs.Rows.{row}
use Rattle.tables.specs.Search.{late_at, late_after, valid_at, search_from}
use Rattle.tables.proofs.HeldRows.{row-held}
use Rattle.tables.proofs.ValidPositions.{search-by-rank, newest-by-rank}
use Rattle.link.specs.declared.Flow.{Flow}
use Rattle.link.specs.Parts.{Parts, parts_in}
use Rattle.link.specs.Layout.{size_for, flow_at}
use Rattle.link.specs.Reading.{link_of}
use Rattle.link.specs.Sound.{Sound, SoundState}
use Rattle.link.specs.Given.{StateIn, flow_or_zero, RequestIn, SeekIn}
use Rattle.link.proofs.Plans.{plan-count, count-some, count_most}
use Rattle.link.proofs.Readings.{read-flow, read-size, read-slots, read-frames, flows_most}
use Rattle.link.proofs.FlowBytes.{flows-at}
use Rattle.link.proofs.Lefts.{sought-spent}
use Rattle.link.proofs.Searches.{sought-same, would_same, spent-at-newest}

pub record AtHand (l : Parts) (plan : Plan) (w : Window) : Type 0 where
  pub sound : Sound l
  pub plan_is : plan ≡ l.plan
  pub window_is : window_of w ≡ model.window (link_of l)
  pub proper : Proper w

-- the window of a link with this plan and this current position
abbrev pub window_for : Plan → ℕ → seen.Window
window_for p current = record { slots = p.slots; frames = p.frames; current = current }

-- ---- a link comes to hand, and stays there

pub at-hand : {l : Parts} {w : Window} → Sound l → window_of w ≡ window_for l.plan l.current → Proper w → AtHand l l.plan w
unfolding link_of
at-hand s is v = record { sound = s; plan_is = refl; window_is = is; proper = v }

module _ {l : Parts} {plan : Plan} {w : Window} (a : AtHand l plan w) {l' : Parts} (s : Sound l') (same : l'.plan ≡ l.plan) where
  -- after a tick
  pub at-hand-ticked : {on : Window} → Ticked w on → l'.current ≡ on.current → AtHand l' plan on
  unfolding link_of
  at-hand-ticked {on} t e =
      let slots = ap (λ (x : seen.Window). x.slots) t.window_is ∙ ap (λ (x : seen.Window). x.slots) a.window_is in
      let frames = ap (λ (x : seen.Window). x.frames) t.window_is ∙ ap (λ (x : seen.Window). x.frames) a.window_is in
      record {
        sound = s;
        plan_is = a.plan_is ∙ sym same;
        window_is = rw (same, e) (λ k. record { slots = slots k; frames = frames k; current = on.current });
        proper = t.proper;
      }

-- ---- a state

-- the window of a state comes to hand
pub state-in : {p : Plan} {s : List ℕ} {w : Window} → SoundState p s → window_of w ≡ window_for p (get_or s 4496 0) → Proper w → StateIn p w s
state-in s is v = record { sound = s; proper = v; window_is = (at-hand s.parts is v).window_is }

module _ {p : Plan} {w : Window} {s : List ℕ} (o : StateIn p w s) where
  pub in_hand : AtHand (parts_in p s) p w
  in_hand = record { sound = o.sound.parts; plan_is = refl; window_is = o.window_is; proper = o.proper }

  -- the bounds, of the window's positions and of the plan's
  pub bounds-in : Bounds (size_of w) s
  bounds-in = rw (read-size (parts_in p s) o.window_is) o.sound.bounds

  pub bounds-out : {t : List ℕ} → Bounds (size_of w) t → Bounds (size_for p) t
  bounds-out b = rw (← read-size (parts_in p s) o.window_is) b

-- ---- what a request is given

-- the place of a flow is one of the plan's flows
pub flow-or-zero-below : (n x : ℕ) → 1 ≤ n → flow_or_zero n x < n
flow-or-zero-below n x h = go (ltb x n) refl
  where
    go : (b : Bool) → ltb x n ≡ b → cond b x 0 < n
    go true e = ltb-true x n e
    go false e = omega arith

pub flow-or-zero-few : {plan : Plan} → Valid plan → {i : ℕ} (x : ℕ) → i ≡ flow_or_zero plan.count x → i < 16
flow-or-zero-few {plan} v x e = omega (arith, e, flow-or-zero-below plan.count x (count-some plan v), count_most plan v)

pub request-in : {p : Plan} {w : Window} {s : List ℕ} → StateIn p w s → {f : Fields} (x : ℕ) → fields_of f ≡ split x → {i : ℕ} → i ≡ flow_or_zero p.count f.flow
    → RequestIn p p.count (get_or p.entries i no_entry) w f x s
request-in {p} o x fields place = record { state = o; count_is = refl; fields_are = fields; entry_is = ap (λ (k : ℕ). get_or p.entries k no_entry) place }

module _ {p : Plan} {n : ℕ} {e : Entry} {w : Window} {f : Fields} {x : ℕ} {s : List ℕ} (o : RequestIn p n e w f x s) (h : f.flow < n) where
  pub flow_below : f.flow < p.count
  flow_below = rw (← o.count_is) h

  pub flow-few : f.flow < 16
  flow-few = omega (arith, flow_below, flows_most (parts_in p s) o.state.sound.parts)

-- ---- what a search is given

module _ {p : Plan} {e : Entry} {w : Window} {i : ℕ} {f : Flow} {d : ℕ} {s : List ℕ} (o : SeekIn p e w i f d s) where
  abbrev here : Parts
  here = parts_in p s

  sound-here : Sound here
  sound-here = o.state.sound.parts

  pub seeker-few : i < 16
  seeker-few = omega (arith, o.flow, flows_most here sound-here)

  -- the masks are those of the owners
  pub masks-in : MasksIn w s
  masks-in =
      let is = o.state.window_is in
      record { proper = o.state.proper; agree = rw (read-slots here is, read-frames here is) sound-here.unbooked }

  -- the flow and what it holds, as the link has them
  stored_is : f ≡ (flow_at here i).flow
  stored_is = o.flow_is ∙ sym (flows-at s i seeker-few)

  held_is : row s i ≡ row (held_of s) i
  held_is = sym (row-held s i seeker-few)

  frame_below : f.injection < w.frames
  frame_below = rw (read-frames here o.state.window_is, stored_is) (sound-here.flows i o.flow).frame

  pub search-from : SearchFrom w d f.injection s
  search-from = record { masks = masks-in; departure = o.departure; frame = frame_below }

  -- which positions are late enough
  abbrev pub late_here : ℕ → Bool
  late_here = late_at (window_of w) (row s i) e.cells

  module _ {late : ℕ} (x : FromRank w late_here late) where
    -- what is sought of it
    pub sought-on : search_from (window_of w) (valid_at (owners_of s) (late_after (window_of w) d (ranks_from w late))) e.share f.injection f.remainder ≡ sought (link_of here) i d
    sought-on =
        search-by-rank o.state.proper (owners_of s) x d e.share f.injection f.remainder frame_below
        ∙ (λ k. search_from (window_of w) (valid_at (owners_of s) (late_after (window_of w) d (late_at (window_of w) (held_is k) (o.entry_is k).cells)))
        (o.entry_is k).share (stored_is k).injection (stored_is k).remainder)
        ∙ sym (sought-same here sound-here (window_of w) o.state.window_is i o.flow d)

    -- whether the newest frame has a position that only the departure rules out
    pub would-on : some_in_newest (window_of w) (valid_at (owners_of s) (ranks_from w late)) ≡ would_be_valid (link_of here) i
    would-on =
        newest-by-rank o.state.proper (owners_of s) x
        ∙ (λ k. some_in_newest (window_of w) (valid_at (owners_of s) (late_at (window_of w) (held_is k) (o.entry_is k).cells)))
        ∙ would_same here sound-here (window_of w) o.state.window_is i o.flow

  -- the share is spent up to the newest frame
  pub spent-on : f.injection ≡ newest (window_of w) → f.remainder ≡ 0 → nowhere 0 ≡ sought (link_of here) i d
  spent-on e z =
      spent-at-newest here sound-here (window_of w) o.state.window_is i o.flow d
      (sym (ap (λ (x : Flow). x.injection) stored_is) ∙ e) (sym (ap (λ (x : Flow). x.remainder) stored_is) ∙ z)

  -- and only then nothing is left
  pub unspent : (f.injection ≡ newest (window_of w) → f.remainder ≡ 0 → ⊥) → nowhere 0 ≡ sought (link_of here) i d → ⊥
  unfolding link_of
  unspent not-spent is =
      let hi = o.flow in
      let read = read-flow here i hi in
      let j = ap (λ (y : model.Flow). y.injection) read ∙ sym (ap (λ (y : Flow). y.injection) stored_is) in
      let c = ap (λ (y : model.Flow). y.remainder) read ∙ sym (ap (λ (y : Flow). y.remainder) stored_is) in
      let fits = sound-here.plan.accepted.entries_fit i (rw (plan-count p) hi) in
      let below : (model.flow (link_of here) i).injection < (link_of here).plan.frames = rw j (rw (ap (λ (y : seen.Window). y.frames) o.state.window_is) at frame_below) in
      let (last, spent) = sought-spent (link_of here) i d (omega (arith, fits.some_share)) below is in
      not-spent (sym j ∙ last ∙ ap newest (sym o.state.window_is)) (sym c ∙ spent)
