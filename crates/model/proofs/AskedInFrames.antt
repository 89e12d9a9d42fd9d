-- How often a flow asks in a frame: its well-formed requests, and what one request more does to their number. Assumes nothing.
use Prim.Native.Nat.{ℕ, suc, ◌+◌, ◌<◌}
use mathlib.Core.Path.{◌≡◌, refl, ap, ◌∙◌}
use mathlib.Core.List.{List, [], ◌∷◌}
use mathlib.Core.Bool.{Bool, true, false, cond}
use native.Mathlib.Omega.{arith}
use Rattle.model.specs.Tables.{tally}
use Rattle.model.specs.Word.{flow_of}
use Rattle.model.specs.Plan.{Plan, Accepted}
use Rattle.model.specs.Calls.{Grant, Event, History, requested, credited, ticked, lent}
use Rattle.model.specs.History.{Mark, ticks, frame_of, well_formed, marks_of, in_frame}
use Rattle.model.proofs.Tallies.{tally-append}
use Rattle.model.proofs.Slots.{frames-go-on}
use Rattle.model.proofs.Marks.{mark, in-frame-hit, in-frame-skip, in-frame-other}

-- the slot in which a well-formed request is made
abbrev ask_at : Plan → Event → History → List Mark
ask_at P (requested w a) h = cond (well_formed P w) (mark (flow_of w) (ticks h) ∷ []) []
ask_at P (credited j p a) h = []
ask_at P (ticked x) h = []
ask_at P (lent m a) h = []
ask_at P (Event.reset a) h = []

unfoldable pub asks : Plan → History → List Mark
unfolding marks_of
asks P h = marks_of (ask_at P) h

-- flow i's well-formed requests in frame f
abbrev pub asked_in : Plan → History → ℕ → ℕ → ℕ
asked_in P h i f = tally (in_frame P i f) (asks P h)

module _ (P : Plan) (w : ℕ) (a : Grant) (h : History) where
  asks-with : well_formed P w ≡ true → asks P (requested w a ∷ h) ≡ mark (flow_of w) (ticks h) ∷ asks P h
  unfolding asks
  asks-with e = rw e

  asks-without : well_formed P w ≡ false → asks P (requested w a ∷ h) ≡ asks P h
  unfolding asks
  asks-without e = rw e

  module _ (i : ℕ) where
    -- one request, by its word and the current slot
    pub asked_is : (f : ℕ)
        → asked_in P (requested w a ∷ h) i f ≡ tally (in_frame P i f) (cond (well_formed P w) (mark (flow_of w) (ticks h) ∷ []) []) + asked_in P h i f
    unfolding asks
    asked_is f = tally-append (in_frame P i f) (ask_at P (requested w a) h) (asks P h)

    -- a request of flow i, well formed
    pub asked-one-more : well_formed P w ≡ true → flow_of w ≡ i
        → asked_in P (requested w a ∷ h) i (frame_of P (ticks h)) ≡ suc (asked_in P h i (frame_of P (ticks h)))
    asked-one-more well own =
        ap (tally (in_frame P i (frame_of P (ticks h)))) (asks-with well)
        ∙ in-frame-hit P i (frame_of P (ticks h)) (mark (flow_of w) (ticks h)) (asks P h) own refl

    -- one that isn't
    pub asked-ill-formed : (f : ℕ) → well_formed P w ≡ false → asked_in P (requested w a ∷ h) i f ≡ asked_in P h i f
    asked-ill-formed f ill = ap (tally (in_frame P i f)) (asks-without ill)

    -- in another frame, or of another flow
    asked-skip : (f : ℕ) → tally (in_frame P i f) (mark (flow_of w) (ticks h) ∷ asks P h) ≡ asked_in P h i f
        → asked_in P (requested w a ∷ h) i f ≡ asked_in P h i f
    asked-skip f skips = go (well_formed P w) refl
      where
        go : (b : Bool) → well_formed P w ≡ b → asked_in P (requested w a ∷ h) i f ≡ asked_in P h i f
        go true e = ap (tally (in_frame P i f)) (asks-with e) ∙ skips
        go false e = asked-ill-formed f e

    pub asked-in-another : (f : ℕ) → (frame_of P (ticks h) ≡ f → ⊥) → asked_in P (requested w a ∷ h) i f ≡ asked_in P h i f
    asked-in-another f differs = asked-skip f (in-frame-skip P i f (mark (flow_of w) (ticks h)) (asks P h) differs)

    pub asked-by-another : (f : ℕ) → (flow_of w ≡ i → ⊥) → asked_in P (requested w a ∷ h) i f ≡ asked_in P h i f
    asked-by-another f other = asked-skip f (in-frame-other P i f (mark (flow_of w) (ticks h)) (asks P h) other)

-- no request was made in a frame to come
pub asked-later : {P : Plan} → Accepted P → (i f : ℕ) (h : History) → frame_of P (ticks h) < f → asked_in P h i f ≡ 0
unfolding asks ticks tally
asked-later ok i f [] lt = refl
asked-later {P} ok i f (requested w a ∷ h) lt = asked-in-another P w a h i f (λ z. omega arith) ∙ asked-later ok i f h lt
asked-later ok i f (credited j p a ∷ h) lt = asked-later ok i f h lt
asked-later ok i f (ticked x ∷ h) lt = asked-later ok i f h (omega (arith, frames-go-on ok (ticks h)))
asked-later ok i f (lent m a ∷ h) lt = asked-later ok i f h lt
asked-later ok i f (Event.reset a ∷ h) lt = asked-later ok i f h lt
