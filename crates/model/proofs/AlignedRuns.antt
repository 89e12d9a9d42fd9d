-- Laws of two histories with the same calls of one flow: the same slot is current, no reset was granted, and the flow asked as often in each frame.
-- Assumes nothing.
use Prim.Native.Nat.{ℕ, suc}
use mathlib.Core.Path.{◌≡◌, refl, sym, ap, ◌∙◌}
use mathlib.Core.List.{◌∷◌}
use mathlib.Core.Bool.{false}
use Rattle.model.specs.Plan.{Plan}
use Rattle.model.specs.Calls.{Event, History, requested, credited, ticked, lent}
use Rattle.model.specs.History.{ticks, well_formed, is_granted_reset}
use Rattle.model.specs.TwoRuns.{SameButNumber, Neighbours, Aligned, start, both_tick, both_request, both_credit, first_alone, second_alone}
use Rattle.model.proofs.HistoryCounts.{NoneGranted}
use Rattle.model.proofs.AskedInFrames.{asks, asked_in, asked_is, asked-by-another}

-- words that are equal but for their numbers are both well formed, or neither
pub same-well-formed : (P : Plan) {w₁ w₂ : ℕ} → SameButNumber w₁ w₂ → well_formed P w₁ ≡ well_formed P w₂
unfolding well_formed
same-well-formed P same = rw (same.flow, same.destination, same.departure)

module _ (i : ℕ) where
  -- ---- an event of the neighbours

  neighbours-tick : (e : Event) (h : History) → Neighbours i e → ticks (e ∷ h) ≡ ticks h
  unfolding ticks
  neighbours-tick (requested w a) h other = refl
  neighbours-tick (credited j p a) h other = refl
  neighbours-tick (ticked x) h other = absurd other
  neighbours-tick (lent m a) h other = refl
  neighbours-tick (Event.reset a) h other = absurd other

  neighbours-reset : (e : Event) → Neighbours i e → is_granted_reset e ≡ false
  neighbours-reset (requested w a) other = refl
  neighbours-reset (credited j p a) other = refl
  neighbours-reset (ticked x) other = absurd other
  neighbours-reset (lent m a) other = refl
  neighbours-reset (Event.reset a) other = absurd other

  neighbours-ask : (P : Plan) (f : ℕ) (e : Event) (h : History) → Neighbours i e → asked_in P (e ∷ h) i f ≡ asked_in P h i f
  unfolding asks
  neighbours-ask P f (requested w a) h other = asked-by-another P w a h i f other
  neighbours-ask P f (credited j p a) h other = refl
  neighbours-ask P f (ticked x) h other = absurd other
  neighbours-ask P f (lent m a) h other = refl
  neighbours-ask P f (Event.reset a) h other = absurd other

  -- ---- aligned histories

  pub aligned-ticks : {h₁ h₂ : History} → Aligned i h₁ h₂ → ticks h₁ ≡ ticks h₂
  unfolding ticks
  aligned-ticks start = refl
  aligned-ticks (both_tick x) = ap suc (aligned-ticks x)
  aligned-ticks (both_request own same x) = aligned-ticks x
  aligned-ticks (both_credit x) = aligned-ticks x
  aligned-ticks (first_alone {h₁ = h} e other x) = neighbours-tick e h other ∙ aligned-ticks x
  aligned-ticks (second_alone {h₂ = h} e other x) = aligned-ticks x ∙ sym (neighbours-tick e h other)

  -- no reset stands in either run
  pub none-granted : {h₁ h₂ : History} → Aligned i h₁ h₂ → NoneGranted h₁ × NoneGranted h₂
  none-granted start = (tt, tt)
  none-granted (both_tick x) = let n = none-granted x in ((refl, n.0), (refl, n.1))
  none-granted (both_request own same x) = let n = none-granted x in ((refl, n.0), (refl, n.1))
  none-granted (both_credit x) = let n = none-granted x in ((refl, n.0), (refl, n.1))
  none-granted (first_alone e other x) = let n = none-granted x in ((neighbours-reset e other, n.0), n.1)
  none-granted (second_alone e other x) = let n = none-granted x in (n.0, (neighbours-reset e other, n.1))

  pub aligned-asked : (P : Plan) (f : ℕ) {h₁ h₂ : History} → Aligned i h₁ h₂ → asked_in P h₁ i f ≡ asked_in P h₂ i f
  unfolding asks
  aligned-asked P f start = refl
  aligned-asked P f (both_tick x) = aligned-asked P f x
  aligned-asked P f (both_request {h₁ = h₁} {h₂ = h₂} {w₁ = w₁} {w₂ = w₂} {a₁ = a₁} {a₂ = a₂} own same x) =
      rw (asked_is P w₁ a₁ h₁ i f, asked_is P w₂ a₂ h₂ i f, same-well-formed P same, same.flow, aligned-ticks x, aligned-asked P f x)
  aligned-asked P f (both_credit x) = aligned-asked P f x
  aligned-asked P f (first_alone {h₁ = h} e other x) = neighbours-ask P f e h other ∙ aligned-asked P f x
  aligned-asked P f (second_alone {h₂ = h} e other x) = aligned-asked P f x ∙ sym (neighbours-ask P f e h other)
