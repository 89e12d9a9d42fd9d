-- Two histories are aligned exactly if there is no reset and their outlines are the same. Assumes nothing.
use Prim.Native.Nat.{ℕ, ◌+◌}
use mathlib.Core.Path.{◌≡◌, refl, sym, ap, ◌∙◌}
use mathlib.Core.List.{List, ◌∷◌, []}
use mathlib.Core.Bool.{Bool, true, false}
use native.Mathlib.Omega.{arith}
use lib.Dec.{eqb}
use lib.ListN.{length}
use borrow.Author.Tests.{eqb-true, eqb-false, ne_eqb}
use Rattle.model.specs.Tables.{bit, tally}
use Rattle.model.specs.Word.{destination_of, flow_of, departure_of}
use Rattle.model.specs.Calls.{Grant, CreditAnswer, TickAnswer, Event, History, requested, credited, ticked, lent}
use Rattle.model.specs.TwoRuns.{Neighbours, Aligned, start, both_tick, both_request, both_credit, first_alone, second_alone}
use Rattle.model.specs.Outlines.{Place, places_of, outline, is_reset, NoReset, SameOutline, AlignedIs}
use Rattle.model.proofs.Tallies.{tally-skip}

-- ---- aligned histories have the same outline

module _ (i : ℕ) where
  no_place : (e : Event) → Neighbours i e → places_of i e ≡ []
  no_place (requested w a) other = rw (ne_eqb (flow_of w) i other)
  no_place (credited j p a) other = rw (ne_eqb j i other)
  no_place (ticked x) other = absurd other
  no_place (lent m a) other = refl
  no_place (Event.reset a) other = absurd other

  no_reset : (e : Event) → Neighbours i e → is_reset e ≡ false
  no_reset (requested w a) other = refl
  no_reset (credited j p a) other = refl
  no_reset (ticked x) other = absurd other
  no_reset (lent m a) other = refl
  no_reset (Event.reset a) other = absurd other

  -- one event more that is no reset
  still-none : (e : Event) (h : History) → is_reset e ≡ false → NoReset h → NoReset (e ∷ h)
  still-none e h other none = tally-skip is_reset e h other ∙ none

  outline-of : {h₁ h₂ : History} → Aligned i h₁ h₂ → SameOutline i h₁ h₂
  unfolding outline tally
  outline-of start = record { none_first = refl; none_second = refl; same = refl }
  outline-of (both_tick {h₁ = h₁} {h₂ = h₂} {x₁ = x₁} {x₂ = x₂} x) =
      let o = outline-of x in
      record {
        none_first = still-none (ticked x₁) h₁ refl o.none_first;
        none_second = still-none (ticked x₂) h₂ refl o.none_second;
        same = ap (Place.tick ∷◌) o.same;
      }
  outline-of (both_request {h₁ = h₁} {h₂ = h₂} {w₁ = w₁} {w₂ = w₂} {a₁ = a₁} {a₂ = a₂} own alike x) =
      let o = outline-of x in
      record {
        none_first = still-none (requested w₁ a₁) h₁ refl o.none_first;
        none_second = still-none (requested w₂ a₂) h₂ refl o.none_second;
        same = rw (alike.flow, alike.destination, alike.departure, o.same);
      }
  outline-of (both_credit {h₁ = h₁} {h₂ = h₂} {p = p} {a₁ = a₁} {a₂ = a₂} x) =
      let o = outline-of x in
      record {
        none_first = still-none (credited i p a₁) h₁ refl o.none_first;
        none_second = still-none (credited i p a₂) h₂ refl o.none_second;
        same = rw o.same;
      }
  outline-of (first_alone {h₁ = h₁} e other x) =
      let o = outline-of x in
      record { none_first = still-none e h₁ (no_reset e other) o.none_first; none_second = o.none_second; same = rw (no_place e other) o.same }
  outline-of (second_alone {h₂ = h₂} e other x) =
      let o = outline-of x in
      record { none_first = o.none_first; none_second = still-none e h₂ (no_reset e other) o.none_second; same = rw (no_place e other) o.same }

-- ---- histories with the same outline are aligned

-- an event with this place
pub data Own (i : ℕ) : Event → Place → Type 0 where
  own_tick : {x : TickAnswer} → Own i (ticked x) Place.tick
  own_request : {w : ℕ} {a : Grant} → flow_of w ≡ i → Own i (requested w a) (Place.request (destination_of w) (departure_of w))
  own_credit : {j p : ℕ} {a : CreditAnswer} → j ≡ i → Own i (credited j p a) (Place.credit p)

-- an event of the neighbours, or one with a place
pub data Kind (i : ℕ) (e : Event) : Type 0 where
  other : Neighbours i e → places_of i e ≡ [] → Kind i e
  own : (p : Place) → Own i e p → places_of i e ≡ p ∷ [] → Kind i e

unfoldable kind : (i : ℕ) (e : Event) → is_reset e ≡ false → Kind i e
kind i (requested w a) none = go (eqb (flow_of w) i) refl
  where
    go : (b : Bool) → eqb (flow_of w) i ≡ b → Kind i (requested w a)
    go true e = own (Place.request (destination_of w) (departure_of w)) (own_request (eqb-true (flow_of w) i e)) (rw e)
    go false e = other (eqb-false (flow_of w) i e) (rw e)
kind i (credited j p a) none = go (eqb j i) refl
  where
    go : (b : Bool) → eqb j i ≡ b → Kind i (credited j p a)
    go true e = own (Place.credit p) (own_credit (eqb-true j i e)) (rw e)
    go false e = other (eqb-false j i e) (rw e)
kind i (ticked x) none = own Place.tick own_tick refl
kind i (lent m a) none = other tt refl
kind i (Event.reset a) none = absurd (let z : ◌≡◌ {A = ℕ} 1 0 = ap bit none in omega arith)

-- what sort of place it is
abbrev tag : Place → ℕ
tag Place.tick = 0
tag (Place.request d p) = 1
tag (Place.credit p) = 2

-- one event more of both runs, with one place
unfoldable both : {i : ℕ} {h₁ h₂ : History} {e₁ e₂ : Event} {p q : Place} → Own i e₁ p → Own i e₂ q → p ≡ q → Aligned i h₁ h₂
    → Aligned i (e₁ ∷ h₁) (e₂ ∷ h₂)
both own_tick own_tick e x = both_tick x
both own_tick (own_request o) e x = absurd (let z = ap tag e in omega arith)
both own_tick (own_credit o) e x = absurd (let z = ap tag e in omega arith)
both (own_request o) own_tick e x = absurd (let z = ap tag e in omega arith)
both (own_request {w = w₁} o) (own_request {w = w₂} o₂) e x =
    let destination : destination_of w₁ ≡ destination_of w₂ = cc in
    let departure : departure_of w₁ ≡ departure_of w₂ = cc in
    both_request o (record { destination = destination; flow = o ∙ sym o₂; departure = departure }) x
both (own_request o) (own_credit o₂) e x = absurd (let z = ap tag e in omega arith)
both (own_credit o) own_tick e x = absurd (let z = ap tag e in omega arith)
both (own_credit o) (own_request o₂) e x = absurd (let z = ap tag e in omega arith)
both (own_credit {p = p₁} o) (own_credit {p = p₂} o₂) e x =
    let position : p₁ ≡ p₂ = cc in
    rw (o, o₂, position) (both_credit x)

no-resets : (b : Bool) (n : ℕ) → bit b + n ≡ 0 → (b ≡ false) × (n ≡ 0)
no-resets true n e = absurd (omega arith)
no-resets false n e = (refl, omega arith)

-- the newest event is no reset, and there is none before it
pub parts : (e : Event) (h : History) → NoReset (e ∷ h) → (is_reset e ≡ false) × NoReset h
unfolding tally
parts e h none = no-resets (is_reset e) (tally is_reset h) none

pub some_place : {p : Place} {ps : List Place} → p ∷ ps ≡ [] → ⊥
some_place e = let z = ap length e in omega arith

-- h₁ is aligned with each history that has its outline
abbrev Goes : ℕ → History → Type 0
Goes i h₁ = (h₂ : History) → NoReset h₂ → outline i h₁ ≡ outline i h₂ → Aligned i h₁ h₂

-- nothing, with events of the neighbours
unfoldable alone : (i : ℕ) → Goes i []
unfolding outline kind
alone i [] none same = start
alone i (e ∷ h) none same = go (kind i e (parts e h none).0) (alone i h (parts e h none).1)
  where
    go : Kind i e → ([] ≡ outline i h → Aligned i [] h) → Aligned i [] (e ∷ h)
    go (other o is) rest = second_alone e o (rest (rw is at same))
    go (own p o is) rest = absurd (some_place (sym (rw is at same)))

-- an event with place p of the first run, and the second run up to the event that has it
unfoldable matched : {i : ℕ} {e₁ : Event} {h₁ : History} {p : Place} → Own i e₁ p → Goes i h₁ → (h₂ : History) → NoReset h₂
    → p ∷ outline i h₁ ≡ outline i h₂ → Aligned i (e₁ ∷ h₁) h₂
unfolding outline kind both
matched o₁ rest [] none same = absurd (some_place same)
matched {i} {e₁} {h₁} {p} o₁ rest (e ∷ h) none same = go (kind i e (parts e h none).0) (matched o₁ rest h (parts e h none).1)
  where
    go : Kind i e → (p ∷ outline i h₁ ≡ outline i h → Aligned i (e₁ ∷ h₁) h) → Aligned i (e₁ ∷ h₁) (e ∷ h)
    go (other o is) later = second_alone e o (later (rw is at same))
    go (own q o is) later =
        let cons : p ∷ outline i h₁ ≡ q ∷ outline i h = rw is at same in
        let place : p ≡ q = cc in
        let behind : outline i h₁ ≡ outline i h = cc in
        both o₁ o place (rest h (parts e h none).1 behind)

unfoldable pub aligned-by : (i : ℕ) (h₁ : History) → NoReset h₁ → Goes i h₁
unfolding outline kind alone matched
aligned-by i [] none = alone i
aligned-by i (e ∷ h₁) none = go (kind i e (parts e h₁ none).0) (aligned-by i h₁ (parts e h₁ none).1)
  where
    go : Kind i e → Goes i h₁ → Goes i (e ∷ h₁)
    go (other o is) rest = λ h₂ none same. first_alone e o (rest h₂ none (rw is at same))
    go (own p o is) rest = λ h₂ none same. matched o rest h₂ none (rw is at same)

pub aligned-is : AlignedIs
aligned-is i h₁ h₂ = (outline-of i, λ o. aligned-by i h₁ o.none_first h₂ o.none_second o.same)
