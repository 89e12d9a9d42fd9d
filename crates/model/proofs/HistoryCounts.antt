-- What is counted over a history: frame changes, well-formed words, refusals by frame, marks before and since the last granted reset, and granted and
-- lent slots together. Assumes nothing.
use Prim.Native.Nat.{ℕ, suc, ◌+◌, ◌%◌, ◌<◌}
use mathlib.Core.Path.{◌≡◌, refl, sym, ap, ◌∙◌}
use mathlib.Core.List.{List, [], ◌∷◌, ◌++◌}
use mathlib.Core.Bool.{Bool, true, false, not, ◌&&◌, cond}
use native.Mathlib.Nat.{zero-div}
use native.Mathlib.Omega.{arith}
use lib.Dec.{ltb, eqb}
use borrow.Author.Tests.{ltb-true, eqb-true, eqb-false}
use Rattle.model.specs.Tables.{bit, tally}
use Rattle.model.specs.Refusals.{first_of, ◌when◌}
use Rattle.model.specs.Word.{flow_of, destination_of, departure_of}
use Rattle.model.specs.Plan.{Plan, positions, flow_count, entry, Accepted}
use Rattle.model.specs.Calls.{Event, History, requested, credited, ticked, lent, accepted, refused}
use Rattle.model.specs.Request.{word_tests, number_tests, request_tests}
use Rattle.model.specs.History.{Mark, ticks, frame_of, well_formed, is_granted_reset, origin, changes, marks_of, marks_since, grant_at, lend_at}
use Rattle.model.specs.History.{grants, refusals_since, lends, refused_in}
use Rattle.model.specs.Claim.{Each}
use Rattle.model.proofs.Tests.{and-true}
use Rattle.model.proofs.Tallies.{tally-append}
use Rattle.model.proofs.Slots.{frame-stays, frame_changes, frames-go-on}
use Rattle.model.proofs.Marks.{mark, in-frame-skip}

-- A word is well formed exactly if it passes its tests.
three-tests : (a b c : Bool) → a && b && c ≡ eqb (first_of (8 when not a ∷ 9 when not b ∷ 10 when not c ∷ [])) 0
unfolding first_of
three-tests true true true = refl
three-tests true true false = refl
three-tests true false c = refl
three-tests false b c = refl

pub well-formed-is : (P : Plan) (w : ℕ) → well_formed P w ≡ eqb (first_of (word_tests P w)) 0
unfolding well_formed
well-formed-is P w =
    three-tests (ltb (flow_of w) (flow_count P)) (eqb (destination_of w) (entry P (flow_of w)).destination) (ltb (departure_of w) (positions P))

-- the number is tested where the word is well formed
tested-last : (a b c d : Bool)
    → first_of (8 when a ∷ 9 when b ∷ 10 when c ∷ 24 when d ∷ [])
    ≡ cond (eqb (first_of (8 when a ∷ 9 when b ∷ 10 when c ∷ [])) 0) (first_of (24 when d ∷ [])) (first_of (8 when a ∷ 9 when b ∷ 10 when c ∷ []))
unfolding first_of
tested-last true b c d = refl
tested-last false true c d = refl
tested-last false false true d = refl
tested-last false false false d = refl

pub request-number : (P : Plan) (k w : ℕ)
    → first_of (request_tests P k w) ≡ cond (eqb (first_of (word_tests P w)) 0) (first_of (number_tests k w)) (first_of (word_tests P w))
request-number P k w = tested-last _ _ _ _

pub flow_below : (P : Plan) (w : ℕ) → well_formed P w ≡ true → flow_of w < flow_count P
unfolding well_formed
flow_below P w e =
    let flow-known = ltb (flow_of w) (flow_count P) in
    let destination-is = eqb (destination_of w) (entry P (flow_of w)).destination in
    ltb-true (flow_of w) (flow_count P) (and-true flow-known destination-is (and-true (flow-known && destination-is) (ltb (departure_of w) (positions P)) e).0).0

pub departure-below : (P : Plan) (w : ℕ) → well_formed P w ≡ true → departure_of w < positions P
unfolding well_formed
departure-below P w e =
    let flow-and-destination = ltb (flow_of w) (flow_count P) && eqb (destination_of w) (entry P (flow_of w)).destination in
    ltb-true (departure_of w) (positions P) (and-true flow-and-destination (ltb (departure_of w) (positions P)) e).1

-- ---- frames

-- the frame changes since the last granted reset, from its frame on
pub changes-are : (P : Plan) → Accepted P → (h : History) → origin P h + changes P h ≡ frame_of P (ticks h)
unfolding origin changes ticks
changes-are P ok [] = sym (zero-div P.slots)
changes-are P ok (requested w a ∷ h) = changes-are P ok h
changes-are P ok (credited i p a ∷ h) = changes-are P ok h
changes-are P ok (lent m a ∷ h) = changes-are P ok h
changes-are P ok (Event.reset (accepted u) ∷ h) = omega arith
changes-are P ok (Event.reset (refused r) ∷ h) = changes-are P ok h
changes-are P ok (ticked x ∷ h) = go (changes-are P ok h) (eqb (suc (ticks h) % P.slots) 0) refl
  where
    go : origin P h + changes P h ≡ frame_of P (ticks h) → (b : Bool) → eqb (suc (ticks h) % P.slots) 0 ≡ b
        → origin P h + (bit (eqb (suc (ticks h) % P.slots) 0) + changes P h) ≡ frame_of P (suc (ticks h))
    go rest true e = omega (arith, ap bit e, frame_changes ok (ticks h) (eqb-true (suc (ticks h) % P.slots) 0 e))
    go rest false e = omega (arith, ap bit e, frame-stays ok (ticks h) (eqb-false (suc (ticks h) % P.slots) 0 e))

-- ---- refusals

pub refusals-with : (P : Plan) (w r : ℕ) (h : History) → well_formed P w ≡ true
    → refusals_since P (requested w (refused r) ∷ h) ≡ mark (flow_of w) (ticks h) ∷ refusals_since P h
unfolding refusals_since
refusals-with P w r h e = rw e

pub refusals-without : (P : Plan) (w r : ℕ) (h : History) → well_formed P w ≡ false
    → refusals_since P (requested w (refused r) ∷ h) ≡ refusals_since P h
unfolding refusals_since
refusals-without P w r h e = rw e

-- no request was refused in a frame to come
pub refused-later : (P : Plan) → Accepted P → (i f : ℕ) (h : History) → frame_of P (ticks h) < f → refused_in P h i f ≡ 0
unfolding refusals_since ticks tally
refused-later P ok i f [] lt = refl
refused-later P ok i f (requested w (accepted v) ∷ h) lt = refused-later P ok i f h lt
refused-later P ok i f (requested w (refused r) ∷ h) lt = go (refused-later P ok i f h lt) (well_formed P w) refl
  where
    go : refused_in P h i f ≡ 0 → (b : Bool) → well_formed P w ≡ b → refused_in P (requested w (refused r) ∷ h) i f ≡ 0
    go rest true e = rw (refusals-with P w r h e) (in-frame-skip P i f (mark (flow_of w) (ticks h)) (refusals_since P h) (λ z. omega arith) ∙ rest)
    go rest false e = rw (refusals-without P w r h e) rest
refused-later P ok i f (credited j p a ∷ h) lt = refused-later P ok i f h lt
refused-later P ok i f (lent m a ∷ h) lt = refused-later P ok i f h lt
refused-later P ok i f (Event.reset (accepted u) ∷ h) lt = refl
refused-later P ok i f (Event.reset (refused r) ∷ h) lt = refused-later P ok i f h lt
refused-later P ok i f (ticked x ∷ h) lt =
    refused-later P ok i f h (omega (arith, frames-go-on ok (ticks h)))

-- ---- marks before the last granted reset, and since

-- the marks of each event up to the last granted reset
unfoldable pub marks_before : (Event → History → List Mark) → History → List Mark
marks_before f [] = []
marks_before f (e ∷ h) = cond (is_granted_reset e) (f e h ++ marks_of f h) (marks_before f h)

pub split-at-reset : (f : Event → History → List Mark) (test : Mark → Bool) (h : History)
    → tally test (marks_of f h) ≡ tally test (marks_since f h) + tally test (marks_before f h)
unfolding marks_of marks_since marks_before tally
split-at-reset f test [] = refl
split-at-reset f test (e ∷ h) = go (is_granted_reset e) (split-at-reset f test h)
  where
    go : (b : Bool) → tally test (marks_of f h) ≡ tally test (marks_since f h) + tally test (marks_before f h)
        → tally test (f e h ++ marks_of f h)
        ≡ tally test (cond b [] (f e h ++ marks_since f h)) + tally test (cond b (f e h ++ marks_of f h) (marks_before f h))
    go true rest = omega arith
    go false rest = omega (arith, tally-append test (f e h) (marks_of f h), tally-append test (f e h) (marks_since f h))

-- ---- a list without a granted reset: both families of counts are over the whole list

abbrev pub NoneGranted : History → Type 0
NoneGranted = Each (λ e h. is_granted_reset e ≡ false)

pub since-the-start : (f : Event → History → List Mark) (h : History) → NoneGranted h → marks_since f h ≡ marks_of f h
unfolding marks_of marks_since
since-the-start f [] none = refl
since-the-start f (e ∷ h) none = rw none.0 (ap (f e h ++◌) (since-the-start f h none.1))

pub from-frame-0 : (P : Plan) (h : History) → NoneGranted h → origin P h ≡ 0
unfolding origin
from-frame-0 P [] none = refl
from-frame-0 P (e ∷ h) none = rw none.0 (from-frame-0 P h none.1)

-- ---- granted and lent slots

-- the slots from which a flow's holding rose, granted and lent, in the order of the list
abbrev raise_at : Plan → Event → History → List Mark
raise_at P e h = grant_at P e h ++ lend_at e h

unfoldable pub raises : Plan → History → List Mark
unfolding marks_of
raises P h = marks_of (raise_at P) h

pub raises-are : (P : Plan) (f : Mark → Bool) (h : History) → tally f (raises P h) ≡ tally f (grants P h) + tally f (lends h)
unfolding raises grants lends tally
raises-are P f [] = refl
raises-are P f (e ∷ h) =
    omega (
      arith,
      tally-append f (raise_at P e h) (raises P h),
      tally-append f (grant_at P e h) (lend_at e h),
      tally-append f (grant_at P e h) (grants P h),
      tally-append f (lend_at e h) (lends h),
      raises-are P f h,
    )
