-- Call records at a place of a stream of bytes, and the records of calls. Assumes nothing.
use Prim.Native.Nat.{ℕ, suc, ◌+◌, ◌*◌, ◌/◌, ◌%◌, ◌≤◌, ◌<◌}
use mathlib.Core.Path.{◌≡◌, refl, ap, ◌∙◌}
use mathlib.Core.List.{List, ◌∷◌, []}
use mathlib.Core.Logic.{◌⊎◌, inl, inr, ⊎_elim}
use mathlib.Core.Option.{Option, some, none}
use mathlib.Core.Bool.{Bool, true, false, ◌&&◌, cond}
use native.Mathlib.Numerals.{towards_suc}
use native.Mathlib.Omega.{arith}
use lib.ListN.{length, get_or, take, drop, length-take, length-drop}
use lib.Seq.{drop-cons}
use lib.Dec.{eqb}
use borrow.Author.Tests.{lt-leb, eqb-true}
use Rattle.model.specs.Plan.{field16}
use Rattle.model.specs.Record.{RecordCall, field32, call_of, record_of}
use Rattle.model.proofs.Tests.{and-true}

-- the five bytes at a place
five-at : (b : List ℕ) (at : ℕ) → at + 5 ≤ length b
    → take 5 (drop at b)
    ≡ get_or b at 0 ∷ get_or b (suc at) 0 ∷ get_or b (suc (suc at)) 0 ∷ get_or b (suc (suc (suc at))) 0 ∷ get_or b (suc (suc (suc (suc at)))) 0 ∷ []
five-at b at h =
    rw (
      drop-cons b at 0 (omega arith),
      drop-cons b (suc at) 0 (omega arith),
      drop-cons b (suc (suc at)) 0 (omega arith),
      drop-cons b (suc (suc (suc at))) 0 (omega arith),
      drop-cons b (suc (suc (suc (suc at)))) 0 (omega arith),
    )

-- the call of the record at a place that has five bytes
pub call_at : (b : List ℕ) (at : ℕ) → at + 5 ≤ length b
    → call_of (take 5 (drop at b))
    ≡ cond (eqb (get_or b at 0) 1) (some (RecordCall.request (field32 b (at + 1))))
    (cond (eqb (get_or b at 0) 2 && eqb (get_or b (at + 4) 0) 0) (some (RecordCall.credit (get_or b (at + 1) 0) (field16 b (at + 2))))
    (cond (eqb (get_or b at 0) 3 && eqb (field32 b (at + 1)) 0) (some RecordCall.tick) none))
unfolding call_of
call_at b at h = rw (five-at b at h) (simp towards_suc)

-- RULES 13.4: a record that is short makes no call
pub no-call-at : (b : List ℕ) (at : ℕ) → length b < at + 5 → call_of (take 5 (drop at b)) ≡ none
unfolding call_of
no-call-at b at h = rw (lt-leb 5 (length (take 5 (drop at b))) (omega (arith, length-take 5 (drop at b), length-drop at b)))

-- ---- the records of calls

word-of-bytes : (w : ℕ) → w % 256 + 256 * (w / 256 % 256) + 65536 * (w / 65536 % 256 + 256 * (w / 16777216)) ≡ w
word-of-bytes w = omega arith

-- a call's record is read back
pub call-of-record : (c : RecordCall) → call_of (record_of c) ≡ some c
unfolding call_of record_of
call-of-record (RecordCall.request w) = ap (λ v. some (RecordCall.request v)) (word-of-bytes w)
call-of-record (RecordCall.credit i p) = ap (λ q. some (RecordCall.credit i q)) (omega arith)
call-of-record RecordCall.tick = refl

picked : (t : Bool) {y rest x : Option RecordCall} → cond t y rest ≡ x → ((t ≡ true) × (y ≡ x)) ⊎ (rest ≡ x)
picked true e = inl (refl, e)
picked false e = inr e

-- five bytes that make a call are its record
module _ (k a b c d : ℕ) (a_byte : a < 256) (b-byte : b < 256) (c-byte : c < 256) (d-byte : d < 256) where
  abbrev five : List ℕ
  five = k ∷ a ∷ b ∷ c ∷ d ∷ []

  is-request : k ≡ 1 → record_of (RecordCall.request (field32 five 1)) ≡ five
  unfolding record_of
  is-request e =
      let w = field32 five 1 in
      let e0 : w % 256 ≡ a = omega arith in
      let from-b : w / 256 ≡ b + 256 * (c + 256 * d) = omega arith in
      let e1 : w / 256 % 256 ≡ b = ap (◌% 256) from-b ∙ omega arith in
      let from-c : w / 65536 ≡ c + 256 * d = omega arith in
      let e2 : w / 65536 % 256 ≡ c = ap (◌% 256) from-c ∙ omega arith in
      let e3 : w / 16777216 ≡ d = omega arith in
      rw (e, e0, e1, e2, e3)

  is-credit : k ≡ 2 → d ≡ 0 → record_of (RecordCall.credit a (field16 five 2)) ≡ five
  unfolding record_of
  is-credit e f =
      let p = field16 five 2 in
      let e0 : p % 256 ≡ b = omega arith in
      let e1 : p / 256 ≡ c = omega arith in
      rw (e, f, e0, e1)

  is-tick : k ≡ 3 → field32 five 1 ≡ 0 → record_of RecordCall.tick ≡ five
  unfolding record_of
  is-tick e f =
      let fa : a ≡ 0 = omega arith in
      let fb : b ≡ 0 = omega arith in
      let fc : c ≡ 0 = omega arith in
      let fd : d ≡ 0 = omega arith in
      rw (e, fa, fb, fc, fd)

  pub record-of-call : (x : RecordCall) → call_of five ≡ some x → record_of x ≡ five
  unfolding call_of
  record-of-call x is =
      ⊎_elim request
      (λ other. ⊎_elim credit
      (λ other. ⊎_elim tick
      (λ none_is. let z : ◌≡◌ {A = ℕ} 0 1 = cc in absurd (omega arith))
      (picked (eqb k 3 && eqb (field32 five 1) 0) other))
      (picked (eqb k 2 && eqb d 0) other))
      (picked (eqb k 1) is)
    where
      named : {y : RecordCall} → record_of y ≡ five → some y ≡ some x → record_of x ≡ five
      named {y} r e = let same : y ≡ x = cc in rw same at r

      request : (eqb k 1 ≡ true) × (some (RecordCall.request (field32 five 1)) ≡ some x) → record_of x ≡ five
      request p = named (is-request (eqb-true k 1 p.0)) p.1

      credit : (eqb k 2 && eqb d 0 ≡ true) × (some (RecordCall.credit a (field16 five 2)) ≡ some x) → record_of x ≡ five
      credit p = let both = and-true (eqb k 2) (eqb d 0) p.0 in named (is-credit (eqb-true k 2 both.0) (eqb-true d 0 both.1)) p.1

      tick : (eqb k 3 && eqb (field32 five 1) 0 ≡ true) × (some RecordCall.tick ≡ some x) → record_of x ≡ five
      tick p =
          let both = and-true (eqb k 3) (eqb (field32 five 1) 0) p.0 in
          named (is-tick (eqb-true k 3 both.0) (eqb-true (field32 five 1) 0 both.1)) p.1
