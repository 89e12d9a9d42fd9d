-- What the tests leave of the numbers, and what is answered then. Assumes nothing.
use Prim.Native.Nat.{ℕ, ◌*◌, ◌≤◌}
use mathlib.Core.Path.{◌≡◌, sym}
use mathlib.Core.Bool.{true, false, not}
use Rattle.std.proofs.Math.Option.{some, none}
use Rattle.std.specs.Prelude.{Result, Ok, Err}
use Rattle.std.specs.Result.{IsErrAnd}
use Rattle.model.specs.Calls.{accepted, refused}
use Rattle.delay.specs.declared.Bounds.{Bounds}
use Rattle.delay.specs.declared.Refusal.{Refusal}
use Rattle.delay.specs.declared.Unanswered.{Unanswered}
use Rattle.delay.specs.Reading.{number, told}
use mathlib.Core.List.{◌∷◌, []}
use native.Mathlib.Nat.{mul-le-mul_right}
use native.Mathlib.Omega.{arith}
use lib.Dec.{ltb}
use borrow.Author.Tests.{ltb-false}
use Rattle.model.specs.Tables.{within}
use Rattle.model.specs.Refusals.{◌when◌}
use Rattle.model.proofs.Tests.{or-false, in-range, line-passed}
use Rattle.delay.specs.Limits.{Asked, Passed}
use Rattle.delay.specs.Bounds.{bounds, no_question, refusal_of, delayed, answer_for}

pub asked-limits : (m burst : ℕ) → no_question m burst ≡ false → Asked m burst
unfolding no_question
asked-limits m burst e =
    let both = or-false (not (within 1 14 m)) (ltb 999 burst) e in
    record { links_most = (in-range 1 14 m both.0).1; burst_most = ltb-false _ _ both.1 }

pub passed-limits : (F share : ℕ) → refusal_of F share ≡ 0 → Passed F share
unfolding refusal_of
passed-limits F share e =
    let slots = line-passed (not (within 1 64 F)) 2 (4 when not (within 1 F share) ∷ []) e in
    let shares = line-passed (not (within 1 F share)) 3 [] slots.1 in
    let F-in = in-range 1 64 F slots.0 in
    let share_in = in-range 1 F share shares.0 in
    record { some_slots = F-in.0; slots_most = F-in.1; some_share = share_in.0; share_most = share_in.1 }

-- ---- the product of frames and slots

module _ {frames F : ℕ} (some : 1 ≤ frames) (most : frames ≤ 1077) {share : ℕ} (p : Passed F share) where
  pub product-most : frames * F ≤ 68928
  product-most = omega (arith, mul-le-mul_right F most, p.slots_most)

  pub some-product : 1 ≤ frames * F
  some-product = omega (arith, mul-le-mul_right F some, p.some_slots)

-- ---- what is answered

module _ (F m share burst : ℕ) where
  pub not-asked : no_question m burst ≡ true → none ≡ answer_for F m share burst
  unfolding answer_for
  not-asked e = rw e

  pub is-refused : no_question m burst ≡ false → (r : Refusal) → number r ≡ refusal_of F share → some (refused (number r)) ≡ answer_for F m share burst
  unfolding answer_for delayed
  is-refused e Refusal.Frame n = rw (e, sym n)
  is-refused e Refusal.Share n = rw (e, sym n)

  pub is_within : no_question m burst ≡ false → refusal_of F share ≡ 0 → some (accepted (bounds F m share burst)) ≡ answer_for F m share burst
  unfolding answer_for delayed
  is_within e n = rw (e, n)

-- an error that `?` passes on is told as the refusal that it was made from
pub passed_on : (x : Result Bounds Unanswered) (r : Refusal) → IsErrAnd x (λ u. u ≡ Unanswered.Refused r) → told x ≡ some (refused (number r))
passed_on (Ok b) r h = absurd h
passed_on (Err u) r h = rw h
