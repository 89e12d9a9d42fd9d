-- Streams of one link, taken for the flows of a plan, pass its share test. Assumes nothing.
use Prim.Native.Nat.{ℕ, zero, suc, ◌+◌, ◌≤◌, ◌<◌}
use mathlib.Core.Path.{◌≡◌, sym, ap, ◌∙◌}
use mathlib.Core.List.{List, ◌∷◌, []}
use mathlib.Core.Bool.{Bool, true, false, cond}
use native.Mathlib.Decide.{ℕ_discrete}
use native.Mathlib.Omega.{arith}
use lib.ListN.{length}
use lib.Dec.{ltb, eqb}
use borrow.Author.Tests.{le-ltb, eq-eqb, ne_eqb}
use Rattle.model.specs.Tables.{sum}
use Rattle.model.specs.Refusals.{◌when◌, first_of}
use Rattle.model.specs.Plan as plan
use Rattle.mesh.specs.Mesh.{Link, in_mesh}
use Rattle.mesh.specs.Streams.{Stream, stream, share_on, load}
use Rattle.mesh.specs.Admission.{Admitted}
use Rattle.mesh.specs.Sharing.{Carried}
use Rattle.mesh.proofs.Admission.{sum_same}

-- ---- some terms of a sum

abbrev without : ℕ → (ℕ → ℕ) → ℕ → ℕ
without i f k = cond (eqb k i) 0 (f k)

without_other : (i : ℕ) (f : ℕ → ℕ) (k : ℕ) → (k ≡ i → ⊥) → f k ≡ without i f k
without_other i f k d = rw (ne_eqb k i d)

without-it : (i : ℕ) (f : ℕ → ℕ) (k : ℕ) → k ≡ i → without i f k ≡ 0
without-it i f k e = rw (eq-eqb k i e)

taken_out : (n : ℕ) (f : ℕ → ℕ) (i : ℕ) → i < n → sum n f ≡ f i + sum n (without i f)
unfolding sum
taken_out zero f i l = absurd (omega arith)
taken_out (suc n) f i l = go (λ h. taken_out n f i h) (ℕ_discrete n i)
  where
    go : (i < n → sum n f ≡ f i + sum n (without i f)) → Dec (n ≡ i) → f n + sum n f ≡ f i + (without i f n + sum n (without i f))
    go rest (yes e) =
        omega (arith, ap f e, without-it i f n e, sum_same n f (without i f) (λ k h. without_other i f k (λ z. omega arith)))
    go rest (no d) = omega (arith, rest (omega arith), without_other i f n d)

-- terms that are chosen, no one twice, are at most all of them
chosen-most : (m n : ℕ) (f chosen : ℕ → ℕ) → ((j : ℕ) → j < m → chosen j < n) → ((i j : ℕ) → i < m → j < m → chosen i ≡ chosen j → i ≡ j)
    → sum m (λ j. f (chosen j)) ≤ sum n f
unfolding sum
chosen-most zero n f chosen there once = omega arith
chosen-most (suc m) n f chosen there once =
    let last = chosen m in
    let others = chosen-most m n (without last f) chosen (λ j l. there j (omega arith)) (λ i j l h. once i j (omega arith) (omega arith)) in
    let same = sum_same m (λ j. f (chosen j)) (λ j. without last f (chosen j)) (λ j l. without_other last f (chosen j) (λ e. omega (arith, once j m (omega arith) (omega arith) e))) in
    omega (arith, taken_out n f last (there m (omega arith)))

-- ---- the share test

not-6 : (frame entries pairs shares cells : Bool) → shares ≡ false
    → first_of (3 when frame ∷ 4 when entries ∷ 5 when pairs ∷ 6 when shares ∷ 7 when cells ∷ []) ≡ 6 → ⊥
unfolding first_of
not-6 true entries pairs shares cells f e = omega arith
not-6 false true pairs shares cells f e = omega arith
not-6 false false true shares cells f e = omega arith
not-6 false false false true cells f e = let z : ◌≡◌ {A = ℕ} 0 1 = cc in omega arith
not-6 false false false false true f e = omega arith
not-6 false false false false false f e = omega arith

module _ {F : ℕ} {streams : List Stream} {l : Link} {P : plan.Plan} where
  -- the flows' shares are the chosen streams' shares on the link
  all-shares : (c : Carried F streams l P)
      → sum (plan.flow_count P) (λ j. (plan.entry P j).share) ≡ sum (plan.flow_count P) (λ j. share_on l (stream streams (c.chosen j)))
  all-shares c =
      sum_same (plan.flow_count P) _ _ (λ j h. c.shares_are j h ∙ sym (ap (λ b. cond b (stream streams (c.chosen j)).share 0) (c.on_link j h)))

  some-shares : (c : Carried F streams l P) → sum (plan.flow_count P) (λ j. share_on l (stream streams (c.chosen j))) ≤ load streams l
  unfolding load
  some-shares c = chosen-most (plan.flow_count P) (length streams) (λ i. share_on l (stream streams i)) c.chosen c.streams_are c.once

  -- line 6 of the plan's tests doesn't apply
  pub share-test-passes : Admitted F streams → in_mesh l ≡ true → Carried F streams l P
      → ltb P.slots (sum (plan.flow_count P) (λ j. (plan.entry P j).share)) ≡ false
  share-test-passes a there c = le-ltb P.slots _ (omega (arith, c.slots_are, a.none_over l there, all-shares c, some-shares c))

  -- and so no such plan is refused with 6
  pub never-6 : Admitted F streams → in_mesh l ≡ true → Carried F streams l P → first_of (plan.limit_tests P) ≡ 6 → ⊥
  never-6 a there c e = not-6 _ _ _ _ _ (share-test-passes a there c) e
