-- The owner of a slot, as the grants tell it. Assumes nothing.
use Prim.Native.Nat.{ℕ, ◌+◌, ◌≤◌, ◌<◌}
use mathlib.Core.Path.{◌≡◌, refl, sym, ap, ◌∙◌}
use mathlib.Core.Logic.{◌↔◌}
use mathlib.Core.List.{List, [], ◌∷◌}
use mathlib.Core.Option.{Option, some, none}
use mathlib.Core.Bool.{Bool, true, false, ◌&&◌, cond}
use native.Mathlib.Omega.{arith}
use lib.Dec.{eqb}
use borrow.Author.Tests.{eqb-true, eq-eqb}
use Rattle.model.specs.Tables.{bit, tally}
use Rattle.model.specs.Request.{unbooked}
use Rattle.model.specs.History.{Mark, of_flow, at_slot}
use Rattle.model.proofs.Tests.{and-true, and-false}
use Rattle.model.proofs.Tallies.{tally-le, tally-hit, tally-skip}

-- the flow that was granted slot s
unfoldable pub owner_in : List Mark → ℕ → Option ℕ
owner_in [] s = none
owner_in (m ∷ G) s = cond (at_slot s m) (some m.flow) (owner_in G s)

-- a slot without an owner was not granted, and the other way round
pub unowned : (s : ℕ) (G : List Mark) → (owner_in G s ≡ none) ↔ (tally (at_slot s) G ≡ 0)
unfolding owner_in tally
unowned s [] = (λ e. refl, λ e. refl)
unowned s (m ∷ G) = go (unowned s G) (at_slot s m) refl
  where
    go : (owner_in G s ≡ none) ↔ (tally (at_slot s) G ≡ 0) → (b : Bool) → at_slot s m ≡ b
        → (cond (at_slot s m) (some m.flow) (owner_in G s) ≡ none) ↔ (bit (at_slot s m) + tally (at_slot s) G ≡ 0)
    go rest true e = rw e (λ q. cc, λ q. absurd (omega arith))
    go rest false e = rw e (λ q. omega (arith, rest.0 q), λ q. rest.1 (omega arith))

-- flow i's grants of slot s
abbrev pub grants_of : ℕ → ℕ → Mark → Bool
grants_of i s m = of_flow i m && at_slot s m

owner-granted : (i s : ℕ) (G : List Mark) → owner_in G s ≡ some i → 0 < tally (grants_of i s) G
unfolding owner_in tally
owner-granted i s [] e = absurd (let z : ◌≡◌ {A = ℕ} 0 1 = cc in omega arith)
owner-granted i s (m ∷ G) e = go (owner-granted i s G) (at_slot s m) refl e
  where
    go : (owner_in G s ≡ some i → 0 < tally (grants_of i s) G) → (b : Bool) → at_slot s m ≡ b → cond b (some m.flow) (owner_in G s) ≡ some i
        → 0 < bit (grants_of i s m) + tally (grants_of i s) G
    go rest true q e' = let z : m.flow ≡ i = cc in rw (q, eq-eqb m.flow i z) (omega arith)
    go rest false q e' = omega (arith, rest e')

granted-owner : (i s : ℕ) (G : List Mark) → tally (at_slot s) G ≤ 1 → 0 < tally (grants_of i s) G → owner_in G s ≡ some i
unfolding owner_in tally
granted-owner i s [] once g = absurd (omega arith)
granted-owner i s (m ∷ G) once g = go (granted-owner i s G) (at_slot s m) refl (of_flow i m) refl
  where
    go : (tally (at_slot s) G ≤ 1 → 0 < tally (grants_of i s) G → owner_in G s ≡ some i) → (b : Bool) → at_slot s m ≡ b → (c : Bool) → of_flow i m ≡ c
        → cond (at_slot s m) (some m.flow) (owner_in G s) ≡ some i
    go rest true q true r = rw q (ap some (eqb-true m.flow i r))
    go rest true q false r =
        let a : grants_of i s m ≡ false = rw r in
        absurd (omega (arith, ap bit a, ap bit q, tally-le (grants_of i s) (at_slot s) (λ x e. (and-true (of_flow i x) (at_slot s x) e).1) G))
    go rest false q c r =
        let a : grants_of i s m ≡ false = rw q (and-false (of_flow i m)) in
        rw q (rest (omega (arith, ap bit q)) (omega (arith, ap bit a)))

-- Where a slot was granted once at the most, its owner is the flow that it was granted to.
pub owned : (i s : ℕ) (G : List Mark) → tally (at_slot s) G ≤ 1 → (owner_in G s ≡ some i) ↔ (0 < tally (grants_of i s) G)
owned i s G once = (owner-granted i s G, granted-owner i s G once)

pub unbooked-none : (o : Option ℕ) → unbooked o ≡ true → o ≡ none
unbooked-none none e = refl
unbooked-none (some i) e = cc

-- one mark more, of a slot that has none yet
pub once_more : (m : Mark) (B : List Mark) → tally (at_slot m.slot) B ≡ 0 → ((r : ℕ) → tally (at_slot r) B ≤ 1) → (r : ℕ) → tally (at_slot r) (m ∷ B) ≤ 1
once_more m B none_yet once r = go (eqb m.slot r) refl
  where
    go : (b : Bool) → eqb m.slot r ≡ b → tally (at_slot r) (m ∷ B) ≤ 1
    go true e =
        let none_here : tally (at_slot r) B ≡ 0 = ap (λ k. tally (at_slot k) B) (sym (eqb-true m.slot r e)) ∙ none_yet in
        omega (arith, tally-hit (at_slot r) m B e)
    go false e = omega (arith, tally-skip (at_slot r) m B e, once r)
