-- Counts of a flow's marks, in a frame and up to a slot, and what one mark more does to them. Assumes nothing.
use Prim.Native.Nat.{ℕ, suc, ◌≤◌, ◌<◌}
use mathlib.Core.Path.{◌≡◌}
use mathlib.Core.List.{List, ◌∷◌}
use mathlib.Core.Bool.{Bool, true, false, ◌&&◌}
use native.Mathlib.Omega.{arith}
use lib.Dec.{leb, eqb}
use borrow.Author.Tests.{le-leb, eq-eqb, ne_eqb}
use Rattle.model.specs.Tables.{tally}
use Rattle.model.specs.Plan.{Plan}
use Rattle.model.specs.History.{Mark, frame_of, of_flow, in_frame, up_to}
use Rattle.model.proofs.Tests.{and-false}
use Rattle.model.proofs.Tallies.{All, all_map, tally-hit, tally-skip, tally-same}

-- the mark of slot s for flow i
abbrev pub mark : ℕ → ℕ → Mark
mark i s = record { flow = i; slot = s }

-- flow i's marks in frame f
abbrev pub marks_in : Plan → ℕ → ℕ → List Mark → ℕ
marks_in P i f G = tally (in_frame P i f) G

-- flow i's marks up to slot s
abbrev pub marks_up_to : ℕ → ℕ → List Mark → ℕ
marks_up_to i s G = tally (up_to i s) G

-- ---- one mark more, for any test

module _ (i : ℕ) (test : Mark → Bool) (m : Mark) (G : List Mark) where
  abbrev counted : List Mark → ℕ
  counted C = tally (λ x. of_flow i x && test x) C

  hit : m.flow ≡ i → test m ≡ true → counted (m ∷ G) ≡ suc (counted G)
  hit e h = tally-hit (λ x. of_flow i x && test x) m G (rw (eq-eqb m.flow i e, h))

  skip : test m ≡ false → counted (m ∷ G) ≡ counted G
  skip h = tally-skip (λ x. of_flow i x && test x) m G (rw h (and-false (of_flow i m)))

  other : (m.flow ≡ i → ⊥) → counted (m ∷ G) ≡ counted G
  other d = tally-skip (λ x. of_flow i x && test x) m G (rw (ne_eqb m.flow i d))

-- ---- in a frame

module _ (P : Plan) (i f : ℕ) (m : Mark) (G : List Mark) where
  abbrev of_frame : Mark → Bool
  of_frame x = eqb (frame_of P x.slot) f

  pub in-frame-hit : m.flow ≡ i → frame_of P m.slot ≡ f → marks_in P i f (m ∷ G) ≡ suc (marks_in P i f G)
  in-frame-hit e h = hit i of_frame m G e (eq-eqb (frame_of P m.slot) f h)

  pub in-frame-skip : (frame_of P m.slot ≡ f → ⊥) → marks_in P i f (m ∷ G) ≡ marks_in P i f G
  in-frame-skip d = skip i of_frame m G (ne_eqb (frame_of P m.slot) f d)

  pub in-frame-other : (m.flow ≡ i → ⊥) → marks_in P i f (m ∷ G) ≡ marks_in P i f G
  in-frame-other = other i of_frame m G

-- ---- up to a slot

module _ (i s : ℕ) (m : Mark) (G : List Mark) where
  abbrev before : Mark → Bool
  before x = leb x.slot s

  pub up-to-hit : m.flow ≡ i → leb m.slot s ≡ true → marks_up_to i s (m ∷ G) ≡ suc (marks_up_to i s G)
  up-to-hit = hit i before m G

  pub up-to-skip : leb m.slot s ≡ false → marks_up_to i s (m ∷ G) ≡ marks_up_to i s G
  up-to-skip = skip i before m G

  pub up-to-other : (m.flow ≡ i → ⊥) → marks_up_to i s (m ∷ G) ≡ marks_up_to i s G
  up-to-other = other i before m G

-- where all marks lie below b, the counts are the same from slot b - 1 on
pub up-to-past : (i b s r : ℕ) (G : List Mark) → All (λ m. m.slot < b) G → b ≤ suc s → b ≤ suc r → marks_up_to i s G ≡ marks_up_to i r G
up-to-past i b s r G below hs hr = tally-same (up_to i s) (up_to i r) G (all_map _ _ same G below)
  where
    same : (m : Mark) → m.slot < b → up_to i s m ≡ up_to i r m
    same m h = rw (le-leb m.slot s (omega arith), le-leb m.slot r (omega arith))
