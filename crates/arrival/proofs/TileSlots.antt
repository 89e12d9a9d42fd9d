-- The slots of a flow's tiles: how many there are, how many in a frame, and the slot of tile n. Assumes nothing.
use Prim.Native.Nat.{ℕ, ◌+◌, ◌≤◌, ◌<◌}
use mathlib.Core.Path.{◌≡◌, refl, ap, ◌∙◌}
use mathlib.Core.List.{List, [], ◌∷◌, ◌++◌}
use mathlib.Core.Bool.{Bool, true, false, ◌&&◌, cond}
use native.Mathlib.Decide.{dec_lt}
use native.Mathlib.Omega.{arith}
use lib.Dec.{eqb}
use lib.ListN.{length, length-append}
use borrow.Author.Tests.{eqb-false, eq-eqb, ne_eqb}
use Rattle.model.specs.Tables.{bit, tally}
use Rattle.model.specs.Plan.{Plan}
use Rattle.model.specs.History.{Mark, frame_of, of_flow, in_frame}
use Rattle.arrival.specs.SeveralLinks.{slots_of, tile}
use Rattle.model.proofs.Tallies.{All}

-- ---- the slots of flow i's marks

module _ (i : ℕ) (m : Mark) (ms : List Mark) where
  pub slots-hit : m.flow ≡ i → slots_of i (m ∷ ms) ≡ m.slot ∷ slots_of i ms
  unfolding slots_of
  slots-hit e = rw (eq-eqb m.flow i e)

  pub slots-skip : (m.flow ≡ i → ⊥) → slots_of i (m ∷ ms) ≡ slots_of i ms
  unfolding slots_of
  slots-skip d = rw (ne_eqb m.flow i d)

pub count-slots : (i : ℕ) (ms : List Mark) → tally (of_flow i) ms ≡ length (slots_of i ms)
unfolding slots_of tally
count-slots i [] = refl
count-slots i (m ∷ ms) = go (of_flow i m) (count-slots i ms)
  where
    go : (b : Bool) → tally (of_flow i) ms ≡ length (slots_of i ms) → bit b + tally (of_flow i) ms ≡ length (cond b (m.slot ∷ slots_of i ms) (slots_of i ms))
    go true rest = omega (arith, rest)
    go false rest = omega (arith, rest)

-- slot s lies in frame f
abbrev pub of_frame : Plan → ℕ → ℕ → Bool
of_frame P f s = eqb (frame_of P s) f

pub count-in-frame : (P : Plan) (i f : ℕ) (ms : List Mark) → tally (in_frame P i f) ms ≡ tally (of_frame P f) (slots_of i ms)
unfolding slots_of tally
count-in-frame P i f [] = refl
count-in-frame P i f (m ∷ ms) = go (of_flow i m) (count-in-frame P i f ms)
  where
    go : (b : Bool) → tally (in_frame P i f) ms ≡ tally (of_frame P f) (slots_of i ms)
        → bit (b && of_frame P f m.slot) + tally (in_frame P i f) ms ≡ tally (of_frame P f) (cond b (m.slot ∷ slots_of i ms) (slots_of i ms))
    go true rest = omega (arith, rest)
    go false rest = omega (arith, rest)

pub all_slots : (i : ℕ) (R : ℕ → Type 0) (ms : List Mark) → All (λ m. R m.slot) ms → All R (slots_of i ms)
unfolding slots_of
all_slots i R [] a = tt
all_slots i R (m ∷ ms) a = go (of_flow i m) (all_slots i R ms a.1)
  where
    go : (b : Bool) → All R (slots_of i ms) → All R (cond b (m.slot ∷ slots_of i ms) (slots_of i ms))
    go true rest = (a.0, rest)
    go false rest = rest

-- ---- tile n

module _ (s : ℕ) (older : List ℕ) where
  pub tile-newest : tile (length older) (s ∷ older) ≡ s
  unfolding tile
  tile-newest = rw (eq-eqb (length older) (length older) refl)

  pub tile-older : (n : ℕ) → n < length older → tile n (s ∷ older) ≡ tile n older
  unfolding tile
  tile-older n lt = rw (ne_eqb n (length older) (λ e. omega arith))

pub tile-all : (R : ℕ → Type 0) (n : ℕ) (xs : List ℕ) → All R xs → n < length xs → R (tile n xs)
unfolding tile
tile-all R n [] a lt = absurd (omega arith)
tile-all R n (x ∷ xs) a lt = go (eqb n (length xs)) refl (tile-all R n xs a.1)
  where
    go : (b : Bool) → eqb n (length xs) ≡ b → (n < length xs → R (tile n xs)) → R (cond b x (tile n xs))
    go true e rest = a.0
    go false e rest = let d = eqb-false n (length xs) e in rest (below d)
      where
        below : (n ≡ length xs → ⊥) → n < length xs
        below d = at (dec_lt n (length xs))
          where
            at : Dec (n < length xs) → n < length xs
            at (yes y) = y
            at (no y) = absurd (d (omega arith))

-- ---- the oldest of a list

-- `part` are the oldest of `whole`
pub record Oldest (part whole : List ℕ) : Type 0 where
  pub later : List ℕ
  pub whole_is : whole ≡ later ++ part

tile-append : (n : ℕ) (later part : List ℕ) → n < length part → tile n (later ++ part) ≡ tile n part
tile-append n [] part lt = refl
tile-append n (x ∷ later) part lt =
    tile-older x (later ++ part) n (omega (arith, length-append later part)) ∙ tile-append n later part lt

pub tile-of-oldest : {part whole : List ℕ} → Oldest part whole → (n : ℕ) → n < length part → tile n whole ≡ tile n part
tile-of-oldest {part} {whole} o n lt = ap (tile n) o.whole_is ∙ tile-append n o.later part lt

pub oldest-length : {part whole : List ℕ} → Oldest part whole → length part ≤ length whole
oldest-length {part} {whole} o = omega (arith, ap length o.whole_is, length-append o.later part)

pub oldest-newer : {part whole : List ℕ} (s : ℕ) → Oldest part whole → Oldest part (s ∷ whole)
oldest-newer s o = record { later = s ∷ o.later; whole_is = ap (s ∷◌) o.whole_is }

-- one more of them
one_more : (later part : List ℕ) → length part < length (later ++ part) → Oldest (tile (length part) (later ++ part) ∷ part) (later ++ part)
one_more [] part lt = absurd (omega arith)
one_more (x ∷ later) part lt = go (one_more later part) (dec_lt (length part) (length (later ++ part)))
  where
    go : (length part < length (later ++ part) → Oldest (tile (length part) (later ++ part) ∷ part) (later ++ part))
        → Dec (length part < length (later ++ part)) → Oldest (tile (length part) (x ∷ later ++ part) ∷ part) (x ∷ later ++ part)
    go rest (yes more) = rw (tile-older x (later ++ part) (length part) more) (oldest-newer x (rest more))
    go rest (no same) = alone later refl
      where
        alone : (rest : List ℕ) → later ≡ rest → Oldest (tile (length part) (x ∷ later ++ part) ∷ part) (x ∷ later ++ part)
        alone [] e = rw (e, tile-newest x part) (record { later = []; whole_is = refl })
        alone (y ∷ rest) e = absurd (omega (arith, length-append later part, ap length e))

pub oldest-one-more : {part whole : List ℕ} → Oldest part whole → length part < length whole → Oldest (tile (length part) whole ∷ part) whole
oldest-one-more {part} {whole} o lt =
    rw o.whole_is (one_more o.later part (omega (arith, ap length o.whole_is)))
