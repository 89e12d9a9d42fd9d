-- A flow's tiles leave in the order of their slots, if each is sent ahead when those before it have left. Assumes nothing.
use Prim.Native.Nat.{ℕ, zero, suc, ◌+◌, ◌≤◌, ◌<◌}
use mathlib.Core.Path.{◌≡◌, refl, sym, ◌∙◌, subst}
use mathlib.Core.List.{List, ◌∷◌, []}
use mathlib.Core.Bool.{Bool, true, false, ◌&&◌, cond}
use native.Mathlib.Decide.{dec_lt}
use native.Mathlib.Omega.{arith}
use lib.Dec.{ltb, eqb}
use borrow.Author.Tests.{lt-ltb, eqb-true}
use Rattle.model.specs.Tables.{bit, tally}
use Rattle.model.specs.Plan.{Plan}
use Rattle.model.specs.Calls.{Event, History, requested, credited, ticked, lent, accepted, refused}
use Rattle.model.specs.History.{ticks, slot_after}
use Rattle.ahead.specs.Sendings.{Sending, nothing, event, ahead, Tile, tile_at, waits, leaves_in, tiles, HasTile, KeepsOrder, InOrder}
use Rattle.model.proofs.Tests.{and-true}
use Rattle.model.proofs.Tallies.{tally-append, tally-le}
use Rattle.model.proofs.NewestGrants.{slot-to-come}
use Rattle.ahead.proofs.Sendings.{none-late}

-- the tile of flow i with slot a that leaves in slot r
abbrev pub is : (i a r : ℕ) → Tile → Bool
is i a r m = eqb m.flow i && eqb m.slot a && eqb m.leaves r

pub record Is (i a r : ℕ) (m : Tile) : Type 0 where
  pub counts : eqb m.flow i && eqb m.slot a ≡ true
  pub flow : m.flow ≡ i
  pub slot : m.slot ≡ a
  pub leaves : m.leaves ≡ r

pub is-so : (i a r : ℕ) (m : Tile) → is i a r m ≡ true → Is i a r m
is-so i a r m e =
    let x = and-true (eqb m.flow i && eqb m.slot a) (eqb m.leaves r) e in
    let y = and-true (eqb m.flow i) (eqb m.slot a) x.0 in
    record { counts = x.0; flow = eqb-true m.flow i y.0; slot = eqb-true m.slot a y.1; leaves = eqb-true m.leaves r x.1 }

-- ---- a tile that is new

-- one tile, or none; and it leaves in its slot
pub data AtMostOne : List Tile → Type 0 where
  no_tile : AtMostOne []
  one : (m : Tile) → m.leaves ≡ m.slot → AtMostOne (m ∷ [])

pub new-tile : (P : Plan) (e : Event) (h : History) → AtMostOne (tile_at P e h)
new-tile P (requested w (accepted v)) h = one _ refl
new-tile P (requested w (refused r)) h = no_tile
new-tile P (credited i p a) h = no_tile
new-tile P (ticked x) h = no_tile
new-tile P (lent m (accepted i)) h = one _ refl
new-tile P (lent m (refused r)) h = no_tile
new-tile P (Event.reset a) h = no_tile

pub counted : (f : Tile → Bool) (m : Tile) → 0 < tally f (m ∷ []) → f m ≡ true
unfolding tally
counted f m = go (f m)
  where
    go : (b : Bool) → 0 < bit b + 0 → b ≡ true
    go true some = refl
    go false some = absurd (omega arith)

-- it leaves in its slot
pub new-leaves : (i a r : ℕ) {ms : List Tile} → AtMostOne ms → 0 < tally (is i a r) ms → r ≡ a
unfolding tally
new-leaves i a r no_tile some = absurd (omega arith)
new-leaves i a r (one m same) some = let x = is-so i a r m (counted (is i a r) m some) in sym x.leaves ∙ same ∙ x.slot

-- there are no two
new-alone : (i a r b s : ℕ) {ms : List Tile} → AtMostOne ms → 0 < tally (is i a r) ms → 0 < tally (is i b s) ms → a ≡ b
unfolding tally
new-alone i a r b s no_tile some also = absurd (omega arith)
new-alone i a r b s (one m same) some also = sym (is-so i a r m (counted (is i a r) m some)).slot ∙ (is-so i b s m (counted (is i b s) m also)).slot

-- ---- a tile that is sent ahead

-- it was there before, or is the one that leaves, and that waited
pub moved-has : {Q : Type 0} (k a r i s t : ℕ) (ms : List Tile) → 0 < tally (is k a r) (leaves_in i s t ms) → (0 < tally (is k a r) ms → Q)
    → (i ≡ k → s ≡ a → t ≡ r → 0 < tally (waits i s) ms → Q) → Q
unfolding tally leaves_in
moved-has k a r i s t [] some old new = absurd (omega arith)
moved-has {Q} k a r i s t (m ∷ ms) some old new = go (waits i s m) refl (is k a r m) refl some (λ x. moved-has k a r i s t ms x (λ y. old (omega arith)) (λ own at leaves y. new own at leaves (omega arith)))
  where
    here : waits i s m ≡ true → (d : Bool) → is k a r (record { flow = i; from = m.from; slot = s; leaves = t }) ≡ d → 0 < bit d + tally (is k a r) ms → Q
    here waiting true e some =
        let x = is-so k a r (record { flow = i; from = m.from; slot = s; leaves = t }) e in
        new x.flow x.slot x.leaves (rw waiting (omega arith))
    here waiting false e some = old (omega arith)

    go : (b : Bool) → waits i s m ≡ b → (d : Bool) → is k a r m ≡ d → 0 < tally (is k a r) (cond b (record { flow = i; from = m.from; slot = s; leaves = t } ∷ ms) (m ∷ leaves_in i s t ms))
        → (0 < tally (is k a r) (leaves_in i s t ms) → Q) → Q
    go true waiting d e some rest = here waiting (is k a r (record { flow = i; from = m.from; slot = s; leaves = t })) refl some
    go false waiting true e some rest = old (rw e (omega arith))
    go false waiting false e some rest = let z = rw e at some in rest (omega arith)

-- ---- in order

module _ (P : Plan) (i : ℕ) where
  -- no tile leaves after its slot
  not_late : {h : History} (x : Sending h) (a r : ℕ) → HasTile P x i a r → r ≤ a
  not_late x a r has = go (dec_lt a r)
    where
      go : Dec (a < r) → r ≤ a
      go (no n) = omega arith
      go (yes lt) =
          absurd (omega (
            arith,
            none-late P x,
            tally-le (is i a r) (λ m. ltb m.slot m.leaves) (λ m e.
                let so = is-so i a r m e in
                lt-ltb m.slot m.leaves (omega (arith, so.slot, so.leaves))) (tiles P x),
          ))

  -- a tile is new, or there was one before
  pub split : {Q : Type 0} {h : History} (e : Event) (x : Sending h) (a r : ℕ) → HasTile P (event e x) i a r
      → (0 < tally (is i a r) (tile_at P e h) → Q) → (HasTile P x i a r → Q) → Q
  split {Q} {h} e x a r has new old = go (tally (is i a r) (tile_at P e h)) refl
    where
      go : (n : ℕ) → tally (is i a r) (tile_at P e h) ≡ n → Q
      go zero z = old (omega (arith, tally-append (is i a r) (tile_at P e h) (tiles P x)))
      go (suc n) z = new (omega arith)

  ordered : {h : History} (x : Sending h) → KeepsOrder P x i → (a r b s : ℕ) → HasTile P x i a r → HasTile P x i b s → a < b → r < s
  unfolding tally
  ordered nothing keeps a r b s first second lt = absurd (omega arith)
  ordered (event {h = h} e x) keeps a r b s first second lt =
      split e x a r first
      (λ new-a.
      split e x b s second
      (λ new-b. let z = new-alone i a r b s (new-tile P e h) new-a new-b in absurd (omega arith))
      (λ old-b. before-new new-a old-b))
      (λ old-a.
      split e x b s second
      (λ new-b. omega (arith, not_late x a r old-a, new-leaves i b s (new-tile P e h) new-b))
      (λ old-b. ordered x keeps.1 a r b s old-a old-b lt))
    where
      -- the new tile has an earlier slot than one that was there: that one waits
      before-new : 0 < tally (is i a r) (tile_at P e h) → HasTile P x i b s → r < s
      before-new new-a old-b = go (dec_lt s b)
        where
          counts : 0 < tally (λ m. eqb m.flow i && eqb m.slot a) (tile_at P e h)
          counts =
              omega (arith, tally-le (is i a r) (λ m. eqb m.flow i && eqb m.slot a) (λ m z. (is-so i a r m z).counts) (tile_at P e h))

          go : Dec (s < b) → r < s
          go (yes early) = let z = keeps.0 a counts b s old-b early in absurd (omega arith)
          go (no not-early) = omega (arith, not_late x b s old-b, new-leaves i a r (new-tile P e h) new-a)
  ordered (ahead {h = h} j p x) keeps a r b s first second lt =
      let d = slot_after P (ticks h) p in
      moved-has i a r j d (ticks h) (tiles P x) first
      (λ old-a.
      moved-has i b s j d (ticks h) (tiles P x) second
      (λ old-b. ordered x keeps.1 a r b s old-a old-b lt)
      (λ own at_b leaves-b waited. let z = keeps.0 own a r old-a (omega arith) in omega arith))
      (λ own at_a leaves-a waits-a.
      moved-has i b s j d (ticks h) (tiles P x) second
      (λ old-b.
      let waited : HasTile P x i a a = subst (λ k. 0 < tally (is k a a) (tiles P x)) own (subst (λ q. 0 < tally (is j q q) (tiles P x)) at_a waits-a) in
      let z = ordered x keeps.1 a a b s waited old-b lt in
      omega (arith, slot-to-come P (ticks h) p))
      (λ own at_b leaves-b waits-b. absurd (omega arith)))

pub leave-in-order : InOrder
leave-in-order P h x i keeps a r b s first second lt = ordered P i x keeps a r b s first second lt
