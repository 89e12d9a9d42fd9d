-- On the next board of a way a stream's tiles leave after the slots that were booked for them on the board before. Assumes nothing.
use Prim.Native.Nat.{ℕ, suc, ◌<◌}
use mathlib.Core.Path.{◌≡◌, refl, sym, ap, ap₂, ◌∙◌}
use mathlib.Core.List.{List, ◌∷◌, [], ◌++◌}
use mathlib.Core.Bool.{Bool, true, false, cond}
use native.Mathlib.Decide.{ℕ_discrete}
use native.Mathlib.Omega.{arith}
use lib.Dec.{eqb}
use lib.ListN.{length}
use borrow.Author.Tests.{ne_eqb}
use Rattle.model.specs.Word.{flow_of}
use Rattle.model.specs.Plan.{Plan}
use Rattle.model.specs.Calls.{Grant, History, requested, accepted, refused}
use Rattle.model.specs.History.{ticks, slot_after, marks_of}
use Rattle.model.specs.Scheduler.{reference}
use Rattle.arrival.specs.Delay.{due_slot}
use Rattle.arrival.specs.SeveralLinks.{slots_of, dues, due_slots, tile, Board, plan_on, sent_on, due_on, Joined}
use Rattle.ahead.specs.AheadRuns.{WithAhead, start, both_tick, both_request, both_credit, both_lend, first_refused, second_refused, both_reset, sent_ahead}
use Rattle.ahead.specs.AheadRuns.{SameGrant, Unmoved, BookedAlike}
use Rattle.ahead.specs.Sendings.{Tile, tile_at, tiles, SentWell, sending_of, LentOnlyAhead}
use Rattle.ahead.specs.AheadOverLinks.{left_on, KeptAfter}
use Rattle.arrival.proofs.TileSlots.{tile-newest, tile-older, tile-of-oldest}
use Rattle.arrival.proofs.NextLink.{as_many}
use Rattle.arrival.proofs.SeveralLinks.{both}
use Rattle.ahead.proofs.SendsAhead.{same_ticks, due-same}
use Rattle.ahead.proofs.TileFields.{field_of, leaves-are, none_more, moved-field}
use Rattle.ahead.proofs.AheadOverLinks.{leaves-by-slot}

-- ---- the slots after some

unfoldable nexts : List ℕ → List ℕ
nexts [] = []
nexts (s ∷ ss) = suc s ∷ nexts ss

nexts-length : (ss : List ℕ) → length (nexts ss) ≡ length ss
unfolding nexts
nexts-length [] = refl
nexts-length (s ∷ ss) = ap suc (nexts-length ss)

next-tile : (n : ℕ) (ss : List ℕ) → n < length ss → tile n (nexts ss) ≡ suc (tile n ss)
unfolding nexts
next-tile n [] below = absurd (omega arith)
next-tile n (s ∷ ss) below = go (ℕ_discrete n (length ss)) (next-tile n ss)
  where
    go : Dec (n ≡ length ss) → (n < length ss → tile n (nexts ss) ≡ suc (tile n ss)) → tile n (suc s ∷ nexts ss) ≡ suc (tile n (s ∷ ss))
    go (yes e) rest =
        ap (λ k. tile k (suc s ∷ nexts ss)) (e ∙ sym (nexts-length ss)) ∙ tile-newest (suc s) (nexts ss)
        ∙ sym (ap suc (ap (λ k. tile k (s ∷ ss)) e ∙ tile-newest s ss))
    go (no d) rest =
        let older : n < length ss = omega arith in
        tile-older (suc s) (nexts ss) n (omega (arith, nexts-length ss)) ∙ rest older ∙ sym (ap suc (tile-older s ss n older))

-- ---- a stream's tiles may leave from the slots after those in which they are due in the run without any

module _ (P : Plan) (i : ℕ) where
  abbrev FromsAre : List Tile → History → Type 0
  FromsAre ms h₁ = field_of (λ m. m.from) i ms ≡ nexts (due_slots P h₁ i)

  one_from : (w : ℕ) (a₁ a₂ : Grant) (h₁ h₂ : History) (ms : List Tile) → SameGrant a₁ a₂ → ticks h₁ ≡ ticks h₂ → FromsAre ms h₁
      → FromsAre (tile_at P (requested w a₂) h₂ ++ ms) (requested w a₁ ∷ h₁)
  unfolding field_of nexts slots_of dues marks_of
  one_from w (accepted v₁) (refused r₂) h₁ h₂ ms same at_once rest = absurd same
  one_from w (refused r₁) (accepted v₂) h₁ h₂ ms same at_once rest = absurd same
  one_from w (refused r₁) (refused r₂) h₁ h₂ ms same at_once rest = rest
  one_from w (accepted v₁) (accepted v₂) h₁ h₂ ms same at_once rest = go (eqb (flow_of w) i)
    where
      go : (b : Bool) → cond b (suc (due_slot P w h₂) ∷ field_of (λ m. m.from) i ms) (field_of (λ m. m.from) i ms)
          ≡ nexts (cond b (due_slot P w h₁ ∷ due_slots P h₁ i) (due_slots P h₁ i))
      go true = ap₂ (λ d ss. suc d ∷ ss) (sym (due-same P w h₁ h₂ at_once)) rest
      go false = rest

  froms-are : {h₁ h₂ : History} (x : WithAhead h₁ h₂) → Unmoved P x → LentOnlyAhead (sending_of x) i → FromsAre (tiles P (sending_of x)) h₁
  unfolding field_of nexts slots_of dues marks_of
  froms-are start unmoved only = refl
  froms-are (both_tick x) unmoved only = froms-are x unmoved.1 only.1
  froms-are (both_request {h₁ = h₁} {h₂ = h₂} {a₁ = a₁} {a₂ = a₂} w x) unmoved only =
      one_from w a₁ a₂ h₁ h₂ (tiles P (sending_of x)) unmoved.0.same_grant (same_ticks x) (froms-are x unmoved.1 only.1)
  froms-are (both_credit j p x) unmoved only = froms-are x unmoved.1 only.1
  froms-are (both_lend j x) unmoved only = rw (ne_eqb j i only.0) (froms-are x unmoved only.1)
  froms-are (first_refused x) unmoved only = froms-are x unmoved only
  froms-are (second_refused x) unmoved only = froms-are x unmoved only.1
  froms-are (both_reset x) unmoved only = froms-are x unmoved.1 only.1
  froms-are (sent_ahead {h₂ = h₂} j p x) unmoved only =
      moved-field (λ m. m.from) i j (slot_after P (ticks h₂) p) (ticks h₂) (tiles P (sending_of x)) (λ m e. refl) ∙ froms-are x unmoved only

-- ---- two boards

-- a tile is due on the second in its slot on the first
after_slot : (a b : Board reference) → Joined a b → {h₂ : History} (y : WithAhead b.events h₂) → BookedAlike (plan_on b) y
    → LentOnlyAhead (sending_of y) b.stream → SentWell (plan_on b) (sending_of y) → (n : ℕ) → n < length (sent_on b)
    → tile n (sent_on a) < tile n (left_on b y)
after_slot a b joined y alike only well n below =
    let due_below : n < length (due_on b) = omega (arith, as_many (plan_on b) b.stream b.events) in
    let sent = tiles (plan_on b) (sending_of y) in
    omega (
      arith,
      tile-of-oldest (both a b joined).oldest n due_below,
      ap (tile n) (froms-are (plan_on b) b.stream y alike.unmoved only),
      next-tile n (due_on b) due_below,
      none_more (λ m. m.from) (λ m. m.leaves) b.stream n sent well.never_early,
      ap (tile n) (leaves-are b.stream sent),
    )

pub leave-after : KeptAfter reference
leave-after a b joined h₁ h₂ x y alike₁ only₁ alike₂ only₂ well = record {
  after_slot = λ n below. omega (arith, after_slot a b joined y alike₂ only₂ well n below);
  after_leaving = λ n below. omega (arith, leaves-by-slot a x alike₁ only₁ n, after_slot a b joined y alike₂ only₂ well n below);
}
