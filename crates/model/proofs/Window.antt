-- The window against slots that are numbered on without end: ranks, and which positions are passed, later, newest and last. Assumes nothing.
use Prim.Native.Nat.{ℕ, ◌+◌, ◌-◌, ◌*◌, ◌/◌, ◌%◌, ◌≤◌, ◌<◌}
use mathlib.Core.Path.{◌≡◌, refl, sym, ap, ◌∙◌}
use mathlib.Core.Bool.{Bool, true, false, not, ◌&&◌, ◌||◌}
use native.Mathlib.Nat.{mod-lt, mod-add-mod, add-zero}
use native.Mathlib.Omega.{arith}
use lib.Dec.{leb, ltb, eqb}
use borrow.Author.Tests.{ltb-true, ltb-false, leb-true, leb-false, lt-ltb, le-ltb, le-leb, lt-leb, eq-eqb}
use Rattle.model.specs.Tables.{ahead}
use Rattle.model.specs.Plan.{Plan, positions, Accepted}
use Rattle.model.specs.Window.{Window, head, newest, rank, later, passed, from_on, every_from, last}
use Rattle.model.specs.History.{frame_of}
use Rattle.model.specs.Holding.{frame_start, InWindow}
use Rattle.model.proofs.Tests.{and-false, same_truth}
use Rattle.model.proofs.Round.{ahead-mod}
use Rattle.model.proofs.Tables.{every-at, every-intro}
use Rattle.model.proofs.Slots.{some-frame, some-position, frame-begins, frame-ends, same-frame, current-in-window}
use Rattle.model.proofs.Slots.{frame-of-position, position-of, slot_at, slot_at-in-window, slot_at-position}

-- the window of a plan with the current position c
abbrev pub window_of : Plan → ℕ → Window
window_of P c = record { slots = P.slots; frames = P.frames; current = c }

-- The current position c is that of slot t.
pub record Current (P : Plan) (t c : ℕ) : Type 0 where
  pub accepted : Accepted P
  pub current_is : c ≡ t % positions P

module _ {P : Plan} {t c : ℕ} (now : Current P t c) where
  abbrev w : Window
  w = window_of P c

  abbrev T : ℕ
  T = positions P

  pub head_is : head w ≡ frame_of P t % P.frames
  head_is = ap (◌/ P.slots) now.current_is ∙ frame-of-position now.accepted t

  head-start : head w * P.slots ≡ frame_start P t % T
  head-start = ap (◌* P.slots) head_is ∙ simp add-zero at (sym (position-of now.accepted (frame_of P t) 0 now.accepted.some_slot))

  -- ---- which position is later

  rank_is : (s : ℕ) → InWindow P t s → rank w (s % T) ≡ s - frame_start P t
  unfolding rank
  rank_is s w-s = ap (λ b. ahead T b (s % T)) head-start ∙ ahead-mod (some-position now.accepted) w-s.low w-s.high

  rank-current : rank w c ≡ t - frame_start P t
  rank-current = ap (rank w) now.current_is ∙ rank_is t (current-in-window now.accepted t)

  pub from_on-is : (s r : ℕ) → InWindow P t s → InWindow P t r → from_on w (s % T) (r % T) ≡ leb s r
  unfolding from_on
  from_on-is s r w-s w-r = go (leb s r) refl
    where
      go : (b : Bool) → leb s r ≡ b → leb (rank w (s % T)) (rank w (r % T)) ≡ b
      go true e = le-leb (rank w (s % T)) (rank w (r % T)) (omega (arith, rank_is s w-s, rank_is r w-r, leb-true s r e))
      go false e = lt-leb (rank w (s % T)) (rank w (r % T)) (omega (arith, rank_is s w-s, rank_is r w-r, leb-false s r e, w-s.low, w-r.low))

  pub later-is : (s r : ℕ) → InWindow P t s → InWindow P t r → later w (s % T) (r % T) ≡ ltb r s
  later-is s r w-s w-r = go (ltb r s) refl
    where
      go : (b : Bool) → ltb r s ≡ b → ltb (rank w (r % T)) (rank w (s % T)) ≡ b
      go true e = lt-ltb (rank w (r % T)) (rank w (s % T)) (omega (arith, rank_is s w-s, rank_is r w-r, ltb-true r s e, w-r.low))
      go false e = le-ltb (rank w (r % T)) (rank w (s % T)) (omega (arith, rank_is s w-s, rank_is r w-r, ltb-false r s e))

  pub later-than-current : (s : ℕ) → InWindow P t s → later w (s % T) c ≡ ltb t s
  later-than-current s w-s = ap (later w (s % T)) now.current_is ∙ later-is s t w-s (current-in-window now.accepted t)

  -- The passed positions are those of the slots up to the current one: a position in another frame than HF is later than CP.
  pub passed_is : (s : ℕ) → InWindow P t s → passed w (s % T) ≡ leb s t
  unfolding passed
  passed_is s w-s = go (leb s t) refl
    where
      in_head : s ≤ t → s % T / P.slots ≡ head w
      in_head le =
          frame-of-position now.accepted s
          ∙ ap (◌% P.frames) (same-frame now.accepted s t w-s.low (omega (arith, frame-ends now.accepted t)))
          ∙ sym head_is

      go : (b : Bool) → leb s t ≡ b → eqb (s % T / P.slots) (head w) && not (ltb (rank w c) (rank w (s % T))) ≡ b
      go true e =
          let le = leb-true s t e in
          rw (
            eq-eqb (s % T / P.slots) (head w) (in_head le),
            le-ltb (rank w c) (rank w (s % T)) (omega (arith, rank_is s w-s, rank-current)),
          )
      go false e =
          let lt = leb-false s t e in
          rw (lt-ltb (rank w c) (rank w (s % T)) (omega (arith, rank_is s w-s, rank-current, frame-begins now.accepted t)))
          (and-false (eqb (s % T / P.slots) (head w)))

  -- ---- a test at a position and at every later one is a test at its slot and at every later one of the window

  pub every_from-at : (s : ℕ) (test : ℕ → Bool) → InWindow P t s → every_from w (s % T) test ≡ true
      → (r : ℕ) → InWindow P t r → s ≤ r → test (r % T) ≡ true
  unfolding every_from
  every_from-at s test w-s e r w-r le =
      let a = every-at T (λ q. not (from_on w (s % T) q) || test q) (r % T) e (mod-lt r (some-position now.accepted)) in
      rw (from_on-is s r w-s w-r ∙ le-leb s r le) at a

  pub every_from-intro : (s : ℕ) (test : ℕ → Bool) → InWindow P t s → ((r : ℕ) → InWindow P t r → s ≤ r → test (r % T) ≡ true)
      → every_from w (s % T) test ≡ true
  unfolding every_from
  every_from-intro s test w-s h = every-intro T (λ q. not (from_on w (s % T) q) || test q) each
    where
      each : (q : ℕ) → q < T → not (from_on w (s % T) q) || test q ≡ true
      each q below = rw (slot_at-position now.accepted t q below) at go (leb s r) refl
        where
          r : ℕ
          r = slot_at now.accepted t q

          w-r : InWindow P t r
          w-r = slot_at-in-window now.accepted t q

          go : (b : Bool) → leb s r ≡ b → not (from_on w (s % T) (r % T)) || test (r % T) ≡ true
          go true e = rw (from_on-is s r w-s w-r ∙ e) (h r w-r (leb-true s r e))
          go false e = rw (from_on-is s r w-s w-r ∙ e)

  pub every_from-same : (s : ℕ) (test test' : ℕ → Bool) → InWindow P t s → ((r : ℕ) → InWindow P t r → s ≤ r → test (r % T) ≡ test' (r % T))
      → every_from w (s % T) test ≡ every_from w (s % T) test'
  every_from-same s test test' w-s same =
      same_truth (every_from w (s % T) test) (every_from w (s % T) test')
      (λ e. every_from-intro s test' w-s (λ r w-r le. sym (same r w-r le) ∙ every_from-at s test w-s e r w-r le))
      (λ e. every_from-intro s test w-s (λ r w-r le. same r w-r le ∙ every_from-at s test' w-s e r w-r le))

  -- ---- the newest frame and the last position

  pub newest-is : newest w ≡ (frame_of P t + P.frames - 1) % P.frames
  newest-is =
      let some = some-frame now.accepted in
      let a : head w + P.frames - 1 ≡ frame_of P t % P.frames + (P.frames - 1) = omega (arith, head_is) in
      let b : frame_of P t + (P.frames - 1) ≡ frame_of P t + P.frames - 1 = omega arith in
      ap (◌% P.frames) a ∙ mod-add-mod (frame_of P t) P.frames (P.frames - 1) ∙ ap (◌% P.frames) b

  pub last_is : last w ≡ (frame_start P t + T - 1) % T
  last_is =
      let some = some-position now.accepted in
      let a : head w * P.slots + T - 1 ≡ frame_start P t % T + (T - 1) = omega (arith, head-start) in
      let b : frame_start P t + (T - 1) ≡ frame_start P t + T - 1 = omega arith in
      ap (◌% T) a ∙ mod-add-mod (frame_start P t) T (T - 1) ∙ ap (◌% T) b
