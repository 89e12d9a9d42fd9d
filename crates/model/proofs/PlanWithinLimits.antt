-- A plan within its limits is accepted: the tests refuse nothing else. Assumes nothing.
use Prim.Native.Nat.{ℕ, zero, suc, ◌*◌, ◌≤◌, ◌<◌}
use mathlib.Core.Path.{◌≡◌, refl}
use mathlib.Core.Bool.{Bool, true, false, not}
use native.Mathlib.Decide.{ℕ_discrete}
use native.Mathlib.Omega.{arith}
use borrow.Author.Tests.{le-leb, le-ltb, eq-eqb, ne_eqb}
use Rattle.model.specs.Tables.{any, within}
use Rattle.model.specs.Refusals.{first_of}
use Rattle.model.specs.Plan.{Plan, Entry, flow_count, entry, entry_fits, same_pair, limit_tests, FittingEntry, Accepted}

none_any : (n : ℕ) (f : ℕ → Bool) → ((k : ℕ) → k < n → f k ≡ false) → any n f ≡ false
unfolding any
none_any zero f h = refl
none_any (suc n) f h = rw (h n (omega arith)) (none_any n f (λ k l. h k (omega arith)))

kept : (low high x : ℕ) → low ≤ x → x ≤ high → within low high x ≡ true
kept low high x a b = rw (le-leb low x a, le-leb x high b)

entry_kept : (P : Plan) (e : Entry) → FittingEntry P e → not (entry_fits P.slots e) ≡ false
unfolding entry_fits
entry_kept P e h =
    rw (
      kept 1 P.slots e.share h.some_share h.share_most,
      kept 1 255 e.cells h.some_cell h.cells_most,
      kept 0 63 e.source (omega arith) h.source_most,
      kept 0 63 e.destination (omega arith) h.destination_most,
      ne_eqb e.source e.destination h.ends_differ,
    ) refl

apart : (a b : Entry) → (a.source ≡ b.source → a.destination ≡ b.destination → ⊥) → same_pair a b ≡ false
apart a b d = go (ℕ_discrete a.source b.source) (ℕ_discrete a.destination b.destination)
  where
    go : Dec (a.source ≡ b.source) → Dec (a.destination ≡ b.destination) → same_pair a b ≡ false
    go (yes s) (yes t) = absurd (d s t)
    go (yes s) (no t) = rw (eq-eqb a.source b.source s, ne_eqb a.destination b.destination t)
    go (no s) t = rw (ne_eqb a.source b.source s)

pairs-apart : (P : Plan) → Accepted P → (i : ℕ) → i < flow_count P → any i (λ j. same_pair (entry P j) (entry P i)) ≡ false
pairs-apart P ok i h = none_any i _ (λ j k. apart (entry P j) (entry P i) (ok.pairs_differ i j h k))

pub limits-kept : (P : Plan) → Accepted P → first_of (limit_tests P) ≡ 0
unfolding first_of
limits-kept P ok =
    rw (
      kept 1 64 P.slots ok.some_slot ok.slots_most,
      kept 2 8 P.frames ok.two_frames ok.frames_most,
      kept 1 4095 P.buffer ok.some_place ok.buffer_most,
      le-ltb 256 (P.slots * P.frames) ok.positions_most,
      none_any (flow_count P) (λ i. not (entry_fits P.slots (entry P i))) (λ i h. entry_kept P (entry P i) (ok.entries_fit i h)),
      none_any (flow_count P) (λ i. any i (λ j. same_pair (entry P j) (entry P i))) (pairs-apart P ok),
      le-ltb P.slots _ ok.shares_fit,
      le-ltb P.buffer _ ok.cells_fit,
    ) refl
