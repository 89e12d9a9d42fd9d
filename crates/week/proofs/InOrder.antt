-- Entries that keep their limits and follow one another, touching or not, pass. Assumes nothing.
use Prim.Native.Nat.{ℕ, zero, suc, ◌≤◌, ◌<◌}
use mathlib.Core.Path.{◌≡◌, ap}
use mathlib.Core.List.{List, ◌∷◌, []}
use mathlib.Core.Bool.{false, not}
use native.Mathlib.Decide.{dec_lt}
use native.Mathlib.Omega.{arith}
use lib.ListN.{length}
use lib.Dec.{ltb}
use borrow.Author.Tests.{lt-ltb, le-ltb}
use Rattle.model.specs.Refusals.{first_of}
use Rattle.model.proofs.Tests.{and-false, any-of-none}
use Rattle.week.specs.Week.{Entry, week, entry, share_minute, some_breaks_limits, some_shared, refusal, KeepsLimits, Passed}
use Rattle.week.specs.Meaning.{InOrder}
use Rattle.week.proofs.OneEntry.{kept-passes}
use Rattle.week.proofs.SharedMinutes.{share_is}

-- what keeps all of this passes
pub passes : (entries : List Entry) (minute : ℕ) → Passed entries minute → refusal entries minute ≡ 0
unfolding refusal first_of
passes entries minute p = rw (none-breaks, le-ltb 64 (length entries) p.few, lt-ltb minute week p.minute_in, none-shared)
  where
    none-breaks : some_breaks_limits entries ≡ false
    none-breaks = any-of-none (length entries) _ (λ i h. ap not (kept-passes (entry entries i) (p.keeps-limits i h)))

    none-shared : some_shared entries ≡ false
    none-shared = any-of-none (length entries) _ (λ i h. any-of-none i _ (λ j l. p.apart i j h l))

-- an entry that starts where another ends, or later, shares no minute with it
pub follows-apart : (a b : Entry) → KeepsLimits a → KeepsLimits b → a.end ≤ b.start → share_minute a b ≡ false
follows-apart a b keeps-a keeps-b h = rw (share_is a b keeps-a keeps-b, le-ltb b.start a.end h) (and-false (ltb a.start b.end))

module _ (entries : List Entry) (o : InOrder entries) where
  -- each entry ends before any at a higher place starts, or as it does
  later-starts : (i j : ℕ) → i < length entries → j < i → (entry entries j).end ≤ (entry entries i).start
  later-starts zero j h l = absurd (omega arith)
  later-starts (suc i) j h l = go (later-starts i j (omega arith)) (dec_lt j i)
    where
      next : (entry entries i).end ≤ (entry entries (suc i)).start
      next = o.follows i h

      go : (j < i → (entry entries j).end ≤ (entry entries i).start) → Dec (j < i) → (entry entries j).end ≤ (entry entries (suc i)).start
      go rest (yes m) = omega (arith, rest m, next, (o.keeps-limits i (omega arith)).before_end)
      go rest (no m) = let z : j ≡ i = omega arith in rw z next

  pub in-order-passes : (minute : ℕ) → minute < week → refusal entries minute ≡ 0
  in-order-passes minute h = passes entries minute (record {
    few = o.few;
    minute_in = h;
    keeps-limits = o.keeps-limits;
    apart = λ i j l m. follows-apart (entry entries j) (entry entries i) (o.keeps-limits j (omega arith)) (o.keeps-limits i l) (later-starts i j l m);
  })

-- an entry that starts as another ends
pub touching-pass : (a b : Entry) → KeepsLimits a → KeepsLimits b → a.end ≡ b.start → (minute : ℕ) → minute < week → refusal (a ∷ b ∷ []) minute ≡ 0
touching-pass a b keeps-a keeps-b e = in-order-passes (a ∷ b ∷ []) (record { few = omega arith; keeps-limits = each; follows = next })
  where
    each : (i : ℕ) → i < 2 → KeepsLimits (entry (a ∷ b ∷ []) i)
    each zero h = keeps-a
    each (suc zero) h = keeps-b
    each (suc (suc i)) h = absurd (omega arith)

    next : (i : ℕ) → suc i < 2 → (entry (a ∷ b ∷ []) i).end ≤ (entry (a ∷ b ∷ []) (suc i)).start
    next zero h = omega arith
    next (suc i) h = absurd (omega arith)
