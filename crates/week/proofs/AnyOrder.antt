-- The order of a programme's entries makes no difference. Assumes nothing.
use Prim.Native.Nat.{ℕ, zero, suc, ◌≤◌}
use mathlib.Core.Path.{◌≡◌, refl, sym, ap, ap₂, ◌∙◌}
use mathlib.Core.List.{List, ◌∷◌, [], Permᴰ}
use mathlib.Core.Bool.{Bool, true, false, not, ◌||◌, cond}
use native.Mathlib.Omega.{arith}
use lib.ListN.{length}
use lib.Dec.{ltb}
use Rattle.std.specs.List.{list_any}
use Rattle.model.specs.Refusals.{first_of, ◌when◌}
use Rattle.week.specs.Week.{Entry, week, runs, keeps_limits, share_minute, refusal, running, plan_or_dark, answered, plan_at}
use Rattle.week.proofs.EntryTests.{or_swap, or-cross, pairs, some_is, pairs-are, share-either-way}
use Rattle.week.proofs.OneAtMost.{one_at_most, one-running}

-- ---- in another order: `List.Permᴰ xs ys` is that ys has the entries of xs, each as often, in some order

some-reordered : (f : Entry → Bool) {xs ys : List Entry} → Permᴰ xs ys → list_any f xs ≡ list_any f ys
some-reordered f Permᴰ.nil = refl
some-reordered f (Permᴰ.cons e d) = ap₂ ◌||◌ (ap f e) (some-reordered f d)
some-reordered f (Permᴰ.swap {a = a} {b = b} {l = l} e₁ e₂) = or_swap (f a) (f b) (list_any f l) ∙ ap₂ (λ x y. f x || (f y || list_any f l)) e₂ e₁
some-reordered f (Permᴰ.trans d₁ d₂) = some-reordered f d₁ ∙ some-reordered f d₂

pairs-swapped : (a b : Entry) (rest : List Entry) → pairs (a ∷ b ∷ rest) ≡ pairs (b ∷ a ∷ rest)
unfolding pairs
pairs-swapped a b rest =
    or-cross (share_minute a b) (list_any (share_minute a) rest) (list_any (share_minute b) rest) (pairs rest)
    ∙ ap (λ t. (t || list_any (share_minute b) rest) || (list_any (share_minute a) rest || pairs rest)) (share-either-way a b)

pairs-reordered : {xs ys : List Entry} → Permᴰ xs ys → pairs xs ≡ pairs ys
unfolding pairs
pairs-reordered Permᴰ.nil = refl
pairs-reordered (Permᴰ.cons {a = a} {l₂ = ys} e d) =
    ap₂ ◌||◌ (some-reordered (share_minute a) d ∙ ap (λ x. list_any (share_minute x) ys) e) (pairs-reordered d)
pairs-reordered (Permᴰ.swap {a = a} {b = b} {l = l} e₁ e₂) = pairs-swapped a b l ∙ ap₂ (λ x y. pairs (x ∷ y ∷ l)) e₂ e₁
pairs-reordered (Permᴰ.trans d₁ d₂) = pairs-reordered d₁ ∙ pairs-reordered d₂

length-reordered : {xs ys : List Entry} → Permᴰ xs ys → length xs ≡ length ys
length-reordered Permᴰ.nil = refl
length-reordered (Permᴰ.cons e d) = ap suc (length-reordered d)
length-reordered (Permᴰ.swap e₁ e₂) = refl
length-reordered (Permᴰ.trans d₁ d₂) = length-reordered d₁ ∙ length-reordered d₂

pub refusal-in-any-order : {xs ys : List Entry} → Permᴰ xs ys → (minute : ℕ) → refusal xs minute ≡ refusal ys minute
unfolding refusal
refusal-in-any-order {xs} {ys} d minute =
    let breaks = some_is (λ e. not (keeps_limits e)) xs ∙ some-reordered (λ e. not (keeps_limits e)) d ∙ sym (some_is (λ e. not (keeps_limits e)) ys) in
    let shared = pairs-are xs ∙ pairs-reordered d ∙ sym (pairs-are ys) in
    let many = length-reordered d in
    λ t. first_of (28 when (breaks t || ltb 64 (many t) || not (ltb minute week)) ∷ 29 when shared t ∷ [])

-- Where at most one entry runs, the same one does.
running-swapped : (a b : Entry) (rest : List Entry) (minute : ℕ) → length (running (a ∷ b ∷ rest) minute) ≤ 1 → running (a ∷ b ∷ rest) minute ≡ running (b ∷ a ∷ rest) minute
unfolding running
running-swapped a b rest minute = go (runs a minute) (runs b minute)
  where
    go : (p q : Bool) → length (cond p (a ∷ cond q (b ∷ running rest minute) (running rest minute)) (cond q (b ∷ running rest minute) (running rest minute))) ≤ 1
        → cond p (a ∷ cond q (b ∷ running rest minute) (running rest minute)) (cond q (b ∷ running rest minute) (running rest minute))
        ≡ cond q (b ∷ cond p (a ∷ running rest minute) (running rest minute)) (cond p (a ∷ running rest minute) (running rest minute))
    go true true h = absurd (omega arith)
    go true false h = refl
    go false true h = refl
    go false false h = refl

running-after : (a : Entry) (xs ys : List Entry) (minute : ℕ) → (length (running xs minute) ≤ 1 → running xs minute ≡ running ys minute) → length (running (a ∷ xs) minute) ≤ 1
    → running (a ∷ xs) minute ≡ running (a ∷ ys) minute
unfolding running
running-after a xs ys minute same = go (runs a minute)
  where
    go : (p : Bool) → length (cond p (a ∷ running xs minute) (running xs minute)) ≤ 1
        → cond p (a ∷ running xs minute) (running xs minute) ≡ cond p (a ∷ running ys minute) (running ys minute)
    go true h = ap (a ∷◌) (same (omega arith))
    go false h = same h

running-reordered : {xs ys : List Entry} → Permᴰ xs ys → (minute : ℕ) → length (running xs minute) ≤ 1 → running xs minute ≡ running ys minute
running-reordered Permᴰ.nil minute h = refl
running-reordered (Permᴰ.cons {a = a} {l₁ = xs} {l₂ = ys} e d) minute h =
    running-after a xs ys minute (running-reordered d minute) h ∙ ap (λ x. running (x ∷ ys) minute) e
running-reordered (Permᴰ.swap {a = a} {b = b} {l = l} e₁ e₂) minute h = running-swapped a b l minute h ∙ ap₂ (λ x y. running (x ∷ y ∷ l) minute) e₂ e₁
running-reordered (Permᴰ.trans d₁ d₂) minute h =
    let first = running-reordered d₁ minute h in
    first ∙ running-reordered d₂ minute (rw first at h)

-- Whatever order the entries come in, the answer is the same, refusals included.
pub any_order : {xs ys : List Entry} → Permᴰ xs ys → (minute : ℕ) → plan_at xs minute ≡ plan_at ys minute
unfolding plan_at
any_order {xs} {ys} d minute = go (refusal xs minute) refl ∙ ap (λ r. answered r (plan_or_dark (running ys minute))) (refusal-in-any-order d minute)
  where
    go : (r : ℕ) → refusal xs minute ≡ r → answered r (plan_or_dark (running xs minute)) ≡ answered r (plan_or_dark (running ys minute))
    go zero e = ap (λ l. answered 0 (plan_or_dark l)) (running-reordered d minute (one-running xs minute (one_at_most xs minute e minute)))
    go (suc r) e = refl
