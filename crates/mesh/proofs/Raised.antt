-- Tables of loads, raised at some places. Assumes nothing.
use Prim.Native.Nat.{ℕ, ◌+◌, ◌≤◌, ◌<◌}
use mathlib.Core.Path.{◌≡◌, sym, ap, ◌∙◌}
use mathlib.Core.List.{List}
use mathlib.Core.Bool.{Bool, true, false, cond}
use native.Mathlib.Decide.{dec_lt}
use native.Mathlib.Omega.{arith}
use lib.ListN.{length, get_or, set}
use Rattle.model.specs.Tables.{table}
use Rattle.model.proofs.Tables.{get_d-table, get_d-table-past, length-table, table_same, table-get_d, set-table}
use Rattle.mesh.specs.Loads.{Small, Addable, raised}

-- ---- tables of any length

-- a share more at one place
raise-one : (n : ℕ) (f g : ℕ → ℕ) (i share : ℕ) → i < n → f i + share ≡ g i → ((k : ℕ) → k < n → (k ≡ i → ⊥) → f k ≡ g k)
    → set (table n f) i (get_or (table n f) i 0 + share) ≡ table n g
raise-one n f g i share l more same = ap (set (table n f) i) (ap (◌+ share) (get_d-table n f i 0 l) ∙ more) ∙ set-table n f g i l same

table-most : (n : ℕ) (f : ℕ → ℕ) (most : ℕ) → ((k : ℕ) → k < n → f k ≤ most) → (k : ℕ) → get_or (table n f) k 0 ≤ most
table-most n f most h k = go (dec_lt k n)
  where
    go : Dec (k < n) → get_or (table n f) k 0 ≤ most
    go (yes l) = omega (arith, get_d-table n f k 0 l, h k l)
    go (no l) = omega (arith, get_d-table-past n f k 0 (omega arith))

whole-table : (n : ℕ) (xs : List ℕ) (f : ℕ → ℕ) → length xs ≡ n → ((k : ℕ) → k < n → get_or xs k 0 ≡ f k) → xs ≡ table n f
whole-table n xs f w same = sym (table-get_d xs 0) ∙ ap (λ m. table m (λ k. get_or xs k 0)) w ∙ table_same n _ _ same

pub small-table : (f : ℕ → ℕ) (most : ℕ) → ((k : ℕ) → k < 256 → f k ≤ most) → Small (table 256 f) most
small-table f most h = record { whole = length-table 256 f; small = table-most 256 f most h }

-- ---- loads

pub at_most : (b : Bool) (share : ℕ) → cond b share 0 ≤ share
at_most true share = omega arith
at_most false share = omega arith

module _ (share : ℕ) (loads : List ℕ) where
  -- what stands at a place that is raised, or not
  abbrev raised_at : (ℕ → Bool) → ℕ → ℕ
  raised_at p k = get_or loads k 0 + cond (p k) share 0

  pub get_d-raised : (p : ℕ → Bool) (k : ℕ) → k < 256 → get_or (raised p share loads) k 0 ≡ get_or loads k 0 + cond (p k) share 0
  unfolding raised
  get_d-raised p k l = get_d-table 256 (raised_at p) k 0 l

  pub raised-small : (p : ℕ → Bool) (most : ℕ) → Small loads most → Small (raised p share loads) (most + share)
  unfolding raised
  raised-small p most s = small-table (raised_at p) (most + share) (λ k l. omega (arith, s.small k, at_most (p k) share))

  -- a table that has the same at each place
  pub raised-table : (p : ℕ → Bool) (f : ℕ → ℕ) → ((k : ℕ) → k < 256 → get_or loads k 0 + cond (p k) share 0 ≡ f k) → raised p share loads ≡ table 256 f
  unfolding raised
  raised-table p f same = table_same 256 (raised_at p) f same

  -- at no place
  pub raised-nowhere : (p : ℕ → Bool) → length loads ≡ 256 → ((k : ℕ) → p k ≡ false) → loads ≡ raised p share loads
  unfolding raised
  raised-nowhere p w none = whole-table 256 loads (raised_at p) w (λ k l. omega (arith, ap (λ b. cond b share 0) (none k)))

  -- at the same places
  pub raised-same : (p q : ℕ → Bool) → ((k : ℕ) → p k ≡ q k) → raised p share loads ≡ raised q share loads
  unfolding raised
  raised-same p q same = table_same 256 (raised_at p) (raised_at q) (λ k l. ap (λ b. get_or loads k 0 + cond b share 0) (same k))

  -- at one place more
  pub raised-more : (p q : ℕ → Bool) (i : ℕ) → i < 256 → p i ≡ false → q i ≡ true → ((k : ℕ) → (k ≡ i → ⊥) → p k ≡ q k)
      → set (raised p share loads) i (get_or (raised p share loads) i 0 + share) ≡ raised q share loads
  unfolding raised
  raised-more p q i l old new same =
      raise-one 256 (raised_at p) (raised_at q) i share l
      (omega (arith, ap (λ b. cond b share 0) old, ap (λ b. cond b share 0) new))
      (λ k lk d. ap (λ b. get_or loads k 0 + cond b share 0) (same k d))

-- ---- loads that stay small

module _ {loads : List ℕ} {most : ℕ} (s : Small loads most) where
  pub addable : {side line high share : ℕ} → most ≤ 4352 → side < 4 → line < 8 → high ≤ 8 → share ≤ 64 → Addable loads side line high share
  addable l side line high share = record {
    small = record { whole = s.whole; small = λ k. omega (arith, s.small k) };
    side_below = side;
    line_below = line;
    high_most = high;
    share_most = share;
  }

  -- loads to which a share of at most 64 was added
  pub small-after : {after : List ℕ} (p : ℕ → Bool) (share : ℕ) → after ≡ raised p share loads → share ≤ 64 → Small after (most + 64)
  small-after p share e l = let r = raised-small share loads p most s in record { whole = ap length e ∙ r.whole; small = λ k. omega (arith, ap (λ xs. get_or xs k 0) e, r.small k) }
