-- Holdings that are read row by row. Assumes nothing.
use Prim.Native.Nat.{ℕ, ◌+◌, ◌≤◌, ◌<◌}
use mathlib.Core.Path.{◌≡◌, refl, sym, ap, ◌∙◌}
use mathlib.Core.List.{List}
use mathlib.Core.Bool.{cond}
use native.Mathlib.Decide.{dec_lt, ℕ_discrete}
use native.Mathlib.Omega.{arith}
use lib.ListN.{length, get_or}
use lib.Dec.{ltb}
use borrow.Author.Tests.{lt-ltb, le-ltb}
use Rattle.state.specs.Parts.{Beside}
use Rattle.state.specs.State.{Whole, held_of}
use Rattle.state.proofs.Parts.{beside-both}
use Rattle.state.proofs.State.{length-held}
use Rattle.tables.specs.Owners.{everywhere}
use Rattle.tables.specs.Rows.{row, Sixteen, with_row}
use Rattle.tables.specs.Holdings.{nothing_held}
use Rattle.tables.proofs.Rows.{rows-of, row-with-same, row-with-other}
use Rattle.tables.proofs.HeldRows.{row-held, beside-held}
use Rattle.tables.proofs.FreshTables.{row-of-nothing, nothing-at}
use Rattle.imagecheck.specs.declared.layout.Layout.{Layout}
use Rattle.imagecodec.specs.Reading.{part_at, row_from, held_from, HeldRead}
use Rattle.imagecodec.proofs.ReadTables.{length_from}

-- the first i rows are read, the others hold nothing, and nothing else changed
pub record ReadingRows (b : List ℕ) (y : Layout) (before h : List ℕ) (i : ℕ) : Type 0 where
  pub to : i ≤ y.count
  pub beside : Beside 0 4096 before h
  pub read : (j : ℕ) → j < i → row h j ≡ row_from b y j
  pub spare : (j : ℕ) → i ≤ j → j < 16 → row h j ≡ everywhere 0

module _ {b : List ℕ} {y : Layout} {before : List ℕ} where
  pub no_rows : held_of before ≡ nothing_held → ReadingRows b y before before 0
  no_rows e = record {
    to = omega arith;
    beside = record { long = refl; kept = λ k _. refl };
    read = λ j l. absurd (omega arith);
    spare = λ j _ l. sym (row-held before j l) ∙ ap (λ x. row x j) e ∙ row-of-nothing j l;
  }

  module _ (few : y.count ≤ 16) {h : List ℕ} {i : ℕ} (v : ReadingRows b y before h i) where
    pub one-row-more : Whole before → {r next : List ℕ} → i < y.count → r ≡ row_from b y i → next ≡ with_row h i r → ReadingRows b y before next (i + 1)
    one-row-more whole {r} {next} l is e = record {
      to = omega arith;
      beside = beside-both v.beside (rw e (beside-held h i (omega arith) r));
      read = λ j lj. ap (λ x. row x j) e ∙ go j lj (ℕ_discrete j i);
      spare = λ j lj l16. ap (λ x. row x j) e ∙ row-with-other h i r j (λ z. omega arith) ∙ v.spare j (omega arith) l16;
    }
      where
        wide : length r ≡ 256
        wide = ap length is ∙ length_from b (part_at y i + 4) y.size 0

        long : Sixteen h
        long = omega (arith, v.beside.long, whole)

        go : (j : ℕ) → j < i + 1 → Dec (j ≡ i) → row (with_row h i r) j ≡ row_from b y j
        go j lj (yes d) = ap (row (with_row h i r)) d ∙ row-with-same h i r long (omega arith) wide ∙ is ∙ ap (row_from b y) (sym d)
        go j lj (no d) = row-with-other h i r j d ∙ v.read j (omega arith)

    all_held : y.count ≤ i → held_of h ≡ held_from b y
    unfolding held_from
    all_held done = sym (rows-of (held_of h) _ (length-held h) (λ j p lj lp. rw (row-held h j lj) (go j p lj (dec_lt j y.count))))
      where
        go : (j p : ℕ) → j < 16 → Dec (j < y.count) → cond (ltb j y.count) (get_or (row_from b y j) p 0) 0 ≡ get_or (row h j) p 0
        go j p lj (yes d) = rw (lt-ltb j y.count d, v.read j (omega arith))
        go j p lj (no d) = rw (le-ltb j y.count (omega arith), v.spare j (omega (arith, v.to)) lj) (sym (nothing-at p))

    pub all-rows : y.count ≤ i → HeldRead b y before h
    all-rows done = record { held_is = all_held done; beside = v.beside }
