-- Walks over links, and links that stand in lists. Assumes nothing.
use Prim.Native.Nat.{ℕ, zero, suc, ◌+◌, ◌-◌, ◌<◌}
use mathlib.Core.Path.{◌≡◌, sym, ap, ◌∙◌, subst}
use mathlib.Core.List.{List, ◌++◌}
use mathlib.Core.Logic.{◌⊎◌, inl, inr}
use native.Mathlib.Decide.{dec_lt}
use native.Mathlib.Omega.{arith}
use lib.ListN.{length, get_or, length-append, get_or-append}
use lib.Seq.{get_or-append-add}
use Rattle.model.specs.Tables.{table}
use Rattle.model.proofs.Tables.{get_d-table, length-table}
use Rattle.mesh.specs.Mesh.{Link, to}
use Rattle.mesh.specs.Way.{Walk, arrived, hop, In}

-- ---- walks

pub walk-on : {a b c : ℕ} {xs ys : List Link} → Walk a xs b → Walk b ys c → Walk a (xs ++ ys) c
walk-on arrived w = w
walk-on (hop l v) w = hop l (walk-on v w)

-- links of which each leads to the next one's start
pub chain : (n : ℕ) (f : ℕ → Link) → ((k : ℕ) → to (f k) ≡ (f (suc k)).from) → Walk (f 0).from (table n f) (f n).from
chain zero f joins = arrived
chain (suc n) f joins = hop (f 0) (subst (λ a. Walk a (table n (λ k. f (suc k))) (f (suc n)).from) (sym (joins 0)) (chain n (λ k. f (suc k)) (λ k. joins (suc k))))

pub walk-between : {a b c d : ℕ} {xs : List Link} → a ≡ c → b ≡ d → Walk a xs b → Walk c xs d
walk-between {a} {d} {xs} e f w = subst (λ x. Walk x xs d) e (subst (λ x. Walk a xs x) f w)

-- ---- lists

pub in_table : (n : ℕ) (f : ℕ → Link) (k : ℕ) (l : Link) → k < n → f k ≡ l → In l (table n f)
in_table n f k l h e = record { place = k; within = omega (arith, length-table n f); there = get_d-table n f k l h ∙ e }

-- the element of a table that a link is
pub record Element (n : ℕ) (f : ℕ → Link) (l : Link) : Type 0 where
  pub index : ℕ
  pub below : index < n
  pub is : f index ≡ l

pub of-table : (n : ℕ) (f : ℕ → Link) (l : Link) → In l (table n f) → Element n f l
of-table n f l i =
    let h : i.place < n = omega (arith, length-table n f, i.within) in
    record { index = i.place; below = h; is = sym (get_d-table n f i.place l h) ∙ i.there }

module _ {l : Link} (xs ys : List Link) where
  pub in-first : In l xs → In l (xs ++ ys)
  in-first i = record {
    place = i.place;
    within = omega (arith, length-append xs ys, i.within);
    there = get_or-append xs ys l i.place i.within ∙ i.there;
  }

  pub in-second : In l ys → In l (xs ++ ys)
  in-second i = record {
    place = length xs + i.place;
    within = omega (arith, length-append xs ys, i.within);
    there = get_or-append-add xs ys i.place l ∙ i.there;
  }

  pub in_either : In l (xs ++ ys) → In l xs ⊎ In l ys
  in_either i = go (dec_lt i.place (length xs))
    where
      go : Dec (i.place < length xs) → In l xs ⊎ In l ys
      go (yes h) = inl (record { place = i.place; within = h; there = sym (get_or-append xs ys l i.place h) ∙ i.there })
      go (no h) =
          let at : length xs + (i.place - length xs) ≡ i.place = omega arith in
          inr (record {
            place = i.place - length xs;
            within = omega (arith, length-append xs ys, i.within);
            there = sym (get_or-append-add xs ys (i.place - length xs) l) ∙ ap (λ k. get_or (xs ++ ys) k l) at ∙ i.there;
          })
