-- A table that grows at its end, lists of fields, and those that are written one after another. Assumes nothing.
use Prim.Native.Nat.{ℕ, zero, suc, ◌+◌, ◌*◌, ◌≤◌, ◌<◌}
use mathlib.Core.Path.{◌≡◌, refl, sym, ap, ◌∙◌}
use mathlib.Core.List.{List, ◌∷◌, [], ◌++◌, flat_map, append-nil, append_assoc}
use native.Mathlib.Nat.{add-zero}
use native.Mathlib.Omega.{arith}
use lib.ListN.{length, get_or}
use Rattle.model.specs.Tables.{table}
use Rattle.model.specs.WrittenPlan.{field}
use Rattle.model.proofs.Tables.{table-append, table-get_d}
use Rattle.calls.specs.Lines.{Puts}
use Rattle.calls.proofs.Stores.{puts_none, puts_then, puts-same}
use Rattle.imagemodel.specs.Image.{fields}
use Rattle.imagemodel.proofs.Fields.{length_fields}
use Rattle.fields.specs.Fields.{AllFit}

-- ---- a table with one element more

pub table_more : {A : Type 0} (n : ℕ) (f : ℕ → A) → table (n + 1) f ≡ table n f ++ (f n ∷ [])
table_more n f = table-append n 1 f ∙ ap (λ k. table n f ++ (f k ∷ [])) (add-zero n)

-- ---- lists of fields

module _ {A : Type 0} (g : A → List ℕ) where
  flat_append : (xs ys : List A) → flat_map g (xs ++ ys) ≡ flat_map g xs ++ flat_map g ys
  unfolding flat_map
  flat_append [] ys = refl
  flat_append (x ∷ xs) ys = ap (g x ++◌) (flat_append xs ys) ∙ sym (append_assoc (g x) (flat_map g xs) (flat_map g ys))

  -- the bytes of one element more
  pub flat-more : (n : ℕ) (f : ℕ → A) → flat_map g (table (n + 1) f) ≡ flat_map g (table n f) ++ g (f n)
  unfolding flat_map
  flat-more n f = ap (flat_map g) (table_more n f) ∙ flat_append (table n f) (f n ∷ []) ∙ ap (flat_map g (table n f) ++◌) (append-nil (g (f n)))

pub fields-append : (xs ys : List ℕ) → fields (xs ++ ys) ≡ fields xs ++ fields ys
unfolding fields
fields-append xs ys = flat_append field xs ys

fields-more : (n : ℕ) (f : ℕ → ℕ) → fields (table n f) ++ fields (f n ∷ []) ≡ fields (table (n + 1) f)
fields-more n f = rw (table_more n f, fields-append (table n f) (f n ∷ []))

-- ---- a table that is written: the first p of so many fields

pub record Putting (f : ℕ → ℕ) (count : ℕ) (before after : List ℕ) (at next p : ℕ) : Type 0 where
  pub to : p ≤ count
  pub place : next ≡ at + 2 * p
  pub put : Puts (fields (table p f)) before after at next

module _ {f : ℕ → ℕ} {count : ℕ} {before : List ℕ} {at : ℕ} where
  pub putting-none : Putting f count before before at at 0
  unfolding fields flat_map
  putting-none = record { to = omega arith; place = omega arith; put = puts_none before at }

  module _ {middle : List ℕ} {next p : ℕ} (v : Putting f count before middle at next p) where
    pub putting-more : {x : ℕ} {after : List ℕ} {last : ℕ} → p < count → x ≡ f p → Puts (fields (x ∷ [])) middle after next last
        → Putting f count before after at last (p + 1)
    putting-more {x} {after} {last} h e q = record {
      to = omega arith;
      place = omega (arith, q.up_to, v.place, length_fields (x ∷ []));
      put = puts-same (fields-more p f) (puts_then v.put (rw e at q));
    }

    pub putting-done : count ≤ p → Puts (fields (table count f)) before middle at next
    putting-done h = let z : p ≡ count = omega (arith, v.to) in rw z at v.put

-- all of a list
pub putting-all : (xs : List ℕ) {before after : List ℕ} {at next k : ℕ} → Putting (λ j. get_or xs j 0) (length xs) before after at next k → length xs ≤ k
    → Puts (fields xs) before after at next
putting-all xs v h = puts-same (ap fields (table-get_d xs 0)) (putting-done v h)

pub fit_at : (xs : List ℕ) → AllFit xs → (k : ℕ) → k < length xs → get_or xs k 0 < 65536
fit_at [] a k h = absurd (omega arith)
fit_at (x ∷ xs) a zero h = a.0
fit_at (x ∷ xs) a (suc k) h = fit_at xs a.1 k (omega arith)
