-- The links that are over, put one after another, and the line of a table of loads. Assumes nothing.
use Prim.Native.Nat.{ℕ, zero, suc, ◌+◌, ◌*◌, ◌≤◌, ◌<◌}
use mathlib.Core.Path.{◌≡◌, refl, sym, ap, ◌∙◌}
use mathlib.Core.List.{List, ◌∷◌, [], ◌++◌, flat_map, append-nil, append_assoc}
use mathlib.Core.Bool.{Bool, true, false, not, cond}
use native.Mathlib.Numerals.{add-one}
use native.Mathlib.Omega.{arith}
use lib.ListN.{get_or}
use lib.Dec.{ltb}
use borrow.Author.Tests.{not-false}
use Rattle.model.specs.Tables.{table, any}
use Rattle.model.specs.Listing.{text}
use Rattle.model.proofs.Tables.{get_d-table}
use Rattle.calls.specs.Lines.{Puts}
use Rattle.calls.proofs.Stores.{puts_none, puts_then, puts-same}
use Rattle.tokens.proofs.BytesRead.{table_more}
use Rattle.replies.specs.Lines.{spaced}
use Rattle.mesh.specs.Mesh.{Link, keep, some_of, links}
use Rattle.mesh.specs.Streams.{Stream, load}
use Rattle.mesh.specs.Admission.{over, refusal_before_links, over_links, over_numbers}
use Rattle.mesh.specs.Reading.{link_at, loads_of}
use Rattle.mesh.proofs.Links.{over-links-are}
use Rattle.mesh.proofs.Admission.{well-asked, over-table}
use Rattle.mesh.proofs.Admitted.{none_kept, nothing-kept}
use Rattle.meshwords.specs.Answers.{links_line}
use Rattle.meshwords.specs.Overloads.{place_numbers, overload_numbers, table_line}

-- ---- numbers one after another

regroup : (a b c : List ℕ) → a ++ b ++ c ≡ a ++ (b ++ (c ++ []))
regroup a b c = simp (append_assoc, append-nil)

pub three-spaced : (a b c : ℕ) → spaced a ++ spaced b ++ spaced c ≡ flat_map spaced (a ∷ b ∷ c ∷ [])
unfolding flat_map
three-spaced a b c = regroup (spaced a) (spaced b) (spaced c)

module _ {A : Type 0} (g : A → List ℕ) where
  flat_append : (xs ys : List A) → flat_map g (xs ++ ys) ≡ flat_map g xs ++ flat_map g ys
  unfolding flat_map
  flat_append [] ys = refl
  flat_append (x ∷ xs) ys = ap (g x ++◌) (flat_append xs ys) ∙ sym (append_assoc (g x) (flat_map g xs) (flat_map g ys))

  flat-last : (xs : List A) (x : A) → flat_map g (xs ++ (x ∷ [])) ≡ flat_map g xs ++ g x
  unfolding flat_map
  flat-last xs x = flat_append xs (x ∷ []) ∙ ap (flat_map g xs ++◌) (append-nil (g x))

  -- of what is kept
  flat_keep : (p : A → Bool) (xs : List A) → flat_map g (keep p xs) ≡ flat_map (λ x. cond (p x) (g x) []) xs
  unfolding flat_map keep
  flat_keep p [] = refl
  flat_keep p (x ∷ xs) = go (flat_keep p xs) (p x)
    where
      go : flat_map g (keep p xs) ≡ flat_map (λ x. cond (p x) (g x) []) xs → (b : Bool)
          → flat_map g (cond b (x ∷ keep p xs) (keep p xs)) ≡ cond b (g x) [] ++ flat_map (λ x. cond (p x) (g x) []) xs
      go rest true = ap (g x ++◌) rest
      go rest false = rest

  flat-table : (n : ℕ) (f : ℕ → A) (e : ℕ → ℕ) (h : ℕ → List ℕ) → ((k : ℕ) → k < n → g (f k) ≡ h (e k)) → flat_map g (table n f) ≡ flat_map h (table n e)
  unfolding flat_map
  flat-table zero f e h same = refl
  flat-table (suc n) f e h same =
      λ i. same 0 (omega arith) i ++ flat-table n (λ k. f (suc k)) (λ k. e (suc k)) h (λ k l. same (suc k) (omega arith)) i

-- ---- the loop

-- what the place k adds
abbrev at_place : (F : ℕ) → (loads : List ℕ) → (k : ℕ) → List ℕ
at_place F loads k = cond (ltb F (get_or loads k 0)) (place_numbers k (get_or loads k 0)) []

pub record OverTo (F : ℕ) (loads before after : List ℕ) (at next k : ℕ) : Type 0 where
  pub within : k ≤ 256
  pub puts : Puts (flat_map spaced (overload_numbers F loads k)) before after at next
  pub most : next ≤ at + 63 * k

pub none-put : (F : ℕ) (loads out : List ℕ) (at : ℕ) → OverTo F loads out out at at 0
unfolding flat_map overload_numbers
none-put F loads out at = record { within = omega arith; puts = puts_none out at; most = omega arith }

module _ {F : ℕ} {loads before after : List ℕ} {at next k : ℕ} (s : OverTo F loads before after at next k) where
  one_more : flat_map spaced (overload_numbers F loads k) ++ flat_map spaced (at_place F loads k) ≡ flat_map spaced (overload_numbers F loads (k + 1))
  unfolding overload_numbers
  one_more =
      sym (flat_append spaced (flat_map (at_place F loads) (table k (λ j. j))) (at_place F loads k))
      ∙ ap (flat_map spaced)
      (sym (flat-last (at_place F loads) (table k (λ j. j)) k)
      ∙ ap (flat_map (at_place F loads)) (sym (table_more k (λ j. j)) ∙ ap (λ n. table n (λ j. j)) (sym (add-one k))))

  pub one-put : {after' : List ℕ} {next' : ℕ} → k < 256 → Puts (flat_map spaced (at_place F loads k)) after after' next next'
      → next' ≤ next + 63 → OverTo F loads before after' at next' (k + 1)
  one-put l p m = record { within = omega arith; puts = puts-same one_more (puts_then s.puts p); most = omega (arith, s.most) }

  pub all-put : 256 ≤ k → Puts (flat_map spaced (overload_numbers F loads 256)) before after at next
  all-put l = let z : k ≡ 256 = omega (arith, s.within) in puts-same (ap (λ n. flat_map spaced (overload_numbers F loads n)) z) s.puts

-- ---- the line

some-link : (streams : List Stream) (ls : List Link) → (ls ≡ [] → ⊥)
    → text "over" ++ flat_map spaced (flat_map (over_numbers streams) ls) ++ text "\n" ≡ links_line streams ls
some-link streams [] some = absurd (some refl)
some-link streams (l ∷ ls) some = refl

module _ (F : ℕ) (streams : List Stream) (loads : List ℕ) (asked : refusal_before_links F streams ≡ 0) (same : loads ≡ loads_of streams) where
  load_at : (k : ℕ) → k < 256 → load streams (link_at k) ≡ get_or loads k 0
  load_at k l = sym (ap (λ xs. get_or xs k 0) same ∙ get_d-table 256 (λ k. load streams (link_at k)) k 0 l)

  numbers_are : flat_map (over_numbers streams) (over_links F streams) ≡ overload_numbers F loads 256
  unfolding overload_numbers
  numbers_are =
      ap (flat_map (over_numbers streams)) (over-links-are F streams (well-asked F streams asked).streams_fit)
      ∙ flat_keep (over_numbers streams) (over F streams) (table 256 link_at)
      ∙ flat-table _ 256 link_at (λ k. k) (at_place F loads) (λ k l. ap (λ n. cond (ltb F n) (place_numbers k n) []) (load_at k l))

  pub table-line-is : table_line F loads ≡ links_line streams (over_links F streams)
  unfolding over_links
  table-line-is = go (any 256 (λ k. ltb F (get_or loads k 0))) (over-table (well-asked F streams asked) same)
    where
      go : (b : Bool) → b ≡ some_of (over F streams) links
          → cond b (text "over" ++ flat_map spaced (overload_numbers F loads 256) ++ text "\n") (text "ok\n") ≡ links_line streams (over_links F streams)
      go true e =
          ap (λ ns. text "over" ++ flat_map spaced ns ++ text "\n") (sym numbers_are)
          ∙ some-link streams (over_links F streams) (λ z. let y = nothing-kept (over F streams) links z in let w : ◌≡◌ {A = ℕ} 0 1 = cc in omega arith)
      go false e = sym (ap (links_line streams) (none_kept (over F streams) links (sym e)))

-- the line by the test of the table
module _ (F : ℕ) (loads : List ℕ) {r : Bool} (test : r ≡ any 256 (λ k. ltb F (get_or loads k 0))) where
  pub some-line : not r ≡ false → text "over" ++ flat_map spaced (overload_numbers F loads 256) ++ text "\n" ≡ table_line F loads
  some-line e = rw (sym test ∙ not-false r e)
