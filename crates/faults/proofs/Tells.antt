-- Parts of a list of faults, by the tests that they tell of, and the first fault's number. Assumes nothing.
use Prim.Native.Nat.{ℕ, zero, suc, ◌<◌}
use mathlib.Core.Path.{◌≡◌, refl, sym, ap, ap₂, ◌∙◌}
use mathlib.Core.List.{List, ◌∷◌, [], ◌++◌, flat_map}
use mathlib.Core.Option.{Option, some, none}
use mathlib.Core.Bool.{Bool, true, false, ◌||◌, cond}
use native.Mathlib.Omega.{arith}
use Rattle.model.specs.Tables.{table, any, first_from}
use Rattle.model.specs.Refusals.{Line, ◌when◌, first_of}
use Rattle.model.proofs.Tests.{or-false, any-hit, any-of-none}
use Rattle.model.proofs.Tables.{first_from-some, first_from-none}
use Rattle.tokens.proofs.BytesRead.{table_more}
use Rattle.faults.specs.Told.{told, first_told, each_below, Begins}
use Rattle.faults.proofs.Lists.{flat-last}

-- Faults of one number, of which there are some exactly where a test applies.
pub record Tells (number : ℕ) (test : Bool) (faults : List ℕ) : Type 0 where
  pub none : test ≡ false → faults ≡ []
  pub some : test ≡ true → Begins number faults

pub tells-same : {r : ℕ} {a b : Bool} {xs : List ℕ} → a ≡ b → Tells r a xs → Tells r b xs
tells-same {r} {xs = xs} e t = record { none = λ f. t.none (e ∙ f); some = λ f. t.some (e ∙ f) }

-- one limit
pub tells-one : (b : Bool) (r place which : ℕ) → Tells r b (told b r place which)
tells-one true r place which = record { none = λ e. let z : ◌≡◌ {A = ℕ} 0 1 = cc in absurd (omega arith); some = λ e. record { place = place; which = which; others = []; is = refl } }
tells-one false r place which = record { none = λ e. refl; some = λ e. let z : ◌≡◌ {A = ℕ} 0 1 = cc in absurd (omega arith) }

-- faults that follow
begins-on : {r : ℕ} {xs : List ℕ} → Begins r xs → (ys : List ℕ) → Begins r (xs ++ ys)
begins-on b ys = record { place = b.place; which = b.which; others = b.others ++ ys; is = ap (◌++ ys) b.is }

begins-same : {r : ℕ} {xs ys : List ℕ} → xs ≡ ys → Begins r xs → Begins r ys
begins-same e b = record { place = b.place; which = b.which; others = b.others; is = sym e ∙ b.is }

module _ {r : ℕ} {a b : Bool} {xs ys : List ℕ} (s : Tells r a xs) (t : Tells r b ys) where
  -- one limit or another
  pub tells_both : Tells r (a || b) (xs ++ ys)
  tells_both = record {
    none = λ e. let p = or-false a b e in ap₂ ◌++◌ (s.none p.0) (t.none p.1);
    some = go a refl;
  }
    where
      go : (c : Bool) → a ≡ c → a || b ≡ true → Begins r (xs ++ ys)
      go true e f = begins-on (s.some e) ys
      go false e f = begins-same (sym (ap (◌++ ys) (s.none e))) (t.some (sym (ap (◌|| b) e) ∙ f))

or_swap : (a b : Bool) → a || b ≡ b || a
or_swap true true = refl
or_swap true false = refl
or_swap false true = refl
or_swap false false = refl

-- a limit of each number below n
pub tells-each : (r n : ℕ) (test : ℕ → Bool) (f : ℕ → List ℕ) → ((i : ℕ) → i < n → Tells r (test i) (f i)) → Tells r (any n test) (each_below n f)
unfolding any flat_map
tells-each r zero test f each = record { none = λ e. refl; some = λ e. let z : ◌≡◌ {A = ℕ} 0 1 = cc in absurd (omega arith) }
tells-each r (suc n) test f each =
    let before = tells-each r n test f (λ i l. each i (omega arith)) in
    let all = tells-same (or_swap (any n test) (test n)) (tells_both before (each n (omega arith))) in
    let list = sym (flat-last f (table n (λ i. i)) n) ∙ ap (flat_map f) (sym (table_more n (λ i. i))) in
    record { none = λ e. sym list ∙ all.none e; some = λ e. begins-same list (all.some e) }

-- some place before place j
pub tells_first : (r j : ℕ) (test : ℕ → Bool) → Tells r (any j test) (first_told r (first_from j 0 test) j)
tells_first r j test = go (first_from j 0 test) refl
  where
    go : (o : Option ℕ) → first_from j 0 test ≡ o → Tells r (any j test) (first_told r o j)
    go (some i) e =
        let hit = first_from-some j 0 test i e in
        tells-same (sym (any-hit j test i (omega (arith, hit.high)) hit.passes)) (tells-one true r i j)
    go none e = tells-same (sym (any-of-none j test (λ k l. first_from-none j 0 test e k (omega arith) (omega arith)))) (tells-one false r 0 j)

-- ---- the first fault's number is that of the first line that applies

pub record Follows (lines : List Line) (faults : List ℕ) : Type 0 where
  pub none : first_of lines ≡ 0 → faults ≡ []
  pub some : (r : ℕ) → first_of lines ≡ suc r → Begins (suc r) faults

pub follows-none : Follows [] []
unfolding first_of
follows-none = record { none = λ e. refl; some = λ r e. absurd (omega arith) }

module _ {r : ℕ} {test : Bool} {lines : List Line} {xs : List ℕ} (t : Tells (suc r) test xs) where
  -- where the first line applies, whatever faults follow
  pub follows-first : test ≡ true → (ys : List ℕ) → Follows (suc r when test ∷ lines) (xs ++ ys)
  unfolding first_of
  follows-first e ys =
      let number : first_of (suc r when test ∷ lines) ≡ suc r = ap (λ c. cond c (suc r) (first_of lines)) e in
      record {
        none = λ z. absurd (omega (arith, number, z));
        some = λ q z. let same : suc r ≡ suc q = sym number ∙ z in rw (← same) (begins-on (t.some e) ys);
      }

  pub follows-more : {ys : List ℕ} → Follows lines ys → Follows (suc r when test ∷ lines) (xs ++ ys)
  unfolding first_of
  follows-more {ys} rest = go test refl
    where
      go : (b : Bool) → test ≡ b → Follows (suc r when test ∷ lines) (xs ++ ys)
      go true e = follows-first e ys
      go false e =
          let skipped : first_of (suc r when test ∷ lines) ≡ first_of lines = ap (λ c. cond c (suc r) (first_of lines)) e in
          let same : ys ≡ xs ++ ys = sym (ap (◌++ ys) (t.none e)) in
          record { none = λ z. sym same ∙ rest.none (sym skipped ∙ z); some = λ q z. begins-same same (rest.some q (sym skipped ∙ z)) }

pub follows_same : {lines : List Line} {xs ys : List ℕ} → xs ≡ ys → Follows lines xs → Follows lines ys
follows_same e f = record { none = λ z. sym e ∙ f.none z; some = λ r z. begins-same e (f.some r z) }
