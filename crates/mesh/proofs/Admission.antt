-- What the tests before the links leave, and the refusal by the links. Assumes nothing.
use Prim.Native.Nat.{ℕ, zero, suc, ◌/◌, ◌≤◌, ◌<◌}
use mathlib.Core.Path.{◌≡◌, refl, sym, ap, ◌∙◌}
use mathlib.Core.List.{List, ◌∷◌, [], ◌++◌}
use mathlib.Core.Bool.{Bool, true, false, cond}
use native.Mathlib.Omega.{arith}
use lib.ListN.{length, get_or}
use lib.Dec.{ltb}
use borrow.Author.Tests.{ltb-false, not-false}
use Rattle.model.specs.Tables.{any, sum}
use Rattle.model.specs.Refusals.{Line, ◌when◌, first_of}
use Rattle.model.proofs.Tests.{in-range, any_none, any_same, line-passed}
use Rattle.model.proofs.Tables.{get_d-table, table_same}
use Rattle.mesh.specs.Mesh.{links, some_of}
use Rattle.mesh.specs.Streams.{Stream, stream, share_on, load}
use Rattle.mesh.specs.Admission.{over, refusal_before_links, refusal, FittingStream}
use Rattle.mesh.specs.Reading.{stream_at, streams_of, link_at, loads_of}
use Rattle.std.specs.Prelude.{Result, Ok, Err}
use Rattle.std.specs.Result.{IsErrAnd}
use Rattle.mesh.specs.declared.Refusal.{Refusal}
use Rattle.mesh.specs.Refusals.{number, refusal_number}
use Rattle.mesh.specs.Loads.{SmallStreams, gathered_loads}
use Rattle.mesh.proofs.Tests.{fitting, count_is, stream-is}
use Rattle.mesh.proofs.Links.{some-over}

-- ---- three tests, and a fourth

abbrev three : (a b c : Bool) → List Line
three a b c = 25 when a ∷ 3 when b ∷ 4 when c ∷ []

-- where one of the three applies
first-kept : (a b c d : Bool) → (first_of (three a b c) ≡ 0 → ⊥) → first_of (three a b c) ≡ first_of (three a b c ++ (25 when d ∷ []))
unfolding first_of
first-kept true b c d some = refl
first-kept false true c d some = refl
first-kept false false true d some = refl
first-kept false false false d some = absurd (some refl)

last-alone : (a b c d : Bool) → first_of (three a b c) ≡ 0 → cond d 25 0 ≡ first_of (three a b c ++ (25 when d ∷ []))
unfolding first_of
last-alone true b c d e = absurd (omega arith)
last-alone false true c d e = absurd (omega arith)
last-alone false false true d e = absurd (omega arith)
last-alone false false false d e = refl

-- ---- what the three leave

pub record Asked (F : ℕ) (streams : List Stream) : Type 0 where
  pub few : length streams ≤ 64
  pub some_slot : 1 ≤ F
  pub slots_most : F ≤ 64
  pub streams_fit : (i : ℕ) → i < length streams → FittingStream F (stream streams i)

module _ (F : ℕ) (streams : List Stream) where
  pub well-asked : refusal_before_links F streams ≡ 0 → Asked F streams
  unfolding refusal_before_links
  well-asked e =
      let count = line-passed _ 24 _ e in
      let slots = line-passed _ 2 _ count.1 in
      let entries = line-passed _ 3 _ slots.1 in
      let range = in-range 1 64 F slots.0 in
      record {
        few = ltb-false _ _ count.0;
        some_slot = range.0;
        slots_most = range.1;
        streams_fit = λ i l. fitting F (stream streams i) (not-false _ (any_none (length streams) _ entries.0 i l));
      }

  pub refused_before : (refusal_before_links F streams ≡ 0 → ⊥) → refusal_before_links F streams ≡ refusal F streams
  unfolding refusal_before_links refusal
  refused_before some = first-kept _ _ _ _ some

  pub refused-by-links : refusal_before_links F streams ≡ 0 → cond (some_of (over F streams) links) 25 0 ≡ refusal F streams
  unfolding refusal_before_links refusal
  refused-by-links e = last-alone _ _ _ _ e

-- ---- the table of loads

pub sum_same : (n : ℕ) (f g : ℕ → ℕ) → ((i : ℕ) → i < n → f i ≡ g i) → sum n f ≡ sum n g
unfolding sum
sum_same zero f g h = refl
sum_same (suc n) f g h = omega (arith, h n (omega arith), sum_same n f g (λ i l. h i (omega arith)))

module _ (numbers : List ℕ) where
  load_is : (k : ℕ) → sum (length numbers / 3) (λ i. share_on (link_at k) (stream_at numbers i)) ≡ load (streams_of numbers) (link_at k)
  unfolding load
  load_is k =
      sum_same (length numbers / 3) _ _ (λ i l. ap (share_on (link_at k)) (sym (stream-is numbers i l)))
      ∙ ap (λ n. sum n (λ i. share_on (link_at k) (stream (streams_of numbers) i))) (sym (count_is numbers))

  pub loads_are : gathered_loads numbers (length numbers / 3) ≡ loads_of (streams_of numbers)
  loads_are = table_same 256 _ _ (λ k l. load_is k)

  pub small-streams : {F : ℕ} → Asked F (streams_of numbers) → SmallStreams numbers (length numbers / 3)
  small-streams {F} a = record {
    few = omega (arith, a.few, count_is numbers);
    there = omega arith;
    sources = λ i l. (fits i l).source_most;
    destinations = λ i l. (fits i l).destination_most;
    shares = λ i l. omega (arith, (fits i l).share_most, a.slots_most);
  }
    where
      fits : (i : ℕ) → i < length numbers / 3 → FittingStream F (stream_at numbers i)
      fits i l = rw (stream-is numbers i l) at (a.streams_fit i (omega (arith, count_is numbers)))

-- ---- the links

-- the test of the table is the test of the links
pub over-table : {F : ℕ} {streams : List Stream} {loads : List ℕ} → Asked F streams → loads ≡ loads_of streams
    → any 256 (λ k. ltb F (get_or loads k 0)) ≡ some_of (over F streams) links
over-table {F} {streams} {loads} a e =
    any_same 256 _ _ (λ k l. ap (ltb F) (ap (λ xs. get_or xs k 0) e ∙ get_d-table 256 (λ k. load streams (link_at k)) k 0 l))
    ∙ sym (some-over F streams a.streams_fit)

-- where no test before the links applies, and the table's test came out so
pub refused-by-table : (F : ℕ) (streams : List Stream) (loads : List ℕ) → refusal_before_links F streams ≡ 0 → loads ≡ loads_of streams → (b : Bool)
    → any 256 (λ k. ltb F (get_or loads k 0)) ≡ b → cond b 25 0 ≡ refusal F streams
refused-by-table F streams loads e same b came =
    ap (λ t. cond t 25 0) (sym came ∙ over-table (well-asked F streams e) same) ∙ refused-by-links F streams e

-- ---- the code's refusals

some-number : (r : Refusal) → number r ≡ 0 → ⊥
some-number Refusal.Frame e = absurd (omega arith)
some-number Refusal.Stream e = absurd (omega arith)
some-number Refusal.Mesh e = absurd (omega arith)

-- a test before the links applies: `?` passes it on, and it is the refusal
pub refused-first : {A : Type 0} (F : ℕ) (streams : List Stream) (x : Result A Refusal) (r : Refusal) → IsErrAnd x (λ e. e ≡ r)
    → number r ≡ refusal_before_links F streams → refusal_number x ≡ refusal F streams
refused-first F streams (Ok a) r h n = absurd h
refused-first F streams (Err e) r h n = ap number h ∙ n ∙ refused_before F streams (λ z. some-number r (n ∙ z))
