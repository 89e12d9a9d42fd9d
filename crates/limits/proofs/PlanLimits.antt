-- The tests of a plan as asked for are those of the plan that it is read as. Assumes nothing.
use Prim.Native.Nat.{ℕ, zero, suc, ◌+◌, ◌*◌, ◌≤◌, ◌<◌}
use mathlib.Core.Path.{◌≡◌, refl, sym, ap, ap₂, ◌∙◌}
use mathlib.Core.List.{List, [], ◌∷◌}
use mathlib.Core.Bool.{Bool, true, false, not, ◌||◌}
use native.Mathlib.Omega.{arith}
use lib.ListN.{length, get_or, take, length-take}
use Rattle.std.proofs.lemmas.List.{length-take-le, get_or-take, take-take}
use lib.Dec.{ltb}
use borrow.Author.Tests.{eq-eqb, not-false}
use Rattle.limits.specs.declared.Draft.{Draft}
use Rattle.model.specs.Tables.{any, sum, within}
use Rattle.model.specs.Refusals.{◌when◌, condition, first_of}
use Rattle.model.specs.Plan as model
use Rattle.model.specs.WrittenPlan.{header_for, number_tests}
use Rattle.model.proofs.Tables.{length-table, get_d-table}
use Rattle.model.proofs.Tests.{or-false, in-range, any_same}
use Rattle.model.proofs.Plan.{fitting-entry}
use Rattle.limits.specs.declared.Wanted.{Wanted}
use Rattle.limits.specs.Reading.{wanted_for, no_wanted, draft_for}
use Rattle.std.specs.List.{list_any, sum_by}
use Rattle.std.proofs.lemmas.List.Recursion.{or_push, or_at}
use Rattle.std.proofs.lemmas.List.Sums.{sum_by_more, sum_by-le}
use Rattle.std.proofs.Math.Seq.{take-suc}
use native.Mathlib.Numerals.{add-one}

-- ---- the first n elements of a list, one after another

or_swap : (a b : Bool) → a || b ≡ b || a
or_swap true true = refl
or_swap true false = refl
or_swap false true = refl
or_swap false false = refl

module _ {A : Type 0} (xs : List A) (d : A) where
  any_taken : (f : A → Bool) (n : ℕ) → n ≤ length xs → any n (λ i. f (get_or xs i d)) ≡ list_any f (take n xs)
  unfolding any
  any_taken f zero h = refl
  any_taken f (suc n) h =
      ap (f (get_or xs n d) ||◌) (any_taken f n (omega arith)) ∙ or_swap (f (get_or xs n d)) (list_any f (take n xs))
      ∙ sym (or_push (list_any f) f refl (λ _ _. refl) (take n xs) (get_or xs n d)) ∙ ap (list_any f) (sym (take-suc xs n d (omega arith)))

  sum_taken : (f : A → ℕ) (n : ℕ) → n ≤ length xs → sum n (λ i. f (get_or xs i d)) ≡ sum_by f (take n xs)
  unfolding sum
  sum_taken f zero h = refl
  sum_taken f (suc n) h = rw (← add-one n) (omega (arith, sum_taken f n (omega arith), sum_by_more f xs n d (omega arith)))

sum_same : (n : ℕ) (f g : ℕ → ℕ) → ((i : ℕ) → i < n → f i ≡ g i) → sum n f ≡ sum n g
unfolding sum
sum_same zero f g h = refl
sum_same (suc n) f g h = omega (arith, h n (omega arith), sum_same n f g (λ i l. h i (omega arith)))

or-false-right : (b : Bool) → b || false ≡ b
or-false-right true = refl
or-false-right false = refl

module _ (d : Draft) where
  -- ---- the outcomes of tests 2 to 7

  abbrev pub flows : List Wanted
  flows = take d.count d.entries

  abbrev pub miscounted : Bool
  miscounted = not (within 1 16 d.count)

  abbrev pub misframed : Bool
  misframed = condition (model.frame_test d.slots d.frames d.buffer)

  abbrev pub misfits : Bool
  misfits = list_any (λ e. not (model.entry_fits d.slots (wanted_for e))) flows

  abbrev pub repeats : Bool
  repeats = any (length flows) (λ i. list_any (λ e. model.same_pair (wanted_for e) (wanted_for (get_or flows i no_wanted))) (take i flows))

  abbrev pub over-slots : Bool
  over-slots = ltb d.slots (sum_by (λ e. e.share) flows)

  abbrev pub over-buffer : Bool
  over-buffer = ltb d.buffer (sum_by (λ e. e.cells) flows)

  -- ---- they are those of the plan

  abbrev P : model.Plan
  P = draft_for d

  abbrev at : ℕ → model.Entry
  at i = wanted_for (get_or d.entries i no_wanted)

  count_is : model.flow_count P ≡ d.count
  count_is = length-table d.count at

  entry_is : (i : ℕ) → i < d.count → model.entry P i ≡ at i
  entry_is i h = get_d-table d.count at i model.no_entry h

  -- of the header that would be written only n can fail
  counts-are : condition (model.count_test (header_for P)) ≡ miscounted
  counts-are =
      let n = model.flow_count P in
      let fail = not (within 1 16 n) in
      ap (λ t. fail || false || not t) (eq-eqb (12 + 4 * n) (12 + 4 * n) refl) ∙ or-false-right (fail || false) ∙ or-false-right fail
      ∙ ap (λ k. not (within 1 16 k)) count_is

  pub gives_2 : miscounted ≡ true → first_of (number_tests P) ≡ 2
  unfolding first_of
  gives_2 e = rw (counts-are ∙ e)

  module _ (room : d.count ≤ length d.entries) where
    misfits-are : any (model.flow_count P) (λ i. not (model.entry_fits d.slots (model.entry P i))) ≡ misfits
    misfits-are =
        ap (λ n. any n (λ i. not (model.entry_fits d.slots (model.entry P i)))) count_is
        ∙ any_same d.count _ _ (λ i h. ap (λ e. not (model.entry_fits d.slots e)) (entry_is i h))
        ∙ any_taken d.entries no_wanted (λ e. not (model.entry_fits d.slots (wanted_for e))) d.count room

    repeats-are : any (model.flow_count P) (λ i. any i (λ j. model.same_pair (model.entry P j) (model.entry P i))) ≡ repeats
    repeats-are =
        ap (λ n. any n (λ i. any i (λ j. model.same_pair (model.entry P j) (model.entry P i)))) count_is
        ∙ any_same d.count _ _
        (λ i h. any_same i _ _ (λ j k. ap₂ model.same_pair (entry_is j (omega arith)) (entry_is i h))
        ∙ any_taken d.entries no_wanted (λ e. model.same_pair (wanted_for e) (at i)) i (omega arith))
        ∙ any_same d.count _ _ (λ i h. same-earlier i h)
        ∙ ap (λ n. any n (λ i. list_any (λ e. model.same_pair (wanted_for e) (wanted_for (get_or flows i no_wanted))) (take i flows)))
        (sym (length-take-le d.count d.entries room))
      where
        same-earlier : (i : ℕ) → i < d.count
            → list_any (λ e. model.same_pair (wanted_for e) (wanted_for (get_or d.entries i no_wanted))) (take i d.entries)
            ≡ list_any (λ e. model.same_pair (wanted_for e) (wanted_for (get_or flows i no_wanted))) (take i flows)
        same-earlier i h =
            let this = sym (get_or-take d.count d.entries i no_wanted h) in
            let earlier = sym (take-take i d.count d.entries (omega arith)) in
            λ k. list_any (λ e. model.same_pair (wanted_for e) (wanted_for (this k))) (earlier k)

    -- the sum of a field of the entries
    sums-are : (f : model.Entry → ℕ) → sum (model.flow_count P) (λ i. f (model.entry P i)) ≡ sum_by (λ e. f (wanted_for e)) flows
    sums-are f =
        ap (λ n. sum n (λ i. f (model.entry P i))) count_is
        ∙ sum_same d.count _ _ (λ i h. ap f (entry_is i h))
        ∙ sum_taken d.entries no_wanted (λ e. f (wanted_for e)) d.count room

    pub limits_are : first_of (number_tests P)
        ≡ first_of (2 when miscounted ∷ 3 when misframed ∷ 4 when misfits ∷ 5 when repeats ∷ 6 when over-slots ∷ 7 when over-buffer ∷ [])
    limits_are =
        let shares = ap (ltb d.slots) (sums-are (λ e. e.share)) in
        let cells = ap (ltb d.buffer) (sums-are (λ e. e.cells)) in
        λ k. first_of (2 when counts-are k ∷ 3 when misframed ∷ 4 when misfits-are k ∷ 5 when repeats-are k ∷ 6 when shares k ∷ 7 when cells k ∷ [])

-- ---- what the tests leave

passes-none : {A : Type 0} (p : A → Bool) (xs : List A) (k : ℕ) (d : A) → k < length xs → list_any p xs ≡ false → p (get_or xs k d) ≡ false
passes-none p xs k d l e = go (p (get_or xs k d)) refl
  where
    go : (b : Bool) → p (get_or xs k d) ≡ b → p (get_or xs k d) ≡ false
    go true h = let z : true ≡ false = sym (or_at (list_any p) p refl (λ _ _. refl) xs k d l h) ∙ e in cc
    go false h = h

module _ (d : Draft) where
  pub few_flows : miscounted d ≡ false → d.count ≤ 16
  few_flows counted = (in-range 1 16 d.count counted).1

  -- shares and cells of entries that passed test 4 are small, and so are their sums
  module _ (counted : miscounted d ≡ false) (fitted : misfits d ≡ false) where
    fits-at : (k : ℕ) (e : Wanted) → k < length (flows d) → model.FittingEntry (draft_for d) (wanted_for (get_or (flows d) k e))
    fits-at k e l = fitting-entry (draft_for d) (wanted_for (get_or (flows d) k e)) (not-false _ (passes-none _ (flows d) k e l fitted))

    few : length (flows d) ≤ 16
    few = omega (arith, length-take d.count d.entries, few_flows counted)

    pub few_cells : sum_by (λ e. e.cells) (flows d) ≤ 4080
    few_cells = omega (arith, few, sum_by-le (λ e. e.cells) 255 (flows d) (λ k e l. (fits-at k e l).cells_most))

    pub few_shares : misframed d ≡ false → sum_by (λ e. e.share) (flows d) ≤ 4080
    few_shares framed =
        let T-most = or-false _ _ framed in
        let N-in = or-false _ _ T-most.0 in
        let F-in = or-false _ _ N-in.0 in
        let slots = in-range 1 64 d.slots F-in.0 in
        omega (arith, few, sum_by-le (λ e. e.share) 255 (flows d) (λ k e l. omega (arith, (fits-at k e l).share_most, slots.1)))
