-- Several tiles that are asked for, one after the other: what is left to do on what is read now comes to what was to do. Assumes nothing.
use Prim.Native.Nat.{ℕ, suc, ◌+◌, ◌≤◌, ◌<◌, min}
use mathlib.Core.Path.{◌≡◌, refl, sym, ap, ◌∙◌, subst}
use mathlib.Core.List.{List}
use mathlib.Core.Option.{Option, some, none}
use mathlib.Core.Bool.{Bool, true, false, cond}
use native.Mathlib.Omega.{arith}
use lib.ListN.{get_or, set}
use lib.Dec.{eqb}
use borrow.Author.Tests.{lt-ltb, le-ltb, eq-eqb, ne_eqb}
use Rattle.model.specs.Calls.{Grant, accepted, refused}
use Rattle.model.specs.Plan.{flow_count}
use Rattle.model.specs.Link as model
use Rattle.model.proofs.Tables.{get_d-table, get_d-table-past}
use Rattle.tables.specs.Owners.{nobody, owner_of}
use Rattle.link.specs.Parts.{parts_in}
use Rattle.link.proofs.Readings.{read_count, flows_most}
use Rattle.window.specs.declared.Window.{Window}
use Rattle.crossings.specs.Crossing as reference
use Rattle.crossing.specs.declared.Crossing.{Crossing}
use Rattle.crossing.specs.Reading.{onward_to, onward_of, BoardIn, Reads, Comes, is_granted, passed_once, PassedOne, Passes}

-- what is left to do, `rest`, on what is read now, comes to `step` of p
pub record Left (x : Crossing) (step rest : reference.Crossing → reference.Crossing) (p : reference.Crossing) (a b k : List ℕ) : Type 0 where
  pub now : reference.Crossing
  pub reads : Reads now x a b k
  pub comes : step p ≡ rest now

-- so whatever is read at first; and the states are in step
pub record Going (x : Crossing) (w : Window) (step rest : reference.Crossing → reference.Crossing) (a₀ b₀ k₀ a b k : List ℕ) : Type 0 where
  pub in_step : BoardIn x w a b
  pub left : (p : reference.Crossing) → Reads p x a₀ b₀ k₀ → Left x step rest p a b k

pub going-first : {x : Crossing} {w : Window} {step rest : reference.Crossing → reference.Crossing} {a b k : List ℕ} → BoardIn x w a b
    → ((p : reference.Crossing) → Reads p x a b k → step p ≡ rest p) → Going x w step rest a b k a b k
going-first o same = record { in_step = o; left = λ p r. record { now = p; reads = r; comes = same p r } }

pub going_done : {x : Crossing} {w : Window} {step rest : reference.Crossing → reference.Crossing} {a₀ b₀ k₀ a b k : List ℕ}
    → Going x w step rest a₀ b₀ k₀ a b k
    → ((p : reference.Crossing) → rest p ≡ p) → Comes x step a₀ b₀ k₀ a b k
going_done {x} {a = a} {b} {k} g ends p r =
    let y = g.left p r in
    subst (λ q. Reads q x a b k) (sym (y.comes ∙ ends y.now)) y.reads

-- ---- the tiles of one flow

module _ {x : Crossing} {w : Window} {i j : ℕ} {step : reference.Crossing → reference.Crossing} {a₀ b₀ k₀ a b k a' b' k' : List ℕ} {granted : Bool} (m n : ℕ)
    (one_more : m ≡ suc n) (g : Going x w step (reference.pass_on m i j) a₀ b₀ k₀ a b k) (o : BoardIn x w a' b')
    (passes : Passes x i j a b k a' b' k' granted) where
  one_left : (l : ℕ) → ((q : reference.Crossing) → PassedOne x i j q a' b' k' granted
      → reference.pass_on (suc n) i j q ≡ reference.pass_on l i j (passed_once i j q))
      → Going x w step (reference.pass_on l i j) a₀ b₀ k₀ a' b' k'
  one_left l same = record {
    in_step = o;
    left = λ p r.
        let y = g.left p r in
        let one = passes y.now y.reads in
        record {
          now = passed_once i j y.now;
          reads = one.reads;
          comes = y.comes ∙ ap (λ (z : ℕ). reference.pass_on z i j y.now) one_more ∙ same y.now one;
        };
  }

  pub tile-granted : granted ≡ true → Going x w step (reference.pass_on n i j) a₀ b₀ k₀ a' b' k'
  unfolding reference.pass_on
  tile-granted is = one_left n (λ q one. go q (reference.answer_for j q) (sym one.granted_is ∙ is))
    where
      go : (q : reference.Crossing) (h : Grant) → is_granted h ≡ true
          → reference.on_grant i h (reference.pass_on n i j) (reference.asked_for j q) ≡ reference.pass_on n i j (reference.on_grant i h (λ z. z) (reference.asked_for j q))
      go q (accepted v) e = refl
      go q (refused r) e = cc

  pub tile-refused : granted ≡ false → Going x w step (reference.pass_on 0 i j) a₀ b₀ k₀ a' b' k'
  unfolding reference.pass_on
  tile-refused is = one_left 0 (λ q one. go q (reference.answer_for j q) (sym one.granted_is ∙ is))
    where
      go : (q : reference.Crossing) (h : Grant) → is_granted h ≡ false
          → reference.on_grant i h (reference.pass_on n i j) (reference.asked_for j q) ≡ reference.on_grant i h (λ z. z) (reference.asked_for j q)
      go q (accepted v) e = cc
      go q (refused r) e = refl

pub none_left : (n i j : ℕ) → n ≡ 0 → (p : reference.Crossing) → reference.pass_on n i j p ≡ p
unfolding reference.pass_on
none_left n i j e p = ap (λ (m : ℕ). reference.pass_on m i j p) e

-- ---- where a flow goes on

module _ (x : Crossing) (i : ℕ) (few : i < 16) where
  onward-at : get_or (onward_of x) i none ≡ onward_to x.leaving.count (get_or x.onward i 0)
  onward-at = get_d-table 16 (λ k. onward_to x.leaving.count (get_or x.onward k 0)) i none few

  module _ {p : reference.Crossing} {a b k : List ℕ} (reads : Reads p x a b k) where
    pub goes_on : get_or x.onward i 0 < x.leaving.count → reference.goes_on_as p i ≡ some (get_or x.onward i 0)
    goes_on below =
        ap (λ (o : List (Option ℕ)). get_or o i none) reads.onward_is ∙ onward-at
        ∙ ap (λ (t : Bool). cond t (some (get_or x.onward i 0)) none) (lt-ltb _ _ below)

    pub goes-elsewhere : x.leaving.count ≤ get_or x.onward i 0 → reference.goes_on_as p i ≡ none
    goes-elsewhere past =
        ap (λ (o : List (Option ℕ)). get_or o i none) reads.onward_is ∙ onward-at
        ∙ ap (λ (t : Bool). cond t (some (get_or x.onward i 0)) none) (le-ltb _ _ past)

    -- the tiles of flow i that wait, by where it goes on
    pub flow-passed : {a' b' k' : List ℕ} → get_or x.onward i 0 < x.leaving.count
        → Reads (reference.pass_on (reference.waits p i) i (get_or x.onward i 0) p) x a' b' k' → Reads (reference.pass_flow i p) x a' b' k'
    flow-passed {a'} {b'} {k'} below there = subst (λ (o : Option ℕ). Reads (reference.pass_as o (reference.waits p i) i p) x a' b' k')
        (sym (goes_on below)) there

    pub flow-kept : x.leaving.count ≤ get_or x.onward i 0 → Reads (reference.pass_flow i p) x a b k
    flow-kept past = subst (λ (o : Option ℕ). Reads (reference.pass_as o (reference.waits p i) i p) x a b k) (sym (goes-elsewhere past)) reads

    -- a tile of flow i that comes: it goes elsewhere; it is the last of several; it is the only one
    pub none-comes : x.leaving.count ≤ get_or x.onward i 0 → Reads (reference.comes (reference.goes_on_as p i) i p) x a b k
    none-comes past = subst (λ (o : Option ℕ). Reads (reference.comes o i p) x a b k) (sym (goes-elsewhere past)) reads

    waits-are : reference.waits p i ≡ get_or k i 0
    waits-are = ap (λ (ks : List ℕ). get_or ks i 0) reads.waiting_is

    pub reads-queued : {more : ℕ} → more ≡ min (get_or k i 0 + 1) 255 → Reads (reference.queued i p) x a b (set k i more)
    reads-queued e = record {
      arriving_is = reads.arriving_is;
      leaving_is = reads.leaving_is;
      onward_is = reads.onward_is;
      waiting_is = rw e (ap (λ (ks : List ℕ). set ks i (min (get_or ks i 0 + 1) 255)) reads.waiting_is);
    }

    module _ (below : get_or x.onward i 0 < x.leaving.count) where
      pub comes-last : {more : ℕ} → more ≡ min (get_or k i 0 + 1) 255 → (get_or k i 0 ≡ 0 → ⊥)
          → Reads (reference.comes (reference.goes_on_as p i) i p) x a b (set k i more)
      comes-last {more} e others =
          subst (λ (o : Option ℕ). Reads (reference.comes o i p) x a b (set k i more)) (sym (goes_on below))
          (rw (ne_eqb (reference.waits p i) 0 (λ z. others (sym waits-are ∙ z))) (reads-queued e))

      pub comes-alone : {a' b' k' : List ℕ} {granted : Bool} → get_or k i 0 ≡ 0
          → PassedOne x i (get_or x.onward i 0) (reference.queued i p) a' b' k' granted → Reads (reference.comes (reference.goes_on_as p i) i p) x a' b' k'
      unfolding reference.pass_on
      comes-alone {a'} {b'} {k'} empty one =
          subst (λ (o : Option ℕ). Reads (reference.comes o i p) x a' b' k') (sym (goes_on below))
          (rw (eq-eqb (reference.waits p i) 0 (waits-are ∙ empty)) (once (reference.answer_for (get_or x.onward i 0) (reference.queued i p)) _ one.reads))
        where
          once : (h : Grant) (q : reference.Crossing) → Reads (reference.on_grant i h (λ z. z) q) x a' b' k'
              → Reads (reference.on_grant i h (reference.pass_on 0 i (get_or x.onward i 0)) q) x a' b' k'
          once (accepted v) q r = r
          once (refused n) q r = r

-- ---- flow by flow

-- the tiles of the flows below i are passed on
pub record Walked (x : Crossing) (w : Window) (a₀ b₀ k₀ a b k : List ℕ) (i : ℕ) : Type 0 where
  pub in_step : BoardIn x w a b
  pub most : i ≤ x.arriving.count
  pub comes : Comes x (reference.pass_waiting i) a₀ b₀ k₀ a b k

pub walked_none : {x : Crossing} {w : Window} {a b k : List ℕ} → BoardIn x w a b → Walked x w a b k a b k 0
unfolding reference.pass_waiting
walked_none o = record { in_step = o; most = omega arith; comes = λ p r. r }

module _ {x : Crossing} {w : Window} {a₀ b₀ k₀ a b k : List ℕ} {i : ℕ} (g : Walked x w a₀ b₀ k₀ a b k i) where
  pub walked-few : i < x.arriving.count → i < 16
  walked-few below = omega (arith, flows_most (parts_in x.arriving a) g.in_step.arriving.sound.parts)

  pub walked_more : {a' b' k' : List ℕ} → i < x.arriving.count → Comes x (reference.pass_flow i) a b k a' b' k' → BoardIn x w a' b'
      → Walked x w a₀ b₀ k₀ a' b' k' (i + 1)
  unfolding reference.pass_waiting
  walked_more {a'} {b'} {k'} below passed o =
      let next : suc i ≡ i + 1 = omega arith in
      record {
        in_step = o;
        most = omega arith;
        comes = λ p r. subst (λ (n : ℕ). Reads (reference.pass_waiting n p) x a' b' k') next (passed (reference.pass_waiting i p) (g.comes p r));
      }

  pub walked-done : x.arriving.count ≤ i → Comes x (reference.pass_waiting x.arriving.count) a₀ b₀ k₀ a b k
  walked-done past p r =
      let all : i ≡ x.arriving.count = omega (arith, g.most) in
      subst (λ (n : ℕ). Reads (reference.pass_waiting n p) x a b k) all (g.comes p r)

-- ---- the board's part of a slot

module _ {x : Crossing} {a b k a' b' k' : List ℕ} (waited : Comes x (reference.pass_waiting x.arriving.count) a b k a' b' k') where
  all-flows : (p : reference.Crossing) → Reads p x a b k → Reads (reference.pass_waiting (flow_count p.arriving.state.plan) p) x a' b' k'
  all-flows p r =
      let count = ap (λ (l : model.Link). flow_count l.plan) r.arriving_is ∙ read_count (parts_in x.arriving a) in
      subst (λ (n : ℕ). Reads (reference.pass_waiting n p) x a' b' k') (sym count) (waited p r)

  pub served-one : {owner : ℕ} {a'' b'' k'' : List ℕ} → owner < 16 → Comes x (λ p. reference.comes (reference.goes_on_as p owner) owner p) a' b' k' a'' b'' k''
      → Comes x (reference.served (owner_of owner)) a b k a'' b'' k''
  unfolding reference.served
  served-one {owner} few came p r = rw (ne_eqb owner nobody (λ z. omega arith)) (came _ (all-flows p r))

  pub served-none : {owner : ℕ} → 16 ≤ owner → Comes x (reference.served (owner_of owner)) a b k a' b' k'
  unfolding reference.served
  served-none {owner} past p r = go (eqb owner nobody)
    where
      q : reference.Crossing
      q = reference.pass_waiting (flow_count p.arriving.state.plan) p

      elsewhere : reference.goes_on_as q owner ≡ none
      elsewhere =
          ap (λ (o : List (Option ℕ)). get_or o owner none) (all-flows p r).onward_is
          ∙ get_d-table-past 16 (λ i. onward_to x.leaving.count (get_or x.onward i 0)) owner none past

      go : (t : Bool) → Reads (reference.arrives (cond t none (some owner)) q) x a' b' k'
      go true = all-flows p r
      go false = subst (λ (o : Option ℕ). Reads (reference.comes o owner q) x a' b' k') (sym elsewhere) (all-flows p r)
