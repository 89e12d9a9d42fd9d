-- A plan's faults begin with the number of its refusal by tests 2 to 7, and there are none where it is not refused. Assumes nothing.
use Prim.Native.Nat.{ℕ, ◌+◌, ◌*◌, ◌≤◌, ◌<◌}
use mathlib.Core.Path.{◌≡◌, refl, sym, ap, ap₂, ◌∙◌}
use mathlib.Core.List.{List, [], ◌++◌, append_assoc, append-nil}
use mathlib.Core.Bool.{Bool, true, false, not, ◌&&◌, ◌||◌}
use native.Mathlib.Decide.{dec_le}
use native.Mathlib.Omega.{arith}
use lib.Dec.{ltb}
use borrow.Author.Tests.{lt-leb, eq-eqb}
use Rattle.model.specs.Tables.{any, sum}
use Rattle.model.specs.Refusals.{condition}
use Rattle.model.specs.Plan.{Plan, Entry, flow_count, entry, entry_fits, same_pair, same_nodes, count_test, frame_test}
use Rattle.model.specs.Plan.{count_fits, slots_fit, frames_fit, buffer_fits, many_positions, share_fits, cells_fit, node_fits}
use Rattle.model.specs.WrittenPlan.{header_for, number_tests}
use Rattle.model.proofs.Tests.{and-false}
use Rattle.faults.proofs.Tells.{Tells, tells-same, tells-one, tells_both, tells-each, tells_first, Follows, follows-none, follows-first, follows-more, follows_same}
use Rattle.faults.specs.Told.{told, each_below}
use Rattle.faultwords.specs.PlanFaults.{flows_seen, count_faults, frame_faults, entry_faults, alike_faults, share_sum, cell_sum, faults_of}

-- ---- the tests by their limits

or-last : (a b c : Bool) → a || b || c ≡ a || c || b
or-last true b c = refl
or-last false true true = refl
or-last false true false = refl
or-last false false true = refl
or-last false false false = refl

or_nothing : (b : Bool) → b || false ≡ b
or_nothing true = refl
or_nothing false = refl

not-and : (a b : Bool) → not a || not b ≡ not (a && b)
not-and true b = refl
not-and false b = refl

not-not : (b : Bool) → b ≡ not (not b)
not-not true = refl
not-not false = refl

-- of the header that would be written only n can fail
count-test : (P : Plan) → not (count_fits (flow_count P)) ≡ condition (count_test (header_for P))
count-test P =
    let n = flow_count P in
    let fail = not (count_fits n) in
    sym (ap (λ t. fail || false || not t) (eq-eqb (12 + 4 * n) (12 + 4 * n) refl) ∙ or_nothing (fail || false) ∙ or_nothing fail)

entry-test : (F : ℕ) (e : Entry)
    → not (share_fits F e.share) || not (cells_fit e.cells) || not (node_fits e.source) || not (node_fits e.destination) || same_nodes e
    ≡ not (entry_fits F e)
unfolding entry_fits
entry-test F e =
    let share = share_fits F e.share in
    let cells = cells_fit e.cells in
    let source = node_fits e.source in
    let destination = node_fits e.destination in
    let two = not-and share cells in
    let three = ap (◌|| not source) two ∙ not-and (share && cells) source in
    let four = ap (◌|| not destination) three ∙ not-and (share && cells && source) destination in
    ap₂ ◌||◌ four (not-not (same_nodes e)) ∙ not-and (share && cells && source && destination) (not (same_nodes e))

-- ---- what is told of each test

tells-count : (P : Plan) → Tells 2 (condition (count_test (header_for P))) (count_faults (flow_count P))
tells-count P = tells-same (count-test P) (tells-one _ 2 (flow_count P) 0)

tells-frame : (F W N : ℕ) → Tells 3 (condition (frame_test F W N)) (frame_faults F W N)
tells-frame F W N =
    let slots-frames = tells_both (tells-one (not (slots_fit F)) 3 0 F) (tells-one (not (frames_fit W)) 3 1 W) in
    let all = tells_both (tells_both slots-frames (tells-one (many_positions (F * W)) 3 2 (F * W))) (tells-one (not (buffer_fits N)) 3 3 N) in
    tells-same (or-last (not (slots_fit F) || not (frames_fit W)) (many_positions (F * W)) (not (buffer_fits N))) all

tells-entry : (F : ℕ) (e : Entry) (i : ℕ) → Tells 4 (not (entry_fits F e)) (entry_faults F e i)
tells-entry F e i =
    let share_cells = tells_both (tells-one (not (share_fits F e.share)) 4 i 0) (tells-one (not (cells_fit e.cells)) 4 i 1) in
    let nodes = tells_both (tells_both share_cells (tells-one (not (node_fits e.source)) 4 i 2)) (tells-one (not (node_fits e.destination)) 4 i 3) in
    tells-same (entry-test F e) (tells_both nodes (tells-one (same_nodes e) 4 i 4))

-- ---- all of them

regroup : (c f e a s l : List ℕ) → c ++ (f ++ (e ++ (a ++ (s ++ (l ++ []))))) ≡ c ++ f ++ e ++ a ++ (s ++ l)
regroup c f e a s l = simp (append_assoc, append-nil)

regroup-first : (c f e a s : List ℕ) → c ++ (f ++ (e ++ (a ++ s))) ≡ c ++ f ++ e ++ a ++ s
regroup-first c f e a s = simp append_assoc

module _ (P : Plan) where
  abbrev F : ℕ
  F = P.slots

  abbrev N : ℕ
  N = P.buffer

  abbrev count-told : List ℕ
  count-told = count_faults (flow_count P)

  abbrev frame-told : List ℕ
  frame-told = frame_faults F P.frames N

  abbrev entries-told : List ℕ
  entries-told = each_below (flows_seen P) (λ i. entry_faults F (entry P i) i)

  abbrev repeats-told : List ℕ
  repeats-told = each_below (flows_seen P) (alike_faults P)

  abbrev shares-told : List ℕ
  shares-told = told (ltb F (share_sum P)) 6 (share_sum P) F

  abbrev cells_told : List ℕ
  cells_told = told (ltb N (cell_sum P)) 7 (cell_sum P) N

  abbrev misfit : ℕ → Bool
  misfit i = not (entry_fits F (entry P i))

  abbrev repeated : ℕ → Bool
  repeated i = any i (λ j. same_pair (entry P j) (entry P i))

  -- up to 16 flows
  all_seen : flow_count P ≤ 16 → Follows (number_tests P) (faults_of P)
  unfolding faults_of
  all_seen few =
      let seen : flows_seen P ≡ flow_count P = omega arith in
      let entries : Tells 4 (any (flow_count P) misfit) entries-told =
      tells-same (ap (λ n. any n misfit) seen) (tells-each 4 (flows_seen P) misfit _ (λ i l. tells-entry F (entry P i) i)) in
      let repeats : Tells 5 (any (flow_count P) repeated) repeats-told =
      tells-same (ap (λ n. any n repeated) seen) (tells-each 5 (flows_seen P) repeated _ (λ j l. tells_first 5 j (λ i. same_pair (entry P i) (entry P j)))) in
      let shares : Tells 6 (ltb F (sum (flow_count P) (λ i. (entry P i).share))) shares-told =
      tells-same (ap (λ n. ltb F (sum n (λ i. (entry P i).share))) seen) (tells-one (ltb F (share_sum P)) 6 (share_sum P) F) in
      let cells : Tells 7 (ltb N (sum (flow_count P) (λ i. (entry P i).cells))) cells_told =
      tells-same (ap (λ n. ltb N (sum n (λ i. (entry P i).cells))) seen) (tells-one (ltb N (cell_sum P)) 7 (cell_sum P) N) in
      let sums = follows-more shares (follows-more cells follows-none) in
      let flows = follows-more entries (follows-more repeats sums) in
      follows_same (regroup count-told frame-told entries-told repeats-told shares-told cells_told)
      (follows-more (tells-count P) (follows-more (tells-frame F P.frames N) flows))

  -- more flows are refused with 2
  some-unseen : 16 < flow_count P → Follows (number_tests P) (faults_of P)
  unfolding faults_of
  some-unseen many =
      let miscounted : not (count_fits (flow_count P)) ≡ true = rw (lt-leb (flow_count P) 16 many, and-false) in
      let others = frame-told ++ (entries-told ++ (repeats-told ++ (shares-told ++ cells_told))) in
      follows_same (regroup-first count-told frame-told entries-told repeats-told (shares-told ++ cells_told))
      (follows-first (tells-count P) (sym (count-test P) ∙ miscounted) others)

  -- RULES 15.4: no fault exactly where tests 2 to 7 are passed, and else the first fault has the refusal's number
  pub faults-follow : Follows (number_tests P) (faults_of P)
  faults-follow = go (dec_le (flow_count P) 16)
    where
      go : Dec (flow_count P ≤ 16) → Follows (number_tests P) (faults_of P)
      go (yes few) = all_seen few
      go (no many) = some-unseen (omega arith)
