-- Two links that differ in what flows hold before some slots, where the second holds no less; in the mark; and in the turn. Assumes nothing.
use Prim.Native.Nat.{ℕ, suc, ◌+◌, ◌%◌, ◌≤◌, ◌<◌}
use mathlib.Core.Path.{◌≡◌, sym, ap₂, ◌∙◌, subst}
use mathlib.Core.List.{List}
use mathlib.Core.Option.{Option}
use mathlib.Core.Bool.{Bool, true, false, cond}
use native.Mathlib.Omega.{arith}
use native.Mathlib.Decide.{ℕ_discrete}
use lib.ListN.{get_or}
use Rattle.model.specs.Plan.{Plan, positions, flow_count}
use Rattle.model.specs.Link.{Link, Flow, link_with, owner, flow, with_flow}
use Rattle.model.specs.Holding.{frame_start, InWindow}
use Rattle.model.proofs.LinkUpdates.{flow-same, flow-other}

-- ---- what agrees, where slot t is current

-- Flow x of the first link and flow y of the second: what they hold is the same from slot b on.
pub record CloseFlow (P : Plan) (t b : ℕ) (x y : Flow) : Type 0 where
  pub frame : x.injection ≡ y.injection
  pub remainder : x.remainder ≡ y.remainder
  pub number : x.number ≡ y.number
  pub no_less : (s : ℕ) → InWindow P t s → t ≤ s → get_or x.held (s % positions P) 0 ≤ get_or y.held (s % positions P) 0
  pub same_from : (s : ℕ) → InWindow P t s → t ≤ s → b ≤ s → get_or x.held (s % positions P) 0 ≡ get_or y.held (s % positions P) 0

-- b j is that slot of flow j, one that has begun
pub record Close (P : Plan) (t : ℕ) (b : ℕ → ℕ) (k l : Link) : Type 0 where
  pub plan_first : k.plan ≡ P
  pub plan_second : l.plan ≡ P
  pub current : k.current ≡ l.current
  pub owners : (q : ℕ) → q < positions P → owner k q ≡ owner l q
  pub flows : (j : ℕ) → j < flow_count P → CloseFlow P t (b j) (flow k j) (flow l j)
  pub begun : (j : ℕ) → j < flow_count P → b j < frame_start P t + positions P

-- ---- links with one plan and one CP

-- Both are the link `base` with other owners, other flows, another mark and another flow to lend from.
pub record Parts : Type 0 where
  pub owners : List (Option ℕ)
  pub flows : List Flow
  pub marked : Bool
  pub turn : ℕ

abbrev pub with : Link → Parts → Link
with base x = link_with base base.current x.owners x.flows x.marked x.turn

abbrev pub parts : Link → Parts
parts l = record { owners = l.owners; flows = l.flows; marked = l.marked; turn = l.turn }

-- What holds of all such links holds of links that are close.
pub by-base : (X : Plan → Link → Link → Type 0) → ((base : Link) (x y : Parts) → X base.plan (with base x) (with base y))
    → (P : Plan) (k l : Link) → k.plan ≡ P → l.plan ≡ P → k.current ≡ l.current → X P k l
by-base X all P k l first second current = subst (λ Q. X Q k l) first (subst (X k.plan k) same (all k (parts k) (parts l)))
  where
    same : with k (parts l) ≡ l
    same =
        ap₂ (λ Q c. record { plan = Q; current = c; owners = l.owners; flows = l.flows; marked = l.marked; turn = l.turn })
        (first ∙ sym second) current

-- a holding that rose by one from some position on, in both
pub raised : (e : Bool) (x y : ℕ) → x ≤ y → cond e (suc x) x ≤ cond e (suc y) y
raised true x y h = omega arith
raised false x y h = h

-- ---- one flow changed in both

module _ (base : Link) (x y : Parts) {t : ℕ} {b : ℕ → ℕ} (c : Close base.plan t b (with base x) (with base y)) {i : ℕ} (known : i < flow_count base.plan) where
  open base use {plan as P}

  pub each-close : (f g : Flow) → CloseFlow P t (b i) f g
      → (j : ℕ) → j < flow_count P → CloseFlow P t (b j) (flow (with_flow (with base x) i f) j) (flow (with_flow (with base y) i g) j)
  each-close f g own j below = go (ℕ_discrete j i)
    where
      go : Dec (j ≡ i) → CloseFlow P t (b j) (flow (with_flow (with base x) i f) j) (flow (with_flow (with base y) i g) j)
      go (yes e) = rw (e, flow-same (with base x) i f known, flow-same (with base y) i g known) own
      go (no d) = rw (flow-other (with base x) i f j below d, flow-other (with base y) i g j below d) (c.flows j below)
