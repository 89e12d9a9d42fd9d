-- What the next board can rely on, of the code: its buffer is never filled over, the link's tables say what is held and which number is expected, and on two
-- boards in step a tile leaves the second after it came. Bursts count as their requests. Assumes nothing.
use Prim.Native.Nat.{ℕ, ◌<◌}
use mathlib.Core.Path.{◌≡◌, subst}
use mathlib.Core.List.{List}
use Rattle.std.specs.Prelude.{Ok}
use Rattle.plan.specs.declared.Plan.{Plan}
use Rattle.plan.specs.Reading.{ReadAs, Valid}
use Rattle.plan.proofs.Laws.{is-plan}
use Rattle.model.specs.Plan as model
use Rattle.model.specs.Calls.{Call, History}
use Rattle.model.specs.Link as reference
use Rattle.model.specs.History.{expected_number}
use Rattle.model.specs.Scheduler.{Played, run}
use Rattle.model.specs.Scheduler as scheduler
use Rattle.model.specs.Holding.{HoldingIs}
use Rattle.model.specs.Buffer.{FitsBuffer}
use Rattle.model.specs.QuantumNumbers.{expected_on}
use Rattle.model.specs.TwoHops.{InStep, LeavesAfter}
use Rattle.model.proofs.Buffer.{reference-never-overfull}
use Rattle.model.proofs.Holding.{table-is-holding}
use Rattle.model.proofs.QuantumNumbers.{number-is-count}
use Rattle.model.proofs.TwoHops.{leaves-after-it-came}
use Rattle.link.specs.declared.Link.{Link}
use Rattle.link.specs.Steps.{read_of as link_read}
use Rattle.link.specs.Handed.{Handed}
use Rattle.link.proofs.Demand3.{RunOf, run_of}

-- bytes that `plan::read` accepts
module _ (bytes : List ℕ) (p : Plan) (is : ReadAs bytes (Ok p)) (valid : Valid p) where
  abbrev P : model.Plan
  P = model.plan_of bytes

  passes : model.refusal bytes ≡ 0
  passes = is.0

  -- what holds of the link and the events of every run of the reference scheduler
  has : (Q : reference.Link → History → Type 0) → ((calls : List Call) → Q (run scheduler.reference P calls).state (run scheduler.reference P calls).history)
      → {h : History} {l : Link} → Handed p h l → Q (link_read l) h
  has Q runs {h} {l} g =
      let plan_is = is-plan bytes p is in
      let made = subst (λ R. RunOf R h l) plan_is (run_of valid.accepted g) in
      subst (λ (r : Played scheduler.reference). Q r.state r.history) made.played (runs made.calls)

  -- all streams together hold at most N, in every slot
  pub code-never-overfull : {h : History} {l : Link} → Handed p h l → (s : ℕ) → FitsBuffer P h s
  code-never-overfull = has (λ l h. (s : ℕ) → FitsBuffer P h s) (reference-never-overfull bytes passes)

  -- the holdings that are read of the link are those that are counted, in every slot of the window
  pub code-table-is-holding : {h : History} {l : Link} → Handed p h l → (i : ℕ) → i < model.flow_count P → HoldingIs P (link_read l) h i
  code-table-is-holding = has (λ l h. (i : ℕ) → i < model.flow_count P → HoldingIs P l h i) (table-is-holding bytes passes)

  -- and its numbers are the grants so far
  pub code-number-is-count : {h : History} {l : Link} → Handed p h l → (i : ℕ) → i < model.flow_count P
      → expected_on (link_read l) i ≡ expected_number P h i
  code-number-is-count = has (λ l h. (i : ℕ) → i < model.flow_count P → expected_on l i ≡ expected_number P h i) (number-is-count bytes passes)

-- two boards in step, each with bytes that `plan::read` accepts
pub code-leaves-after-it-came : (first : List ℕ) (p₁ : Plan) → ReadAs first (Ok p₁) → Valid p₁
    → (second : List ℕ) (p₂ : Plan) → ReadAs second (Ok p₂) → Valid p₂
    → InStep (model.plan_of first) (model.plan_of second) → {h₁ h₂ : History} {l₁ l₂ : Link} → Handed p₁ h₁ l₁ → Handed p₂ h₂ l₂
    → LeavesAfter (model.plan_of first) (model.plan_of second) h₁ h₂
code-leaves-after-it-came first p₁ is₁ valid₁ second p₂ is₂ valid₂ step {h₁} {h₂} g₁ g₂ =
    let P = model.plan_of first in
    let Q = model.plan_of second in
    let leaves = leaves-after-it-came first second is₁.0 is₂.0 step in
    has first p₁ is₁ valid₁ (λ l h. LeavesAfter P Q h h₂)
    (λ calls₁. has second p₂ is₂ valid₂ (λ l h. LeavesAfter P Q (run scheduler.reference P calls₁).history h) (leaves calls₁) g₂) g₁
