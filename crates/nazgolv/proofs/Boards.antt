-- What the next board can rely on, of a host's calls: its buffer is never filled over, the link in the image says what is held and which number is
-- expected, and on two boards in step a tile leaves the second after it came. Assumes nothing.
use Prim.Native.Nat.{ℕ, ◌<◌}
use mathlib.Core.Path.{◌≡◌, sym, ap, ◌∙◌, subst}
use mathlib.Core.List.{List}
use Rattle.model.specs.Plan.{Plan, flow_count, plan_of, refusal}
use Rattle.model.specs.Calls.{Call, History}
use Rattle.model.specs.Link.{Link}
use Rattle.model.specs.History.{expected_number}
use Rattle.model.specs.Scheduler.{reference, run}
use Rattle.model.specs.Holding.{HoldingIs}
use Rattle.model.specs.Buffer.{FitsBuffer}
use Rattle.model.specs.QuantumNumbers.{expected_on}
use Rattle.model.specs.TwoHops.{InStep, LeavesAfter}
use Rattle.model.proofs.Plan.{accepted}
use Rattle.model.proofs.Buffer.{reference-never-overfull}
use Rattle.model.proofs.Holding.{table-is-holding}
use Rattle.model.proofs.QuantumNumbers.{number-is-count}
use Rattle.model.proofs.TwoHops.{leaves-after-it-came}
use Rattle.imagemodel.specs.Image.{link_in}
use Rattle.imagemodel.specs.Chain.{image_in}
use Rattle.imagemodel.proofs.Closed.{kept_run}
use Rattle.imagemodel.proofs.ReadBack.{read-image}
use Rattle.imagemodel.proofs.Chain.{chain-follows}
use Rattle.nazgolv.specs.Hosted.{Hosted}
use Rattle.nazgolv.proofs.Demand3.{chained}

module _ (plan : List ℕ) where
  abbrev P : Plan
  P = plan_of plan

  -- what holds of the link and the events of every run of the reference scheduler holds of the link in the image and the answers
  has : (Q : Link → History → Type 0) → (refusal plan ≡ 0 → (calls : List Call) → Q (run reference P calls).state (run reference P calls).history)
      → {h : History} {b : List ℕ} → Hosted plan h b → Q (link_in (image_in b)) h
  has Q runs {h} x =
      let made = chained plan x in
      let f = chain-follows plan made.chain in
      let link_is = ap link_in (made.same ∙ f.image_is) ∙ read-image (kept_run P (accepted plan f.plan_passes) made.calls).kept in
      subst (λ l. Q l h) (sym link_is) (subst (Q (run reference P made.calls).state) (sym f.history_is) (runs f.plan_passes made.calls))

  -- all streams together hold at most N, in every slot
  pub host-never-overfull : {h : History} {b : List ℕ} → Hosted plan h b → (s : ℕ) → FitsBuffer P h s
  host-never-overfull = has (λ l h. (s : ℕ) → FitsBuffer P h s) (reference-never-overfull plan)

  -- the holdings in the image are those that are counted, in every slot of the window
  pub host-table-is-holding : {h : History} {b : List ℕ} → Hosted plan h b → (i : ℕ) → i < flow_count P → HoldingIs P (link_in (image_in b)) h i
  host-table-is-holding = has (λ l h. (i : ℕ) → i < flow_count P → HoldingIs P l h i) (table-is-holding plan)

  -- and its numbers are the grants so far
  pub host-number-is-count : {h : History} {b : List ℕ} → Hosted plan h b → (i : ℕ) → i < flow_count P
      → expected_on (link_in (image_in b)) i ≡ expected_number P h i
  host-number-is-count = has (λ l h. (i : ℕ) → i < flow_count P → expected_on l i ≡ expected_number P h i) (number-is-count plan)

-- two boards in step, each with a host
pub host-leaves-after-it-came : (first second : List ℕ) → InStep (plan_of first) (plan_of second) → {h₁ h₂ : History} {b₁ b₂ : List ℕ}
    → Hosted first h₁ b₁ → Hosted second h₂ b₂ → LeavesAfter (plan_of first) (plan_of second) h₁ h₂
host-leaves-after-it-came first second step {h₁} {h₂} x₁ x₂ =
    has first (λ l h. LeavesAfter (plan_of first) (plan_of second) h h₂)
    (λ passes₁ calls₁. has second (λ l h. LeavesAfter (plan_of first) (plan_of second) (run reference (plan_of first) calls₁).history h)
    (λ passes₂. leaves-after-it-came first second passes₁ passes₂ step calls₁) x₂) x₁
