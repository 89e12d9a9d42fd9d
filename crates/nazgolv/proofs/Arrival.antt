-- When a tile arrives, of a host's calls: what is proved of the reference scheduler holds of their answers. Assumes nothing.
use Prim.Native.Nat.{ℕ, ◌<◌}
use mathlib.Core.Path.{◌≡◌, refl}
use mathlib.Core.List.{List}
use Rattle.model.specs.Tables.{tally}
use Rattle.model.specs.Plan.{Plan, flow_count, plan_of, refusal}
use Rattle.model.specs.Calls.{History}
use Rattle.model.specs.History.{is_granted_reset}
use Rattle.model.specs.Claim.{Each, ReadyAt}
use Rattle.model.specs.Scheduler.{reference}
use Rattle.arrival.specs.AcceptedCredits.{CreditAcceptedAt}
use Rattle.arrival.specs.AnsweredLends.{LendAnsweredAt, ResetGrantedAt}
use Rattle.arrival.specs.Delay.{FitsNewest, PromptOn, RoomFrom, AsksAt, TimelyInOrder, SoonOn, SoonOnArrivalOn}
use Rattle.arrival.specs.SeveralLinks.{Ran, Board}
use Rattle.arrival.specs.EnoughCells.{GivesBack, GivesBackAtOnce}
use Rattle.arrival.specs.SharesOfCells.{KeepsShares, EachGrantedNow}
use Rattle.arrival.specs.SharesAhead.{KeepsSharesAhead, EachGrantedInTime}
use Rattle.arrival.specs.BooksInOrder.{AfterThoseAt}
use Rattle.arrival.proofs.AcceptedCredits.{credits_accepted}
use Rattle.arrival.proofs.AnsweredLends.{lends-answered}
use Rattle.arrival.proofs.GrantedResets.{resets-granted}
use Rattle.arrival.proofs.Prompt.{prompt}
use Rattle.arrival.proofs.Soon.{soon-ahead}
use Rattle.arrival.proofs.SoonOnArrival.{soon}
use Rattle.arrival.proofs.EnoughCells.{enough_cells}
use Rattle.arrival.proofs.CellsAtOnce.{enough-at-once}
use Rattle.arrival.proofs.SharesOfCells.{shares-of-cells}
use Rattle.arrival.proofs.SharesInOrder.{shares-in-order}
use Rattle.arrival.proofs.SharesAhead.{shares-ahead}
use Rattle.nazgolv.specs.Hosted.{Hosted}
use Rattle.nazgolv.proofs.Demand3.{host-has}

module _ (plan : List ℕ) where
  abbrev P : Plan
  P = plan_of plan

  -- ---- which credits are taken, which lends answered and which resets granted

  pub host-credits-accepted : {h : History} {b : List ℕ} → Hosted plan h b → Each (CreditAcceptedAt P) h
  host-credits-accepted = host-has plan (Each (CreditAcceptedAt P)) (credits_accepted plan)

  pub host-lends-answered : {h : History} {b : List ℕ} → Hosted plan h b → Each (LendAnsweredAt P) h
  host-lends-answered = host-has plan (Each (LendAnsweredAt P)) (lends-answered plan)

  pub host-resets-granted : {h : History} {b : List ℕ} → Hosted plan h b → Each (ResetGrantedAt P) h
  host-resets-granted = host-has plan (Each (ResetGrantedAt P)) (resets-granted plan)

  -- ---- prompt and soon

  pub host-prompt : {h : History} {b : List ℕ} → Hosted plan h b → PromptOn FitsNewest 0 P h
  host-prompt = host-has plan (PromptOn FitsNewest 0 P) (prompt plan)

  pub host-soon-ahead : {h : History} {b : List ℕ} → Hosted plan h b → (i : ℕ) → i < flow_count P → SoonOn TimelyInOrder 0 P i h
  host-soon-ahead = host-has plan (λ h. (i : ℕ) → i < flow_count P → SoonOn TimelyInOrder 0 P i h) (soon-ahead plan)

  pub host-soon : {h : History} {b : List ℕ} → Hosted plan h b → (i : ℕ) → i < flow_count P → SoonOnArrivalOn P i h
  host-soon = host-has plan (λ h. (i : ℕ) → i < flow_count P → SoonOnArrivalOn P i h) (soon plan)

  -- ---- cells

  pub host-enough-cells : {h : History} {b : List ℕ} → Hosted plan h b → (i : ℕ) → i < flow_count P → GivesBack 0 P i h → Each (ReadyAt P i) h
  host-enough-cells = host-has plan (λ h. (i : ℕ) → i < flow_count P → GivesBack 0 P i h → Each (ReadyAt P i) h) (enough_cells plan)

  pub host-enough-at-once : {h : History} {b : List ℕ} → Hosted plan h b → (i : ℕ) → i < flow_count P
      → GivesBackAtOnce 0 P i h → Each (AsksAt (λ P i w h. RoomFrom P i 0 h) P i) h
  host-enough-at-once =
      host-has plan (λ h. (i : ℕ) → i < flow_count P → GivesBackAtOnce 0 P i h → Each (AsksAt (λ P i w h. RoomFrom P i 0 h) P i) h) (enough-at-once plan)

  pub host-shares-of-cells : (late : ℕ) {h : History} {b : List ℕ} → Hosted plan h b → (i : ℕ) → i < flow_count P → KeepsShares late 0 P i h → EachGrantedNow P i h
  host-shares-of-cells late = host-has plan (λ h. (i : ℕ) → i < flow_count P → KeepsShares late 0 P i h → EachGrantedNow P i h) (shares-of-cells late plan)

  pub host-shares-in-order : (late : ℕ) {h : History} {b : List ℕ} → Hosted plan h b → (i : ℕ) → i < flow_count P
      → KeepsShares late 0 P i h → Each (AfterThoseAt P i) h
  host-shares-in-order late =
      host-has plan (λ h. (i : ℕ) → i < flow_count P → KeepsShares late 0 P i h → Each (AfterThoseAt P i) h) (shares-in-order late plan)

  pub host-shares-ahead : (ahead late : ℕ) {h : History} {b : List ℕ} → Hosted plan h b → (i : ℕ) → i < flow_count P
      → KeepsSharesAhead ahead late 0 P i h → EachGrantedInTime P i h
  host-shares-ahead ahead late =
      host-has plan (λ h. (i : ℕ) → i < flow_count P → KeepsSharesAhead ahead late 0 P i h → EachGrantedInTime P i h) (shares-ahead ahead late plan)

  -- ---- a board, for what is said of several links

  pub host-board : {h : History} {b : List ℕ} → Hosted plan h b → tally is_granted_reset h ≡ 0 → (i : ℕ) → i < flow_count P → Board reference
  host-board {h} x unreset i known = record {
    bytes = plan;
    passes = host-has plan (λ h. refusal plan ≡ 0) (λ passes calls. passes) x;
    events = h;
    ran = host-has plan (Ran reference P) (λ passes calls. record { calls = calls; is = refl }) x;
    no_reset = unreset;
    stream = i;
    known = known;
  }
