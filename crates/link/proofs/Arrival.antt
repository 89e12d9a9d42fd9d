-- When a tile arrives, of the code: any list of calls on the link that fresh hands back for a plan that the reader accepts. Assumes nothing.
use Prim.Native.Nat.{ℕ, ◌<◌}
use mathlib.Core.Path.{◌≡◌, refl}
use mathlib.Core.List.{List}
use Rattle.std.specs.Prelude.{Ok}
use Rattle.plan.specs.declared.Plan.{Plan}
use Rattle.plan.specs.Reading.{ReadAs, Valid}
use Rattle.model.specs.Tables.{tally}
use Rattle.model.specs.Plan as model
use Rattle.model.specs.Calls.{History}
use Rattle.model.specs.History.{is_granted_reset}
use Rattle.model.specs.Claim.{Each, ReadyAt}
use Rattle.model.specs.Scheduler.{reference}
use Rattle.arrival.specs.AcceptedCredits.{CreditAcceptedAt}
use Rattle.arrival.specs.AnsweredLends.{LendAnsweredAt, ResetGrantedAt}
use Rattle.arrival.specs.Delay.{FitsNewest, PromptOn, RoomFrom, AsksAt, TimelyInOrder, SoonOn, SoonOnArrivalOn}
use Rattle.arrival.specs.SeveralLinks.{Ran, Board}
use Rattle.arrival.specs.EnoughCells.{GivesBack, GivesBackAtOnce}
use Rattle.arrival.specs.SharesOfCells.{KeepsShares, EachGrantedNow}
use Rattle.arrival.specs.SharesAhead.{KeepsSharesAhead, EachGrantedInTime}
use Rattle.arrival.specs.BooksInOrder.{AfterThoseAt}
use Rattle.arrival.proofs.AcceptedCredits.{credits-accepted-on-plan}
use Rattle.arrival.proofs.AnsweredLends.{lends-answered-accepted}
use Rattle.arrival.proofs.GrantedResets.{resets-granted-accepted}
use Rattle.arrival.proofs.Prompt.{prompt-accepted}
use Rattle.arrival.proofs.Soon.{soon-accepted}
use Rattle.arrival.proofs.SoonOnArrival.{soon-on-arrival}
use Rattle.arrival.proofs.EnoughCells.{enough-cells-accepted}
use Rattle.arrival.proofs.SharesOfCells.{shares-of-cells-accepted}
use Rattle.arrival.proofs.CellsAtOnce.{enough-at-once-accepted}
use Rattle.arrival.proofs.SharesInOrder.{shares-in-order-accepted}
use Rattle.arrival.proofs.SharesAhead.{shares-ahead-accepted}
use Rattle.link.specs.declared.Link.{Link}
use Rattle.link.specs.Handed.{Handed}
use Rattle.link.proofs.Demand3.{code-has}

-- it takes those of cells that their flow holds, and no others
pub code-credits-accepted : (bytes : List ℕ) (p : Plan) → ReadAs bytes (Ok p) → Valid p
    → {h : History} {l : Link} → Handed p h l → Each (CreditAcceptedAt (model.plan_of bytes)) h
code-credits-accepted = code-has (λ P. Each (CreditAcceptedAt P)) credits-accepted-on-plan

-- it answers a lend with a flow where one can take the slot, and grants a reset where nothing is booked or held, and nowhere else
pub code-lends-answered : (bytes : List ℕ) (p : Plan) → ReadAs bytes (Ok p) → Valid p
    → {h : History} {l : Link} → Handed p h l → Each (LendAnsweredAt (model.plan_of bytes)) h
code-lends-answered = code-has (λ P. Each (LendAnsweredAt P)) lends-answered-accepted

pub code-resets-granted : (bytes : List ℕ) (p : Plan) → ReadAs bytes (Ok p) → Valid p
    → {h : History} {l : Link} → Handed p h l → Each (ResetGrantedAt (model.plan_of bytes)) h
code-resets-granted = code-has (λ P. Each (ResetGrantedAt P)) resets-granted-accepted

-- and its delay: it is prompt, and soon to a modest flow, whether that asks ahead of its tiles or on their arrival
pub code-prompt : (bytes : List ℕ) (p : Plan) → ReadAs bytes (Ok p) → Valid p
    → {h : History} {l : Link} → Handed p h l → PromptOn FitsNewest 0 (model.plan_of bytes) h
code-prompt = code-has (PromptOn FitsNewest 0) prompt-accepted

pub code-soon-ahead : (bytes : List ℕ) (p : Plan) → ReadAs bytes (Ok p) → Valid p
    → {h : History} {l : Link} → Handed p h l → (i : ℕ) → i < model.flow_count (model.plan_of bytes) → SoonOn TimelyInOrder 0 (model.plan_of bytes) i h
code-soon-ahead = code-has (λ P h. (i : ℕ) → i < model.flow_count P → SoonOn TimelyInOrder 0 P i h) soon-accepted

pub code-soon : (bytes : List ℕ) (p : Plan) → ReadAs bytes (Ok p) → Valid p
    → {h : History} {l : Link} → Handed p h l → (i : ℕ) → i < model.flow_count (model.plan_of bytes) → SoonOnArrivalOn (model.plan_of bytes) i h
code-soon = code-has (λ P h. (i : ℕ) → i < model.flow_count P → SoonOnArrivalOn P i h) soon-on-arrival

-- and its cells: a stream that gives them back in time is ready at each request
pub code-enough-cells : (bytes : List ℕ) (p : Plan) → ReadAs bytes (Ok p) → Valid p
    → {h : History} {l : Link} → Handed p h l → (i : ℕ) → i < model.flow_count (model.plan_of bytes)
    → GivesBack 0 (model.plan_of bytes) i h → Each (ReadyAt (model.plan_of bytes) i) h
code-enough-cells = code-has (λ P h. (i : ℕ) → i < model.flow_count P → GivesBack 0 P i h → Each (ReadyAt P i) h) enough-cells-accepted

-- and one whose cells are credited at the grants has room in every slot
pub code-enough-at-once : (bytes : List ℕ) (p : Plan) → ReadAs bytes (Ok p) → Valid p
    → {h : History} {l : Link} → Handed p h l → (i : ℕ) → i < model.flow_count (model.plan_of bytes)
    → GivesBackAtOnce 0 (model.plan_of bytes) i h → Each (AsksAt (λ P i w h. RoomFrom P i 0 h) (model.plan_of bytes) i) h
code-enough-at-once =
    code-has (λ P h. (i : ℕ) → i < model.flow_count P → GivesBackAtOnce 0 P i h → Each (AsksAt (λ P i w h. RoomFrom P i 0 h) P i) h) enough-at-once-accepted

-- and one that asks within its share, with cells by how late they are given back, is granted each request: late = 0 is two shares, late = 1 three
pub code-shares-of-cells : (late : ℕ) (bytes : List ℕ) (p : Plan) → ReadAs bytes (Ok p) → Valid p
    → {h : History} {l : Link} → Handed p h l → (i : ℕ) → i < model.flow_count (model.plan_of bytes)
    → KeepsShares late 0 (model.plan_of bytes) i h → EachGrantedNow (model.plan_of bytes) i h
code-shares-of-cells late =
    code-has (λ P h. (i : ℕ) → i < model.flow_count P → KeepsShares late 0 P i h → EachGrantedNow P i h) (shares-of-cells-accepted late)

-- and its slots come in the order in which it asked
pub code-shares-in-order : (late : ℕ) (bytes : List ℕ) (p : Plan) → ReadAs bytes (Ok p) → Valid p
    → {h : History} {l : Link} → Handed p h l → (i : ℕ) → i < model.flow_count (model.plan_of bytes)
    → KeepsShares late 0 (model.plan_of bytes) i h → Each (AfterThoseAt (model.plan_of bytes) i) h
code-shares-in-order late =
    code-has (λ P h. (i : ℕ) → i < model.flow_count P → KeepsShares late 0 P i h → Each (AfterThoseAt P i) h) (shares-in-order-accepted late)

-- so where its words run ahead of their tiles
pub code-shares-ahead : (ahead late : ℕ) (bytes : List ℕ) (p : Plan) → ReadAs bytes (Ok p) → Valid p
    → {h : History} {l : Link} → Handed p h l → (i : ℕ) → i < model.flow_count (model.plan_of bytes)
    → KeepsSharesAhead ahead late 0 (model.plan_of bytes) i h → EachGrantedInTime (model.plan_of bytes) i h
code-shares-ahead ahead late =
    code-has (λ P h. (i : ℕ) → i < model.flow_count P → KeepsSharesAhead ahead late 0 P i h → EachGrantedInTime P i h) (shares-ahead-accepted ahead late)

-- and over several links: the calls of the code on one board are such a board, so that `over-links` speaks of any way over boards of the code
pub code-board : (bytes : List ℕ) (p : Plan) → ReadAs bytes (Ok p) → Valid p
    → {h : History} {l : Link} → Handed p h l → tally is_granted_reset h ≡ 0 → (i : ℕ) → i < model.flow_count (model.plan_of bytes) → Board reference
code-board bytes p is valid {h} g unreset i known = record {
  bytes = bytes;
  passes = is.0;
  events = h;
  ran = code-has (Ran reference) (λ P ok calls. record { calls = calls; is = refl }) bytes p is valid g;
  no_reset = unreset;
  stream = i;
  known = known;
}
