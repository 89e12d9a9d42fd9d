-- Two lists of calls of the code from one plan, and sending ahead: what is proved of the reference scheduler holds of the code. Assumes nothing.
use Prim.Native.Nat.{ℕ, ◌<◌}
use mathlib.Core.Path.{◌≡◌, sym, ap, ◌∙◌, subst}
use mathlib.Core.List.{List}
use mathlib.Core.Bool.{false}
use Rattle.std.specs.Prelude.{Ok}
use Rattle.plan.specs.declared.Plan.{Plan}
use Rattle.plan.specs.Reading.{ReadAs, Valid}
use Rattle.plan.proofs.Laws.{is-plan}
use Rattle.calls.specs.Reading.{answer_to_credit, answer_to_lend}
use Rattle.model.specs.Plan as model
use Rattle.model.specs.Calls.{Call, History, accepted}
use Rattle.model.specs.Credit.{credit}
use Rattle.model.specs.Lend.{lend}
use Rattle.model.specs.History.{ticks, has_come}
use Rattle.model.specs.Claim.{EachSince, ReadyAt}
use Rattle.model.specs.Scheduler.{Played, reference, run}
use Rattle.arrival.specs.Delay.{AsksAt}
use Rattle.model.specs.TwoRuns.{Aligned, AsksUntil11, SameFrames}
use Rattle.arrival.specs.BooksInOrder.{InTurn, InOrder}
use Rattle.ahead.specs.AheadRuns.{WithAhead, GrantsAfter, ResetsAfter, NoneAcceptedAlone, OfBooked, SendersInTurn, SendersInOrder, BookedAlike}
use Rattle.ahead.specs.Sendings.{Sending, EachReady, EachCome, SentInTime, SentWell, sending_of, FirstFirst, LentOnlyAhead, LeaveInOrder, SendersHaveRoom}
use Rattle.ahead.specs.Sendings.{SendersHaveRoomThere, SendersInTurnThere, SendersHaveShares}
use Rattle.model.proofs.Demand3.{meets}
use Rattle.model.proofs.SameFrames.{same-frames}
use Rattle.ahead.proofs.Ahead.{ahead-accepted}
use Rattle.arrival.proofs.BooksInOrder.{books-in-order, ready-in-order}
use Rattle.ahead.proofs.AheadRuns.{nobody-moves}
use Rattle.ahead.proofs.AheadInTurn.{in-turn-nobody-moves, in-order-nobody-moves}
use Rattle.ahead.proofs.Sendings.{sends-in-time, sends-well}
use Rattle.ahead.proofs.SendsAhead.{sends-ahead}
use Rattle.ahead.proofs.AheadInOrder.{ahead-in-order}
use Rattle.ahead.proofs.AheadByOrder.{sends-by-order, leave-by-order, shares-order-senders}
use Rattle.ahead.proofs.InTurnWithout.{room-without, in-turn-without}
use Rattle.link.specs.declared.Link.{Link}
use Rattle.link.specs.declared.Step.{Step}
use Rattle.link.specs.Steps.{read_of as link_read, Stepped}
use Rattle.link.specs.Handed.{Handed}
use Rattle.link.proofs.Demand3.{one-lend-answer, RunOf, run_of}

-- bytes that `plan::read` accepts
module _ (bytes : List ℕ) (p : Plan) (is : ReadAs bytes (Ok p)) (valid : Valid p) where
  abbrev P : model.Plan
  P = model.plan_of bytes

  passes : model.refusal bytes ≡ 0
  passes = is.0

  run-made : {h : History} {l : Link} → Handed p h l → RunOf P h l
  run-made {h} {l} g = subst (λ R. RunOf R h l) (is-plan bytes p is) (run_of valid.accepted g)

  -- what holds of every run of the reference scheduler, and of any two
  has : (Q : History → Type 0) → ((calls : List Call) → Q (run reference P calls).history) → {h : History} {l : Link} → Handed p h l → Q h
  has Q runs g =
      let made = run-made g in
      subst (λ (r : Played reference). Q r.history) made.played (runs made.calls)

  both-have : (Q : History → History → Type 0) → ((calls₁ calls₂ : List Call) → Q (run reference P calls₁).history (run reference P calls₂).history)
      → {h₁ h₂ : History} {l₁ l₂ : Link} → Handed p h₁ l₁ → Handed p h₂ l₂ → Q h₁ h₂
  both-have Q runs {h₁} {h₂} g₁ g₂ = has (λ h. Q h h₂) (λ calls. has (Q (run reference P calls).history) (runs calls) g₂) g₁

  -- RULES 21.11: the neighbours can't move a flow's frames, bursts counted as their requests
  pub code-unmoved : {h₁ h₂ : History} {l₁ l₂ : Link} → Handed p h₁ l₁ → Handed p h₂ l₂ → (i : ℕ) → i < model.flow_count P
      → (aligned : Aligned i h₁ h₂) → AsksUntil11 P i h₁ → AsksUntil11 P i h₂ → SameFrames P 1 aligned
  code-unmoved =
      both-have
      (λ h₁ h₂. (i : ℕ) → i < model.flow_count P → (aligned : Aligned i h₁ h₂) → AsksUntil11 P i h₁ → AsksUntil11 P i h₂ → SameFrames P 1 aligned)
      (same-frames bytes passes)

  -- ---- sending ahead

  -- A lend of the code hands back r, answered with flow i, and a credit of i on its link hands back s: it is taken, if it is dated a position later than CP.
  pub code-ahead-accepted : {h : History} {l : Link} → Handed p h l → (mask i p : ℕ) (r s : Step) → Stepped answer_to_lend (lend (link_read l) mask) r
      → r.answer ≡ answer_to_lend (accepted i) → Stepped answer_to_credit (credit (link_read r.link) i p) s → p < model.positions P
      → has_come P (ticks h) p ≡ false → s.answer ≡ answer_to_credit (accepted tt)
  code-ahead-accepted g mask i p r s lends answer credits below yet =
      let made = run-made g in
      let takes = subst
      (λ (q : Played reference). (lend q.state mask).answer ≡ accepted i → p < model.positions P → has_come P (ticks q.history) p ≡ false
      → (credit (lend q.state mask).link i p).answer ≡ accepted tt)
      made.played (ahead-accepted bytes passes made.calls mask i p) in
      let loan = one-lend-answer _ (accepted i) (sym lends.answer_is ∙ answer) in
      credits.answer_is ∙ ap answer_to_credit (ap (λ k. (credit k i p).answer) lends.link_is ∙ takes loan below yet)

  -- A flow in turn books in order, and one that is ready at each request is in turn.
  pub code-books-in-order : {h : History} {l : Link} → Handed p h l → (i : ℕ) → i < model.flow_count P → EachSince (AsksAt InTurn P i) h → InOrder P i h
  code-books-in-order =
      has (λ h. (i : ℕ) → i < model.flow_count P → EachSince (AsksAt InTurn P i) h → InOrder P i h) (books-in-order bytes passes)

  pub code-ready-in-order : {h : History} {l : Link} → Handed p h l → (i : ℕ) → i < model.flow_count P → EachSince (ReadyAt P i) h
      → EachSince (AsksAt InTurn P i) h
  code-ready-in-order =
      has (λ h. (i : ℕ) → i < model.flow_count P → EachSince (ReadyAt P i) h → EachSince (AsksAt InTurn P i) h) (ready-in-order bytes passes)

  -- never late, never over, one to a slot; and never early
  pub code-sends-in-time : {h : History} {l : Link} → Handed p h l → (x : Sending h) → SentInTime P x
  code-sends-in-time = has (λ h. (x : Sending h) → SentInTime P x) (sends-in-time reference meets bytes passes)

  pub code-sends-well : {h : History} {l : Link} → Handed p h l → (x : Sending h) → EachReady P x → SentWell P x
  code-sends-well = has (λ h. (x : Sending h) → EachReady P x → SentWell P x) (sends-well reference meets bytes passes)

  -- ---- beside a run without any

  pub code-nobody-moves : {h₁ h₂ : History} {l₁ l₂ : Link} → Handed p h₁ l₁ → Handed p h₂ l₂ → (x : WithAhead h₁ h₂)
      → GrantsAfter P x → ResetsAfter P x → NoneAcceptedAlone x → BookedAlike P x
  code-nobody-moves =
      both-have (λ h₁ h₂. (x : WithAhead h₁ h₂) → GrantsAfter P x → ResetsAfter P x → NoneAcceptedAlone x → BookedAlike P x) (nobody-moves bytes passes)

  pub code-in-turn-nobody-moves : {h₁ h₂ : History} {l₁ l₂ : Link} → Handed p h₁ l₁ → Handed p h₂ l₂ → (x : WithAhead h₁ h₂)
      → OfBooked P x → SendersInTurn P x → NoneAcceptedAlone x → BookedAlike P x
  code-in-turn-nobody-moves =
      both-have (λ h₁ h₂. (x : WithAhead h₁ h₂) → OfBooked P x → SendersInTurn P x → NoneAcceptedAlone x → BookedAlike P x) (in-turn-nobody-moves bytes passes)

  -- it is enough that they have room, or are in turn, in the run with tiles sent ahead
  pub code-room-without : {h₁ h₂ : History} {l₁ l₂ : Link} → Handed p h₁ l₁ → Handed p h₂ l₂ → (x : WithAhead h₁ h₂)
      → EachCome P (sending_of x) → NoneAcceptedAlone x → SendersHaveRoomThere P x → SendersHaveRoom P x
  code-room-without =
      both-have (λ h₁ h₂. (x : WithAhead h₁ h₂) → EachCome P (sending_of x) → NoneAcceptedAlone x → SendersHaveRoomThere P x → SendersHaveRoom P x)
      (room-without bytes passes)

  pub code-in-turn-without : {h₁ h₂ : History} {l₁ l₂ : Link} → Handed p h₁ l₁ → Handed p h₂ l₂ → (x : WithAhead h₁ h₂)
      → EachCome P (sending_of x) → NoneAcceptedAlone x → SendersInTurnThere P x → SendersInTurn P x
  code-in-turn-without =
      both-have (λ h₁ h₂. (x : WithAhead h₁ h₂) → EachCome P (sending_of x) → NoneAcceptedAlone x → SendersInTurnThere P x → SendersInTurn P x)
      (in-turn-without bytes passes)

  -- bookings alike; and sent well, if each tile came before
  pub code-sends-ahead : {h₁ h₂ : History} {l₁ l₂ : Link} → Handed p h₁ l₁ → Handed p h₂ l₂ → (x : WithAhead h₁ h₂)
      → EachCome P (sending_of x) → SendersHaveRoom P x → NoneAcceptedAlone x → BookedAlike P x × (EachReady P (sending_of x) → SentWell P (sending_of x))
  code-sends-ahead =
      both-have
      (λ h₁ h₂. (x : WithAhead h₁ h₂) → EachCome P (sending_of x) → SendersHaveRoom P x → NoneAcceptedAlone x
      → BookedAlike P x × (EachReady P (sending_of x) → SentWell P (sending_of x)))
      (sends-ahead bytes passes)

  -- in order
  pub code-ahead-in-order : {h₁ h₂ : History} {l₁ l₂ : Link} → Handed p h₁ l₁ → Handed p h₂ l₂ → (x : WithAhead h₁ h₂)
      → EachCome P (sending_of x) → SendersHaveRoom P x → NoneAcceptedAlone x → (i : ℕ) → FirstFirst P (sending_of x) i
      → LentOnlyAhead (sending_of x) i → LeaveInOrder P (sending_of x) i
  code-ahead-in-order =
      both-have
      (λ h₁ h₂. (x : WithAhead h₁ h₂) → EachCome P (sending_of x) → SendersHaveRoom P x → NoneAcceptedAlone x → (i : ℕ) → FirstFirst P (sending_of x) i
      → LentOnlyAhead (sending_of x) i → LeaveInOrder P (sending_of x) i)
      (ahead-in-order bytes passes)

  -- ---- by slots that are granted in order, and by shares of cells, whether or not there is room

  pub code-in-order-nobody-moves : {h₁ h₂ : History} {l₁ l₂ : Link} → Handed p h₁ l₁ → Handed p h₂ l₂ → (x : WithAhead h₁ h₂)
      → OfBooked P x → SendersInOrder P x → NoneAcceptedAlone x → BookedAlike P x
  code-in-order-nobody-moves =
      both-have (λ h₁ h₂. (x : WithAhead h₁ h₂) → OfBooked P x → SendersInOrder P x → NoneAcceptedAlone x → BookedAlike P x) (in-order-nobody-moves bytes passes)

  pub code-sends-by-order : {h₁ h₂ : History} {l₁ l₂ : Link} → Handed p h₁ l₁ → Handed p h₂ l₂ → (x : WithAhead h₁ h₂)
      → EachCome P (sending_of x) → SendersInOrder P x → NoneAcceptedAlone x → BookedAlike P x × (EachReady P (sending_of x) → SentWell P (sending_of x))
  code-sends-by-order =
      both-have
      (λ h₁ h₂. (x : WithAhead h₁ h₂) → EachCome P (sending_of x) → SendersInOrder P x → NoneAcceptedAlone x
      → BookedAlike P x × (EachReady P (sending_of x) → SentWell P (sending_of x)))
      (sends-by-order bytes passes)

  pub code-leave-by-order : {h₁ h₂ : History} {l₁ l₂ : Link} → Handed p h₁ l₁ → Handed p h₂ l₂ → (x : WithAhead h₁ h₂)
      → EachCome P (sending_of x) → SendersInOrder P x → NoneAcceptedAlone x → (i : ℕ) → FirstFirst P (sending_of x) i
      → LentOnlyAhead (sending_of x) i → LeaveInOrder P (sending_of x) i
  code-leave-by-order =
      both-have
      (λ h₁ h₂. (x : WithAhead h₁ h₂) → EachCome P (sending_of x) → SendersInOrder P x → NoneAcceptedAlone x → (i : ℕ) → FirstFirst P (sending_of x) i
      → LentOnlyAhead (sending_of x) i → LeaveInOrder P (sending_of x) i)
      (leave-by-order bytes passes)

  pub code-shares-order-senders : {h₁ h₂ : History} {l₁ l₂ : Link} → Handed p h₁ l₁ → Handed p h₂ l₂ → (x : WithAhead h₁ h₂)
      → SendersHaveShares P x → SendersInOrder P x
  code-shares-order-senders =
      both-have (λ h₁ h₂. (x : WithAhead h₁ h₂) → SendersHaveShares P x → SendersInOrder P x) (shares-order-senders bytes passes)
