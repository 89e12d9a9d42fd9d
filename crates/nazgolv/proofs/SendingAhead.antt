-- Two lists of a host's calls from one plan, and sending ahead: what is proved of the reference scheduler holds of their answers. Assumes nothing.
use Prim.Native.Nat.{ℕ, ◌<◌}
use mathlib.Core.Path.{◌≡◌, sym, ap, ◌∙◌, subst}
use mathlib.Core.List.{List, ◌∷◌, [], ◌++◌}
use mathlib.Core.Bool.{false}
use Rattle.model.specs.Plan.{Plan, positions, flow_count, plan_of, refusal}
use Rattle.model.specs.Calls.{Call, CreditAnswer, LendAnswer, History, credited, lent, accepted}
use Rattle.model.specs.Credit.{credit}
use Rattle.model.specs.Lend.{lend}
use Rattle.model.specs.History.{ticks, has_come}
use Rattle.model.specs.Claim.{EachSince, ReadyAt}
use Rattle.model.specs.Scheduler.{Played, reference, step, play, started, run}
use Rattle.arrival.specs.Delay.{AsksAt}
use Rattle.model.specs.TwoRuns.{Aligned, AsksUntil11, SameFrames}
use Rattle.arrival.specs.BooksInOrder.{InTurn, InOrder}
use Rattle.ahead.specs.AheadRuns.{WithAhead, GrantsAfter, ResetsAfter, NoneAcceptedAlone, OfBooked, SendersInTurn, SendersInOrder, BookedAlike}
use Rattle.ahead.specs.Sendings.{Sending, EachReady, EachCome, SentInTime, SentWell, sending_of, FirstFirst, LentOnlyAhead, LeaveInOrder, SendersHaveRoom}
use Rattle.ahead.specs.Sendings.{SendersHaveRoomThere, SendersInTurnThere, SendersHaveShares}
use Rattle.model.proofs.CountedBursts.{play-both}
use Rattle.model.proofs.Demand3.{meets}
use Rattle.model.proofs.SameFrames.{same-frames}
use Rattle.ahead.proofs.Ahead.{ahead-accepted}
use Rattle.arrival.proofs.BooksInOrder.{books-in-order, ready-in-order}
use Rattle.ahead.proofs.AheadRuns.{nobody-moves}
use Rattle.ahead.proofs.AheadInTurn.{in-turn-nobody-moves, in-order-nobody-moves}
use Rattle.ahead.proofs.Sendings.{sends-in-time, sends-well}
use Rattle.ahead.proofs.SendsAhead.{sends-ahead}
use Rattle.ahead.proofs.AheadInOrder.{ahead-in-order}
use Rattle.ahead.proofs.AheadByOrder.{sends-by-order, leave-by-order, shares-order-senders}
use Rattle.ahead.proofs.InTurnWithout.{room-without, in-turn-without}
use Rattle.imagemodel.specs.Exports.{HandsBack, called_on, credit_on, lend_on}
use Rattle.imagemodel.specs.Chain.{answer_of, image_in, goes_on}
use Rattle.imagemodel.proofs.Chain.{chain-follows}
use Rattle.nazgolv.specs.Hosted.{Hosted}
use Rattle.nazgolv.proofs.Demand3.{chained, host-has}

-- a credit after a lend: their answers, and the events before them
record Told (a a' : CreditAnswer) (b b' : LendAnswer) (h h' : History) : Type 0 where
  receipt : a ≡ a'
  loan : b ≡ b'
  before : h ≡ h'

told : (i p mask : ℕ) (a a' : CreditAnswer) (b b' : LendAnswer) (h h' : History)
    → ◌≡◌ {A = History} (credited i p a ∷ lent mask b ∷ h) (credited i p a' ∷ lent mask b' ∷ h') → Told a a' b b' h h'
told i p mask a a' b b' h h' e = record { receipt = cc; loan = cc; before = cc }

-- two calls more
two-more : (P : Plan) (calls : List Call) (x y : Call)
    → run reference P ((calls ++ (x ∷ [])) ++ (y ∷ [])) ≡ step reference (step reference (run reference P calls) x) y
unfolding play
two-more P calls x y =
    play-both (started reference P) (calls ++ (x ∷ [])) (y ∷ []) ∙ ap (λ r. step reference r y) (play-both (started reference P) calls (x ∷ []))

module _ (plan : List ℕ) where
  abbrev P : Plan
  P = plan_of plan

  -- what holds of every run of the reference scheduler, and of any two
  has : (Q : History → Type 0) → (refusal plan ≡ 0 → (calls : List Call) → Q (run reference P calls).history) → {h : History} {b : List ℕ}
      → Hosted plan h b → Q h
  has = host-has plan

  both-have : (Q : History → History → Type 0)
      → (refusal plan ≡ 0 → (calls₁ calls₂ : List Call) → Q (run reference P calls₁).history (run reference P calls₂).history)
      → {h₁ h₂ : History} {b₁ b₂ : List ℕ} → Hosted plan h₁ b₁ → Hosted plan h₂ b₂ → Q h₁ h₂
  both-have Q runs {h₁} {h₂} x₁ x₂ = has (λ h. Q h h₂) (λ passes calls. has (Q (run reference P calls).history) (λ again. runs passes calls) x₂) x₁

  -- RULES 21.11: the neighbours can't move a flow's frames
  pub host-unmoved : {h₁ h₂ : History} {b₁ b₂ : List ℕ} → Hosted plan h₁ b₁ → Hosted plan h₂ b₂ → (i : ℕ) → i < flow_count P
      → (aligned : Aligned i h₁ h₂) → AsksUntil11 P i h₁ → AsksUntil11 P i h₂ → SameFrames P 1 aligned
  host-unmoved =
      both-have (λ h₁ h₂. (i : ℕ) → i < flow_count P → (aligned : Aligned i h₁ h₂) → AsksUntil11 P i h₁ → AsksUntil11 P i h₂ → SameFrames P 1 aligned)
      (same-frames plan)

  -- ---- sending ahead

  -- A lend that is answered with flow i, and then a credit of i: it is taken, if it is dated a position later than CP.
  pub host-ahead-accepted : {h : History} {b : List ℕ} → Hosted plan h b → (c : List ℕ) → image_in c ≡ image_in b → (mask i p r s : ℕ) {after last : List ℕ}
      → HandsBack (lend_on c mask) r after → answer_of r r ≡ accepted i → (d : List ℕ) → image_in d ≡ image_in after → HandsBack (credit_on d i p) s last
      → p < positions P → has_come P (ticks h) p ≡ false → ◌≡◌ {A = CreditAnswer} (answer_of tt s) (accepted tt)
  host-ahead-accepted {h} x c same mask i p r s lends answer d again credits below yet =
      let calls = (chained plan x).calls in
      let l = (run reference P calls).state in
      let one = (called_on c (Call.lend mask)).result in
      let two = (called_on d (Call.credit i p)).result in
      let f = chain-follows plan (goes_on (goes_on (chained plan x).chain c (same ∙ (chained plan x).same) (Call.lend mask)) d (again ∙ ap image_in lends.1) (Call.credit i p)) in
      let are = told i p mask (answer_of tt two) (credit (lend l mask).link i p).answer (answer_of one one) (lend l mask).answer h (run reference P calls).history
      (f.history_is ∙ ap (λ (q : Played reference). q.history) (two-more P calls (Call.lend mask) (Call.credit i p))) in
      let loan : (lend l mask).answer ≡ accepted i = sym are.loan ∙ ap (λ n. answer_of n n) (sym lends.0) ∙ answer in
      let receipt : ◌≡◌ {A = CreditAnswer} (answer_of tt s) (answer_of tt two) = ap (λ n. answer_of tt n) credits.0 in
      receipt ∙ are.receipt ∙ ahead-accepted plan f.plan_passes calls mask i p loan below (subst (λ k. has_come P (ticks k) p ≡ false) are.before yet)

  -- A flow in turn books in order, and one that is ready at each request is in turn.
  pub host-books-in-order : {h : History} {b : List ℕ} → Hosted plan h b → (i : ℕ) → i < flow_count P → EachSince (AsksAt InTurn P i) h → InOrder P i h
  host-books-in-order = has (λ h. (i : ℕ) → i < flow_count P → EachSince (AsksAt InTurn P i) h → InOrder P i h) (books-in-order plan)

  pub host-ready-in-order : {h : History} {b : List ℕ} → Hosted plan h b → (i : ℕ) → i < flow_count P → EachSince (ReadyAt P i) h
      → EachSince (AsksAt InTurn P i) h
  host-ready-in-order = has (λ h. (i : ℕ) → i < flow_count P → EachSince (ReadyAt P i) h → EachSince (AsksAt InTurn P i) h) (ready-in-order plan)

  -- never late, never over, one to a slot; and never early
  pub host-sends-in-time : {h : History} {b : List ℕ} → Hosted plan h b → (x : Sending h) → SentInTime P x
  host-sends-in-time = has (λ h. (x : Sending h) → SentInTime P x) (sends-in-time reference meets plan)

  pub host-sends-well : {h : History} {b : List ℕ} → Hosted plan h b → (x : Sending h) → EachReady P x → SentWell P x
  host-sends-well = has (λ h. (x : Sending h) → EachReady P x → SentWell P x) (sends-well reference meets plan)

  -- ---- beside a run without any

  pub host-nobody-moves : {h₁ h₂ : History} {b₁ b₂ : List ℕ} → Hosted plan h₁ b₁ → Hosted plan h₂ b₂ → (x : WithAhead h₁ h₂)
      → GrantsAfter P x → ResetsAfter P x → NoneAcceptedAlone x → BookedAlike P x
  host-nobody-moves = both-have (λ h₁ h₂. (x : WithAhead h₁ h₂) → GrantsAfter P x → ResetsAfter P x → NoneAcceptedAlone x → BookedAlike P x) (nobody-moves plan)

  pub host-in-turn-nobody-moves : {h₁ h₂ : History} {b₁ b₂ : List ℕ} → Hosted plan h₁ b₁ → Hosted plan h₂ b₂ → (x : WithAhead h₁ h₂)
      → OfBooked P x → SendersInTurn P x → NoneAcceptedAlone x → BookedAlike P x
  host-in-turn-nobody-moves =
      both-have (λ h₁ h₂. (x : WithAhead h₁ h₂) → OfBooked P x → SendersInTurn P x → NoneAcceptedAlone x → BookedAlike P x) (in-turn-nobody-moves plan)

  -- it is enough that they have room, or are in turn, in the run with tiles sent ahead
  pub host-room-without : {h₁ h₂ : History} {b₁ b₂ : List ℕ} → Hosted plan h₁ b₁ → Hosted plan h₂ b₂ → (x : WithAhead h₁ h₂)
      → EachCome P (sending_of x) → NoneAcceptedAlone x → SendersHaveRoomThere P x → SendersHaveRoom P x
  host-room-without =
      both-have (λ h₁ h₂. (x : WithAhead h₁ h₂) → EachCome P (sending_of x) → NoneAcceptedAlone x → SendersHaveRoomThere P x → SendersHaveRoom P x)
      (room-without plan)

  pub host-in-turn-without : {h₁ h₂ : History} {b₁ b₂ : List ℕ} → Hosted plan h₁ b₁ → Hosted plan h₂ b₂ → (x : WithAhead h₁ h₂)
      → EachCome P (sending_of x) → NoneAcceptedAlone x → SendersInTurnThere P x → SendersInTurn P x
  host-in-turn-without =
      both-have (λ h₁ h₂. (x : WithAhead h₁ h₂) → EachCome P (sending_of x) → NoneAcceptedAlone x → SendersInTurnThere P x → SendersInTurn P x)
      (in-turn-without plan)

  -- bookings alike; and sent well, if each tile came before
  pub host-sends-ahead : {h₁ h₂ : History} {b₁ b₂ : List ℕ} → Hosted plan h₁ b₁ → Hosted plan h₂ b₂ → (x : WithAhead h₁ h₂)
      → EachCome P (sending_of x) → SendersHaveRoom P x → NoneAcceptedAlone x → BookedAlike P x × (EachReady P (sending_of x) → SentWell P (sending_of x))
  host-sends-ahead =
      both-have
      (λ h₁ h₂. (x : WithAhead h₁ h₂) → EachCome P (sending_of x) → SendersHaveRoom P x → NoneAcceptedAlone x
      → BookedAlike P x × (EachReady P (sending_of x) → SentWell P (sending_of x)))
      (sends-ahead plan)

  -- in order
  pub host-ahead-in-order : {h₁ h₂ : History} {b₁ b₂ : List ℕ} → Hosted plan h₁ b₁ → Hosted plan h₂ b₂ → (x : WithAhead h₁ h₂)
      → EachCome P (sending_of x) → SendersHaveRoom P x → NoneAcceptedAlone x → (i : ℕ) → FirstFirst P (sending_of x) i
      → LentOnlyAhead (sending_of x) i → LeaveInOrder P (sending_of x) i
  host-ahead-in-order =
      both-have
      (λ h₁ h₂. (x : WithAhead h₁ h₂) → EachCome P (sending_of x) → SendersHaveRoom P x → NoneAcceptedAlone x → (i : ℕ) → FirstFirst P (sending_of x) i
      → LentOnlyAhead (sending_of x) i → LeaveInOrder P (sending_of x) i)
      (ahead-in-order plan)

  -- ---- by slots that are granted in order, and by shares of cells, whether or not there is room

  pub host-in-order-nobody-moves : {h₁ h₂ : History} {b₁ b₂ : List ℕ} → Hosted plan h₁ b₁ → Hosted plan h₂ b₂ → (x : WithAhead h₁ h₂)
      → OfBooked P x → SendersInOrder P x → NoneAcceptedAlone x → BookedAlike P x
  host-in-order-nobody-moves =
      both-have (λ h₁ h₂. (x : WithAhead h₁ h₂) → OfBooked P x → SendersInOrder P x → NoneAcceptedAlone x → BookedAlike P x) (in-order-nobody-moves plan)

  pub host-sends-by-order : {h₁ h₂ : History} {b₁ b₂ : List ℕ} → Hosted plan h₁ b₁ → Hosted plan h₂ b₂ → (x : WithAhead h₁ h₂)
      → EachCome P (sending_of x) → SendersInOrder P x → NoneAcceptedAlone x → BookedAlike P x × (EachReady P (sending_of x) → SentWell P (sending_of x))
  host-sends-by-order =
      both-have
      (λ h₁ h₂. (x : WithAhead h₁ h₂) → EachCome P (sending_of x) → SendersInOrder P x → NoneAcceptedAlone x
      → BookedAlike P x × (EachReady P (sending_of x) → SentWell P (sending_of x)))
      (sends-by-order plan)

  pub host-leave-by-order : {h₁ h₂ : History} {b₁ b₂ : List ℕ} → Hosted plan h₁ b₁ → Hosted plan h₂ b₂ → (x : WithAhead h₁ h₂)
      → EachCome P (sending_of x) → SendersInOrder P x → NoneAcceptedAlone x → (i : ℕ) → FirstFirst P (sending_of x) i
      → LentOnlyAhead (sending_of x) i → LeaveInOrder P (sending_of x) i
  host-leave-by-order =
      both-have
      (λ h₁ h₂. (x : WithAhead h₁ h₂) → EachCome P (sending_of x) → SendersInOrder P x → NoneAcceptedAlone x → (i : ℕ) → FirstFirst P (sending_of x) i
      → LentOnlyAhead (sending_of x) i → LeaveInOrder P (sending_of x) i)
      (leave-by-order plan)

  pub host-shares-order-senders : {h₁ h₂ : History} {b₁ b₂ : List ℕ} → Hosted plan h₁ b₁ → Hosted plan h₂ b₂ → (x : WithAhead h₁ h₂)
      → SendersHaveShares P x → SendersInOrder P x
  host-shares-order-senders =
      both-have (λ h₁ h₂. (x : WithAhead h₁ h₂) → SendersHaveShares P x → SendersInOrder P x) (shares-order-senders plan)
