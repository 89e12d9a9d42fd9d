-- Two boards' calls, in the order in which they are made: whether a stream asks on the second as it should is decided by computation. Assumes nothing.
use Prim.Native.Nat.{ℕ}
use mathlib.Core.Logic.Dec
use mathlib.Core.List.{List, ◌∷◌, [], map, reverse}
use native.Mathlib.Decide.{dec_le, dec_lt, ℕ_discrete}
use Rattle.model.specs.Tables.{any}
use Rattle.model.specs.Word.{flow_of}
use Rattle.model.specs.Plan.{Plan}
use Rattle.model.specs.Calls.{Call, TickAnswer, Event, History, requested, credited, ticked, lent}
use Rattle.model.specs.History.{well_formed, marks_of}
use Rattle.arrival.specs.SeveralLinks.{slots_of, dues, tile, Alone, AskedAt, Together, start, both_tick, first_alone, second_alone}
use Rattle.arrival.specs.LessJoined.{Joining, And, Numbered, Leaving, NamesNext, NamesOne, NotLate, BeforeNewest, RoomAfter, AllAsked}
use Rattle.arrival.specs.LessJoined.{AllButOrder, AllButLate, AllButNewest, AllButRoom, AllButNumber}
use Rattle.model.proofs.Decidable.{IsYes, proved, implies, is_true}
use Rattle.arrival.proofs.DelayDecided.{room-from, delays-compute}

-- ---- the parts of what is asked

abbrev pub Decided : Joining → Type 0
Decided A = (P Q : Plan) (i j : ℕ) (h₁ : History) (w : ℕ) (h₂ : History) → Dec (A P Q i j h₁ w h₂)

unfoldable pub both-parts : {A B : Joining} → Decided A → Decided B → Decided (And A B)
both-parts a b P Q i j h₁ w h₂ = Dec.and (a P Q i j h₁ w h₂) (b P Q i j h₁ w h₂)

unfoldable pub numbered : Decided Numbered
numbered P Q i j h₁ w h₂ = ℕ_discrete _ _

module _ (left : Leaving) where
  unfoldable pub names-next : Decided (NamesNext left)
  names-next P Q i j h₁ w h₂ = Dec.and (dec_lt _ _) (ℕ_discrete _ _)

  unfoldable pub not_late : Decided (NotLate left)
  not_late P Q i j h₁ w h₂ = dec_le _ _

  unfoldable pub before-newest : Decided (BeforeNewest left)
  before-newest P Q i j h₁ w h₂ = dec_lt _ _

  unfoldable pub room_after : Decided (RoomAfter left)
  room_after P Q i j h₁ w h₂ = room-from Q j _ h₂

  unfoldable pub names-one : Decided (NamesOne left)
  names-one P Q i j h₁ w h₂ = is_true _

  unfoldable pub all_asked : Decided (AllAsked left)
  all_asked = both-parts names-next (both-parts not_late (both-parts before-newest (both-parts room_after numbered)))

  unfoldable pub all-but-order : Decided (AllButOrder left)
  all-but-order = both-parts names-one (both-parts not_late (both-parts before-newest (both-parts room_after numbered)))

  unfoldable pub all-but-late : Decided (AllButLate left)
  all-but-late = both-parts names-next (both-parts before-newest (both-parts room_after numbered))

  unfoldable pub all-but-newest : Decided (AllButNewest left)
  all-but-newest = both-parts names-next (both-parts not_late (both-parts room_after numbered))

  unfoldable pub all-but-room : Decided (AllButRoom left)
  all-but-room = both-parts names-next (both-parts not_late (both-parts before-newest numbered))

  unfoldable pub all-but-number : Decided (AllButNumber left)
  all-but-number = both-parts names-next (both-parts not_late (both-parts before-newest room_after))

-- ---- the order in which the events of two boards happen

-- both tick, or one board is called
pub data Move : Type 0 where
  both : (x₁ x₂ : TickAnswer) → Move
  first : Event → Move
  second : Event → Move

-- the events of each board, of moves with the newest first
unfoldable pub firsts : List Move → History
firsts [] = []
firsts (both x₁ x₂ ∷ ms) = ticked x₁ ∷ firsts ms
firsts (first e ∷ ms) = e ∷ firsts ms
firsts (second e ∷ ms) = firsts ms

unfoldable pub seconds : List Move → History
seconds [] = []
seconds (both x₁ x₂ ∷ ms) = ticked x₂ ∷ seconds ms
seconds (first e ∷ ms) = seconds ms
seconds (second e ∷ ms) = e ∷ seconds ms

call_of : Event → Call
call_of (requested w a) = Call.request w
call_of (credited k p a) = Call.credit k p
call_of (ticked x) = Call.tick
call_of (lent m a) = Call.lend m
call_of (Event.reset a) = Call.reset

-- the calls of a history, the oldest first
unfoldable pub calls_of : History → List Call
unfolding call_of
calls_of h = map call_of (reverse h)

unfoldable pub alone : (e : Event) → Dec (Alone e)
alone (requested w a) = yes tt
alone (credited k p a) = yes tt
alone (ticked x) = no (λ x. x)
alone (lent m a) = yes tt
alone (Event.reset a) = yes tt

module _ {A : Joining} (d : Decided A) (P Q : Plan) (i j : ℕ) where
  -- what is asked at each move
  abbrev pub Fits : List Move → Type 0
  Fits [] = Unit {0}
  Fits (both x₁ x₂ ∷ ms) = Fits ms
  Fits (first e ∷ ms) = Alone e × Fits ms
  Fits (second e ∷ ms) = Alone e × (AskedAt P Q i j (A P Q i j) (firsts ms) e (seconds ms) × Fits ms)

  moved : (ms : List Move) → Fits ms → Together P Q i j (A P Q i j) (firsts ms) (seconds ms)
  unfolding firsts seconds
  moved [] x = start
  moved (both x₁ x₂ ∷ ms) x = both_tick (moved ms x)
  moved (first e ∷ ms) x = first_alone e x.0 (moved ms x.1)
  moved (second e ∷ ms) x = second_alone e x.0 x.1.0 (moved ms x.1.1)

  unfoldable pub asked : (h₁ : History) (e : Event) (h₂ : History) → Dec (AskedAt P Q i j (A P Q i j) h₁ e h₂)
  asked h₁ (requested w a) h₂ = implies (is_true (well_formed Q w)) (implies (ℕ_discrete (flow_of w) j) (d P Q i j h₁ w h₂))
  asked h₁ (credited k p a) h₂ = yes tt
  asked h₁ (ticked x) h₂ = yes tt
  asked h₁ (lent m a) h₂ = yes tt
  asked h₁ (Event.reset a) h₂ = yes tt

  unfoldable pub fits : (ms : List Move) → Dec (Fits ms)
  fits [] = yes tt
  fits (both x₁ x₂ ∷ ms) = fits ms
  fits (first e ∷ ms) = Dec.and (alone e) (fits ms)
  fits (second e ∷ ms) = Dec.and (alone e) (Dec.and (asked (firsts ms) e (seconds ms)) (fits ms))

  -- so where the moves fit, by computation
  pub by-moves : (ms : List Move) → IsYes (fits ms) → Together P Q i j (A P Q i j) (firsts ms) (seconds ms)
  by-moves ms t = moved ms (proved (fits ms) t)

unfoldable pub joins-compute : Unit {0}
unfolding delays-compute slots_of dues tile marks_of any both-parts numbered names-next names-one not_late before-newest room_after
    all_asked all-but-order all-but-late all-but-newest all-but-room all-but-number firsts seconds calls_of alone asked fits
joins-compute = tt
