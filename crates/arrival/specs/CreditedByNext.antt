-- Several links on which a board credits the one before it at its own grant, dated the slot that it was granted. Then cells are given back in time on each
-- board but the last by themselves, and what is asked is that the stream is modest on the first board, has its cells, and gives them back on the last. It
-- names no link's state, only calls and answers. Assumes nothing.
use Rattle.std.specs.Prelude.{ℕ, ◌+◌, ◌*◌, ◌≤◌, ◌<◌, ◌≡◌, List, ◌∷◌, [], ◌++◌, Bool, true, ◌&&◌, ltb, eqb}
use Rattle.model.specs.Tables.{tally}
use Rattle.model.specs.Word.{flow_of, quantum_of, departure_of}
use Rattle.model.specs.Plan.{Plan, entry}
use Rattle.model.specs.Calls.{Event, History, requested, credited, ticked, lent, accepted, refused}
use Rattle.model.specs.History.{ticks, slot_after, well_formed, has_come, grants, lends, of_flow, at_slot, expected_number}
use Rattle.model.specs.Claim.{Each, AtRequest}
use Rattle.model.specs.Scheduler.{Scheduler}
use Rattle.model.specs.TwoHops.{InStep}
use Rattle.arrival.specs.Delay.{current_frame, made_in}
use Rattle.arrival.specs.SeveralLinks.{Together, Board, plan_on, OnTime}
use Rattle.arrival.specs.EnoughCells.{returns}
use Rattle.arrival.specs.SharesOfCells.{GivenBack, EachGrantedNow}
use Rattle.arrival.specs.LinksOnArrival.{AsksOnArrival}
use Rattle.arrival.specs.Source.{InTimeFromSource}

-- ---- credits and the next board's grants

-- a grant: its flow, the slot in which it is made and the one that is granted
pub record Pass : Type 0 where
  pub flow : ℕ
  pub made : ℕ
  pub slot : ℕ

abbrev pub pass_at : Plan → Event → History → List Pass
pass_at P (requested w (accepted v)) h = record { flow = flow_of w; made = ticks h; slot = slot_after P (ticks h) (departure_of v) } ∷ []
pass_at P (requested w (refused r)) h = []
pass_at P (credited i p a) h = []
pass_at P (ticked x) h = []
pass_at P (lent m a) h = []
pass_at P (Event.reset a) h = []

unfoldable pub passes : Plan → History → List Pass
passes P [] = []
passes P (e ∷ h) = pass_at P e h ++ passes P h

-- Flow j was granted slot s by a request that it made in slot t.
abbrev pub granted_then : Plan → (j t s : ℕ) → History → Bool
granted_then Q j t s h = ltb 0 (tally (λ g. eqb g.flow j && eqb g.made t && eqb g.slot s) (passes Q h))

-- RULES 22.8: in each slot that is gone flow i made as many credits, each dated a slot that flow j was granted in that slot on the next board, as
-- tiles of it came up: one, or none.
abbrev pub CreditedByNext : (P Q : Plan) (i j : ℕ) (h₁ h₂ : History) → Type 0
CreditedByNext P Q i j h₁ h₂ =
    (t : ℕ) → t < ticks h₁ → tally (λ m. of_flow i m && at_slot t m) (grants P h₁)
    ≤ tally (λ r. eqb r.flow i && eqb r.made t && granted_then Q j t r.dated h₂) (returns P h₁)

-- ---- the way

-- b is the next board after a, which has two shares of cells
pub record JoinedByCredits {c : Scheduler} (a b : Board c) : Type 0 where
  pub in_step : InStep (plan_on a) (plan_on b)
  pub share_kept : (entry (plan_on a) a.stream).share ≤ (entry (plan_on b) b.stream).share
  pub together :
      Together (plan_on a) (plan_on b) a.stream b.stream (AsksOnArrival (λ P i h. Unit {0}) (plan_on a) (plan_on b) a.stream b.stream)
      a.events b.events
  pub credits : CreditedByNext (plan_on a) (plan_on b) a.stream b.stream a.events b.events
  pub two_shares : 2 * (entry (plan_on a) a.stream).share ≤ (entry (plan_on a) a.stream).cells
  pub not_lent : tally (of_flow b.stream) (lends b.events) ≡ 0

-- the last board gives its cells back `late` frames late
pub record Last {c : Scheduler} (late : ℕ) (a : Board c) : Type 0 where
  pub given_back : Each (AtRequest (λ w h. well_formed (plan_on a) w ≡ true → flow_of w ≡ a.stream → GivenBack late (plan_on a) a.stream h)) a.events
  pub enough_cells : (late + 2) * (entry (plan_on a) a.stream).share ≤ (entry (plan_on a) a.stream).cells

abbrev pub WayByCredits : {c : Scheduler} → (late : ℕ) → Board c → List (Board c) → Type 0
WayByCredits late a [] = Last late a
WayByCredits late a (b ∷ rest) = JoinedByCredits a b × WayByCredits late b rest

-- ---- the first board

-- what is asked of flow i's well-formed request with word w, after h
pub record AsksModestly (P : Plan) (i w : ℕ) (h : History) : Type 0 where
  pub come : has_come P (ticks h) (departure_of w) ≡ true
  pub number : quantum_of w ≡ expected_number P h i
  pub few : made_in P h i (current_frame P h) < (entry P i).share

pub record ModestFirst (P : Plan) (i : ℕ) (h : History) : Type 0 where
  pub asks : Each (AtRequest (λ w h. well_formed P w ≡ true → flow_of w ≡ i → AsksModestly P i w h)) h
  pub not_lent : tally (of_flow i) (lends h) ≡ 0

-- RULES 22.8: that the reference scheduler keeps both is `over-links-by-credits` and `from-source-by-credits`, in proofs/CreditedByNext.antt.
abbrev pub OverLinksByCredits : Scheduler → Type 0
OverLinksByCredits c =
    (late : ℕ) (a : Board c) (rest : List (Board c)) → WayByCredits late a rest
    → OnTime (ModestFirst (plan_on a) a.stream a.events) (EachGrantedNow (plan_on a) a.stream a.events) a rest

abbrev pub FromSourceByCredits : Scheduler → Type 0
FromSourceByCredits c =
    (late : ℕ) (a : Board c) (rest : List (Board c)) → WayByCredits late a rest → ModestFirst (plan_on a) a.stream a.events → InTimeFromSource a rest

-- On the first board too each request is granted, in its frame or the next: `granted-by-credits`, there.
abbrev pub GrantedByCredits : Scheduler → Type 0
GrantedByCredits c =
    (late : ℕ) (a : Board c) (rest : List (Board c)) → WayByCredits late a rest → ModestFirst (plan_on a) a.stream a.events
    → EachGrantedNow (plan_on a) a.stream a.events
