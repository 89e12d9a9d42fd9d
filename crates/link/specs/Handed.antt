-- What the contracts of the code say of a list of calls, each on the link that the call before handed back. RULES 21.2. Assumes nothing.
use Rattle.std.specs.Prelude.{ℕ, ◌≡◌, List, ◌∷◌, [], ◌++◌}
use Rattle.plan.specs.declared.Plan.{Plan}
use Rattle.plan.specs.Reading.{plan_for}
use Rattle.calls.specs.Reading.{answer_to_request, answer_to_credit, answer_to_tick, answer_to_lend, answer_to_reset}
use Rattle.model.specs.Calls.{Grant, CreditAnswer, TickAnswer, LendAnswer, ResetAnswer, Event, History, requested, credited, ticked, lent}
use Rattle.model.specs.Fresh as fresh
use Rattle.model.specs.Request as request
use Rattle.model.specs.Credit as credit
use Rattle.model.specs.Tick as tick
use Rattle.model.specs.Lend as lend
use Rattle.model.specs.Reset as reset
use Rattle.model.specs.Burst as burst
use Rattle.model.specs.CountedBursts.{events_in}
use Rattle.link.specs.declared.Link.{Link}
use Rattle.link.specs.declared.Step.{Step}
use Rattle.link.specs.Steps.{read_of}
use Rattle.link.specs.Links.{SoundLink}
use Rattle.link.specs.Steps.{Stepped}
use Rattle.link.specs.Bursts.{Bursted}

-- l is a link that `Link::fresh` may hand back, by its contract
abbrev pub Freshly : Plan → Link → Type 0
Freshly p l = (read_of l ≡ fresh.fresh (plan_for p)) × SoundLink l

-- Link l is in hand after calls of the code with the events h, of which the newest is first: it was made fresh of the plan, and each call was made
-- on the link of the call before, which nobody else changed. Each case has what the contract of that call ensures of what it hands back, r; the
-- event has the answer a that r's is made from.
pub data Handed (p : Plan) : History → Link → Type 0 where
  by_fresh : {l : Link} → Freshly p l → Handed p [] l
  by_request : {h : History} {l : Link} → Handed p h l → (w : ℕ) (r : Step) (a : Grant)
      → Stepped answer_to_request (request.request (read_of l) w) r → r.answer ≡ answer_to_request a → Handed p (requested w a ∷ h) r.link
  by_credit : {h : History} {l : Link} → Handed p h l → (i q : ℕ) (r : Step) (a : CreditAnswer)
      → Stepped answer_to_credit (credit.credit (read_of l) i q) r → r.answer ≡ answer_to_credit a → Handed p (credited i q a ∷ h) r.link
  by_tick : {h : History} {l : Link} → Handed p h l → (r : Step) (a : TickAnswer)
      → Stepped answer_to_tick (tick.tick (read_of l)) r → r.answer ≡ answer_to_tick a → Handed p (ticked a ∷ h) r.link
  by_lend : {h : History} {l : Link} → Handed p h l → (mask : ℕ) (r : Step) (a : LendAnswer)
      → Stepped answer_to_lend (lend.lend (read_of l) mask) r → r.answer ≡ answer_to_lend a → Handed p (lent mask a ∷ h) r.link
  by_reset : {h : History} {l : Link} → Handed p h l → (r : Step) (a : ResetAnswer)
      → Stepped answer_to_reset (reset.reset (read_of l)) r → r.answer ≡ answer_to_reset a → Handed p (Event.reset a ∷ h) r.link
  -- RULES 21.2: a burst of the records xs, which are ys after it, counts as the requests that stand in ys
  by_burst : {h : History} {l : Link} → Handed p h l → (xs ys : List burst.BurstRecord) (r : Link)
      → Bursted (burst.burst (read_of l) xs) r ys → Handed p (events_in ys ++ h) r
