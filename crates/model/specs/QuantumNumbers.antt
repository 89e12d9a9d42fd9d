-- The quantum numbers of a link and of the words that it grants. RULES 5.3. Assumes nothing.
use Rattle.std.specs.Prelude.{ℕ, ◌%◌, ◌<◌, ◌≡◌, List, ◌∷◌, [], ◌++◌, map, cond, eqb}
use Rattle.model.specs.Tables.{table}
use Rattle.model.specs.Word.{flow_of, quantum_of, quantum_numbers}
use Rattle.model.specs.Plan.{Plan, flow_count, plan_of, refusal}
use Rattle.model.specs.Calls.{Call, Event, History, requested, credited, ticked, lent, accepted, refused}
use Rattle.model.specs.History.{granted_in_all, expected_number}
use Rattle.model.specs.Link.{Link, flow}
use Rattle.model.specs.Scheduler.{Scheduler, run}

-- RULES 5.3: after every list of calls the number that a scheduler's state expects of a flow is how many grants the flow has had, modulo 1,024.
abbrev pub NumberIsCount : (c : Scheduler) → (number : c.State → (i : ℕ) → ℕ) → Type 0
NumberIsCount c number =
    (bytes : List ℕ) → refusal bytes ≡ 0 → (calls : List Call) (i : ℕ) → i < flow_count (plan_of bytes)
    → number (run c (plan_of bytes) calls).state i ≡ expected_number (plan_of bytes) (run c (plan_of bytes) calls).history i

-- the number that a link of the model expects
abbrev pub expected_on : Link → (i : ℕ) → ℕ
expected_on l i = (flow l i).number

-- the word that an event grants to flow i
abbrev pub word_granted : ℕ → Event → List ℕ
word_granted i (requested w (accepted v)) = cond (eqb (flow_of w) i) (v ∷ []) []
word_granted i (requested w (refused r)) = []
word_granted i (credited j p a) = []
word_granted i (ticked x) = []
word_granted i (lent m a) = []
word_granted i (Event.reset a) = []

-- the words that are granted to flow i, in the order of their grants
unfoldable pub words_granted : ℕ → History → List ℕ
words_granted i [] = []
words_granted i (e ∷ h) = words_granted i h ++ word_granted i e

-- RULES 5.3: the words that a flow is granted carry 0, 1, 2 and so on modulo 1,024.
abbrev pub InOrder : Plan → ℕ → History → Type 0
InOrder P i h = map quantum_of (words_granted i h) ≡ table (granted_in_all P h i) (λ k. k % quantum_numbers)

abbrev pub NumbersInOrder : Scheduler → Type 0
NumbersInOrder c =
    (bytes : List ℕ) → refusal bytes ≡ 0 → (calls : List Call) (i : ℕ) → i < flow_count (plan_of bytes)
    → InOrder (plan_of bytes) i (run c (plan_of bytes) calls).history
