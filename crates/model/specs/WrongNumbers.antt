-- Schedulers that take the quantum number wrongly (RULES 5.2 and 5.3). Each is the reference scheduler but for one fault. Assumes nothing.
use Rattle.std.specs.Prelude.{ℕ, ◌+◌, ◌%◌, ◌∷◌, [], ◌++◌, true, cond, eqb}
use Rattle.model.specs.Refusals.{first_of, ◌when◌}
use Rattle.model.specs.Word.{flow_of, quantum_of}
use Rattle.model.specs.Calls.{Grant, ResetAnswer, accepted, refused}
use Rattle.model.specs.Link.{Link, flow, with_flow, with_flows, with_number}
use Rattle.model.specs.Request.{word_tests, number_tests, request_tests, next_number, request_after}
use Rattle.model.specs.Scheduler.{Scheduler, both, reference}
use Rattle.model.specs.WrongSchedulers.{with_request, with_reset}

-- the number that link l expects of the word's flow
abbrev expected : Link → ℕ → ℕ
expected l w = (flow l (flow_of w)).number

-- flow i's number is k
abbrev expecting : Link → (i k : ℕ) → Link
expecting l i k = with_flow l i (with_number (flow l i) k)

-- the model's request, where what it hands back is changed after a grant, or after a refusal
module _ (on_grant on_refusal : Link → Link) where
  abbrev changed_after : Link × Grant → Link × Grant
  changed_after (l, accepted v) = (on_grant l, accepted v)
  changed_after (l, refused r) = (on_refusal l, refused r)

-- doesn't look at the number
abbrev pub ignores_number : Scheduler
ignores_number = with_request (λ l w. both (request_after (first_of (word_tests l.plan w)) l w))

-- goes on by one after a refusal too
abbrev pub counts_refusals : Scheduler
counts_refusals = with_request (λ l w. changed_after (λ k. k) (λ k. expecting k (flow_of w) (next_number (expected k w))) (reference.request l w))

-- has one number for all flows: a grant to one of them moves every flow's on
abbrev pub one_for_all : Scheduler
one_for_all = with_request (λ l w. changed_after (λ k. with_flows k (λ i. with_number (flow k i) (expected k w))) (λ k. k) (reference.request l w))

-- counts modulo another number
abbrev pub counts_modulo : ℕ → Scheduler
counts_modulo m = with_request (λ l w. changed_after (λ k. expecting k (flow_of w) ((expected l w + 1) % m)) (λ k. k) (reference.request l w))

-- starts the numbers afresh with a reset
abbrev restarted : Link × ResetAnswer → Link × ResetAnswer
restarted (l, accepted u) = (with_flows l (λ i. with_number (flow l i) 0), accepted u)
restarted (l, refused r) = (l, refused r)

abbrev pub restarts_numbers : Scheduler
restarts_numbers = with_reset (λ l. restarted (reference.reset l))

-- tests the number before the departure
abbrev pub tests_number_early : Scheduler
tests_number_early = with_request (λ l w.
    let r = first_of (word_tests l.plan w) in
    both (request_after (cond (eqb r 10) (first_of (number_tests (expected l w) w ++ 10 when true ∷ [])) (first_of (request_tests l.plan (expected l w) w))) l w))

-- tests the number after the search: a request that is refused by 11, 20 or 12 leaves what these leave
abbrev tested_late : Link → ℕ → Link × Grant → Link × Grant
tested_late l w (k, accepted v) = cond (eqb (quantum_of w) (expected l w)) (k, accepted v) (l, refused 24)
tested_late l w (k, refused r) = (k, refused r)

abbrev pub tests_number_late : Scheduler
tests_number_late = with_request (λ l w. tested_late l w (ignores_number.request l w))
