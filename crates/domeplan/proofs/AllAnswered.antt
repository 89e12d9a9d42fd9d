-- Whatever each read brings, what the rounds hand on to be written is the answers to the lines of all that was read. Assumes nothing.
use Prim.Native.Nat.{ℕ}
use mathlib.Core.Path.{◌≡◌, refl, sym, ap, ◌∙◌}
use mathlib.Core.List.{List, [], ◌++◌}
use lib.ListN.{take}
use lib.Seq.{take_all}
use native.Mathlib.Omega.{arith}
use Rattle.tokens.proofs.NumbersCounted.{kept-first}
use Rattle.questions.specs.declared.State.{State}
use Rattle.questions.specs.Input.{answers_to}
use Rattle.questions.specs.Feeding.{line_fed, said_fed, at_end}
use Rattle.questions.specs.Promises.{line_of, joined}
use Rattle.questions.proofs.FedBytes.{line-append, said-append}
use Rattle.questions.proofs.AnyPieces.{answers-are}
use Rattle.domeplan.specs.declared.Round.TheVariants.{More}
use Rattle.domeplan.specs.Rounds.{Takes, Rounds, none, round, WholeRun}
use Rattle.domeplan.proofs.Taking.{joined-append, one-text-more}

record After (line input : List ℕ) (handed : List (List ℕ)) (t : State) : Type 0 where
  pub line_is : line_of t ≡ line_fed line input
  pub said_is : joined handed ≡ said_fed line input

-- a piece after which more is to be read is fed whole
module _ {line piece out out' : List ℕ} {next : State} (takes : Takes line piece out (More next) out') where
  fed-whole : take takes.fed piece ≡ piece
  fed-whole = let all = takes.left.1 in take_all takes.fed piece (omega (arith, all))

  line-then : line_of next ≡ line_fed line piece
  line-then = takes.left.0.line_is ∙ ap (line_fed line) fed-whole

  said-then : joined takes.handed ≡ said_fed line piece
  said-then = takes.said ∙ ap (said_fed line) fed-whole

rounds-on : {s t : State} {pieces handed : List (List ℕ)} → Rounds s pieces handed t → After (line_of s) (joined pieces) handed t
unfolding line_fed said_fed
rounds-on none = record { line_is = refl; said_is = refl }
rounds-on {s} (round {pieces} {handed} piece out out' takes rest) =
    let on = rounds-on rest in
    let line = line-then takes in
    record {
      line_is = on.line_is ∙ ap (λ l. line_fed l (joined pieces)) line ∙ sym (line-append (line_of s) piece (joined pieces));
      said_is =
          joined-append takes.handed handed
          ∙ (λ k. said-then takes k ++ (on.said_is ∙ ap (λ l. said_fed l (joined pieces)) line) k)
          ∙ sym (said-append (line_of s) piece (joined pieces));
    }

-- Of the code it names the promises of `take` and of `start` and `finish` of `questions` alone.
pub all-answered : {pieces handed : List (List ℕ)} → WholeRun pieces handed → joined handed ≡ answers_to (joined pieces)
all-answered {pieces} run =
    let on = rounds-on run.rounds in
    let start = run.started.line_is in
    let before : joined run.handed_before ≡ said_fed [] (joined pieces) = on.said_is ∙ ap (λ l. said_fed l (joined pieces)) start in
    let line : line_of run.last ≡ line_fed [] (joined pieces) = on.line_is ∙ ap (λ l. line_fed l (joined pieces)) start in
    let f = run.finished in
    let then : take run.written run.out' ≡ at_end (line_fed [] (joined pieces)) =
    ap (take run.written) f.stored ∙ kept-first (at_end (line_of run.last)) run.out run.written f.many f.fits ∙ ap at_end line in
    ap joined run.handed_are ∙ one-text-more run.handed_before (take run.written run.out') ∙ (λ k. before k ++ then k)
    ∙ sym (answers-are (joined pieces))
