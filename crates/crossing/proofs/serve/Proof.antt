-- `crossing::serve` meets its contract. Assumes nothing.
use borrow.Author.Rules.{rules}
use native.Mathlib.Omega.{arith}
use Rattle.crossing.proofs.Tiles.{served-one, served-none}
use Rattle.crossing.proofs.serve.Statement.{statement}
use Rattle.crossing.proofs.serve.Tie as tie

pass-waiting-requires : tie.Need-pass_waiting-requires
pass-waiting-requires c κs = search rules

come-requires : tie.Need-come-requires
come-requires c κs = search rules

-- Where the owner is a flow, and where it is none: which of the two a return is in, `omega` reads off the test.
pub serve_spec : {M : Type 1} → statement M
serve_spec =
    tie.close
    (tie.spec
    pass-waiting-requires
    come-requires
    (λ c. (served-one c.pass_waiting.ensures.0 (omega arith) c.come.ensures.0, c.come.ensures.1))
    (λ c. (served-none c.pass_waiting.ensures.0 (omega arith), c.pass_waiting.ensures.1)))
