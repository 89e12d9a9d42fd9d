-- `link::request::told` meets its contract. Assumes nothing.
use borrow.Author.Rules.{rules}
use borrow.Author.Tests.{eq-eqb, ne_eqb}
use Rattle.link.proofs.request.told.Statement.{statement}
use Rattle.link.proofs.request.told.Tie as tie

returns : tie.Need-returns-then-number-ne0
returns c = rw (ne_eqb _ _ c.if-number-ne0.true)

depart-requires : tie.Need-depart-requires
depart-requires c κs = search rules

returns-2 : tie.Need-returns
returns-2 c = rw (c.depart.ensures, eq-eqb _ _ c.before.if-number-ne0.false)

pub told_spec : {M : Type 1} → statement M
told_spec = tie.close (tie.spec returns depart-requires returns-2)
