-- `link::request::flow_or_zero` meets its contract. Assumes nothing.
use borrow.Author.Tests.{lt-ltb, le-ltb}
use Rattle.link.proofs.request.flow_or_zero.Statement.{statement}
use Rattle.link.proofs.request.flow_or_zero.Tie as tie

returns : tie.Need-returns-then-i-count
returns c = rw (lt-ltb _ _ c.if-i-count.true)

returns-2 : tie.Need-returns
returns-2 c = rw (le-ltb _ _ c.if-i-count.false)

pub flow_or_zero_spec : {M : Type 1} → statement M
flow_or_zero_spec = tie.close (tie.spec returns returns-2)
