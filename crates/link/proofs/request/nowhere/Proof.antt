-- `link::request::nowhere` meets its contract. Assumes nothing.
use borrow.Author.Tests.{ne_eqb}
use Rattle.model.proofs.NewestFrame.{newest-number}
use Rattle.link.proofs.request.nowhere.Statement.{statement}
use Rattle.link.proofs.request.nowhere.Tie as tie

returns : tie.Need-returns-then-would
returns c = λ left some. rw (newest-number _ _, ne_eqb left 0 some, c.if-would.true)

returns-2 : tie.Need-returns
returns-2 c = λ left some. rw (newest-number _ _, ne_eqb left 0 some, c.if-would.false)

pub nowhere_spec : {M : Type 1} → statement M
nowhere_spec = tie.close (tie.spec returns returns-2)
