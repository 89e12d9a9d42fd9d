use Rattle.std.proofs.Common.{arith}
use Rattle.window.proofs.Windows.{ticked-on, ticked-round, ticked-next}
use Rattle.window.proofs.Window.ticked.Goals as goal

pub returns-then-current-self : goal.returns-then-current-self
returns-then-current-self c = record { is = ticked-on c.args.self c.requires c.if-current-self.true }

pub returns-then-self : goal.returns-then-self
returns-then-self c = record { is = ticked-round c.args.self c.requires c.if-current-self.false c.if-self.true }

pub returns : goal.returns
returns c = record { is = ticked-next c.args.self c.requires c.if-current-self.false (omega arith) }
