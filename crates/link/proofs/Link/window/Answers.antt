use Rattle.link.proofs.Given.{state-in}
use Rattle.link.proofs.Link.window.Goals as goal

pub returns : goal.returns
returns c =
    let is = rw c.from.ensures at c.window.ensures.is in
    state-in {w = c.window.result} c.args.self.now.sound is c.window.ensures.proper
