use Rattle.std.proofs.Common.{ap, arith}
use Rattle.calls.proofs.Stores.{puts_then, puts-same}
use Rattle.replies.proofs.PutOn.{says}
use Rattle.showwords.specs.Answers.{verdict_line, show_lines}
use Rattle.showwords.proofs.say_show.Goals as goal

pub returns : goal.returns
unfolding show_lines
returns c =
    let line = puts-same (ap verdict_line c.check-verdict.ensures.number) c.put_verdict-first.ensures.put in
    says (puts_then line c.put_links.ensures.put) (omega (arith, c.put_links.ensures.most, c.put_verdict-first.ensures.most))
