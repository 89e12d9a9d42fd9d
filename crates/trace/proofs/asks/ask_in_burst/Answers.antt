use Rattle.std.proofs.Common.{arith}
use Rattle.link.proofs.Stays.{request-current, still-in}
use Rattle.trace.specs.Trace.{ask_line, traced_word}
use Rattle.trace.proofs.Numbers.{lines-as}
use Rattle.trace.proofs.asks.ask_in_burst.Goals as goal

pub put_ask-requires : goal.put_ask-requires
put_ask-requires c = (still-in c.requires.0 c.reply_to-reply.ensures (request-current _ _), omega (arith, c.requires.1))

pub returns : goal.returns
unfolding traced_word
returns c =
    let went = c.reply_to-reply.ensures in
    record {
      link_is = went.link_is;
      hand = still-in c.requires.0 went (request-current _ _);
      lines_are = lines-as (λ k. ask_line 66 6 c.args.word (went.link_is k) (went.answer_is k)) (omega arith) c.put_ask.ensures;
    }
