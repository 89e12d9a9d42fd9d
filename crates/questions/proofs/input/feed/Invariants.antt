use Rattle.std.proofs.Common.{◌≡◌}
use Rattle.questions.specs.Promises.{line_of}
use Rattle.questions.proofs.FedBytes.{FedTo}
use Rattle.questions.proofs.input.feed.Given as goal

-- so many bytes are taken
abbrev pub invariant-loop-byte : goal.invariant-loop-byte
invariant-loop-byte l = record {
  fed : FedTo (line_of l.fn.state) l.piece l.fn.out l.line l.out l.count l.used l.written;
  by_index : l.used ≡ l.byte-index;
}
