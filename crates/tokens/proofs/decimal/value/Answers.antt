use Rattle.std.proofs.Common.{arith, ◌∙◌}
use Rattle.tokens.proofs.DigitValues.{one-digit, all_digits, no-digits}
use Rattle.tokens.proofs.decimal.value.Goals as goal

pub loop-byte-init : goal.loop-byte-init
loop-byte-init c = no-digits _

pub loop-byte-preserved : goal.loop-byte-preserved
loop-byte-preserved c = one-digit c.loop-byte.invariant (omega arith) (c.from.ensures ∙ c.saturating_sub.ensures) (omega arith)

pub returns : goal.returns
returns c = all_digits c.loop-byte.invariant (omega arith)
