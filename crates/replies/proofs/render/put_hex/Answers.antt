use Rattle.std.proofs.Common.{arith}
use Rattle.replies.proofs.PutOn.{no-hex, one-hex}
use Rattle.replies.proofs.render.put_hex.Goals as goal

pub loop-i-init : goal.loop-i-init
loop-i-init c = no-hex _ _ _

pub loop-i-preserved : goal.loop-i-preserved
loop-i-preserved c = one-hex c.loop-i.invariant (omega arith) c.hex_glyph.ensures c.hex_glyph-in-loop-i.ensures
