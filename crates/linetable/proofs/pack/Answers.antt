use Rattle.std.proofs.Common.{◌≡◌, ◌+◌, ◌*◌, arith}
use Rattle.linetable.proofs.Texts.{four-packed}
use Rattle.linetable.proofs.pack.Goals as goal

pub returns : goal.returns
returns c =
    let a = c.args in
    let is : c.from_le_bytes.result ≡ a.a + 256 * a.b + 65536 * a.c + 16777216 * a.d = omega (arith, c.from_le_bytes.ensures) in
    rw is (four-packed a.a a.b a.c a.d (omega arith) (omega arith) (omega arith) (omega arith))
