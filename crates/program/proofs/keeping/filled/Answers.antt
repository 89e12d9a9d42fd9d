use Rattle.std.proofs.Common.{◌≡◌, ◌+◌, ◌-◌, length, take, ap, arith}
use Rattle.std.proofs.lemmas.List.{length-take-le}
use Rattle.program.proofs.KeptBytes.{array_long, none_more, more-kept, stored}
use Rattle.program.proofs.keeping.filled.Goals as goal

pub returns-then-to-start : goal.returns-then-to-start
returns-then-to-start c = none_more c.requires.0 _ _ c.if-to-start.true

pub returns : goal.returns
returns c =
    let a = c.args in
    let more = c.min-more.result in
    let long = length-take-le more a.piece.now (omega (arith, c.min-more.ensures)) in
    let wide : a.kept.count + more - a.kept.count ≡ length (take more a.piece.now) = omega (arith, long) in
    let put = ap (λ x. x) (stored a.kept.bytes (take more a.piece.now) a.kept.count _ wide (omega (arith, array_long c.requires.0, c.min-more.ensures, c.requires.1))) in
    more-kept c.requires.0 a.to a.piece.now c.requires.1 (omega arith)
    (rw (c.copy_from_slice.ensures.after, ← c.min-more.ensures) put)
    (ap (a.kept.count +◌) c.min-more.ensures)
