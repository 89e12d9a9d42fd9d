use Rattle.std.proofs.Common.{◌<◌, ◌+◌, refl, arith}
use native.Mathlib.Nat.{mod-lt}
use Rattle.link.proofs.Plans.{count-some, count_most}
use Rattle.link.proofs.Lends.{lend-refused, lend-to-nobody, lend-to-taker}
use Rattle.link.proofs.StateParts.{went-same}
use Rattle.link.proofs.Given.{in_hand}
use Rattle.link.proofs.StateLends.{tests-of, found-read, found-below, went-lent}
use Rattle.link.proofs.lend.lend.Goals as goal

pub refusal-number-requires : goal.refusal-number-requires
refusal-number-requires c = count_most _ c.requires.sound.parts.plan

pub returns-then-number-ne0 : goal.returns-then-number-ne0
returns-then-number-ne0 c =
    let o = c.requires in
    went-same o.sound refl (lend-refused (in_hand o) _ (tests-of o _ _ c.refusal-number.ensures) c.if-number-ne0.true)

pub returns-in_default : goal.returns-in_default
returns-in_default c =
    let o = c.requires in
    let found = found-read o _ c.from.ensures c.taker.ensures in
    went-same o.sound refl (lend-to-nobody (in_hand o) _ (tests-of o _ _ c.refusal-number.ensures) c.if-number-ne0.false found c.in_default.is)

pub raise_from-requires : goal.raise_from-requires
raise_from-requires c =
    let o = c.requires in
    let below = found-below o _ c.from.ensures c.taker.ensures c.refusal-number.ensures c.if-number-ne0.false c.in-Some.is in
    record { proper = o.proper; flow = omega (arith, below, count_most _ o.sound.parts.plan); position = o.proper.measures.current_below }

pub next-requires : goal.next-requires
next-requires c = found-below c.requires _ c.from.ensures c.taker.ensures c.refusal-number.ensures c.if-number-ne0.false c.in-Some.is

pub overflow_cast-s : goal.overflow_cast-s
overflow_cast-s c =
    let v = c.requires.sound.parts.plan in
    omega (arith, c.next.ensures, mod-lt (c.in-Some.i + 1) (count-some _ v), count_most _ v)

pub overflow_cast-result : goal.overflow_cast-result
overflow_cast-result c =
    let o = c.requires in
    let below = found-below o _ c.from.ensures c.taker.ensures c.refusal-number.ensures c.if-number-ne0.false c.in-Some.is in
    omega (arith, below, count_most _ o.sound.parts.plan)

pub returns : goal.returns
returns c =
    let o = c.requires in
    let found = found-read o _ c.from.ensures c.taker.ensures in
    let below = found-below o _ c.from.ensures c.taker.ensures c.refusal-number.ensures c.if-number-ne0.false c.in-Some.is in
    let few : c.in-Some.i < 16 = omega (arith, below, count_most _ o.sound.parts.plan) in
    went-lent o c.in-Some.i c.next.result few c.raise_from.ensures
    (lend-to-taker (in_hand o) _ (tests-of o _ _ c.refusal-number.ensures) c.if-number-ne0.false found c.in-Some.is c.next.ensures refl)
