use Rattle.std.proofs.Common.{◌≡◌, ◌+◌, ◌-◌, max, ltb, sym, ap, ◌∙◌, arith}
use Rattle.window.proofs.Ranges.{mid-at}
use Rattle.window.proofs.RangeLoops.{testing-none, testing-done, all-inner}
use Rattle.tables.proofs.Padded.{counting-first, counting-on, counted-pad, testing-least}
use Rattle.tables.proofs.holdings.held_in.Goals as goal

pub loop-held-init : goal.loop-held-init
loop-held-init c = record { counting = counting-first _ _ (omega arith) (omega arith) c.wrapping_neg-x.ensures; tested = testing-none (omega arith) }

pub loop-held-preserved : goal.loop-held-preserved
loop-held-preserved c =
    let v = c.loop-held.invariant in
    let padded = c.select_below.ensures ∙ counted-pad v.counting c.args.from 255 0 in
    let seen = c.max.ensures ∙ ap (max _) padded in
    record {
      counting = counting-on v.counting (omega arith);
      tested = rw c.min-least.ensures (testing-least c.loop-held.least v.tested c.loop-held-test.true _ (ap (λ y. ltb 0 y) (sym seen)));
    }

pub returns : goal.returns
returns c =
    let s = c.args in
    all-inner s.a s.e s.s.now c.requires.0 (omega (arith, c.told-s))
    (λ k b. let place : s.a + k - s.a ≡ k = omega arith in rw (mid-at s.a s.e s.s.now k 0 b, place))
    (testing-done c.loop-held.invariant.tested c.loop-held-test.false)
