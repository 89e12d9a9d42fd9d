use Rattle.std.proofs.Common.{ℕ, Bool, true, false, ◌≡◌, ◌+◌, List, length, get_or, take, refl, sym, arith}
use native.Mathlib.Numerals.{add-one}
use Rattle.std.specs.List.{list_any}
use Rattle.model.specs.Tables.{any}
use Rattle.model.specs.Plan.{same_pair}
use Rattle.model.proofs.Tests.{any-hit}
use Rattle.limits.specs.declared.Wanted.{Wanted}
use Rattle.limits.specs.Reading.{wanted_for, no_wanted}
use Rattle.limits.proofs.entries.any_repeats.Goals as goal

abbrev again : List Wanted → ℕ → Bool
again flows i = list_any (λ d. same_pair (wanted_for d) (wanted_for (get_or flows i no_wanted))) (take i flows)

none-yet : (f : ℕ → Bool) → any 0 f ≡ false
unfolding any
none-yet f = refl

none-more : (f : ℕ → Bool) (i : ℕ) → any i f ≡ false → f i ≡ false → any (i + 1) f ≡ false
unfolding any
none-more f i none e = rw (add-one i, e) none

pub loop-i-init : goal.loop-i-init
loop-i-init c = none-yet (again c.args.flows.now)

pub loop-i-preserved : goal.loop-i-preserved
loop-i-preserved c =
    let e : again c.args.flows.now c.loop-i.i ≡ false = grind (arith, c.repeats.ensures, c.if-repeats.false) in
    none-more (again c.args.flows.now) c.loop-i.i c.loop-i.invariant e

pub returns-then-repeats : goal.returns-then-repeats
returns-then-repeats c =
    let e : again c.args.flows.now c.loop-i.i ≡ true = grind (arith, c.repeats.ensures, c.if-repeats.true) in
    sym (any-hit (length c.args.flows.now) (again c.args.flows.now) c.loop-i.i c.loop-i-test.true e)
