use Rattle.std.proofs.Common.{sym, ◌∙◌}
use Rattle.model.specs.Refusals.{first_of}
use Rattle.link.proofs.Masks.{bit-above, no-bit-above}
use Rattle.link.proofs.lend.refusal.Goals as goal

pub returns-then-from-count-ne0 : goal.returns-then-from-count-ne0
unfolding first_of
returns-then-from-count-ne0 c = rw (bit-above c.args.mask c.args.count (rw c.from.ensures at c.if-from-count-ne0.true))

pub returns-then-booked_or_marked : goal.returns-then-booked_or_marked
unfolding first_of
returns-then-booked_or_marked c =
    let none = no-bit-above c.args.mask c.args.count (rw c.from.ensures at c.if-from-count-ne0.false) in
    rw (none, sym c.booked_or_marked.ensures ∙ c.if-booked_or_marked.true)

pub returns : goal.returns
unfolding first_of
returns c =
    let none = no-bit-above c.args.mask c.args.count (rw c.from.ensures at c.if-from-count-ne0.false) in
    rw (none, sym c.booked_or_marked.ensures ∙ c.if-booked_or_marked.false)
