use Rattle.std.proofs.Common.{refl, arith}
use Rattle.questions.proofs.FedBytes.{none-fed, one-fed, at-end, no_room}
use Rattle.questions.proofs.input.feed.Goals as goal

pub loop-byte-init : goal.loop-byte-init
loop-byte-init c = record { fed = none-fed c.args.state _ _ c.requires; by_index = refl }

pub overflow_sub-out : goal.overflow_sub-out
overflow_sub-out c = let i = c.loop-byte.invariant.fed in omega (arith, i.fits, i.puts.length_stays)

pub loop-byte-preserved : goal.loop-byte-preserved
loop-byte-preserved c =
    let i = c.loop-byte.invariant in
    let took = rw (← i.by_index) at c.take_byte-taken.ensures in
    record { fed = one-fed i.fed (omega arith) c.if-out-written-lt-ROOM.false took; by_index = omega (arith, i.by_index) }

pub returns-after-loop-byte : goal.returns-after-loop-byte
returns-after-loop-byte c = let i = c.loop-byte.invariant in at-end i.fed (omega (arith, i.by_index))

pub returns-then-out-written-lt-ROOM : goal.returns-then-out-written-lt-ROOM
returns-then-out-written-lt-ROOM c = no_room c.loop-byte.invariant.fed c.if-out-written-lt-ROOM.true
