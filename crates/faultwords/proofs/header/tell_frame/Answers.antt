use Rattle.std.proofs.Common.{◌*◌, not, ap, arith}
use Rattle.std.proofs.Math.Nat.{mul-le-mul}
use Rattle.calls.proofs.Stores.{puts_then, puts-same}
use Rattle.faults.specs.Told.{told}
use Rattle.faultwords.proofs.header.tell_frame.Goals as goal

pub overflow_mul-window : goal.overflow_mul-window
overflow_mul-window c = omega (arith, mul-le-mul c.requires.0 c.requires.1)

pub returns-clause-put : goal.returns-clause-put
returns-clause-put c =
    let a = c.args in
    let F = puts-same (ap (λ b. told (not b) 3 0 a.slots) c.slots_fit.ensures) c.tell_if-after_slots.ensures.put in
    let W = puts-same (ap (λ b. told (not b) 3 1 a.frames) c.frames_fit.ensures) c.tell_if-after_frames.ensures.put in
    let T = puts-same (ap (λ b. told b 3 2 (a.slots * a.frames)) c.many_positions.ensures) c.tell_if-after_window.ensures.put in
    let N = puts-same (ap (λ b. told (not b) 3 3 a.buffer) c.buffer_fits.ensures) c.tell_if.ensures.put in
    puts_then (puts_then (puts_then F W) T) N
