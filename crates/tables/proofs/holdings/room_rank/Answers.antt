use Rattle.std.proofs.Common.{ℕ, ◌≡◌, ◌+◌, ◌-◌, ◌*◌, refl, arith}
use Rattle.window.specs.Window.{size_of, base_of}
use Rattle.window.proofs.PassesFrom.{passes-from, passes-all, passes-low, passes-high}
use Rattle.tables.proofs.RowRanges.{all_room, last-room}
use Rattle.tables.proofs.holdings.room_rank.Goals as goal

pub returns-then-room_in : goal.returns-then-room_in
returns-then-room_in c =
    let v = c.requires.0 in
    let all = rw c.if-room_in.true at c.room_in.ensures in
    passes-from _ v _ (passes-all _ v _ (all_room _ c.args.i _ 0 _ v.measures.positions_most (omega arith) refl all))

pub returns-then-first-k : goal.returns-then-first-k
returns-then-first-k c =
    let s = c.args in
    let v = c.requires.0 in
    let k = c.last_full-k.result in
    let first : ℕ = 256 * s.i in
    let low = last-room s.s.now s.i s.cells 0 (base_of s.w) (omega arith) (omega arith) refl c.last_full-k.ensures in
    let same : k + (first + size_of s.w) - first - (first + base_of s.w) ≡ k - first + size_of s.w - base_of s.w =
    omega (arith, v.base_fits, c.last_full-k.ensures.low) in
    rw same (passes-from s.w v _ (passes-low s.w v _ _ low (omega arith)))

pub returns : goal.returns
returns c =
    let s = c.args in
    let v = c.requires.0 in
    let first : ℕ = 256 * s.i in
    let none : c.last_full-k.result - first ≡ 0 = omega (arith, c.if-first-k.false) in
    let low = last-room s.s.now s.i s.cells 0 (base_of s.w) (omega arith) (omega arith) refl c.last_full-k.ensures in
    let high = last-room s.s.now s.i s.cells (base_of s.w) (size_of s.w) v.measures.positions_most refl refl c.last_full.ensures in
    let same : c.last_full.result - (first + base_of s.w) ≡ c.last_full.result - first - base_of s.w = omega arith in
    rw same (passes-from s.w v _ (passes-high s.w v _ _ (rw none at low) high))
