use Rattle.std.proofs.Common.{◌≡◌, ◌+◌, ◌-◌, max, true, true≢false, arith, lt-ltb}
use Rattle.window.specs.Ranges.{All}
use Rattle.window.specs.Window.{size_of, base_of}
use Rattle.window.proofs.Ranks.{late-from, both-from}
use Rattle.window.proofs.PassesFrom.{passes-from, passes-all}
use Rattle.tables.specs.Rows.{row}
use Rattle.tables.specs.Holdings.{room_at}
use Rattle.tables.proofs.search.late_rank.Goals as goal

pub returns-then-s-i : goal.returns-then-s-i
returns-then-s-i c =
    let s = c.args in
    let v = c.requires.proper in
    let most = (c.requires.bounds.bound s.i c.requires.flow).most (omega (arith, c.if-s-i.true)) in
    let room = room_at (row s.s.now s.i) s.cells in
    let everywhere : All room 0 (size_of s.w) true = record {
      pass = λ _ q _ l. lt-ltb _ s.cells (let below = most q l in omega (arith, c.if-s-i.true));
      miss = λ z. absurd (true≢false z);
    } in
    let after = s.w.current + 1 - base_of s.w in
    let no_lower : max 0 after ≡ after = omega arith in
    rw no_lower at (both-from (passes-from s.w v room (passes-all s.w v room everywhere)) (late-from s.w v))

-- two lower bounds on ranks are one
pub returns : goal.returns
returns c = rw c.max.ensures (both-from c.room_rank.ensures (late-from c.args.w c.requires.proper))
