use Rattle.std.proofs.Common.{ℕ, List, ◌+◌, ◌*◌, ◌≤◌, ◌≡◌, length, sym, ◌∙◌}
use Rattle.week.specs.Week.{entry, share_minute}
use Rattle.weekwords.specs.WeekWord.{week_asked}
use Rattle.weekwords.proofs.AskedEntries.{listed, entry_is}
use Rattle.weekwords.proofs.SharedMinutes.{week-over, first-over, by-second}
use Rattle.weekwords.proofs.entries.share_minute.Goals as goal

-- the two entries that are asked about
asked : (numbers : List ℕ) (i j : ℕ) → 3 * i + 3 ≤ length numbers → 3 * j + 3 ≤ length numbers
    → share_minute (listed numbers i) (listed numbers j) ≡ share_minute (entry (week_asked numbers) i) (entry (week_asked numbers) j)
asked numbers i j h k = λ t. share_minute (sym (entry_is numbers i h) t) (sym (entry_is numbers j k) t)

pub returns-then-start-ge-WEEK : goal.returns-then-start-ge-WEEK
returns-then-start-ge-WEEK c =
    let a = c.args in
    let n = a.numbers.now in
    week-over (listed n a.i) (listed n a.j) _ c.max-start.ensures c.if-start-ge-WEEK.true ∙ asked n a.i a.j c.requires.0 c.requires.1

pub returns-then-numbers-i : goal.returns-then-numbers-i
returns-then-numbers-i c =
    let a = c.args in
    let n = a.numbers.now in
    first-over (listed n a.i) (listed n a.j) _ c.max-start.ensures c.if-start-ge-WEEK.false c.if-numbers-i.true ∙ asked n a.i a.j c.requires.0 c.requires.1

pub returns : goal.returns
returns c =
    let a = c.args in
    let n = a.numbers.now in
    by-second (listed n a.i) (listed n a.j) _ c.max-start.ensures c.if-start-ge-WEEK.false c.if-numbers-i.false ∙ asked n a.i a.j c.requires.0 c.requires.1
