use Rattle.imagecheck.proofs.StraightRuns.{behind-fails, head_first, zero-fails, all_runs}
use Rattle.imagecheck.proofs.flows.grows.Goals as goal

pub returns-then-not-growing : goal.returns-then-not-growing
returns-then-not-growing c =
    let a = c.args in
    behind-fails a.image.now a.owners a.held a.w c.requires.0.on.proper a.i c.growing.ensures c.if-not-growing.true

pub returns-then-base-eq0 : goal.returns-then-base-eq0
returns-then-base-eq0 c =
    let a = c.args in
    head_first a.image.now a.owners a.held a.w c.requires.0.on.proper a.i c.growing.ensures c.if-not-growing.false c.if-base-eq0.true

pub returns-then-not-grows_at : goal.returns-then-not-grows_at
returns-then-not-grows_at c =
    let a = c.args in
    zero-fails a.image.now a.owners a.held a.w c.requires.0.on.proper a.i c.grows_at.ensures c.if-not-grows_at.true

pub returns : goal.returns
returns c =
    let a = c.args in
    all_runs a.image.now a.owners a.held a.w c.requires.0.on.proper a.i c.growing.ensures c.if-not-growing.false c.grows_at.ensures
    c.if-not-grows_at.false c.growing-2.ensures
