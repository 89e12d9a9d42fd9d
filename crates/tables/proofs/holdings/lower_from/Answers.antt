use Rattle.std.proofs.Common.{◌≡◌, ℕ, ◌<◌, List, get_or, sym, ap, ◌∙◌, arith}
use Rattle.window.specs.declared.Window.{Window}
use Rattle.window.specs.Window.{window_of}
use Rattle.tables.specs.Asked.{FlowAt}
use Rattle.state.specs.State.{with_bound}
use Rattle.tables.specs.Holdings.{shifted}
use Rattle.tables.specs.Bounds.{lowered}
use Rattle.tables.proofs.Lowered.{some_held_lem, raised-again}
use Rattle.tables.proofs.holdings.lower_from.Goals as goal

-- what was lowered is raised again
raised : {w : Window} {i p : ℕ} (s : List ℕ) {lower again : List ℕ} → FlowAt w i p → lower ≡ shifted (window_of w) 255 i p s
    → ((k : ℕ) → get_or s k 0 < 256) → again ≡ shifted (window_of w) 1 i p lower → again ≡ s
raised {w} {i} {p} s asked shifts bytes back =
    back ∙ ap (shifted (window_of w) 1 i p) shifts ∙ raised-again w asked.proper p asked.position s i bytes

pub returns-then-most-lt255 : goal.returns-then-most-lt255
unfolding lowered
returns-then-most-lt255 c =
    let s = c.args in
    let e = c.lower_all-most.ensures in
    record {
      was = sym (some_held_lem s.w c.requires.proper s.p c.requires.position s.s.now s.i (rw (← e.most) (omega arith)));
      holds = λ k. with_bound (e.shifts k) s.i (e.most k);
    }

pub returns-then-not-held_from : goal.returns-then-not-held_from
returns-then-not-held_from c =
    let e = c.lower_all-most.ensures in
    let again = raised c.args.s.now c.requires e.shifts c.fits-s c.shift_from.ensures in
    record { was = sym c.if-not-held_from.true ∙ rw again at c.held_from.ensures; holds = again }

pub returns : goal.returns
unfolding lowered
returns c =
    let e = c.lower_all-most.ensures in
    let again = raised c.args.s.now c.requires e.shifts c.fits-s c.shift_from.ensures in
    let shifts = rw again at c.shift_from-2.ensures in
    record {
      was = sym c.if-not-held_from.false ∙ rw again at c.held_from.ensures;
      holds = λ k. with_bound (shifts k) c.args.i (e.most k);
    }
