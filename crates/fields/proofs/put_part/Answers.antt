use Rattle.std.proofs.Common.{ℕ, List, ◌≡◌, ◌+◌, ◌-◌, ◌≤◌, ◌<◌, ◌∙◌, length, get_or, take, drop, arith}
use Rattle.std.proofs.lemmas.List.{get_or-take, get_or-drop, length-take, length-drop}
use Rattle.state.specs.Parts.{part}
use Rattle.fields.proofs.FieldLists.{putting-none, putting-more, putting-done}
use Rattle.fields.proofs.put_part.Goals as goal

-- the part as the loop goes through it
long : (s : List ℕ) (first count : ℕ) → first + count ≤ length s → length (take (first + count - first) (drop first s)) ≡ count
long s first count h = omega (arith, length-take (first + count - first) (drop first s), length-drop first s)

byte_at : (s : List ℕ) (first count k : ℕ) → k < count → get_or (take (first + count - first) (drop first s)) k 0 ≡ get_or s (first + k) 0
byte_at s first count k h = get_or-take (first + count - first) (drop first s) k 0 (omega arith) ∙ get_or-drop first s k 0

pub loop-x-init : goal.loop-x-init
loop-x-init c = putting-none

pub put-next-requires : goal.put-next-requires
put-next-requires c =
    let n = long c.args.s.now c.args.first c.args.count (omega arith) in
    let e = byte_at c.args.s.now c.args.first c.args.count c.loop-x.x-index (omega arith) in
    (omega (arith, c.fits-s (c.args.first + c.loop-x.x-index)), omega (arith, c.loop-x.invariant.place))

pub loop-x-preserved : goal.loop-x-preserved
loop-x-preserved c =
    let n = long c.args.s.now c.args.first c.args.count (omega arith) in
    let h : c.loop-x.x-index < c.args.count = omega arith in
    putting-more c.loop-x.invariant h (c.from.ensures ∙ byte_at c.args.s.now c.args.first c.args.count _ h) c.put-next.ensures

pub returns : goal.returns
unfolding part
returns c =
    let n = long c.args.s.now c.args.first c.args.count (omega arith) in
    putting-done c.loop-x.invariant (omega arith)
