-- `questions::input::take_byte` meets its contract. Assumes nothing.
use Prim.Native.Nat.{ℕ, ◌+◌, ◌-◌, ◌≤◌}
use mathlib.Core.Path.{sym, ◌∙◌}
use mathlib.Core.List.{List}
use native.Mathlib.Omega.{arith}
use lib.ListN.{length, take, drop, length-drop}
use lib.Seq.{length-take-le}
use borrow.Author.Rules.{rules}
use Rattle.calls.specs.Lines.{Puts}
use Rattle.calls.proofs.Stores.{puts_none, puts-same}
use Rattle.questions.specs.Answers.{answer_of}
use Rattle.questions.proofs.FedBytes.{put_back, says_on, ended-line, ended-said, on_line, on-said}
use Rattle.questions.proofs.input.take_byte.Statement.{statement}
use Rattle.questions.proofs.input.take_byte.Tie as tie

-- where the line was answered
module _ (c : tie.After-answer-end) where
  abbrev ends : tie.Then-byte-eq10
  ends = c.before.before

  abbrev start : tie.Start
  start = ends.before.before.before

  abbrev line : List ℕ
  line = take start.args.count start.args.line.now

  put : Puts (answer_of line) start.args.out.now (put_back start.args.out.now start.args.at c.answer-end.new.out) start.args.at
      (start.args.at + c.answer-end.result)
  put = says_on (omega (arith, start.requires.has_room)) c.answer-end.ensures

  in-room : start.args.at + c.answer-end.result ≤ length start.args.out.now
  in-room =
      let out = start.args.out.now in
      let at = start.args.at in
      omega (arith, c.answer-end.ensures.fits, start.requires.has_room, length-take-le (length out - at) (drop at out) (omega (arith, length-drop at out)))

slice-reshare-prefix-answer : tie.Need-slice_bounds-answer-end
slice-reshare-prefix-answer c = let k = c.requires.keeps in omega (arith, k.long, k.most)

slice-aggregate-answer : tie.Need-slice_bounds-answer-end-then-byte-eq10
slice-aggregate-answer c = let k = c.requires.keeps in sym (length-take-le _ _ (omega (arith, k.long, k.most)))

sub-answer : tie.Need-slice_bounds-answer-count
sub-answer c = search rules

part-answer-start : tie.Need-slice_bounds-answer-start
part-answer-start c = search rules

part-answer-end : tie.Need-slice_bounds-answer-end-then-byte-eq10-2
part-answer-end c = search rules

answer-requires : tie.Need-answer-end-requires
answer-requires c κs = search rules

add-t11 : tie.Need-overflow_add-result
add-t11 c = omega (arith, in-room c.before.before, (start c.before.before).well_formed)

same_length : tie.Need-shape_of-line-then-byte-eq10
same_length c = search rules

same-length-2 : tie.Need-shape_of-out-then-byte-eq10
same-length-2 c = (put c.before.before).length_stays

returns : tie.Need-returns-then-byte-eq10
returns c =
    let a = c.before.before in
    let s = start a in
    let newline = (ends a).if-byte-eq10.true in
    record {
      holds = record { long = s.requires.keeps.long; most = omega arith; line_is = ended-line (line a) s.args.byte newline };
      puts = puts-same (ended-said (line a) s.args.byte newline) (put a);
      fits = in-room a;
    }

keep-requires : tie.Need-keep-requires
keep-requires c κs = search rules

same-length-3 : tie.Need-shape_of-line
same-length-3 c = search rules

returns-2 : tie.Need-returns
returns-2 c =
    let k = c.before.before in
    let other = k.before.before in
    let s = other.before.before.before in
    let so_far = take s.args.count s.args.line.now in
    let holds = k.keep.ensures in
    record {
      holds = record { long = holds.long; most = holds.most; line_is = holds.line_is ∙ on_line so_far s.args.byte other.if-byte-eq10.false };
      puts = puts-same (on-said so_far s.args.byte other.if-byte-eq10.false) (puts_none s.args.out.now s.args.at);
      fits = omega (arith, s.requires.has_room);
    }

pub take_byte_spec : {M : Type 1} → statement M
take_byte_spec =
    tie.close
    (tie.spec
    slice-reshare-prefix-answer
    slice-aggregate-answer
    sub-answer
    part-answer-start
    part-answer-end
    answer-requires
    add-t11
    same_length
    same-length-2
    returns
    keep-requires
    same-length-3
    returns-2)
