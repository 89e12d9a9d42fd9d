use Rattle.std.proofs.Common.{List, ℕ, ◌≡◌, ◌<◌, length, take, refl, ap, subst, arith}
use Rattle.link.specs.Steps.{read_of}
use Rattle.program.specs.Stage.{playing}
use Rattle.program.specs.State.{bytes_in, Stands}
use Rattle.program.specs.declared.State.TheVariants.{Playing}
use Rattle.program.proofs.KeptBytes.{behind, taken}
use Rattle.program.proofs.PlayedOn.{played-one}
use Rattle.program.proofs.Leaving.{still-cut-off, made-whole}
use Rattle.program.proofs.records.go_on.Goals as goal

-- bytes were taken until there are five, or the piece ended: it ended
pub returns-then-whole-lt-RECORD : goal.returns-then-whole-lt-RECORD
returns-then-whole-lt-RECORD c =
    let a = c.args in
    let five = taken c.requires.0.kept_well 5 a.piece.now c.filled-whole.ensures in
    let all = five.piece_ended c.if-whole-lt-RECORD.true in
    let few = five.kept.count_is in
    let stands : Stands (Playing a.link c.filled-whole.result) (playing (read_of a.link) (bytes_in c.filled-whole.result)) = record {
      stage_is = refl;
      regular = record { kept_well = five.kept; not_whole = omega (arith, few, c.if-whole-lt-RECORD.true) };
    } in
    still-cut-off (read_of a.link) (bytes_in a.kept) a.piece.now (omega (arith, few, ap length all, c.if-whole-lt-RECORD.true))
    (subst (λ (b : List ℕ). Stands (Playing a.link c.filled-whole.result) (playing (read_of a.link) b)) all stands)

-- or the record is whole now, and was played
pub returns : goal.returns
returns c =
    let a = c.args in
    let whole = c.filled-whole.result in
    let five = taken c.requires.0.kept_well 5 a.piece.now c.filled-whole.ensures in
    let long : length (bytes_in whole) ≡ 5 =
    omega (arith, five.kept.count_is, five.most, c.requires.0.not_whole, c.requires.0.kept_well.count_is, c.if-whole-lt-RECORD.false) in
    let counted : 5 ≡ whole.count = omega (arith, long, five.kept.count_is) in
    let some_taken : a.kept.count < whole.count = omega (arith, counted, c.requires.0.not_whole, c.requires.0.kept_well.count_is) in
    let one = played-one (ap (λ n. take n whole.bytes) counted) long (omega (arith, five.in_piece, some_taken, c.requires.1)) c.play-played.ensures.played_records in
    made-whole (read_of a.link) (bytes_in a.kept) a.piece.now (behind a.kept whole a.piece.now) (omega (arith, long)) five.seam one c.play_on-2.ensures
