use Rattle.std.proofs.Common.{length, refl, ap, arith}
use Rattle.program.proofs.KeptBytes.{bytes_back, kept-itself}
use Rattle.program.proofs.WholeRecords.{cut_short}
use Rattle.program.proofs.PlayedOn.{played-on, left-playing, kept-behind}
use Rattle.program.proofs.records.play_on.Goals as goal

pub returns : goal.returns
returns c =
    let bytes = c.args.bytes.now in
    let played = played-on c.requires c.play-played.ensures.played_records in
    let kept = kept-behind bytes c.none.ensures played.used_is c.filled-kept.ensures in
    left-playing c.requires played (bytes_back kept) (record {
      stage_is = refl;
      regular = record {
        kept_well = kept-itself kept;
        not_whole = omega (arith, ap length (bytes_back kept), cut_short bytes);
      };
    })
