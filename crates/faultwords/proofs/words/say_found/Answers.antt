use Rattle.std.proofs.Common.{ℕ, ◌≤◌, length, length-take-le, ap, ◌∙◌, arith}
use Rattle.std.proofs.lemmas.List.{length-replicate}
use Rattle.replies.proofs.PutOn.{says_same}
use Rattle.faults.specs.Told.{faults_line}
use Rattle.faults.proofs.ToldLines.{found-first}
use Rattle.faultwords.proofs.FaultsLines.{faults-said}
use Rattle.faultwords.proofs.words.say_found.Goals as goal

pub say-requires : goal.say-requires
say-requires c =
    let f = c.find-count in
    let in-room : f.result ≤ length f.new.found = omega (arith, f.ensures.most, f.ensures.put.length_stays, length-replicate {A = ℕ} 309 0) in
    (omega (arith, length-take-le f.result f.new.found in-room, f.ensures.most), omega arith)

pub returns : goal.returns
returns c =
    let f = c.find-count.ensures in
    let found = found-first f.put (omega (arith, f.most, length-replicate {A = ℕ} 309 0)) in
    says_same (ap faults_line found ∙ faults-said c.args.numbers.now c.requires.0) c.say.ensures
