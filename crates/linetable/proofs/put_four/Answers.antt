use Rattle.std.proofs.Common.{ℕ, List, ◌∷◌, [], ◌≡◌, ◌+◌, ◌/◌, ◌%◌, ◌≤◌, length, refl, ◌∙◌, rules, arith}
use borrow.Rule.Slice.PartMut.{put_mid}
use Rattle.std.proofs.lemmas.List.Edits.{sets, sets-eq}
use Rattle.std.proofs.lemmas.Slice.{overwrites}
use Rattle.linetable.specs.Lines.{four}
use Rattle.linetable.proofs.Texts.{length-four}
use Rattle.linetable.proofs.put_four.Goals as goal

-- a part of a list that is written whole: the bytes are stored there
stored : (out bytes : List ℕ) (at n : ℕ) → n ≡ length bytes → at + n ≤ length out → put_mid at n out bytes ≡ sets out at bytes
stored out bytes at n long fits = rw (sets-eq bytes out at (omega (arith, fits, long))) (search (rules, overwrites))

four-is : (x : ℕ) → x / 16777216 % 256 ≡ x / 16777216
    → x % 256 ∷ x / 256 % 256 ∷ x / 65536 % 256 ∷ x / 16777216 % 256 ∷ [] ≡ four x
unfolding four
four-is x top = rw top refl

pub returns : goal.returns
returns c =
    let a = c.args in
    let top : a.chunk / 16777216 % 256 ≡ a.chunk / 16777216 = omega arith in
    let is : c.copy_from_slice.new.self ≡ four a.chunk = c.copy_from_slice.ensures.after ∙ c.to_le_bytes.ensures ∙ four-is a.chunk top in
    rw is (stored a.out.now (four a.chunk) a.at _ (rw length-four (omega arith)) (omega arith))
