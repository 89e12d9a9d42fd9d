-- However the input is cut into pieces, what is to be written is the answer to the whole of it. Assumes nothing.
use Prim.Native.Nat.{ℕ, ◌≤◌}
use mathlib.Core.Path.{◌≡◌, sym, ap, ◌∙◌}
use mathlib.Core.List.{List, [], ◌++◌, append_assoc, append-nil}
use native.Mathlib.Decide.{dec_le}
use native.Mathlib.Omega.{arith}
use lib.ListN.{length, take}
use lib.Seq.{take_all, take-take, take-append-le, length-take-le}
use Rattle.tokens.proofs.NumbersCounted.{kept-first}
use Rattle.showinput.specs.declared.State.{State}
use Rattle.showinput.specs.Input.{answer_to, kept}
use Rattle.showinput.specs.Promises.{input_of, Feeds, none, piece, joined, Runs}
use Rattle.showinput.proofs.Question.{kept-answer}

-- what is kept of an input, and a piece behind it
kept-start : (input p : List ℕ) → kept (kept input ++ p) ≡ kept (input ++ p)
kept-start input p = go (dec_le (length input) 4002)
  where
    go : Dec (length input ≤ 4002) → kept (kept input ++ p) ≡ kept (input ++ p)
    go (yes h) = ap (λ l. kept (l ++ p)) (take_all 4002 input h)
    go (no h) =
        let long : length (kept input) ≡ 4002 = length-take-le 4002 input (omega arith) in
        take-append-le 4002 (kept input) p (omega (arith, long)) ∙ take-take 4002 4002 input (omega arith) ∙ sym (take-append-le 4002 input p (omega arith))

fed-on : {s t : State} {pieces : List (List ℕ)} (input : List ℕ) → input_of s ≡ kept input → Feeds s pieces t → input_of t ≡ kept (input ++ joined pieces)
fed-on input e none = e ∙ ap kept (sym (append-nil input))
fed-on input e (piece {pieces} p r stands rest) =
    let so_far : input_of r ≡ kept (input ++ p) = stands.input_is ∙ ap (λ l. kept (l ++ p)) e ∙ kept-start input p in
    fed-on (input ++ p) so_far rest ∙ ap kept (append_assoc input p (joined pieces))

-- However the input is cut into pieces, what is to be written at its end is the answer to all of it.
-- Of the code it names the promises of `start`, `feed` and `finish` alone.
pub cut-anyhow : {pieces : List (List ℕ)} {said : List ℕ} → Runs pieces said → said ≡ answer_to (joined pieces)
cut-anyhow {pieces} r =
    let input : input_of r.last ≡ kept (joined pieces) = fed-on [] r.started.input_is r.feeds in
    let f = r.finished in
    let words = answer_to (input_of r.last) in
    let now : take r.written r.out' ≡ words = ap (take r.written) f.stored ∙ kept-first words r.out r.written f.many f.fits in
    r.said_is ∙ now ∙ ap answer_to input ∙ kept-answer (joined pieces)
