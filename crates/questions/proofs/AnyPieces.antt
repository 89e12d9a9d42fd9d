-- However the input is cut into pieces, what is to be written, in order, is the answers to its lines. Assumes nothing.
use Prim.Native.Nat.{ℕ, ◌≤◌}
use mathlib.Core.Path.{◌≡◌, refl, sym, ap, ◌∙◌}
use mathlib.Core.List.{List, ◌∷◌, [], ◌++◌, foldr, flat_map, append_assoc, append-nil}
use mathlib.Core.Bool.{Bool, true, false}
use native.Mathlib.Decide.{dec_le}
use native.Mathlib.Omega.{arith}
use lib.ListN.{length, take, length-append}
use lib.Seq.{take_all, take-append-le, length-take-le}
use borrow.Author.Tests.{lt-ltb, le-ltb}
use Rattle.tokens.specs.Pieces.{before}
use Rattle.tokens.proofs.NumbersCounted.{kept-first}
use Rattle.questions.specs.declared.State.{State}
use Rattle.questions.specs.Answers.{answer_of}
use Rattle.questions.specs.Input.{is_newline, lines_of, answers_to}
use Rattle.questions.specs.Feeding.{kept, line_with, said_with, line_fed, said_fed, at_end}
use Rattle.questions.specs.Promises.{line_of, Feeds, none, piece, joined, Runs}
use Rattle.questions.proofs.LineAnswers.{kept-answer}
use Rattle.questions.proofs.FedBytes.{line-append, said-append}

-- ---- lines, with bytes that stand before the first of them

abbrev with_before : (bytes : List ℕ) → (lines : List (List ℕ)) → List (List ℕ)
with_before bytes lines = foldr before lines bytes

ended : (bytes : List ℕ) (lines : List (List ℕ)) → with_before bytes ([] ∷ lines) ≡ bytes ∷ lines
ended [] lines = refl
ended (b ∷ bytes) lines = ap (before b) (ended bytes lines)

one_more : (bytes : List ℕ) (b : ℕ) (lines : List (List ℕ)) → with_before bytes (before b lines) ≡ with_before (bytes ++ (b ∷ [])) lines
one_more [] b lines = refl
one_more (c ∷ bytes) b lines = ap (before c) (one_more bytes b lines)

last_line : (b : ℕ) (bytes : List ℕ) → with_before (b ∷ bytes) [] ≡ (b ∷ bytes) ∷ []
last_line b [] = refl
last_line b (c ∷ bytes) = ap (before b) (last_line c bytes)

-- ---- the first 4,001 bytes of a line

kept-start : (line : List ℕ) (b : ℕ) → kept (take 4001 line) b ≡ take 4001 (line ++ (b ∷ []))
unfolding kept
kept-start line b = go (dec_le (length line) 4000)
  where
    go : Dec (length line ≤ 4000) → kept (take 4001 line) b ≡ take 4001 (line ++ (b ∷ []))
    go (yes h) =
        let all = take_all 4001 line (omega arith) in
        ap (λ l. kept l b) all ∙ rw (lt-ltb (length line) 4001 (omega arith)) (sym (take_all 4001 (line ++ (b ∷ [])) (omega (arith, length-append line (b ∷ [])))))
    go (no h) =
        let long : length (take 4001 line) ≡ 4001 = length-take-le 4001 line (omega arith) in
        rw (le-ltb (length (take 4001 line)) 4001 (omega arith)) (sym (take-append-le 4001 line (b ∷ []) (omega arith)))

-- ---- what is said for an input, and at its end

end-said : (line : List ℕ) → flat_map answer_of (with_before line []) ≡ at_end (take 4001 line)
unfolding at_end flat_map
end-said [] = refl
end-said (b ∷ line) = ap (flat_map answer_of) (last_line b line) ∙ append-nil (answer_of (b ∷ line)) ∙ sym (kept-answer (b ∷ line))

said-in-all : (line input : List ℕ)
    → flat_map answer_of (with_before line (lines_of input)) ≡ said_fed (take 4001 line) input ++ at_end (line_fed (take 4001 line) input)
unfolding lines_of said_fed line_fed said_with line_with flat_map
said-in-all line [] = end-said line
said-in-all line (b ∷ rest) = go (is_newline b) refl (said-in-all [] rest) (said-in-all (line ++ (b ∷ [])) rest)
  where
    go : (t : Bool) → is_newline b ≡ t
        → flat_map answer_of (lines_of rest) ≡ said_fed [] rest ++ at_end (line_fed [] rest)
        → flat_map answer_of (with_before (line ++ (b ∷ [])) (lines_of rest))
        ≡ said_fed (take 4001 (line ++ (b ∷ []))) rest ++ at_end (line_fed (take 4001 (line ++ (b ∷ []))) rest)
        → flat_map answer_of (with_before line (lines_of (b ∷ rest))) ≡ said_fed (take 4001 line) (b ∷ rest) ++ at_end (line_fed (take 4001 line) (b ∷ rest))
    go true e new on =
        rw e
        (ap (flat_map answer_of) (ended line (lines_of rest)) ∙ (λ i. sym (kept-answer line) i ++ new i)
        ∙ sym (append_assoc (answer_of (take 4001 line)) (said_fed [] rest) (at_end (line_fed [] rest))))
    go false e new on =
        rw e
        (ap (flat_map answer_of) (one_more line b (lines_of rest)) ∙ on
        ∙ ap (λ l. said_fed l rest ++ at_end (line_fed l rest)) (sym (kept-start line b)))

pub answers-are : (input : List ℕ) → answers_to input ≡ said_fed [] input ++ at_end (line_fed [] input)
unfolding answers_to
answers-are input = said-in-all [] input

-- ---- a run

record After (line : List ℕ) (input said : List ℕ) (t : State) : Type 0 where
  pub line_is : line_of t ≡ line_fed line input
  pub said_is : said ≡ said_fed line input

fed-on : {s t : State} {pieces : List (List ℕ)} {said : List ℕ} → Feeds s pieces said t → After (line_of s) (joined pieces) said t
unfolding line_fed said_fed
fed-on none = record { line_is = refl; said_is = refl }
fed-on {s} (piece {pieces} {said} p out out' r f rest) =
    let part = take r.used p in
    let words = said_fed (line_of s) part in
    let now : take r.written out' ≡ words = ap (take r.written) f.out_is ∙ kept-first words out r.written f.written_is f.room in
    let on = fed-on rest in
    let is = f.stands.line_is in
    record {
      line_is = on.line_is ∙ ap (λ l. line_fed l (joined pieces)) is ∙ sym (line-append (line_of s) part (joined pieces));
      said_is =
          (λ i. now i ++ (on.said_is ∙ ap (λ l. said_fed l (joined pieces)) is) i) ∙ sym (said-append (line_of s) part (joined pieces));
    }

-- However the input is cut into pieces, all that is to be written, in order, is the answers to the input's lines.
-- Of the code it names the promises of `start`, `feed` and `finish` alone.
pub cut-anyhow : {pieces : List (List ℕ)} {said : List ℕ} → Runs pieces said → said ≡ answers_to (joined pieces)
cut-anyhow {pieces} r =
    let on = fed-on r.feeds in
    let start = r.started.line_is in
    let so_far : r.fed ≡ said_fed [] (joined pieces) = on.said_is ∙ ap (λ l. said_fed l (joined pieces)) start in
    let line : line_of r.last ≡ line_fed [] (joined pieces) = on.line_is ∙ ap (λ l. line_fed l (joined pieces)) start in
    let f = r.finished in
    let then : take r.written r.out' ≡ at_end (line_fed [] (joined pieces)) =
    ap (take r.written) f.stored ∙ kept-first (at_end (line_of r.last)) r.out r.written f.many f.fits ∙ ap at_end line in
    r.said_is ∙ (λ i. so_far i ++ then i) ∙ sym (answers-are (joined pieces))
