-- `questions::keywords::named` meets its contract: row by row. Assumes nothing.
use Prim.Native.Nat.{ℕ}
use mathlib.Core.Path.{◌≡◌, ◌∙◌}
use mathlib.Core.List.{List}
use lib.ListN.{drop}
use borrow.Author.Rules.{rules}
use Rattle.questions.specs.Answers.{words, row_named, word_for}
use Rattle.questions.proofs.WordsTold.{row_is, row-is-not}
use Rattle.questions.proofs.keywords.named.Statement.{statement}
use Rattle.questions.proofs.keywords.named.Tie as tie

-- ---- where so many rows are passed, the word is that of the others

abbrev text-1 : tie.Else-same → List ℕ
text-1 c = c.args.text.now

past-1 : (c : tie.Else-same) → row_named (text-1 c) (drop 1 words) ≡ word_for (text-1 c)
unfolding words
past-1 c = row-is-not _ _ _ c.before.same.ensures c.if-same.false

abbrev text-2 : tie.Else-same-2 → List ℕ
text-2 c = text-1 c.before.before.before.before

past-2 : (c : tie.Else-same-2) → row_named (text-2 c) (drop 2 words) ≡ word_for (text-2 c)
unfolding words
past-2 c = row-is-not _ _ _ c.before.same-2.ensures c.if-same-2.false ∙ past-1 c.before.before.before.before

abbrev text-3 : tie.Else-same-3 → List ℕ
text-3 c = text-2 c.before.before.before.before

past-3 : (c : tie.Else-same-3) → row_named (text-3 c) (drop 3 words) ≡ word_for (text-3 c)
unfolding words
past-3 c = row-is-not _ _ _ c.before.same-3.ensures c.if-same-3.false ∙ past-2 c.before.before.before.before

abbrev text-4 : tie.Else-same-4 → List ℕ
text-4 c = text-3 c.before.before.before.before

past-4 : (c : tie.Else-same-4) → row_named (text-4 c) (drop 4 words) ≡ word_for (text-4 c)
unfolding words
past-4 c = row-is-not _ _ _ c.before.same-4.ensures c.if-same-4.false ∙ past-3 c.before.before.before.before

abbrev text-5 : tie.Else-same-5 → List ℕ
text-5 c = text-4 c.before.before.before.before

past-5 : (c : tie.Else-same-5) → row_named (text-5 c) (drop 5 words) ≡ word_for (text-5 c)
unfolding words
past-5 c = row-is-not _ _ _ c.before.same-5.ensures c.if-same-5.false ∙ past-4 c.before.before.before.before

abbrev text-6 : tie.Else-same-6 → List ℕ
text-6 c = text-5 c.before.before.before.before

past-6 : (c : tie.Else-same-6) → row_named (text-6 c) (drop 6 words) ≡ word_for (text-6 c)
unfolding words
past-6 c = row-is-not _ _ _ c.before.same-6.ensures c.if-same-6.false ∙ past-5 c.before.before.before.before

abbrev text-7 : tie.Else-same-7 → List ℕ
text-7 c = text-6 c.before.before.before.before

past-7 : (c : tie.Else-same-7) → row_named (text-7 c) (drop 7 words) ≡ word_for (text-7 c)
unfolding words
past-7 c = row-is-not _ _ _ c.before.same-7.ensures c.if-same-7.false ∙ past-6 c.before.before.before.before

abbrev text-8 : tie.Else-same-8 → List ℕ
text-8 c = text-7 c.before.before.before.before

past-8 : (c : tie.Else-same-8) → row_named (text-8 c) (drop 8 words) ≡ word_for (text-8 c)
unfolding words
past-8 c = row-is-not _ _ _ c.before.same-8.ensures c.if-same-8.false ∙ past-7 c.before.before.before.before

abbrev text-9 : tie.Else-same-9 → List ℕ
text-9 c = text-8 c.before.before.before.before

past-9 : (c : tie.Else-same-9) → row_named (text-9 c) (drop 9 words) ≡ word_for (text-9 c)
unfolding words
past-9 c = row-is-not _ _ _ c.before.same-9.ensures c.if-same-9.false ∙ past-8 c.before.before.before.before

abbrev text-10 : tie.Else-same-10 → List ℕ
text-10 c = text-9 c.before.before.before.before

past-10 : (c : tie.Else-same-10) → row_named (text-10 c) (drop 10 words) ≡ word_for (text-10 c)
unfolding words
past-10 c = row-is-not _ _ _ c.before.same-10.ensures c.if-same-10.false ∙ past-9 c.before.before.before.before

abbrev text-11 : tie.Else-same-11 → List ℕ
text-11 c = text-10 c.before.before.before.before

past-11 : (c : tie.Else-same-11) → row_named (text-11 c) (drop 11 words) ≡ word_for (text-11 c)
unfolding words
past-11 c = row-is-not _ _ _ c.before.same-11.ensures c.if-same-11.false ∙ past-10 c.before.before.before.before

same-requires : tie.Need-same-requires
same-requires c κs = search rules

returns : tie.Need-returns-then-same
unfolding words
returns c = row_is _ _ _ c.before.same.ensures c.if-same.true

same-requires-2 : tie.Need-same-requires-2
same-requires-2 c κs = search rules

returns-2 : tie.Need-returns-then-same-2
unfolding words
returns-2 c = row_is _ _ _ c.before.same-2.ensures c.if-same-2.true ∙ past-1 c.before.before.before.before

same-requires-3 : tie.Need-same-requires-3
same-requires-3 c κs = search rules

returns-3 : tie.Need-returns-then-same-3
unfolding words
returns-3 c = row_is _ _ _ c.before.same-3.ensures c.if-same-3.true ∙ past-2 c.before.before.before.before

same-requires-4 : tie.Need-same-requires-4
same-requires-4 c κs = search rules

returns-4 : tie.Need-returns-then-same-4
unfolding words
returns-4 c = row_is _ _ _ c.before.same-4.ensures c.if-same-4.true ∙ past-3 c.before.before.before.before

same-requires-5 : tie.Need-same-requires-5
same-requires-5 c κs = search rules

returns-5 : tie.Need-returns-then-same-5
unfolding words
returns-5 c = row_is _ _ _ c.before.same-5.ensures c.if-same-5.true ∙ past-4 c.before.before.before.before

same-requires-6 : tie.Need-same-requires-6
same-requires-6 c κs = search rules

returns-6 : tie.Need-returns-then-same-6
unfolding words
returns-6 c = row_is _ _ _ c.before.same-6.ensures c.if-same-6.true ∙ past-5 c.before.before.before.before

same-requires-7 : tie.Need-same-requires-7
same-requires-7 c κs = search rules

returns-7 : tie.Need-returns-then-same-7
unfolding words
returns-7 c = row_is _ _ _ c.before.same-7.ensures c.if-same-7.true ∙ past-6 c.before.before.before.before

same-requires-8 : tie.Need-same-requires-8
same-requires-8 c κs = search rules

returns-8 : tie.Need-returns-then-same-8
unfolding words
returns-8 c = row_is _ _ _ c.before.same-8.ensures c.if-same-8.true ∙ past-7 c.before.before.before.before

same-requires-9 : tie.Need-same-requires-9
same-requires-9 c κs = search rules

returns-9 : tie.Need-returns-then-same-9
unfolding words
returns-9 c = row_is _ _ _ c.before.same-9.ensures c.if-same-9.true ∙ past-8 c.before.before.before.before

same-requires-10 : tie.Need-same-requires-10
same-requires-10 c κs = search rules

returns-10 : tie.Need-returns-then-same-10
unfolding words
returns-10 c = row_is _ _ _ c.before.same-10.ensures c.if-same-10.true ∙ past-9 c.before.before.before.before

same-requires-11 : tie.Need-same-requires-11
same-requires-11 c κs = search rules

returns-11 : tie.Need-returns-then-same-11
unfolding words
returns-11 c = row_is _ _ _ c.before.same-11.ensures c.if-same-11.true ∙ past-10 c.before.before.before.before

returns-12 : tie.Need-returns
unfolding words row_named
returns-12 c = past-11 c

pub named_spec : {M : Type 1} → statement M
named_spec =
    tie.close
    (tie.spec
    same-requires
    returns
    same-requires-2
    returns-2
    same-requires-3
    returns-3
    same-requires-4
    returns-4
    same-requires-5
    returns-5
    same-requires-6
    returns-6
    same-requires-7
    returns-7
    same-requires-8
    returns-8
    same-requires-9
    returns-9
    same-requires-10
    returns-10
    same-requires-11
    returns-11
    returns-12)
