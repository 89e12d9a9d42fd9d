-- What stands between the blanks of a line. RULES 20.2. Assumes nothing.
use Rattle.std.specs.Prelude.{ℕ, suc, ◌+◌, List, ◌∷◌, [], Bool, cond, take, drop, eqb}
use Rattle.std.specs.List.{list_all}
use Prim.Native.Char.{code}

abbrev pub is_space : ℕ → Bool
is_space b = eqb b (code " ")

-- a byte before the first piece's
abbrev pub before : ℕ → List (List ℕ) → List (List ℕ)
before b [] = (b ∷ []) ∷ []
before b (piece ∷ rest) = (b ∷ piece) ∷ rest

-- RULES 20.2: the pieces of a line, one more than it has spaces; a piece may be empty
unfoldable pub pieces : List ℕ → List (List ℕ)
pieces [] = [] ∷ []
pieces (b ∷ rest) = cond (is_space b) ([] ∷ pieces rest) (before b (pieces rest))

abbrev pub tail : {A : Type 0} → List A → List A
tail [] = []
tail (x ∷ rest) = rest

-- the fields of a line: the pieces after its word
abbrev pub fields_of : List ℕ → List (List ℕ)
fields_of line = tail (pieces line)

-- how many bytes stand before the first space
unfoldable pub piece_length : List ℕ → ℕ
piece_length [] = 0
piece_length (b ∷ rest) = cond (is_space b) 0 (suc (piece_length rest))

-- RULES 20.2: a line's word, and what stands after it and one space
abbrev pub word_of : List ℕ → List ℕ
word_of line = take (piece_length line) line

abbrev pub after_word : List ℕ → List ℕ
after_word line = drop (piece_length line + 1) line

-- whether every byte passes a test
abbrev pub each : (ℕ → Bool) → List ℕ → Bool
each = list_all
