-- The mesh of boards, and its links. RULES 16.1. Assumes nothing.
use Rattle.std.specs.Prelude.{ℕ, ◌+◌, ◌-◌, ◌/◌, ◌%◌, Bool, ◌&&◌, ◌||◌, true, false, cond, ltb}
use mathlib.Core.List.{List, ◌∷◌, [], flat_map}
use Rattle.model.specs.Tables.{table}

-- ---- boards

-- RULES 16.1: a node is a board's number, column + 8 × row, with eight boards to a row (`node-is`).
abbrev pub column : (node : ℕ) → ℕ
column node = node % 8

abbrev pub row : (node : ℕ) → ℕ
row node = node / 8

-- ---- links

-- The sides of a board, in the order of the nodes of the boards there. Columns grow to the east, rows to the south.
pub data Side : Type 0 where
  north : Side
  west : Side
  east : Side
  south : Side

-- the node of the board on a side
abbrev pub beside : Side → (node : ℕ) → ℕ
beside north node = node - 8
beside west node = node - 1
beside east node = node + 1
beside south node = node + 8

-- whether an 8 by 8 mesh has a board there
abbrev pub joined : Side → (node : ℕ) → Bool
joined north node = ltb 0 (row node)
joined west node = ltb 0 (column node)
joined east node = ltb (column node) 7
joined south node = ltb (row node) 7

-- RULES 16.1: a link in one direction, by the node of the board that it leaves and the side on which it does
pub record Link : Type 0 where
  pub from : ℕ
  pub side : Side

-- the node of the board that it leads to
abbrev pub to : Link → ℕ
to l = beside l.side l.from

-- whether a link is one of the mesh: between two of the 64 boards
abbrev pub in_mesh : Link → Bool
in_mesh l = ltb l.from 64 && joined l.side l.from

-- ---- all of them

-- the entries of a list that pass a test, in their order
unfoldable pub keep : {A : Type 0} → (A → Bool) → List A → List A
keep f [] = []
keep f (x ∷ xs) = cond (f x) (x ∷ keep f xs) (keep f xs)

-- whether some entry passes a test
unfoldable pub some_of : {A : Type 0} → (A → Bool) → List A → Bool
some_of f [] = false
some_of f (x ∷ xs) = f x || some_of f xs

abbrev pub link : Side → (node : ℕ) → Link
link side node = record { from = node; side = side }

abbrev pub links_at : (node : ℕ) → List Link
links_at node = link north node ∷ link west node ∷ link east node ∷ link south node ∷ []

-- RULES 16.1: the links of the mesh, by from and then to node
unfoldable pub links : List Link
links = keep in_mesh (flat_map links_at (table 64 (λ node. node)))

-- each number is above the one before it
unfoldable pub ascending : List ℕ → Bool
ascending [] = true
ascending (a ∷ []) = true
ascending (a ∷ b ∷ rest) = ltb a b && ascending (b ∷ rest)
