-- The owner of each position as it is stored, the words of unbooked slots, and one value everywhere. Assumes nothing.
use Rattle.std.specs.Prelude.{ℕ, List, Bool, not, ◌||◌, cond, get_or, replicate, eqb}
use Rattle.std.proofs.Math.Option.{Option, some, none}
use Rattle.model.specs.Tables.{every}
use Rattle.model.specs.Window as model
use Rattle.model.specs.Request.{unbooked}
use Rattle.window.specs.declared.Window.{Window}
use Rattle.window.specs.Ranges.{replaced}
use Rattle.window.specs.Window.{head_range}
use Rattle.unbooked.specs.Words.{Words}

-- the owner of a position that nobody booked
abbrev pub nobody : ℕ
nobody = 16

abbrev pub owner_of : ℕ → Option ℕ
owner_of x = cond (eqb x nobody) none (some x)

-- nobody booked position p
abbrev pub unbooked_at : List ℕ → ℕ → Bool
unbooked_at owners p = unbooked (owner_of (get_or owners p 0))

-- nobody booked a position later than CP
unfoldable pub none_later : model.Window → (owners : List ℕ) → Bool
none_later w owners = every (model.size w) (λ q. not (model.later w q w.current) || unbooked_at owners q)

-- the words of W frames of F slots by these owners: bit i of word j is 1 exactly when there is such a slot and nobody booked its position
abbrev pub WordsOf : (F W : ℕ) (owners words : List ℕ) → Type 0
WordsOf F W owners words = Words F W (unbooked_at owners) words

-- one value at each of 256 positions
unfoldable pub everywhere : ℕ → List ℕ
everywhere v = replicate 256 v

-- nobody owns a position of the head frame
abbrev pub emptied : Window → List ℕ → List ℕ
emptied w owners = replaced (head_range w) (λ q x. nobody) owners
