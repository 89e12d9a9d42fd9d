-- The crate's types read as the model's: a word's fields, and what fields join to. Assumes nothing.
use Rattle.std.specs.Prelude.{ℕ, Option, Some, None, cond}
use Rattle.word.specs.declared.Fields.{Fields}
use Rattle.model.specs.Word as model

abbrev pub fields_of : Fields → model.Fields
fields_of f = record { destination = f.destination; flow = f.flow; quantum = f.quantum; departure = f.departure }

-- the word, where each field fits its width
unfoldable pub joined_of : model.Fields → Option ℕ
joined_of f = cond (model.fits f) (Some (model.join f)) None
