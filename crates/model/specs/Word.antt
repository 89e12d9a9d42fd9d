-- The look-ahead word. RULES 5.1. Assumes nothing.
use Rattle.std.specs.Prelude.{ℕ, ◌+◌, ◌-◌, ◌*◌, ◌/◌, ◌%◌, ◌^◌, Bool, ◌&&◌, ltb}

-- RULES 5.1: the four parts of a word
pub record Fields : Type 0 where
  pub destination : ℕ
  pub flow : ℕ
  pub quantum : ℕ
  pub departure : ℕ

-- bits `high` to `low` of a number
abbrev pub bits : ℕ → ℕ → ℕ → ℕ
bits high low w = w / 2 ^ low % 2 ^ (high + 1 - low)

-- RULES 5.1: the bits of each part
abbrev pub destination_of : ℕ → ℕ
destination_of w = bits 31 26 w

abbrev pub flow_of : ℕ → ℕ
flow_of w = bits 25 20 w

abbrev pub quantum_of : ℕ → ℕ
quantum_of w = bits 19 10 w

abbrev pub departure_of : ℕ → ℕ
departure_of w = bits 9 0 w

-- RULES 5.3: how many quantum numbers there are
abbrev pub quantum_numbers : ℕ
quantum_numbers = 1024

-- RULES 5.1: a word's parts, and the word of four parts
abbrev pub split : ℕ → Fields
split w = record { destination = destination_of w; flow = flow_of w; quantum = quantum_of w; departure = departure_of w }

abbrev pub join : Fields → ℕ
join f = f.destination * 2 ^ 26 + f.flow * 2 ^ 20 + f.quantum * 2 ^ 10 + f.departure

-- RULES 5.1: the parts fit their 6, 6, 10 and 10 bits
unfoldable pub fits : Fields → Bool
fits f = ltb f.destination (2 ^ 6) && ltb f.flow (2 ^ 6) && ltb f.quantum (2 ^ 10) && ltb f.departure (2 ^ 10)

-- the same fields but for the departure
abbrev pub departing : Fields → ℕ → Fields
departing f p = record { destination = f.destination; flow = f.flow; quantum = f.quantum; departure = p }

-- RULES 6.5: the granted word, which differs from the asked one in the departure alone
abbrev pub depart : ℕ → ℕ → ℕ
depart w p = join (departing (split w) p)
