-- What the search of a request comes to, from what the model's search does. Assumes nothing.
use Rattle.std.specs.Prelude.{ℕ, Bool, Result, Ok, Err}
use Rattle.model.specs.Refusals.{first_of}
use Rattle.model.specs.Link as model
use Rattle.model.specs.Request.{Found, found, nowhere, newest_tests, would_be_valid, sought}
use Rattle.tables.specs.declared.Place.{Place}
use Rattle.link.specs.declared.request.Missed.{Missed}

-- `would` says whether the newest frame has a position that only the departure rules out
abbrev pub sought_with : (would : Bool) → Found → Result Place Missed
sought_with would (found j c p) = Ok (record { frame = j; left = c; position = p })
sought_with would (nowhere c) = Err (record { left = c; number = first_of (newest_tests would c) })

-- for flow i with departure d
abbrev pub sought_in : model.Link → (i d : ℕ) → Result Place Missed
sought_in l i d = sought_with (would_be_valid l i) (sought l i d)
