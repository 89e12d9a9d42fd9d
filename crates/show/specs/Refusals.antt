-- The numbers of the refusals of shows. RULES 25.3. Assumes nothing.
use Rattle.std.specs.Prelude.{ℕ, ◌≡◌, Result, Ok, Err}
use Rattle.limits.specs.Refusals as link
use Rattle.mesh.specs.Refusals as mesh
use Rattle.show.specs.declared.Refusal.{Refusal}

-- the number of each
abbrev pub number : Refusal → ℕ
number (Refusal.Mesh r) = mesh.number r
number (Refusal.Link r) = link.number r

-- 0 where nothing is refused
abbrev pub refusal_number : Result (Unit {0}) Refusal → ℕ
refusal_number (Ok done) = 0
refusal_number (Err r) = number r

-- RULES 25.3: a refusal is the mesh's where the mesh refuses, whose number this is, and else a link's
abbrev pub ComesOf : ℕ → Result (Unit {0}) Refusal → Type 0
ComesOf n (Ok done) = n ≡ 0
ComesOf n (Err (Refusal.Mesh r)) = n ≡ mesh.number r
ComesOf n (Err (Refusal.Link r)) = n ≡ 0
