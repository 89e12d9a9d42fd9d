-- The code's refusals, by their numbers. Assumes nothing.
use Prim.Native.Nat.{ℕ}
use mathlib.Core.Path.{◌≡◌}
use native.Mathlib.Omega.{arith}
use Rattle.std.specs.Prelude.{Result, Ok, Err}
use Rattle.std.specs.Result.{IsErrAnd}
use Rattle.limits.specs.declared.refusal.Refusal as limits
use Rattle.limits.specs.Refusals.{number}
use Rattle.mesh.specs.declared.Refusal as mesh
use Rattle.mesh.specs.Refusals as mesh-numbers
use Rattle.show.specs.declared.Refusal.{Refusal}
use Rattle.limits.proofs.Refusals.{some-number}
use Rattle.show.specs.Refusals as show-numbers
use Rattle.show.specs.Refusals.{refusal_number, ComesOf}

pub some-mesh-number : (r : mesh.Refusal) → mesh-numbers.number r ≡ 0 → ⊥
some-mesh-number mesh.Refusal.Frame e = absurd (omega arith)
some-mesh-number mesh.Refusal.Stream e = absurd (omega arith)
some-mesh-number mesh.Refusal.Mesh e = absurd (omega arith)

-- what `?` passes on of the mesh, and of a link
pub of-mesh : (x : Result (Unit {0}) Refusal) (r : mesh.Refusal) → IsErrAnd x (λ s. s ≡ Refusal.Mesh r) → refusal_number x ≡ mesh-numbers.number r
of-mesh (Ok done) r h = absurd h
of-mesh (Err s) r h = rw h

pub of-link : (x : Result (Unit {0}) Refusal) (r : limits.Refusal) → IsErrAnd x (λ s. s ≡ Refusal.Link r) → refusal_number x ≡ number r
of-link (Ok done) r h = absurd h
of-link (Err s) r h = rw h

pub comes-of-mesh : (n : ℕ) (x : Result (Unit {0}) Refusal) (r : mesh.Refusal) → IsErrAnd x (λ s. s ≡ Refusal.Mesh r) → n ≡ mesh-numbers.number r → ComesOf n x
comes-of-mesh n (Ok done) r h e = absurd h
comes-of-mesh n (Err s) r h e = rw h e

pub comes-of-link : (n : ℕ) (x : Result (Unit {0}) Refusal) (r : limits.Refusal) → IsErrAnd x (λ s. s ≡ Refusal.Link r) → n ≡ 0 → ComesOf n x
comes-of-link n (Ok done) r h e = absurd h
comes-of-link n (Err s) r h e = rw h e

pub some-refusal : (r : Refusal) → show-numbers.number r ≡ 0 → ⊥
some-refusal (Refusal.Mesh r) e = some-mesh-number r e
some-refusal (Refusal.Link r) e = omega (arith, some-number r)
