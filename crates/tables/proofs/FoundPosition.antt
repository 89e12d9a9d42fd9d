-- What a search finds: a position of a frame that passes the test. Assumes nothing.
use Prim.Native.Nat.{ℕ, zero, suc, ◌+◌, ◌*◌, ◌≤◌, ◌<◌}
use mathlib.Core.Path.{◌≡◌, refl}
use mathlib.Core.Option.{Option, some, none}
use mathlib.Core.Bool.{Bool, true}
use native.Mathlib.Nat.{mod-lt}
use native.Mathlib.Omega.{arith}
use Rattle.model.specs.Window as model
use Rattle.model.specs.Request.{Found, found, nowhere, earliest, or_else, search}
use Rattle.model.proofs.Tables.{first_from-some}
use Rattle.window.proofs.Windows.{frame-fits}

pub record Booking (w : model.Window) (ok : ℕ → Bool) (j p : ℕ) : Type 0 where
  pub frame : j < w.frames
  pub low : j * w.slots ≤ p
  pub high : p < j * w.slots + w.slots
  pub position : p < model.size w
  pub passes : ok p ≡ true

abbrev pub Books : (w : model.Window) (ok : ℕ → Bool) → Found → Type 0
Books w ok (found j c p) = Booking w ok j p
Books w ok (nowhere c) = Unit {0}

module _ (w : model.Window) (two : 2 ≤ w.frames) (ok : ℕ → Bool) (share : ℕ) where
  frame-books : (j c : ℕ) (rest : Found) → j < w.frames → Books w ok rest → Books w ok (or_else j c (earliest w ok share j) rest)
  frame-books j c rest h b = go (earliest w ok share j) refl
    where
      go : (o : Option ℕ) → earliest w ok share j ≡ o → Books w ok (or_else j c o rest)
      go (some p) e =
          let hit = first_from-some w.slots (j * w.slots) ok p e in
          record {
            frame = h;
            low = hit.low;
            high = hit.high;
            position = omega (arith, hit.high, frame-fits w.slots w.frames j h);
            passes = hit.passes;
          }
      go none e = b

  pub search-books : (more j c : ℕ) → j < w.frames → Books w ok (search w ok share more j c)
  unfolding search
  search-books zero j zero h = tt
  search-books zero j (suc c) h = frame-books j c (nowhere (suc c)) h tt
  search-books (suc more) j zero h = search-books more (model.next w j) share (mod-lt _ (omega arith))
  search-books (suc more) j (suc c) h =
      frame-books j c (search w ok share more (model.next w j) share) h (search-books more (model.next w j) share (mod-lt _ (omega arith)))
