-- A request leaves a link that meets the conditions. Assumes nothing.
use Prim.Native.Nat.{ℕ}
use Rattle.model.specs.Link.{Link}
use Rattle.model.specs.Request.{request}
use Rattle.imagemodel.specs.Consistent.{Keepable}
use Rattle.imagemodel.proofs.BySlots.{at-current, kept_at}
use Rattle.imagemodel.proofs.RequestLeaves.{RequestLeaves, unchanged, moved, booked, request-leaves}
use Rattle.imagemodel.proofs.WalkKept.{moved_at}
use Rattle.imagemodel.proofs.BookingKept.{booked-at}

left-kept : {l k : Link} → Keepable l → RequestLeaves l k → Keepable k
left-kept v unchanged = v
left-kept v (moved i j c known w) = kept_at (moved_at (at-current v) known j c w)
left-kept v (booked i j c p known w free) = kept_at (booked-at (at-current v) known j c p w free)

pub request-kept : {l : Link} → Keepable l → (word : ℕ) → Keepable (request l word).link
request-kept v word = left-kept v (request-leaves v word)
