-- A list of events that goes on, and what it was at the end of a slot. Assumes nothing.
use Prim.Native.Nat.{ℕ, suc, ◌≤◌, ◌<◌}
use mathlib.Core.Path.{◌≡◌, refl, sym, ◌∙◌}
use mathlib.Core.List.{◌∷◌, []}
use mathlib.Core.Bool.{Bool, true, false, cond}
use native.Mathlib.Decide.{dec_le}
use native.Mathlib.Omega.{arith}
use lib.Dec.{leb}
use borrow.Author.Tests.{le-leb, lt-leb}
use Rattle.model.specs.Tables.{tally}
use Rattle.model.specs.Calls.{TickAnswer, Event, History, requested, credited, ticked, lent}
use Rattle.model.specs.History.{ticks, is_granted_reset, lend_at, lends, of_flow}
use Rattle.model.specs.Claim.{Each}
use Rattle.model.proofs.Tallies.{tally-append}
use Rattle.arrival.specs.SeveralLinks.{Alone}

-- ---- events more

-- h' goes on from h
pub data GoesOn (h : History) : History → Type 0 where
  here : GoesOn h h
  one_more : {h' : History} (e : Event) → GoesOn h h' → GoesOn h (e ∷ h')

-- by one tick first, and by none after it
pub data SinceTick (h : History) : History → Type 0 where
  at_tick : (x : TickAnswer) → SinceTick h (ticked x ∷ h)
  after_tick : {h' : History} (e : Event) → Alone e → SinceTick h h' → SinceTick h (e ∷ h')

pub ticks-alone : (e : Event) → Alone e → (h : History) → ticks (e ∷ h) ≡ ticks h
unfolding ticks
ticks-alone (requested w a) alone h = refl
ticks-alone (credited k p a) alone h = refl
ticks-alone (ticked x) alone h = absurd alone
ticks-alone (lent m a) alone h = refl
ticks-alone (Event.reset a) alone h = refl

pub ticks-more : (e : Event) (h : History) → ticks h ≤ ticks (e ∷ h)
unfolding ticks
ticks-more (requested w a) h = omega arith
ticks-more (credited k p a) h = omega arith
ticks-more (ticked x) h = omega arith
ticks-more (lent m a) h = omega arith
ticks-more (Event.reset a) h = omega arith

pub since-ticks : {h h' : History} → SinceTick h h' → ticks h' ≡ suc (ticks h)
unfolding ticks
since-ticks (at_tick x) = refl
since-ticks (after_tick {h'} e alone s) = ticks-alone e alone h' ∙ since-ticks s

pub goes-ticks : {h h' : History} → GoesOn h h' → ticks h ≤ ticks h'
goes-ticks here = omega arith
goes-ticks (one_more {h'} e g) = omega (arith, goes-ticks g, ticks-more e h')

pub since-goes : {h h' : History} → SinceTick h h' → GoesOn h h'
since-goes (at_tick x) = one_more (ticked x) here
since-goes (after_tick e alone s) = one_more e (since-goes s)

pub goes_then : {h h' h'' : History} → GoesOn h h' → GoesOn h' h'' → GoesOn h h''
goes_then g here = g
goes_then g (one_more e more) = one_more e (goes_then g more)

-- ---- what held of the whole holds of its beginnings

pub each-before : (R : Event → History → Type 0) {h h' : History} → GoesOn h h' → Each R h' → Each R h
each-before R here each = each
each-before R (one_more e g) each = each-before R g each.1

pub no-reset-before : {h h' : History} → GoesOn h h' → tally is_granted_reset h' ≡ 0 → tally is_granted_reset h ≡ 0
unfolding tally
no-reset-before here none = none
no-reset-before (one_more e g) none = no-reset-before g (omega arith)

pub not-lent-before : (i : ℕ) {h h' : History} → GoesOn h h' → tally (of_flow i) (lends h') ≡ 0 → tally (of_flow i) (lends h) ≡ 0
unfolding lends
not-lent-before i here none = none
not-lent-before i (one_more {h'} e g) none =
    not-lent-before i g (omega (arith, tally-append (of_flow i) (lend_at e h') (lends h')))

-- ---- the end of slot n

-- the events before the tick after slot n
unfoldable pub cut : ℕ → History → History
cut n [] = []
cut n (e ∷ h) = cond (leb (ticks (e ∷ h)) n) (e ∷ h) (cut n h)

pub cut_all : (n : ℕ) (h : History) → ticks h ≤ n → cut n h ≡ h
unfolding cut
cut_all n [] le = refl
cut_all n (e ∷ h) le = rw (le-leb (ticks (e ∷ h)) n le)

cut-past : (n : ℕ) (e : Event) (h : History) → n < ticks (e ∷ h) → cut n (e ∷ h) ≡ cut n h
unfolding cut
cut-past n e h lt = rw (lt-leb (ticks (e ∷ h)) n lt)

cut-since : (n : ℕ) {h h' : History} → SinceTick h h' → ticks h ≡ n → cut n h' ≡ h
cut-since n {h} (at_tick x) now =
    let s : SinceTick h (ticked x ∷ h) = at_tick x in
    cut-past n (ticked x) h (omega (arith, since-ticks s)) ∙ cut_all n h (omega arith)
cut-since n {h} (after_tick {h'} e alone s) now =
    cut-past n e h' (omega (arith, ticks-alone e alone h', since-ticks s)) ∙ cut-since n s now

pub cut-slot : (n : ℕ) {h g h' : History} → SinceTick h g → GoesOn g h' → ticks h ≡ n → cut n h' ≡ h
cut-slot n s here now = cut-since n s now
cut-slot n s (one_more {h'} e more) now =
    cut-past n e h' (omega (arith, ticks-more e h', goes-ticks more, since-ticks s)) ∙ cut-slot n s more now

-- it is a beginning
pub cut-before : (n : ℕ) (h : History) → GoesOn (cut n h) h
unfolding cut
cut-before n [] = here
cut-before n (e ∷ h) = go (leb (ticks (e ∷ h)) n) (cut-before n h)
  where
    go : (b : Bool) → GoesOn (cut n h) h → GoesOn (cond b (e ∷ h) (cut n h)) (e ∷ h)
    go true rest = here
    go false rest = one_more e rest

-- and so of the one a slot later
pub cut-next : (n : ℕ) (h : History) → GoesOn (cut n h) (cut (suc n) h)
unfolding cut
cut-next n [] = here
cut-next n (e ∷ h) = go (dec_le (ticks (e ∷ h)) n) (leb (ticks (e ∷ h)) (suc n)) refl (cut-next n h)
  where
    go : Dec (ticks (e ∷ h) ≤ n) → (b : Bool) → leb (ticks (e ∷ h)) (suc n) ≡ b → GoesOn (cut n h) (cut (suc n) h)
        → GoesOn (cond (leb (ticks (e ∷ h)) n) (e ∷ h) (cut n h)) (cond b (e ∷ h) (cut (suc n) h))
    go (yes le) b same rest = rw (le-leb (ticks (e ∷ h)) n le, sym same ∙ le-leb (ticks (e ∷ h)) (suc n) (omega arith)) here
    go (no past) true same rest = rw (lt-leb (ticks (e ∷ h)) n (omega arith)) (one_more e (cut-before n h))
    go (no past) false same rest = rw (lt-leb (ticks (e ∷ h)) n (omega arith)) rest
