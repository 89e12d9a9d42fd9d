-- A call that is no tick leaves the current position, and so the window of a state. Assumes nothing.
use Prim.Native.Nat.{ℕ, zero, suc}
use mathlib.Core.Path.{◌≡◌, refl, sym, ap, ◌∙◌}
use mathlib.Core.List.{List}
use mathlib.Core.Option.{Option, some, none}
use Rattle.model.specs.Link as model
use Rattle.model.specs.Refusals.{first_of}
use Rattle.model.specs.Word.{flow_of, departure_of}
use Rattle.model.specs.Request.{Found, found, nowhere, request_tests, sought, booked, refused_at_newest, answered, request_after, request}
use Rattle.model.specs.Credit.{credit_tests, lowered, credit_after, credit}
use Rattle.model.specs.Lend.{lend, lend_after, lent_after, lent_to, lend_tests, first_in_turn}
use Rattle.model.specs.Reset.{reset, reset_after, reset_link, reset_tests}
use Rattle.plan.specs.declared.Plan.{Plan}
use Rattle.window.specs.declared.Window.{Window}
use Rattle.link.specs.Given.{StateIn}
use Rattle.link.specs.Reading.{link_of}
use Rattle.link.specs.Steps.{read_in, Went}

pub request-current : (l : model.Link) (x : ℕ) → (request l x).link.current ≡ l.current
unfolding request request_after answered booked refused_at_newest
request-current l x = go (first_of (request_tests l.plan (model.flow l (flow_of x)).number x))
  where
    searched : (f : Found) → (answered l x f).link.current ≡ l.current
    searched (found j c p) = refl
    searched (nowhere c) = refl

    go : (n : ℕ) → (request_after n l x).link.current ≡ l.current
    go zero = searched (sought l (flow_of x) (departure_of x))
    go (suc n) = refl

pub credit-current : (l : model.Link) (i p : ℕ) → (credit l i p).link.current ≡ l.current
unfolding credit credit_after lowered
credit-current l i p = go (first_of (credit_tests l i p))
  where
    go : (n : ℕ) → (credit_after n l i p).link.current ≡ l.current
    go zero = refl
    go (suc n) = refl

pub lend-current : (l : model.Link) (mask : ℕ) → (lend l mask).link.current ≡ l.current
unfolding lend lend_after lent_after lent_to
lend-current l mask = go (first_of (lend_tests l mask))
  where
    found : (k : Option ℕ) → (lent_after l k).link.current ≡ l.current
    found (some k) = refl
    found none = refl

    go : (n : ℕ) → (lend_after n l mask).link.current ≡ l.current
    go zero = found (first_in_turn l mask)
    go (suc n) = refl

pub reset-current : (l : model.Link) → (reset l).link.current ≡ l.current
unfolding reset reset_after reset_link
reset-current l = go (first_of (reset_tests l))
  where
    go : (n : ℕ) → (reset_after n l).link.current ≡ l.current
    go zero = refl
    go (suc n) = refl

-- the window is that of the next state too
pub still-in : {p : Plan} {w : Window} {s t : List ℕ} → StateIn p w s → {A B : Type 0} {to_answer : A → B} {m : model.Step A} {a : B}
    → Went to_answer m p t a → m.link.current ≡ (read_in p s).current → StateIn p w t
unfolding link_of
still-in {p} o v e =
    let same = sym (ap (λ (l : model.Link). l.current) v.link_is ∙ e) in
    record {
      sound = v.sound;
      proper = o.proper;
      window_is = o.window_is ∙ (λ k. record { slots = p.slots; frames = p.frames; current = same k });
    }
