-- One tile that is asked for, and what is read of the two states then. Assumes nothing.
use Prim.Native.Nat.{ℕ, ◌-◌}
use mathlib.Core.Path.{◌≡◌, refl, sym, ap, ◌∙◌}
use mathlib.Core.List.{List}
use mathlib.Core.Bool.{true, false, true≢false}
use lib.ListN.{get_or, set}
use borrow.Author.Tests.{eq-eqb}
use Rattle.model.specs.Word.{departure_of}
use Rattle.model.specs.Calls.{Grant, accepted, refused}
use Rattle.model.specs.Link as model
use Rattle.model.specs.Request.{request}
use Rattle.model.specs.Credit.{credit}
use Rattle.calls.specs.declared.Answer.TheVariants.{Granted, Refused}
use Rattle.calls.specs.Reading.{answer_to_request}
use Rattle.window.specs.declared.Window.{Window}
use Rattle.link.specs.declared.request.Reply.{Reply}
use Rattle.link.specs.Steps.{read_in, Went, number_of, reply_of, request_answer}
use Rattle.link.proofs.Told.{request-told}
use Rattle.link.proofs.Stays.{request-current, credit-current, still-in}
use Rattle.crossings.specs.Crossing as reference
use Rattle.crossing.specs.declared.Crossing.{Crossing}
use Rattle.crossing.specs.Reading.{BoardIn, Reads, is_granted, PassedOne}

granted-refused : {v n : ℕ} → Granted v ≡ Refused n → false ≡ true
granted-refused e = cc

module _ {x : Crossing} {w : Window} {a b : List ℕ} (o : BoardIn x w a b) (i j : ℕ) where
  abbrev link : model.Link
  link = read_in x.leaving b

  abbrev word : ℕ
  word = reference.asking link j

  module _ {b' : List ℕ} {r : Reply} (went : Went reply_of (request link word) x.leaving b' r) where
    pub asked-in-step : BoardIn x w a b'
    asked-in-step = record { arriving = o.arriving; leaving = still-in o.leaving went (request-current _ _) }

    -- the number tells the answer
    not_granted : (g : Grant) → (request link word).answer ≡ g → (r.number ≡ 0 → ⊥) → is_granted g ≡ false
    not_granted (accepted v) e nonzero = absurd (nonzero (ap (λ (y : Reply). y.number) (went.answer_is ∙ ap reply_of e)))
    not_granted (refused n) e nonzero = refl

    is-granted : (g : Grant) → (request link word).answer ≡ g → r.number ≡ 0 → is_granted g ≡ true
    is-granted (accepted v) e zero = refl
    is-granted (refused n) e zero = granted-refused (rw (eq-eqb r.number 0 zero) at told)
      where
        told : request_answer word r ≡ answer_to_request (refused n)
        told = (request-told o.leaving.sound word went).answer_is ∙ ap answer_to_request e

    module _ {p : reference.Crossing} {k : List ℕ} (reads : Reads p x a b k) where
      answer_is : reference.answer_for j p ≡ (request link word).answer
      answer_is = ap (λ (l : model.Link). (request l (reference.asking l j)).answer) reads.leaving_is

      reads-asked : Reads (reference.asked_for j p) x a b' k
      reads-asked = record {
        arriving_is = reads.arriving_is;
        leaving_is = ap (λ (l : model.Link). (request l (reference.asking l j)).link) reads.leaving_is ∙ sym went.link_is;
        onward_is = reads.onward_is;
        waiting_is = reads.waiting_is;
      }

      -- refused: it waits on
      reads-refused : (g : Grant) → is_granted g ≡ false → Reads (reference.on_grant i g (λ q. q) (reference.asked_for j p)) x a b' k
      reads-refused (accepted v) e = absurd (true≢false e)
      reads-refused (refused n) e = reads-asked

      pub refused-one : (r.number ≡ 0 → ⊥) → PassedOne x i j p a b' k false
      refused-one nonzero =
          let none = not_granted (reference.answer_for j p) (sym answer_is) nonzero in
          record { reads = reads-refused (reference.answer_for j p) none; granted_is = sym none }

      -- granted: its cell is credited
      module _ {a' : List ℕ} {n : ℕ} (credited : Went number_of (credit (read_in x.arriving a) i r.position) x.arriving a' n) where
        reads-granted : (g : Grant) → reference.answer_for j p ≡ g → is_granted g ≡ true
            → Reads (reference.on_grant i g (λ q. q) (reference.asked_for j p)) x a' b' (set k i (get_or k i 0 - 1))
        reads-granted (accepted v) e is =
            let at : r.position ≡ departure_of v = ap (λ (y : Reply). y.position) (went.answer_is ∙ ap reply_of (sym answer_is ∙ e)) in
            record {
              arriving_is = (λ m. (credit (reads.arriving_is m) i (sym at m)).link) ∙ sym credited.link_is;
              leaving_is = reads-asked.leaving_is;
              onward_is = reads.onward_is;
              waiting_is = ap (λ (ks : List ℕ). set ks i (get_or ks i 0 - 1)) reads.waiting_is;
            }
        reads-granted (refused m) e is = absurd (true≢false (sym is))

        pub granted-one : {fewer : ℕ} → fewer ≡ get_or k i 0 - 1 → r.number ≡ 0 → PassedOne x i j p a' b' (set k i fewer) true
        granted-one e zero =
            let some = is-granted (reference.answer_for j p) (sym answer_is) zero in
            rw e (record { reads = reads-granted (reference.answer_for j p) refl some; granted_is = sym some })

    pub credited-in-step : {a' : List ℕ} {n : ℕ} (q : ℕ) → Went number_of (credit (read_in x.arriving a) i q) x.arriving a' n → BoardIn x w a' b'
    credited-in-step q credited = record { arriving = still-in o.arriving credited (credit-current _ _ _); leaving = asked-in-step.leaving }
