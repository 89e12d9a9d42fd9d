-- The exported calls on the image of a link: the call on the link itself, with its answer. RULES 12.4. Assumes nothing.
use Prim.Native.Nat.{ℕ, suc, ◌≤◌}
use mathlib.Core.Path.{◌≡◌, refl, sym, ap, ◌∙◌, subst}
use mathlib.Core.List.{List, ◌∷◌, [], ◌++◌}
use native.Mathlib.Omega.{arith}
use lib.ListN.{length, take, drop, length-append, length-drop, take-append-drop}
use lib.Seq.{take_at, drop_at}
use Rattle.model.specs.WrittenPlan.{AllBytes}
use Rattle.model.specs.Calls.{Call, Event, requested, credited, lent, ticked}
use Rattle.model.specs.Link.{Link}
use Rattle.model.specs.Scheduler.{Played, reference, step}
use Rattle.imagemodel.specs.Image.{image_length, image_of, header_field, link_in}
use Rattle.imagemodel.specs.Consistent.{Keepable}
use Rattle.imagemodel.specs.ValidImage.{refusal_of, ValidImage}
use Rattle.imagemodel.specs.Exports.{Called, refusal_number, on_link, written_to, handed_back, called_on}
use Rattle.imagemodel.specs.Chain.{event_of, image_in}
use Rattle.imagemodel.proofs.Closed.{KeptAfter, call_kept}
use Rattle.imagemodel.proofs.RequestLeaves.{request-proper}
use Rattle.imagemodel.proofs.ReadBack.{image-length, header-stands, read-link}
use Rattle.imagemodel.proofs.ImageValid.{image-valid, read_kept}
use Rattle.imagemodel.proofs.ValidImage.{valid-image}
use Rattle.imagemodel.proofs.WrittenAgain.{image-again}
use Rattle.imagemodel.proofs.Answers.{answer-read, tick-answer-read, credit-proper, tick-known, lend-proper, reset-proper}

-- ---- 21 and 22: the buffer comes back as it came

pub turned_back : (b : List ℕ) (r : ℕ) → refusal_of b ≡ suc r → (c : Call) → called_on b c ≡ record { buffer = b; result = refusal_number (suc r) }
unfolding called_on handed_back
turned_back b r e c = ap (λ q. handed_back q b (on_link (link_in b) c)) e

-- ---- a call on a link, and the reference scheduler

module _ (r : Played reference) where
  link_is : (c : Call) → (on_link r.state c).link ≡ (step reference r c).state
  link_is (Call.request w) = refl
  link_is (Call.credit i p) = refl
  link_is Call.tick = refl
  link_is (Call.lend mask) = refl
  link_is Call.reset = refl

  -- the number tells the event
  history_is : Keepable r.state → (c : Call) → event_of c (on_link r.state c).number ∷ r.history ≡ (step reference r c).history
  history_is v (Call.request w) =
      ap (λ a. requested w a ∷ r.history) (answer-read (λ x. x) (λ x. x) (λ x. refl) _ (request-proper v w))
  history_is v (Call.credit i p) =
      ap (λ a. credited i p a ∷ r.history) (answer-read (λ _. 0) (λ _. tt) (λ x. refl) _ (credit-proper r.state i p))
  history_is v Call.tick = ap (λ x. ticked x ∷ r.history) (tick-answer-read _ v.accepted.flows_most _ (tick-known v))
  history_is v (Call.lend mask) =
      ap (λ a. lent mask a ∷ r.history) (answer-read (λ x. x) (λ x. x) (λ x. refl) _ (lend-proper v mask))
  history_is v Call.reset = ap (λ a. Event.reset a ∷ r.history) (answer-read (λ _. 0) (λ _. tt) (λ x. refl) _ (reset-proper r.state))

-- the link that is left meets the conditions
pub done-kept : {l : Link} → Keepable l → (c : Call) → KeptAfter l (on_link l c).link
done-kept {l} v c =
    let r : Played reference = record { state = l; history = [] } in
    subst (KeptAfter l) (sym (link_is r c)) (call_kept r v c)

-- ---- on the image of a link, with any bytes past it

module _ {l : Link} (v : Keepable l) (rest : List ℕ) where
  abbrev b : List ℕ
  b = image_of l ++ rest

  pub image-in : image_in b ≡ image_of l
  image-in =
      let total = (header-stands v rest).number 0 (omega arith) in
      ap (λ n. take n b) total ∙ take_at (image_of l) rest (image_length l.plan) (image-length v)

  pub on-image : (c : Call) → called_on b c ≡ record { buffer = image_of (on_link l c).link ++ rest; result = (on_link l c).number }
  unfolding called_on handed_back
  on-image c =
      ap (λ r. handed_back r b (on_link (link_in b) c)) ((valid-image b).1 (image-valid v rest))
      ∙ ap (λ x. handed_back 0 b (on_link x c)) (read-link v rest)
      ∙ ap (λ x. record { buffer = x; result = (on_link l c).number }) written
    where
      k : Link
      k = (on_link l c).link

      written : written_to b k ≡ image_of k ++ rest
      written =
          ap (λ P. image_of k ++ drop (image_length P) b) (done-kept v c).same_plan
          ∙ ap (image_of k ++◌) (drop_at (image_of l) rest (image_length l.plan) (image-length v))

module _ (r : Played reference) (v : Keepable r.state) (rest : List ℕ) where
  -- the exported call leaves the image of the link that the call hands back, and its number tells the call's event
  pub record CalledAs (c : Call) (x : Called) : Type 0 where
    pub buffer_is : x.buffer ≡ image_of (step reference r c).state ++ rest
    pub history_is : event_of c x.result ∷ r.history ≡ (step reference r c).history

  pub called-as : (c : Call) → CalledAs c (called_on (image_of r.state ++ rest) c)
  called-as c = record {
    buffer_is = ap (λ x. x.buffer) (on-image v rest c) ∙ ap (λ k. image_of k ++ rest) (link_is r c);
    history_is = ap (λ x. event_of c x.result ∷ r.history) (on-image v rest c) ∙ history_is r v c;
  }

-- ---- on any image that is taken

module _ {b : List ℕ} (t : ValidImage b) where
  total_is : header_field b 0 ≡ image_length (link_in b).plan
  unfolding link_in
  total_is = t.total_is

  -- what is left is an image that is taken, in as many bytes
  pub record ValidAgain (x : Called) : Type 0 where
    pub valid_again : ValidImage x.buffer
    pub as_long : length x.buffer ≡ length b

  pub called-valid : (c : Call) → ValidAgain (called_on b c)
  unfolding called_on handed_back
  called-valid c =
      subst (λ r. ValidAgain (handed_back r b (on_link (link_in b) c))) (sym ((valid-image b).1 t)) (record {
        valid_again = image-valid after.kept (drop size b);
        as_long = omega (arith, length-append (image_of k) (drop size b), length-drop size b, image-length after.kept, fits);
      })
    where
      k : Link
      k = (on_link (link_in b) c).link

      after : KeptAfter (link_in b) k
      after = done-kept (read_kept b t) c

      size : ℕ
      size = image_length k.plan

      fits : size ≤ length b
      fits = omega (arith, ap image_length after.same_plan, total_is, t.image_there)

  -- a call that leaves the link as it was leaves the buffer as it was
  pub same-buffer : AllBytes b → written_to b (link_in b) ≡ b
  same-buffer bytes =
      ap (◌++ drop (image_length (link_in b).plan) b) (image-again t bytes)
      ∙ ap (λ n. image_in b ++ drop n b) (sym total_is)
      ∙ take-append-drop (header_field b 0) b
