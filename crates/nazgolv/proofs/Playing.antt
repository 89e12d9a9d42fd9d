-- What holds between the records of a play: those before a place are played, and with those from there on they come to all. Assumes nothing.
use Prim.Native.Nat.{ℕ, ◌+◌, ◌*◌, ◌≤◌, ◌<◌}
use mathlib.Core.Path.{◌≡◌, refl, sym, ap, ◌∙◌}
use mathlib.Core.List.{List, ◌∷◌, [], ◌++◌, flat_map, append-nil, append_assoc}
use native.Mathlib.Omega.{arith}
use lib.ListN.{length, take, drop, length-append, length-drop, drop_of_length-le}
use lib.Seq.{sets, length-sets, drop-drop}
use Rattle.model.specs.Record.{records}
use Rattle.plan.specs.declared.Plan.{Plan}
use Rattle.window.specs.declared.Window.{Window}
use Rattle.calls.specs.Lines.{Puts}
use Rattle.calls.proofs.Stores.{sets-append}
use Rattle.link.specs.Given.{StateIn}
use Rattle.link.specs.Steps.{read_in}
use Rattle.imagemodel.specs.Image.{fields}
use Rattle.imagemodel.specs.Play.{call_of, eight, made_on, DoneAll, in_order}
use Rattle.imagemodel.proofs.Play.{records-count, first-record, eight-long, eight-more}
use Rattle.nazgolv.specs.Steps.{StepsTo, PlaysTo}

pub record SoFar (p : Plan) (s₀ stream out₀ : List ℕ) (w : Window) (at : ℕ) (s out : List ℕ) (end : ℕ) : Type 0 where
  pub numbers : List ℕ
  pub place : at ≡ 5 * length numbers
  pub end_is : end ≡ 8 * length numbers
  pub link_is : (in_order (read_in p s) (records (drop at stream))).link ≡ (in_order (read_in p s₀) (records stream)).link
  pub numbers_are : numbers ++ (in_order (read_in p s) (records (drop at stream))).numbers ≡ (in_order (read_in p s₀) (records stream)).numbers
  pub out_is : out ≡ sets out₀ 0 (flat_map eight numbers)
  pub hand : StateIn p w s

-- a number has eight bytes
eight-one : (x : ℕ) → length (eight x) ≡ 8
unfolding eight fields flat_map
eight-one x = refl

pub none_yet : {p : Plan} {s stream out : List ℕ} {w : Window} → StateIn p w s → SoFar p s stream out w 0 s out 0
unfolding flat_map
none_yet hand = record { numbers = []; place = refl; end_is = refl; link_is = refl; numbers_are = refl; out_is = refl; hand = hand }

module _ {p : Plan} {s₀ stream out₀ : List ℕ} {w : Window} {at : ℕ} {s out : List ℕ} {end : ℕ} (v : SoFar p s₀ stream out₀ w at s out end) where
  pub same_size : length out ≡ length out₀
  same_size = ap length v.out_is ∙ length-sets out₀ 0 (flat_map eight v.numbers)

  -- the next number has room
  pub room : 8 * length (records stream) ≤ length out₀ → at < length stream → end + 8 ≤ length out
  room long before = omega (arith, same_size, records-count stream, v.place, v.end_is)

  -- one record more
  module _ (before : at < length stream) where
    abbrev here : List ℕ
    here = take 5 (drop at stream)

    left : records (drop at stream) ≡ here ∷ records (drop (at + 5) stream)
    left = first-record (drop at stream) (omega (arith, length-drop at stream)) ∙ ap (λ x. here ∷ records x) (drop-drop 5 at stream)

    pub one_more : {w' : Window} {s' out' : List ℕ} {number end' : ℕ} → StepsTo (made_on (read_in p s) (call_of here)) p w' s' number
        → Puts (eight number) out out' end end' → SoFar p s₀ stream out₀ w' (at + 5) s' out' end'
    unfolding in_order
    one_more {s' = s'} {number = number} step put =
        let rest = records (drop (at + 5) stream) in
        let link-back = sym step.link_is in
        let number-back = sym step.number_is in
        let known : in_order (read_in p s) (records (drop at stream)) ≡ record {
          link = (in_order (read_in p s') rest).link;
          numbers = number ∷ (in_order (read_in p s') rest).numbers;
        } = ap (in_order (read_in p s)) left
        ∙ (λ k. record { link = (in_order (link-back k) rest).link; numbers = number-back k ∷ (in_order (link-back k) rest).numbers }) in
        record {
          numbers = v.numbers ++ (number ∷ []);
          place = omega (arith, v.place, length-append v.numbers (number ∷ []));
          end_is = omega (arith, v.end_is, put.up_to, eight-one number, length-append v.numbers (number ∷ []));
          link_is = sym (ap (λ (d : DoneAll). d.link) known) ∙ v.link_is;
          numbers_are =
              append_assoc v.numbers (number ∷ []) (in_order (read_in p s') rest).numbers
              ∙ sym (ap (λ (d : DoneAll). v.numbers ++ d.numbers) known) ∙ v.numbers_are;
          out_is =
              put.stored ∙ (λ k. sets (v.out_is k) (end-at k) (eight number)) ∙ sets-append out₀ 0 (flat_map eight v.numbers) (eight number)
              ∙ ap (sets out₀ 0) (sym (eight-more v.numbers number));
          hand = step.hand;
        }
      where
        end-at : end ≡ 0 + length (flat_map eight v.numbers)
        end-at = omega (arith, v.end_is, eight-long v.numbers)

  -- all are played
  pub all_done : length stream ≤ at → PlaysTo (in_order (read_in p s₀) (records stream)) p s out₀ out
  unfolding in_order records
  all_done past =
      let nothing = drop_of_length-le stream past in
      let known : in_order (read_in p s) (records (drop at stream)) ≡ record { link = read_in p s; numbers = [] } =
      ap (λ x. in_order (read_in p s) (records x)) nothing in
      record {
        link_is = sym (ap (λ (d : DoneAll). d.link) known) ∙ v.link_is;
        out_is =
            v.out_is ∙ ap (λ xs. sets out₀ 0 (flat_map eight xs))
            (sym (append-nil v.numbers) ∙ sym (ap (λ (d : DoneAll). v.numbers ++ d.numbers) known) ∙ v.numbers_are);
        sound = v.hand.sound;
      }
