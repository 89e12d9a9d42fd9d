-- What `burst`'s loop keeps: lists and numbers, no memory and no code.
--     up_to k l xs          the first k records are handled, from the link l.        onward i k l xs      the same from record i on, and those before it are as they are
--     onward-turns         one record is handled, and put in its place: what is left comes to the same.        onward-ends      nothing is left
--     enough               as many as there are, or 16, are as good as 16
--     Passing              the loop's variables between two turns, with what is known of them
--     start, next, done    the variables where the loop begins, and after one more turn; and where the loop is left, they are what is to be shown
--     front-handled        a prefix that is handled, and the rest
-- Assumes nothing.
use mathlib.Core.Path.{◌≡◌, refl, sym, ◌∙◌, ap, subst}
use Prim.Native.Nat.{ℕ, zero, suc, ◌+◌, ◌-◌, ◌≤◌, ◌<◌, min}
use native.Mathlib.Nat.{not-suc-le-zero, le_of_suc-le-suc}
use native.Mathlib.Decide.{dec_lt}
use native.Mathlib.Omega.{arith}
use mathlib.Core.List.{List, [], ◌∷◌, ◌++◌, append-nil}
use lib.ListN.{length, get_or, set, length-set, length-map, take, drop, drop_of_length-le}
use Rattle.std.proofs.lemmas.List.{take_all, length-take-le}
use Rattle.model.specs.Calls.{Grant, accepted, refused}
use Rattle.model.specs.Link as model
use Rattle.model.specs.Request.{request}
use Rattle.model.specs.Burst as reference
use Rattle.model.specs.Burst.{filled, in_front, in_order, burst}
use Rattle.window.specs.declared.Window.{Window}
use Rattle.link.specs.declared.Link.{Link}
use Rattle.link.specs.declared.request.Reply.{Reply}
use Rattle.link.specs.Given.{StateIn}
use Rattle.link.specs.Steps.{read_in, read_of, Went, reply_of}
use Rattle.link.specs.Bursts.{Bursted}
use Rattle.link.proofs.Stays.{request-current, still-in}
use Rattle.burst.specs.declared.BurstRecord.{BurstRecord}
use Rattle.burst.specs.Reading.{ask_of, asks_of}
use Rattle.burst.specs.First.{burst_of_first}

-- ---- on from the i-th record, by the model

abbrev pub up_to : ℕ → model.Link → List reference.BurstRecord → reference.Burst
up_to k l xs = record { link = (in_order l (take k xs)).link; records = (in_order l (take k xs)).records ++ drop k xs }

abbrev pub onward : ℕ → ℕ → model.Link → List reference.BurstRecord → reference.Burst
onward zero k l xs = up_to k l xs
onward (suc i) k l [] = record { link = l; records = [] }
onward (suc i) k l (x ∷ xs) = in_front x (onward i k l xs)

pub onward-turns : (i k : ℕ) (l : model.Link) (xs : List BurstRecord) (d y : BurstRecord) → i < length xs
    → ask_of y ≡ filled (ask_of (get_or xs i d)) (request l (get_or xs i d).word).answer
    → onward (suc i) k (request l (get_or xs i d).word).link (asks_of (set xs i y)) ≡ onward i (suc k) l (asks_of xs)
unfolding in_order
onward-turns i k l [] d y m e = absurd (not-suc-le-zero m)
onward-turns zero k l (x ∷ xs) d y m e = ap (λ z. in_front z (up_to k (request l x.word).link (asks_of xs))) e
onward-turns (suc i) k l (x ∷ xs) d y m e = ap (in_front (ask_of x)) (onward-turns i k l xs d y (le_of_suc-le-suc m) e)

pub onward-ends : (i : ℕ) (l : model.Link) (xs : List reference.BurstRecord) → onward i zero l xs ≡ record { link = l; records = xs }
unfolding in_order
onward-ends zero l xs = refl
onward-ends (suc i) l [] = refl
onward-ends (suc i) l (x ∷ xs) = ap (in_front x) (onward-ends i l xs)

-- ---- the count

pub reaches : (j k : ℕ) (l : model.Link) (xs : List reference.BurstRecord) → length xs ≤ j → length xs ≤ k → up_to j l xs ≡ up_to k l xs
unfolding in_order
reaches zero zero l xs p q = refl
reaches zero (suc k) l [] p q = refl
reaches (suc j) zero l [] p q = refl
reaches zero (suc k) l (x ∷ xs) p q = absurd (not-suc-le-zero p)
reaches (suc j) zero l (x ∷ xs) p q = absurd (not-suc-le-zero q)
reaches (suc j) (suc k) l [] p q = refl
reaches (suc j) (suc k) l (x ∷ xs) p q =
    let first = request l x.word in
    ap (in_front (filled x first.answer)) (reaches j k first.link xs (le_of_suc-le-suc p) (le_of_suc-le-suc q))

-- the first n of m records are those that a burst handles
pub record Counts (m n : ℕ) : Type 0 where
  pub there : n ≤ m
  pub most : n ≤ 16
  pub all : n < 16 → n ≡ m

pub counted : {m n : ℕ} → n ≡ min m 16 → Counts m n
counted {m} {n} e = record { there = omega (arith, e); most = omega (arith, e); all = λ less. omega (arith, e, less) }

pub enough : (n : ℕ) (l : model.Link) (xs : List reference.BurstRecord) → Counts (length xs) n → up_to n l xs ≡ burst l xs
unfolding burst
enough n l xs c = go (dec_lt n 16)
  where
    go : Dec (n < 16) → up_to n l xs ≡ up_to 16 l xs
    go (yes less) = let e = c.all less in reaches n 16 l xs (omega (arith, e)) (omega (arith, e, less))
    go (no full) = let e : n ≡ 16 = omega (arith, c.most) in ap (λ (k : ℕ). up_to k l xs) e

-- ---- the loop's variables between two turns: i, the link in hand and what the slice holds, where n records of xs are handled from l, whose window is w

pub record Passing (l : Link) (w : Window) (xs : List BurstRecord) (n : ℕ) (state : List ℕ) (cur : List BurstRecord) (i : ℕ) : Type 0 where
  pub hand : StateIn l.plan w state
  pub within : i ≤ n
  pub long : length cur ≡ length xs
  pub comes : onward i (n - i) (read_in l.plan state) (asks_of cur) ≡ up_to n (read_of l) (asks_of xs)

one_more : (i : ℕ) → i + 1 ≡ suc i
one_more i = omega arith

one_less : (n i : ℕ) → i < n → suc (n - (i + 1)) ≡ n - i
one_less n i l = omega (arith, l)

none_left : (n i : ℕ) → n ≤ i → 0 ≡ n - i
none_left n i l = omega (arith, l)

all_left : (n : ℕ) → n - 0 ≡ n
all_left n = omega arith

-- what a request comes to is what the model writes in the record
reply-fills : (x : reference.BurstRecord) (a : Grant) → record { word = x.word; result = (reply_of a).number; position = (reply_of a).position } ≡ filled x a
reply-fills x (accepted word) = refl
reply-fills x (refused number) = refl

-- a record past the end, which `get_or` asks for
abbrev pub none : BurstRecord
none = record { word = 0; result = 0; position = 0 }

-- a record with the reply to its word
abbrev pub put : BurstRecord → Reply → BurstRecord
put x u = record { word = x.word; result = u.number; position = u.position }

-- the loop begins
pub start : (l : Link) (w : Window) (xs : List BurstRecord) (n : ℕ) → StateIn l.plan w l.state → Passing l w xs n l.state xs 0
start l w xs n hand = record {
  hand = hand;
  within = omega arith;
  long = refl;
  comes = ap (λ (k : ℕ). up_to k (read_of l) (asks_of xs)) (all_left n);
}

module _ {l : Link} {w : Window} {xs : List BurstRecord} {n : ℕ} {state : List ℕ} {cur : List BurstRecord} {i : ℕ} (t : Passing l w xs n state cur i) where
  -- one record more is handled
  pub next : (after : List ℕ) (u : Reply) → i < n → n ≤ length xs
      → Went reply_of (request (read_in l.plan state) (get_or cur i none).word) l.plan after u
      → Passing l w xs n after (set cur i (put (get_or cur i none) u)) (i + 1)
  next after u more fits is = record {
    hand = still-in t.hand is (request-current (read_in l.plan state) (get_or cur i none).word);
    within = omega (arith, more);
    long = length-set cur i (put (get_or cur i none) u) ∙ t.long;
    comes =
        ap (λ (j : ℕ). onward j left (read_in l.plan after) (asks_of turned)) (one_more i)
        ∙ ap (λ (m : model.Link). onward (suc i) left m (asks_of turned)) is.link_is
        ∙ onward-turns i left (read_in l.plan state) cur none (put (get_or cur i none) u) here shown
        ∙ ap (λ (k : ℕ). onward i k (read_in l.plan state) (asks_of cur)) (one_less n i more)
        ∙ t.comes;
  }
    where
      left : ℕ
      left = n - (i + 1)

      turned : List BurstRecord
      turned = set cur i (put (get_or cur i none) u)

      here : i < length cur
      here = subst (λ (m : ℕ). i < m) (sym t.long) (omega (arith, more, fits))

      shown : ask_of (put (get_or cur i none) u) ≡ filled (ask_of (get_or cur i none)) (request (read_in l.plan state) (get_or cur i none).word).answer
      shown =
          (λ k. ask_of (put (get_or cur i none) (is.answer_is k)))
          ∙ reply-fills (ask_of (get_or cur i none)) (request (read_in l.plan state) (get_or cur i none).word).answer

  -- where the loop is left, the link and the records are those of the burst
  pub done : n ≤ i → Counts (length xs) n → (r : Link) → r.plan ≡ l.plan → r.state ≡ state → Bursted (burst (read_of l) (asks_of xs)) r (asks_of cur)
  done over counts r plan_is state_is = record {
    link_is = (λ k. read_in (plan_is k) (state_is k)) ∙ ap (λ (b : reference.Burst). b.link) whole;
    records_are = ap (λ (b : reference.Burst). b.records) whole;
    sound = r.sound;
  }
    where
      whole : record { link = read_in l.plan state; records = asks_of cur } ≡ burst (read_of l) (asks_of xs)
      whole =
          sym (onward-ends i (read_in l.plan state) (asks_of cur))
          ∙ ap (λ (k : ℕ). onward i k (read_in l.plan state) (asks_of cur)) (none_left n i over)
          ∙ t.comes
          ∙ enough n (read_of l) (asks_of xs) (subst (λ (m : ℕ). Counts m n) (sym (length-map xs ask_of)) counts)

-- ---- the first records of an array

asks-front : (k : ℕ) (xs : List BurstRecord) → asks_of (take k xs) ≡ take k (asks_of xs)
asks-front zero xs = refl
asks-front (suc k) [] = refl
asks-front (suc k) (x ∷ xs) = ap (λ (ys : List reference.BurstRecord). ask_of x ∷ ys) (asks-front k xs)

asks_rest : (k : ℕ) (xs : List BurstRecord) → asks_of (drop k xs) ≡ drop k (asks_of xs)
asks_rest zero xs = refl
asks_rest (suc k) [] = refl
asks_rest (suc k) (x ∷ xs) = asks_rest k xs

asks_both : (xs ys : List BurstRecord) → asks_of (xs ++ ys) ≡ asks_of xs ++ asks_of ys
asks_both [] ys = refl
asks_both (x ∷ xs) ys = ap (λ (zs : List reference.BurstRecord). ask_of x ∷ zs) (asks_both xs ys)

-- and so they are of themselves
pub front-counts : {A : Type 0} (n : ℕ) (xs : List A) → Counts (length xs) n → Counts (length (take n xs)) n
front-counts n xs c = let long = length-take-le n xs c.there in record { there = omega (arith, long); most = c.most; all = λ _. sym long }

-- those that a burst handles come to what the burst of all does
module _ (n : ℕ) (l : model.Link) (xs : List reference.BurstRecord) (c : Counts (length xs) n) where
  abbrev front : List reference.BurstRecord
  front = take n xs

  long : length front ≡ n
  long = length-take-le n xs c.there

  front-is : burst l front ≡ in_order l front
  front-is =
      let whole : take n front ≡ front = take_all n front (omega (arith, long)) in
      let rest : drop n front ≡ [] = drop_of_length-le front (omega (arith, long)) in
      sym (enough n l front (front-counts n xs c)) ∙ rw (whole, rest) (λ k. record { link = (in_order l front).link; records = append-nil (in_order l front).records k })

  pub handled-all : burst_of_first n l xs ≡ burst l xs
  handled-all = ap (λ (b : reference.Burst). record { link = b.link; records = b.records ++ drop n xs }) front-is ∙ enough n l xs c

-- a burst of the first k, and the others behind them
pub front-handled : (k : ℕ) (l r : Link) (xs ys : List BurstRecord) → Bursted (burst (read_of l) (asks_of (take k xs))) r (asks_of ys)
    → Bursted (burst_of_first k (read_of l) (asks_of xs)) r (asks_of (ys ++ drop k xs))
front-handled k l r xs ys b = record {
  link_is = b.link_is ∙ ap (λ (zs : List reference.BurstRecord). (burst (read_of l) zs).link) (asks-front k xs);
  records_are = asks_both ys (drop k xs) ∙ (λ i. (b.records_are ∙ ap (λ (zs : List reference.BurstRecord). (burst (read_of l) zs).records) (asks-front k xs)) i ++ asks_rest k xs i);
  sound = b.sound;
}

-- where the first n are those that a burst handles, it is a burst of all
pub burst-by-front : (l r : Link) (xs ys : List BurstRecord) {n : ℕ} → Counts (length xs) n
    → Bursted (burst (read_of l) (asks_of (take n xs))) r (asks_of ys) → Bursted (burst (read_of l) (asks_of xs)) r (asks_of (ys ++ drop n xs))
burst-by-front l r xs ys {n} c b =
    let counts = subst (λ (m : ℕ). Counts m n) (sym (length-map xs ask_of)) c in
    subst (λ (x : reference.Burst). Bursted x r (asks_of (ys ++ drop n xs))) (handled-all n (read_of l) (asks_of xs) counts) (front-handled n l r xs ys b)
