-- A piece that is taken part by part: what has been fed and handed on before a place of it, and one part more. Assumes nothing.
use Prim.Native.Nat.{ℕ, zero, suc, ◌+◌, ◌-◌, ◌≤◌, ◌<◌}
use mathlib.Core.Path.{◌≡◌, refl, sym, ap, subst, ◌∙◌}
use mathlib.Core.List.{List, ◌∷◌, [], ◌++◌, append_assoc, append-nil}
use native.Mathlib.Omega.{arith}
use lib.ListN.{length, take, drop, length-append, length-drop}
use lib.Seq.{sets, take_all, take-add}
use Rattle.std.proofs.Common.{Option}
use Rattle.std.specs.Prelude.{⊤}
use Rattle.std.specs.Io.KnownBytes.{Appends}
use Rattle.tokens.proofs.NumbersCounted.{kept-first}
use Rattle.questions.specs.declared.State.{State}
use Rattle.questions.specs.declared.Fed.{Fed}
use Rattle.questions.specs.Feeding.{line_fed, said_fed}
use Rattle.questions.specs.Promises.{line_of, Regular, Stands, FedPiece, joined}
use Rattle.questions.proofs.FedBytes.{stands-regular, part_of, line-append, said-append, taken-most}
use Rattle.domeplan.specs.declared.Round.{Round}
use Rattle.domeplan.specs.declared.Round.TheVariants.{More, Over, Stopped}
use Rattle.domeplan.specs.Rounds.{put_each, Left, Takes, Ends, Came, Goes}
use Rattle.domeplan.proofs.Written.{appends-none, appends-both}

-- ---- texts one after the other

pub joined-append : (texts more : List (List ℕ)) → joined (texts ++ more) ≡ joined texts ++ joined more
joined-append [] more = refl
joined-append (text ∷ rest) more = ap (text ++◌) (joined-append rest more) ∙ sym (append_assoc text (joined rest) (joined more))

pub one-text-more : (texts : List (List ℕ)) (text : List ℕ) → joined (texts ++ (text ∷ [])) ≡ joined texts ++ text
one-text-more texts text = joined-append texts (text ∷ []) ∙ ap (joined texts ++◌) (append-nil text)

put-one-more : (out : List ℕ) (texts : List (List ℕ)) (text : List ℕ) → put_each out (texts ++ (text ∷ [])) ≡ sets (put_each out texts) 0 text
unfolding put_each
put-one-more out [] text = refl
put-one-more out (t ∷ rest) text = put-one-more (sets out 0 t) rest text

-- ---- before a place of the piece

pub record TakenTo (line piece out₀ : List ℕ) (at : ℕ) (now : State) (out : List ℕ) : Type 0 where
  pub most : at ≤ length piece
  pub stands : Stands now (line_fed line (take at piece))
  pub handed : List (List ℕ)
  pub said : joined handed ≡ said_fed line (take at piece)
  pub out_is : out ≡ put_each out₀ handed

pub none-taken : (s : State) (piece out : List ℕ) {at : ℕ} → at ≡ 0 → Regular s → TakenTo (line_of s) piece out at s out
unfolding line_fed said_fed put_each
none-taken s piece out start regular = subst (λ n. TakenTo (line_of s) piece out n s out) (sym start) (record {
  most = omega arith;
  stands = regular;
  handed = [];
  said = refl;
  out_is = refl;
})

pub none-written : (line : List ℕ) (held : Option (List ℕ)) → Appends held held (said_fed line [])
unfolding said_fed
none-written line held = appends-none held

pub all-written : (line piece : List ℕ) (at : ℕ) (old new : Option (List ℕ)) → length piece ≤ at
    → Appends old new (said_fed line (take at piece)) → Appends old new (said_fed line piece)
all-written line piece at old new whole = subst (Appends old new) (ap (said_fed line) (take_all at piece whole))

-- with what comes next
taken-so-far : {line piece out₀ out : List ℕ} {at : ℕ} {now : State} (t : TakenTo line piece out₀ at now out)
    (r : Round) → Left r line piece at t.handed → Takes line piece out₀ r out
taken-so-far {at} t r left = record {
  fed = at;
  most = t.most;
  handed = t.handed;
  said = t.said;
  out_is = t.out_is;
  left = left;
}

module _ {line piece out₀ out : List ℕ} {at : ℕ} {now : State} (t : TakenTo line piece out₀ at now out) where
  -- at the end of the piece
  pub all-taken : at ≡ length piece → Takes line piece out₀ (More now) out
  all-taken whole = taken-so-far t (More now) (t.stands, whole)

  module _ {r : Fed} {out' : List ℕ} (f : FedPiece (line_of now) (part_of piece at) out r out') where
    rest-is : part_of piece at ≡ drop at piece
    rest-is = take_all (length piece - at) (drop at piece) (omega (arith, length-drop at piece))

    pub fed-most : at + r.used ≤ length piece
    fed-most =
        let used = taken-most (line_of now) (part_of piece at) (length out) in
        omega (arith, f.used_is, used, ap length rest-is, length-drop at piece, t.most)

    -- the part that is fed now
    abbrev part : List ℕ
    part = take r.used (part_of piece at)

    abbrev text : List ℕ
    text = take r.written out'

    parts_are : take at piece ++ part ≡ take (at + r.used) piece
    parts_are = ap (λ l. take at piece ++ take r.used l) rest-is ∙ sym (take-add at r.used piece)

    line_before : line_of now ≡ line_fed line (take at piece)
    line_before = t.stands.line_is

    line_after : line_fed (line_of now) part ≡ line_fed line (take (at + r.used) piece)
    line_after = ap (λ l. line_fed l part) line_before ∙ sym (line-append line (take at piece) part) ∙ ap (line_fed line) parts_are

    text-is : text ≡ said_fed (line_of now) part
    text-is = ap (take r.written) f.out_is ∙ kept-first (said_fed (line_of now) part) out r.written f.written_is f.room

    said-after : joined t.handed ++ text ≡ said_fed line (take (at + r.used) piece)
    said-after =
        (λ k. t.said k ++ (text-is ∙ ap (λ l. said_fed l part) line_before) k)
        ∙ sym (said-append line (take at piece) part) ∙ ap (said_fed line) parts_are

    pub one-part : TakenTo line piece out₀ (at + r.used) r.state out'
    one-part = record {
      most = fed-most;
      stands = record { long = f.stands.long; most = f.stands.most; line_is = f.stands.line_is ∙ line_after };
      handed = t.handed ++ (text ∷ []);
      said = one-text-more t.handed text ∙ said-after;
      out_is = f.out_is ∙ (λ k. sets (t.out_is k) 0 (sym text-is k)) ∙ sym (put-one-more out₀ t.handed text);
    }

    -- the output takes no more
    pub then-lost : 0 < r.written → Takes line piece out₀ Stopped out'
    unfolding one-part
    then-lost some =
        let long = ap length (one-text-more t.handed text) ∙ length-append (joined t.handed) text in
        let said : 0 < length (joined (t.handed ++ (text ∷ []))) = omega (arith, some, long, ap length text-is, f.written_is) in
        taken-so-far one-part Stopped said

    -- what a writer holds that got this part's answers after those before
    pub one-part-written : (old then new : Option (List ℕ)) (got : List ℕ) → Appends old then (said_fed line (take at piece)) → Appends then new got
        → got ≡ text → Appends old new (said_fed line (take (at + r.used) piece))
    one-part-written old then new got p q got-is =
        subst (Appends old new) ((λ k. sym t.said k ++ got-is k) ∙ said-after) (appends-both old then new _ _ p q)

-- ---- a round

abbrev pub LeftRegular : Round → Type 0
LeftRegular (More next) = Regular next
LeftRegular (Over last) = Regular last
LeftRegular Stopped = ⊤

ends-regular : (s : State) (r : Round) → Regular s → Ends s r → LeftRegular r
ends-regular s (More next) regular ends = elim ends [ ]
ends-regular s (Over last) regular ends = subst Regular (sym ends) regular
ends-regular s Stopped regular ends = tt

takes-regular : {line piece out out' : List ℕ} (r : Round) → Takes line piece out r out' → LeftRegular r
takes-regular (More next) takes = stands-regular takes.left.0
takes-regular (Over last) takes = elim takes.left [ ]
takes-regular Stopped takes = tt

module _ (s : State) (out space : List ℕ) (r : Round) (out' : List ℕ) where
  pub some-came : (have : ℕ) → 0 < have → Takes (line_of s) (take have space) out r out' → Came have s out space r out'
  some-came zero some takes = absurd (omega arith)
  some-came (suc k) some takes = takes

  came-regular : (have : ℕ) → Regular s → Came have s out space r out' → LeftRegular r
  came-regular zero regular came = ends-regular s r regular came.0
  came-regular (suc k) regular takes = takes-regular r takes

  -- the state after it is regular
  pub goes-regular : Regular s → Goes s out space r out' → LeftRegular r
  goes-regular regular goes = came-regular goes.have regular goes.taken
