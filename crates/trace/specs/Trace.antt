-- What is told after each call: its answer, the call, and the link then. RULES 26. Assumes nothing.
use Rattle.std.specs.Prelude.{ℕ, ◌%◌, Bool, cond, ltb, eqb}
use Prim.Native.Char.{code}
use mathlib.Core.List.{List, ◌∷◌, [], ◌++◌, flat_map}
use Rattle.model.specs.Tables.{table, ahead}
use Rattle.model.specs.Word.{flow_of, destination_of, quantum_of, departure_of}
use Rattle.model.specs.Plan as reference
use Rattle.model.specs.Listing.{text}
use Rattle.model.specs.Window.{last}
use Rattle.model.specs.Link.{Link, window, owner, flow, holding}
use Rattle.model.specs.Request.{request}
use Rattle.model.specs.Credit.{credit}
use Rattle.model.specs.Tick.{tick, next_position}
use Rattle.model.specs.Lend.{lend}
use Rattle.model.specs.Reset.{reset}
use Rattle.replies.specs.Lines.{spaced}
use Rattle.link.specs.declared.request.Reply.{Reply}
use Rattle.link.specs.Reading.{stored_owner}
use Rattle.link.specs.Steps.{number_of, reply_of}
use Rattle.calls.specs.declared.Answer.{Answer}
use Rattle.calls.specs.declared.Answer.TheVariants.{Granted, Accepted, Booked, Idle, Lent, Refused}
use Rattle.calls.specs.Reading.{answer_to_lend, answer_to_reset}
use Rattle.trace.specs.declared.told.Said.{Said}
use Rattle.trace.specs.declared.Call.{Call}
use Rattle.trace.specs.declared.Call.TheVariants.{Request, Word, Past, Credit, Tick, Lend, Reset}

-- RULES 26.2: a letter, and numbers with a blank before each
unfoldable pub line_of : (letter : ℕ) → List ℕ → List ℕ
line_of letter numbers = letter ∷ flat_map spaced numbers ++ text "\n"

-- ---- RULES 26.3: the plan

abbrev pub entry_line : reference.Entry → List ℕ
entry_line e = line_of (code "E") (e.share ∷ e.cells ∷ e.source ∷ e.destination ∷ [])

abbrev pub plan_start : reference.Plan → List ℕ
plan_start P = line_of (code "P") (0 ∷ P.slots ∷ P.frames ∷ P.buffer ∷ reference.flow_count P ∷ [])

-- the lines of the first n entries
unfoldable pub entry_lines : reference.Plan → ℕ → List ℕ
entry_lines P n = flat_map entry_line (table n (reference.entry P))

abbrev pub plan_lines : reference.Plan → List ℕ
plan_lines P = plan_start P ++ entry_lines P (reference.flow_count P)

-- ---- RULES 26.4 and 26.6: the link after a call, and one flow of it

abbrev pub bit : Bool → ℕ
bit b = cond b 1 0

-- CP, the mark, and the flow that the next lend looks from
abbrev pub link_numbers : Link → List ℕ
link_numbers l = l.current ∷ bit l.marked ∷ l.turn ∷ []

-- what flow i holds at the last position of the window
abbrev pub held_last : Link → (i : ℕ) → ℕ
held_last l i = holding l i (last (window l))

-- flow i, and position p
abbrev pub flow_numbers : Link → (i p : ℕ) → List ℕ
flow_numbers l i p =
    (flow l i).injection
    ∷ (flow l i).remainder
    ∷ (flow l i).number
    ∷ ahead (reference.positions l.plan) l.current p
    ∷ stored_owner (owner l p)
    ∷ holding l i p
    ∷ held_last l i
    ∷ []

-- the link, and flow i where the plan has it
unfoldable pub about : Link → (i p : ℕ) → List ℕ
about l i p = link_numbers l ++ cond (ltb i (reference.flow_count l.plan)) (flow_numbers l i p) []

-- RULES 26.4: the line of an answer, which is about flow i and position p
unfoldable pub answered : (letter number value : ℕ) (call : List ℕ) → Link → (i p : ℕ) → List ℕ
answered letter number value call l i p = line_of letter (number ∷ value ∷ call ++ about l i p)

-- no flow: the plan has none of this number
abbrev pub nobodys : Link → ℕ
nobodys l = reference.flow_count l.plan

-- RULES 26.2 and 26.4: an answer's letter, the refusal or 0, and what is answered
abbrev pub said_for : Answer → Said
said_for (Granted word) = record { letter = code "G"; number = 0; value = departure_of word }
said_for Accepted = record { letter = code "C"; number = 0; value = 0 }
said_for (Booked flow) = record { letter = code "T"; number = 0; value = flow }
said_for Idle = record { letter = code "T"; number = 0; value = 16 }
said_for (Lent flow) = record { letter = code "L"; number = 0; value = flow }
said_for Answer.Reset = record { letter = code "Z"; number = 0; value = 0 }
said_for (Refused number) = record { letter = code "R"; number = number; value = 0 }

-- ---- RULES 26.7: the flows after a frame change or a reset

abbrev pub flow_line : Link → (i : ℕ) → List ℕ
flow_line l i = line_of (code "F") (i ∷ (flow l i).injection ∷ (flow l i).remainder ∷ held_last l i ∷ [])

-- the lines of the first n flows
unfoldable pub flow_lines : Link → ℕ → List ℕ
flow_lines l n = flat_map (flow_line l) (table n (λ i. i))

-- ---- RULES 26.5: the call's numbers

abbrev pub word_numbers : (kind x : ℕ) → List ℕ
word_numbers kind x = kind ∷ flow_of x ∷ quantum_of x ∷ departure_of x ∷ destination_of x ∷ []

abbrev pub call_numbers : (kind a b : ℕ) → List ℕ
call_numbers kind a b = kind ∷ a ∷ b ∷ 0 ∷ 0 ∷ []

-- ---- what each call writes, and the link after it

pub record Traced : Type 0 where
  pub link : Link
  pub lines : List ℕ

-- the position that a request's line is about
abbrev pub place_of : Link → Reply → ℕ
place_of l r = cond (eqb r.number 0) r.position l.current

-- RULES 26.4 and 26.8: word x by a letter and a kind, where its request came to r and left link l
unfoldable pub ask_line : (letter kind x : ℕ) → Link → Reply → List ℕ
ask_line letter kind x l r = answered letter r.number r.position (word_numbers kind x) l (flow_of x) (place_of l r)

-- `G`, or `R` for a refusal
abbrev pub reply_letter : (number : ℕ) → ℕ
reply_letter number = cond (eqb number 0) (code "G") (code "R")

unfoldable pub traced_request : Link → (x : ℕ) → Traced
traced_request l x =
    let m = request l x in
    let r = reply_of m.answer in
    record { link = m.link; lines = ask_line (reply_letter r.number) 1 x m.link r }

unfoldable pub traced_word : Link → (x : ℕ) → Traced
traced_word l x =
    let m = request l x in
    record { link = m.link; lines = ask_line (code "B") 6 x m.link (reply_of m.answer) }

-- RULES 26.8: a word after the sixteenth
unfoldable pub traced_past : Link → (x : ℕ) → Traced
traced_past l x = record { link = l; lines = ask_line (code "B") 6 x l (record { number = 255; position = 255 }) }

-- a credit of flow i dated p, where its test gave a number and left link l
unfoldable pub credit_line : (i p : ℕ) → Link → (number : ℕ) → List ℕ
credit_line i p l number =
    cond (eqb number 0) (answered (code "C") 0 0 (call_numbers 2 i p) l i p) (answered (code "R") number 0 (call_numbers 2 i p) l i l.current)

unfoldable pub traced_credit : Link → (i p : ℕ) → Traced
traced_credit l i p = let m = credit l i p in record { link = m.link; lines = credit_line i p m.link (number_of m.answer) }

-- the line of a tick that left link l; `change` is 1 where there was a frame change
unfoldable pub tick_line : Link → (change : ℕ) → List ℕ
tick_line l change = answered (code "T") 0 (stored_owner (owner l l.current)) (call_numbers 3 change 0) l (nobodys l) l.current

-- its lines
unfoldable pub tick_lines : Link → (change : Bool) → List ℕ
tick_lines l change = tick_line l (bit change) ++ cond change (flow_lines l (reference.flow_count l.plan)) []

-- RULES 26.7: there is a frame change where CP is now 0 modulo F
unfoldable pub traced_tick : Link → Traced
traced_tick l = record { link = (tick l).link; lines = tick_lines (tick l).link (eqb (next_position l % l.plan.slots) 0) }

-- a lend with a mask, which left link l
unfoldable pub lend_line : (mask : ℕ) → Link → Answer → List ℕ
lend_line mask l a =
    answered (said_for a).letter (said_for a).number (said_for a).value (call_numbers 4 mask 0) l
    (cond (eqb (said_for a).number 0) (said_for a).value (nobodys l)) l.current

unfoldable pub traced_lend : Link → (mask : ℕ) → Traced
traced_lend l mask = let m = lend l mask in record { link = m.link; lines = lend_line mask m.link (answer_to_lend m.answer) }

-- a reset, which left link l
unfoldable pub reset_lines : Link → Answer → List ℕ
reset_lines l a =
    answered (said_for a).letter (said_for a).number (said_for a).value (call_numbers 5 0 0) l (nobodys l) l.current
    ++ cond (eqb (said_for a).number 0) (flow_lines l (reference.flow_count l.plan)) []

unfoldable pub traced_reset : Link → Traced
traced_reset l = let m = reset l in record { link = m.link; lines = reset_lines m.link (answer_to_reset m.answer) }

-- ---- a call of any sort

abbrev pub traced : Link → Call → Traced
traced l (Request x) = traced_request l x
traced l (Word x) = traced_word l x
traced l (Past x) = traced_past l x
traced l (Credit i p) = traced_credit l i p
traced l Tick = traced_tick l
traced l (Lend mask) = traced_lend l mask
traced l Reset = traced_reset l

-- RULES 26.8: a burst of so many words is made on link l
abbrev pub burst_line : Link → (count : ℕ) → List ℕ
burst_line l count = answered (code "W") 0 0 (call_numbers 6 count 0) l (nobodys l) l.current
