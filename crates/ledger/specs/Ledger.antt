-- "The ledger machine" (document 01; document 02, 2026-03, 2026-04, 2026-06): lists of calls and damage, what they do to the record and the serials beside it, and
-- what the machine keeps of them. The calls' own definitions and gates are those that the code's contracts cite. Assumes nothing.
use Rattle.std.specs.Prelude.{◌≡◌, Bool, true, false, not, ◌&&◌, ◌||◌, cond, List, [], ◌∷◌, ℕ, zero, suc, ◌<◌, ◌^◌, leb, eqb, length}
use Rattle.base.specs.Seq.{cell, blocks}
use Rattle.field.specs.Field.{Bytes, plus}
use Rattle.params.specs.Nodes.{has, count}
use Rattle.params.specs.Params.{reshaped}
use Rattle.gates.specs.Gates.{view_gate, damage_gate}
use Rattle.params.specs.declared.Params.{Params}
use Rattle.params.specs.declared.Shape.{Shape}
use Rattle.serials.specs.Serials.{Words32}
use Rattle.code.specs.Calls.{EncodePost, DecodePost, DeltaPost, UpdatePost, RepairPost, CheckPost, ViewPost, ReconfigurePost, number}
use Rattle.code.specs.Verdict.{Verdict}

-- ---- the running system and the machine

-- What a list leaves: the parameters in force, and "the record, with all that is kept beside it": the serials, one for each node.
pub record Held : Type 0 where
  pub params : Params
  pub codeword : List ℕ
  pub serials : List ℕ

-- what an accepted set-up leaves
abbrev pub begun : Params → List ℕ → List ℕ → Held
begun a codeword serials = record { params = a; codeword = codeword; serials = serials }

-- what is held, under other parameters, or with another record and other serials; all else stays
abbrev pub held_under : Params → Held → Held
held_under a h = record { params = a; codeword = h.codeword; serials = h.serials }

abbrev pub with_record : List ℕ → List ℕ → Held → Held
with_record codeword serials h = record { params = h.params; codeword = codeword; serials = serials }

-- What is kept of the accepted changes, by their serials: whether there was one, its W and its bytes, and the nodes that its sends were to reach.
pub record Sends : Type 0 where
  pub sent : ℕ → Bool
  pub to : ℕ → ℕ
  pub change : ℕ → List ℕ
  pub reached : ℕ → ℕ → Bool

abbrev pub no_sends : Sends
no_sends = record { sent = λ s. false; to = λ s. 0; change = λ s. []; reached = λ s i. false }

-- one accepted send more
abbrev pub sending : (change : List ℕ) → (to serial reached : ℕ) → Sends → Sends
sending d to serial reached k =
    record {
      sent = λ s. eqb s serial || k.sent s;
      to = λ s. cond (eqb s serial) to (k.to s);
      change = λ s. cond (eqb s serial) d (k.change s);
      reached = λ s i. (eqb s serial && has reached i) || k.reached s i;
    }

-- "Its state is the arrangement, the ledger bytes and a set of damaged traps; the record is no part of it." Beside these it keeps the accepted changes, since "A
-- ledger counts all accepted sends under one serial as one change" (document 02, 2026-03).
pub record Machine : Type 0 where
  pub params : Params
  pub ledger : List ℕ
  pub damaged : ℕ → Bool
  pub sends : Sends

-- "An accepted set-up puts its arrangement in force and the message in the ledger and empties the set."
abbrev pub opened : Params → List ℕ → Machine
opened a x = record { params = a; ledger = x; damaged = λ i. false; sends = no_sends }

-- the machine under other parameters, with another ledger, another set or other changes; all else stays
abbrev pub machine_under : Params → Machine → Machine
machine_under a m = record { params = a; ledger = m.ledger; damaged = m.damaged; sends = m.sends }

abbrev pub with_ledger : List ℕ → Machine → Machine
with_ledger x m = record { params = m.params; ledger = x; damaged = m.damaged; sends = m.sends }

abbrev pub with_damaged : (ℕ → Bool) → Machine → Machine
with_damaged damaged m = record { params = m.params; ledger = m.ledger; damaged = damaged; sends = m.sends }

abbrev pub with_sends : Sends → Machine → Machine
with_sends sends m = record { params = m.params; ledger = m.ledger; damaged = m.damaged; sends = sends }

-- ---- events

-- A buffer that a call is lent: the one that the list so far has left, or another with any numbers.
pub data Lent : Type 0 where
  held : Lent
  other : List ℕ → Lent

-- What every call is given beside its own arguments: parameters, and the record and the serials lent. A difference is lent neither, a reading, a check and a view
-- no serials: they do not look at them.
pub record Given : Type 0 where
  pub params : Params
  pub codeword : Lent
  pub serials : Lent

-- The calls, each with its own arguments. Buffers that a call fills are given with what they held before: a rearrangement's are for the new record and the new
-- serials.
pub data Call : Type 0 where
  encode : (message slack : List ℕ) → Call
  update : (change : List ℕ) → (to serial reached : ℕ) → Call
  repair : (from lost : ℕ) → Call
  reconfigure : Shape → (buffer numbers message : List ℕ) → (from to : ℕ) → Call
  decode : (buffer : List ℕ) → (from : ℕ) → Call
  delta : (change buffer : List ℕ) → (to : ℕ) → Call
  check : (budget : ℕ) → Call
  view : (node : ℕ) → Call

-- "All else that a call is given is written in the list as bytes and numbers": each event has arguments of its own, of any size.
pub data Event : Type 0 where
  call : Given → Call → Event
  damage : (nodes : ℕ) → (bytes : List ℕ) → Event

-- what is in force: the parameters, the record and the serials that the list so far has left
abbrev pub in_force : Held → Given
in_force h = record { params = h.params; codeword = held; serials = held }

-- "an accepted call is given the arrangement in force, and the record .. as the list so far has left them", ..
pub record RecordInForce (h : Held) (g : Given) : Type 0 where
  pub params : g.params ≡ h.params
  pub codeword : g.codeword ≡ held

-- .. "with all that is kept beside it", where it is lent that
pub record InForce (h : Held) (g : Given) : Type 0 where
  pub params : g.params ≡ h.params
  pub codeword : g.codeword ≡ held
  pub serials : g.serials ≡ held

-- ---- what an event does to the record

-- What a buffer lent holds, where the list has left the given numbers, ..
abbrev pub bytes_lent : List ℕ → Lent → List ℕ
bytes_lent own held = own
bytes_lent own (other bytes) = bytes

-- .. and what the list has left once they became others: a buffer other than its own does not count.
abbrev pub bytes_left : List ℕ → Lent → List ℕ → List ℕ
bytes_left own held new = new
bytes_left own (other bytes) new = own

-- the record and the serials lent, and what is held when they became others
abbrev pub lent : Held → Given → List ℕ
lent h g = bytes_lent h.codeword g.codeword

abbrev pub serials_lent : Held → Given → List ℕ
serials_lent h g = bytes_lent h.serials g.serials

abbrev pub wrote : Held → Given → List ℕ → List ℕ → Held
wrote h g new serials = with_record (bytes_left h.codeword g.codeword new) (bytes_left h.serials g.serials serials) h

-- the state after an accepted rearrangement, "the list goes on with the new record and what is kept beside it", and after a refused one
abbrev pub moved : ℕ → Held → Params → Shape → List ℕ → List ℕ → Held
moved zero h a t new serials = held_under (reshaped a t) (with_record new serials h)
moved (suc q) h a t new serials = h

-- "Damage to trap i replaces its block by given bytes", and several are damaged together, with "B bytes for each .., in rising order" (document 02, 2026-04): the
-- blocks of the set's nodes become the given ones, each node's that which its rank tells (bytes that are not given are 00). A set of one node is document 01's
-- damage (proofs/OneNode.antt).
unfoldable pub damaged_word : Params → List ℕ → ℕ → List ℕ → List ℕ
damaged_word a codeword s bytes =
    blocks a.b a.n (λ j p. cond (has s (suc j)) (cell a.b bytes (count (has s) j) p) (cell a.b codeword j p))

-- "copied traps and damage keep theirs": the serials stay. "All are replaced, or none if a trap is above n": refused damage alters nothing.
abbrev pub damaged_held : ℕ → Held → ℕ → List ℕ → Held
damaged_held zero h s bytes = with_record (damaged_word h.params h.codeword s bytes) h.serials h
damaged_held (suc q) h s bytes = h

-- One step: the call's post-condition, the very one of its contract, on what it is lent; its answer; and what is then held. An encode within a list (which is
-- refused) writes to the record lent like an update; reading, difference, check and view have buffers and answers of their own. A check answers its verdict's
-- number, a view's number is that of its second call, and a damage event puts question 7 alone.
pub data Step (h : Held) : Event → ℕ → Held → Type 0 where
  encoded : {g : Given} {x v : List ℕ} (answer : ℕ) (new serials : List ℕ)
      → EncodePost g.params x v (lent h g) (serials_lent h g) answer new serials → Step h (call g (encode x v)) answer (wrote h g new serials)
  updated : {g : Given} {d : List ℕ} {to serial reached : ℕ} (answer : ℕ) (new serials : List ℕ)
      → UpdatePost g.params d to serial reached (lent h g) (serials_lent h g) answer new serials
      → Step h (call g (update d to serial reached)) answer (wrote h g new serials)
  repaired : {g : Given} {from lost : ℕ} (answer : ℕ) (new serials : List ℕ)
      → RepairPost g.params from lost (lent h g) (serials_lent h g) answer new serials
      → Step h (call g (repair from lost)) answer (wrote h g new serials)
  reconfigured : {g : Given} {t : Shape} {buffer numbers x : List ℕ} {from to : ℕ} (answer : ℕ) (new serials : List ℕ)
      → ReconfigurePost g.params t (lent h g) (serials_lent h g) from to x buffer numbers answer new serials
      → Step h (call g (reconfigure t buffer numbers x from to)) answer (moved answer h g.params t new serials)
  decoded : {g : Given} {buffer : List ℕ} {from : ℕ} (answer : ℕ) (out : List ℕ)
      → DecodePost g.params (lent h g) from buffer answer out → Step h (call g (decode buffer from)) answer h
  differed : {g : Given} {d buffer : List ℕ} {to : ℕ} (answer : ℕ) (out : List ℕ)
      → DeltaPost g.params d to buffer answer out → Step h (call g (delta d buffer to)) answer h
  checked : {g : Given} {budget q : ℕ} (verdict : Verdict) → q ≡ number verdict → CheckPost g.params (lent h g) budget verdict
      → Step h (call g (check budget)) q h
  viewed : {g : Given} {node q : ℕ} (part : List ℕ) → q ≡ view_gate g.params (length (lent h g)) node → ViewPost g.params (lent h g) node part
      → Step h (call g (view node)) q h
  damaged : {nodes q : ℕ} {bytes : List ℕ} → q ≡ damage_gate h.params.n nodes → Step h (damage nodes bytes) q (damaged_held q h nodes bytes)

-- ---- what an event does to the machine

-- The accepted event's effect, sentence by sentence; every other call alters nothing.
abbrev pub effect : Machine → Event → Machine
effect m (call g (encode x v)) = opened g.params x
-- "An accepted change adds its d to the ledger, byte by byte by the field's sum, .. also where W holds damaged traps; the set stays." "A ledger counts all accepted
-- sends under one serial as one change": at the first of them, whichever nodes it reaches.
effect m (call g (update d to serial reached)) =
    with_sends (sending d to serial reached m.sends) (with_ledger (cond (m.sends.sent serial) m.ledger (plus m.ledger d)) m)
-- "An accepted rebuild takes L out of the set."
effect m (call g (repair from lost)) = with_damaged (λ i. m.damaged i && not (has lost i)) m
-- "An accepted rearrangement puts the new arrangement in force, makes the new message the ledger, and takes W', the traps above n and the dropped traps out
-- of the set."
effect m (call g (reconfigure t buffer numbers x from to)) =
    machine_under (reshaped g.params t)
    (with_ledger x (with_damaged (λ i. ((m.damaged i && not (has to i)) && leb i g.params.n) && leb i t.n) m))
effect m (call g (decode buffer from)) = m
effect m (call g (delta d buffer to)) = m
effect m (call g (check budget)) = m
effect m (call g (view node)) = m
-- "Damage to trap i .. puts i in the set": each of its nodes.
effect m (damage nodes bytes) = with_damaged (λ i. m.damaged i || has nodes i) m

-- "Accepted means answered with 0." "A refused call alters nothing."
abbrev pub stepped : ℕ → Machine → Event → Machine
stepped zero m e = effect m e
stepped (suc q) m e = m

-- ---- lists

-- "A trap is undamaged while it is outside the set": no node of the set R is damaged, none of "all r traps read" (document 02, 2026-01).
abbrev pub Undamaged : Machine → ℕ → Type 0
Undamaged m from = (i : ℕ) → has from i ≡ true → m.damaged i ≡ false

-- "A change is closed when all w traps were reached" (document 02, 2026-03): the change under each serial.
abbrev pub Closed : Sends → Type 0
Closed k = (serial : ℕ) → k.sent serial ≡ true → (i : ℕ) → has (k.to serial) i ≡ true → k.reached serial i ≡ true

-- What document 02, 2026-03, asks of an accepted change of a list: under a serial that was sent before it is the same change again, under any other it begins one.
-- ("A closed change is never sent again once anything else was written" is not asked: such a send moves nobody and counts no more.)
pub record Sendable (k : Sends) (d : List ℕ) (to serial : ℕ) : Type 0 where
  -- "in lists all sends under one serial have the same W and change bytes"
  pub same : k.sent serial ≡ true → (to ≡ k.to serial) × (d ≡ k.change serial)
  -- "A change carries a serial, in lists higher than that of any change accepted before it"
  pub higher : k.sent serial ≡ false → (s : ℕ) → k.sent s ≡ true → s < serial
  -- "no other change begins while one is open"
  pub alone : k.sent serial ≡ false → Closed k

-- A call may read R: R holds no damaged node, and every change is closed, "readings, those after a list too, rebuilds and rearrangements come between closed
-- changes" (document 02, 2026-03).
pub record Readable (m : Machine) (from : ℕ) : Type 0 where
  pub undamaged : Undamaged m from
  pub closed : Closed m.sends

-- What an accepted event of a list must satisfy: it is given what is in force; the list "holds no other accepted set-up"; "Accepted rebuilds and rearrangements
-- read undamaged traps only" (demand 3), between closed changes; and what is asked of a change. Nothing more is asked of readings within the list, differences,
-- checks, views and damage: they may come while a change is open.
abbrev pub Allowed : Held → Machine → Event → Type 0
Allowed h m (call g (encode x v)) = ⊥
Allowed h m (call g (update d to serial reached)) = InForce h g × Sendable m.sends d to serial
Allowed h m (call g (repair from lost)) = InForce h g × Readable m from
Allowed h m (call g (reconfigure t buffer numbers x from to)) = InForce h g × Readable m from
Allowed h m (call g (decode buffer from)) = RecordInForce h g
Allowed h m (call g (delta d buffer to)) = g.params ≡ h.params
Allowed h m (call g (check budget)) = RecordInForce h g
Allowed h m (call g (view node)) = RecordInForce h g
Allowed h m (damage nodes bytes) = Unit {0}

-- What the types of the arguments say: bytes are bytes, serials and sets have 32 bits. A check's budget is any number.
abbrev pub LentAs : (List ℕ → Type 0) → Lent → Type 0
LentAs P held = Unit {0}
LentAs P (other numbers) = P numbers

abbrev pub GivenTyped : Given → Type 0
GivenTyped g = LentAs Bytes g.codeword × LentAs Words32 g.serials

abbrev pub Typed : Event → Type 0
Typed (call g (encode x v)) = GivenTyped g × Bytes x × Bytes v
Typed (call g (update d to serial reached)) = GivenTyped g × Bytes d × (to < 2 ^ 32) × (serial < 2 ^ 32) × (reached < 2 ^ 32)
Typed (call g (repair from lost)) = GivenTyped g × (from < 2 ^ 32) × (lost < 2 ^ 32)
Typed (call g (reconfigure t buffer numbers x from to)) =
    GivenTyped g × Bytes buffer × Words32 numbers × Bytes x × (from < 2 ^ 32) × (to < 2 ^ 32)
Typed (call g (decode buffer from)) = GivenTyped g × Bytes buffer × (from < 2 ^ 32)
Typed (call g (delta d buffer to)) = Bytes d × Bytes buffer × (to < 2 ^ 32)
Typed (call g (check budget)) = GivenTyped g
Typed (call g (view node)) = GivenTyped g
Typed (damage nodes bytes) = (nodes < 2 ^ 32) × Bytes bytes

-- A list from one state of system and machine to another. Each event has its answer; one that is answered with 0 is accepted.
pub data Run : Held → Machine → List Event → Held → Machine → Type 0 where
  done : {h : Held} {m : Machine} → Run h m [] h m
  more : {h h' h'' : Held} {m m'' : Machine} {e : Event} {q : ℕ} {es : List Event}
      → Typed e → (q ≡ 0 → Allowed h m e) → Step h e q h' → Run h' (stepped q m e) es h'' m'' → Run h m (e ∷ es) h'' m''

-- "A list opens with an accepted set-up, over whichever bytes the record's buffer held", and whichever numbers that of the serials.
pub record History (events : List Event) (h : Held) (m : Machine) : Type 0 where
  pub params : Params
  pub message : List ℕ
  pub slack : List ℕ
  pub buffer : List ℕ
  pub numbers : List ℕ
  pub codeword : List ℕ
  pub serials : List ℕ
  pub typed : Bytes message × Bytes slack × Bytes buffer × Words32 numbers
  pub opening : EncodePost params message slack buffer numbers 0 codeword serials
  pub run : Run (begun params codeword serials) (opened params message) events h m

-- "An accepted reading after the list, through r undamaged traps": given the parameters and the record that the list left, a set R without damaged nodes,
-- between closed changes, and a buffer with any bytes.
pub record Reading (h : Held) (m : Machine) (out : List ℕ) : Type 0 where
  pub from : ℕ
  pub buffer : List ℕ
  pub accepted : DecodePost h.params h.codeword from buffer 0 out
  pub readable : Readable m from
