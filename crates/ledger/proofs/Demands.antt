-- The customer's three demands, the law of the broken send, and what stolen nodes tell, on one page. Demands 1 and 2 are the contracts of the calls (src/ of the
-- crates views, encoding, decoding, updates, maintenance, checking, reconfiguration and matrix): each is proved to meet the post-condition named here, for all
-- arguments (view_status answers view_gate; what the functions for C write through pointers is settled in jirvents/proofs/Settled.antt). This page says what such a
-- post-condition settles, and states demand 3, that law, and what stolen nodes tell. Assumes nothing.
use mathlib.Core.Path.{◌≡◌, refl, sym}
use mathlib.Core.List.{List, [], ◌∷◌, ◌++◌}
use mathlib.Core.Logic.{◌↔◌}
use mathlib.Core.Bool.{Bool, true, false, not, ◌||◌}
use Prim.Native.Nat.{ℕ, suc, ◌+◌, ◌-◌, ◌^◌, ◌≤◌, ◌<◌}
use native.Mathlib.Omega.{arith}
use lib.ListN.{length, get_or}
use Rattle.base.specs.Gate.{first_no}
use Rattle.field.specs.Field.{Bytes}
use Rattle.matrix.specs.Matrix.{Singular, FirstDependent}
use Rattle.matrix.specs.Invert.{InvertPost, side_asked, lengths_asked, inverse_asked, number as invertNumber, column_number}
use Rattle.matrix.specs.Inversion.{Inversion}
use Rattle.matrix.proofs.Existence.{invert-met}
use Rattle.matrix.proofs.Settled.{invert-once, singular-exactly, column-exactly}
use Rattle.params.specs.Nodes.{has, size, within}
use Rattle.params.specs.Params.{working, reshaped}
use Rattle.params.specs.declared.Params.{Params}
use Rattle.params.specs.declared.Shape.{Shape}
use Rattle.gates.specs.Gates.{encode_gate, decode_gate, delta_gate, update_gate, repair_gate, check_gate, view_gate, reconfigure_gate, damage_gate}
use Rattle.code.specs.declared.Blame.{Blame}
use Rattle.code.specs.Verdict.{Verdict, Blamed}
use Rattle.subsets.specs.Order.{earlier}
use Rattle.code.specs.Code.{Parts, Pair, Gives, used}
use Rattle.serials.specs.Serials.{Words32, Stamped}
use Rattle.code.specs.Calls.{Post, Unwritten, EncodePost, DecodePost, DeltaPost, Updated, UpdatePost, RepairPost, ReconfigurePost, Serves, Found, CheckPost, ViewPost, number}
use Rattle.gates.proofs.Valid.{encode-accepted, decode-accepted, check-accepted}
use Rattle.code.proofs.Determined.{Met, Once, BothMet, BothOnce, encode-met, encode-once, decode-met, decode-once, delta-met, delta-once, update-met, update-once, repair-met}
use Rattle.code.proofs.Determined.{repair-once, reconfigure-met, reconfigure-once, view-met, view-once}
use Rattle.code.proofs.Blaming.{check-met, check-once, check-number, blame-inside, blame-serves, blame-size, blame-exact, blame-sufficed, blame-seen, blame-none}
use Rattle.code.proofs.Serving.{Same}
use Rattle.code.proofs.Differing.{differs-exists, differs-unique}
use Rattle.code.proofs.Theorems.{SameAt, encode-pair, decode-encode, gives_same}
use Rattle.code.specs.Sends.{Sendings, none, reached_by, Covers}
use Rattle.code.proofs.Sends.{send-accepted, resend, resend-whole, one_more}
use Rattle.ledger.specs.Ledger.{Held, begun, with_record, Machine, Given, encode, update, repair, reconfigure, decode, delta, Event, call, damage, in_force}
use Rattle.ledger.specs.Ledger.{RecordInForce, damaged_word, Step, effect, Sendable, Typed, History, Reading}
use Rattle.ledger.specs.Ledger as ledger
use Rattle.ledger.specs.Stolen.{Upkeep, UpkeepAfter, EndsAlike, ExactlyOne}
use Rattle.ledger.proofs.SetUps.{SetUp}
use Rattle.ledger.proofs.Invariant.{given-in-force, refused-same}
use Rattle.ledger.proofs.Demand3 as D3
use Rattle.ledger.proofs.Inside as I
use Rattle.ledger.proofs.Lists as L
use Rattle.ledger.proofs.Sending as N
use Rattle.ledger.proofs.Upkeep as U
use Rattle.ledger.proofs.Stolen as S

-- 1. "Where it can't be served it returns the number of the first question in document 01 whose answer is no, and no byte is written." The answer is the
-- gate's number, the first no of the call's list of questions (gates/specs/Gates.antt), and a refused call's buffers are as they were: bytes, and serials where
-- it is lent them.
abbrev pub Told : ℕ → ℕ → List ℕ → List ℕ → Type 0
Told gate answer old new = (answer ≡ gate) × ((answer ≡ 0 → ⊥) → new ≡ old)

abbrev pub BothTold : ℕ → ℕ → List ℕ → List ℕ → List ℕ → List ℕ → Type 0
BothTold gate answer old serials new serials' = (answer ≡ gate) × ((answer ≡ 0 → ⊥) → Unwritten old serials new serials')

pub record Demand1 : Type 0 where
  pub set_up : {a : Params} {message slack old serials new serials' : List ℕ} {answer : ℕ} → EncodePost a message slack old serials answer new serials'
      → BothTold (encode_gate a (length message) (length slack) (length old) (length serials)) answer old serials new serials'
  pub reading : {a : Params} {codeword old new : List ℕ} {from answer : ℕ} → DecodePost a codeword from old answer new
      → Told (decode_gate a (length codeword) (length old) from) answer old new
  pub difference : {a : Params} {d old new : List ℕ} {to answer : ℕ} → DeltaPost a d to old answer new
      → Told (delta_gate a (length d) (length old) to) answer old new
  pub change : {a : Params} {d old serials new serials' : List ℕ} {to serial answer : ℕ} (reached : ℕ)
      → UpdatePost a d to serial reached old serials answer new serials'
      → BothTold (update_gate a (length old) (length serials) (length d) to serial) answer old serials new serials'
  pub rebuild : {a : Params} {old serials new serials' : List ℕ} {from lost answer : ℕ} → RepairPost a from lost old serials answer new serials'
      → BothTold (repair_gate a (length old) (length serials) from lost) answer old serials new serials'
  pub rearrangement : {a : Params} {t : Shape} {codeword serials message old numbers new serials' : List ℕ} {from to answer : ℕ}
      → ReconfigurePost a t codeword serials from to message old numbers answer new serials'
      → BothTold (reconfigure_gate a t (length codeword) (length serials) (length old) (length numbers) (length message) from to) answer old numbers new serials'
  pub check : (a : Params) (codeword : List ℕ) (budget : ℕ) (answer : Verdict) → CheckPost a codeword budget answer
      → number answer ≡ check_gate a (length codeword)
  pub view : (a : Params) (codeword part : List ℕ) (node : ℕ) → ViewPost a codeword node part → (view_gate a (length codeword) node ≡ 0 → ⊥)
      → part ≡ []
  pub inverse : (s : ℕ) (m old new : List ℕ) (answer : Inversion) (post : InvertPost s m old answer new)
      → Told (first_no (side_asked s ∷ lengths_asked s m old ∷ inverse_asked post.has_inverse ∷ [])) (invertNumber answer) old new

pub demand-1 : Demand1
demand-1 =
    record {
      set_up = both_told;
      reading = told;
      difference = told;
      change = λ reached. both_told;
      rebuild = both_told;
      rearrangement = both_told;
      check = check-number;
      view = λ a codeword part node post. post.refused;
      inverse = λ s m old new answer post. (post.first, post.refused);
    }
  where
    told : {gate answer : ℕ} {old new : List ℕ} {Served : Type 0} → Post gate answer Served (new ≡ old) → Told gate answer old new
    told post = (post.number, post.refused)

    both_told : {gate answer : ℕ} {old serials new serials' : List ℕ} {Served : Type 0} → Post gate answer Served (Unwritten old serials new serials')
        → BothTold gate answer old serials new serials'
    both_told post = (post.number, post.refused)

-- 2. "Every block, view, reading, difference, check, .. rebuilt block and rearranged record is what .. document 01 fixes": a call's answer, every byte of its
-- buffer and every serial are settled by its post-condition. Some answer and lists meet it, where the slices lent hold bytes (as by their type they do), and no
-- other does. Of an inverse the whole answer is settled, the column of 15 with it (document 02, 2026-05).
abbrev pub Settled : Type 0 → (ℕ → List ℕ → Type 0) → Type 0
Settled BytesLent P = (BytesLent → Met P) × Once P

abbrev pub BothSettled : Type 0 → (ℕ → List ℕ → List ℕ → Type 0) → Type 0
BothSettled BytesLent P = (BytesLent → BothMet P) × BothOnce P

pub record Demand2 : Type 0 where
  pub set_up : (a : Params) (message slack old serials : List ℕ) → BothSettled (Unit {0}) (EncodePost a message slack old serials)
  pub reading : (a : Params) (codeword : List ℕ) (from : ℕ) (old : List ℕ) → Settled (Bytes codeword) (DecodePost a codeword from old)
  pub difference : (a : Params) (change : List ℕ) (to : ℕ) (old : List ℕ) → Settled (Unit {0}) (DeltaPost a change to old)
  pub change : (a : Params) (d : List ℕ) (to serial reached : ℕ) (old serials : List ℕ)
      → BothSettled (Unit {0}) (UpdatePost a d to serial reached old serials)
  pub rebuild : (a : Params) (from lost : ℕ) (old serials : List ℕ) → BothSettled (Bytes old) (RepairPost a from lost old serials)
  pub rearrangement : (a : Params) (t : Shape) (codeword serials : List ℕ) (from to : ℕ) (message old numbers : List ℕ)
      → BothSettled (Bytes codeword × Bytes message) (ReconfigurePost a t codeword serials from to message old numbers)
  pub check : (a : Params) (codeword : List ℕ) (budget : ℕ) → (Bytes codeword → (answer : Verdict) × CheckPost a codeword budget answer)
      × ((answer answer' : Verdict) → CheckPost a codeword budget answer → CheckPost a codeword budget answer' → answer ≡ answer')
  pub view : (a : Params) (codeword : List ℕ) (node : ℕ) → ((part : List ℕ) × ViewPost a codeword node part)
      × ((part part' : List ℕ) → ViewPost a codeword node part → ViewPost a codeword node part' → part ≡ part')
  pub inverse : (s : ℕ) (m old : List ℕ) → (Bytes m → (answer : Inversion) × (new : List ℕ) × InvertPost s m old answer new)
      × ((answer answer' : Inversion) (new new' : List ℕ) → InvertPost s m old answer new → InvertPost s m old answer' new'
      → (answer ≡ answer') × (new ≡ new'))

pub demand-2 : Demand2
demand-2 =
    record {
      set_up = λ a message slack old serials. (λ _. encode-met a message slack old serials, encode-once a message slack old serials);
      reading = λ a codeword from old. (decode-met a codeword from old, decode-once a codeword from old);
      difference = λ a d to old. (λ _. delta-met a d to old, delta-once a d to old);
      change = λ a d to serial reached old serials.
          (λ _. update-met a d to serial reached old serials, update-once a d to serial reached old serials);
      rebuild = λ a from lost old serials. (repair-met a from lost old serials, repair-once a from lost old serials);
      rearrangement = λ a t codeword serials from to message old numbers. (
        λ h. reconfigure-met a t codeword serials from to message old numbers h.0 h.1,
        reconfigure-once a t codeword serials from to message old numbers,
      );
      check = λ a codeword budget. (check-met a codeword budget, check-once a codeword budget);
      view = λ a codeword node. (view-met a codeword node, view-once a codeword node);
      inverse = λ s m old. (invert-met s m old, invert-once s m old);
    }

-- Document 01's two-way rule: for a side and slices that are right, 15 comes exactly where some vector, not all 00, is taken to all 00 (Singular).
pub demand-2-singular : (s : ℕ) (m old new : List ℕ) (answer : Inversion) → first_no (side_asked s ∷ lengths_asked s m old ∷ []) ≡ 0
    → InvertPost s m old answer new → (invertNumber answer ≡ 15) ↔ Singular s m
demand-2-singular = singular-exactly

-- "The column is now the first that is a sum of multiples of the columns before it (a column of 00 counts)" (document 02, 2026-05). For a side and slices that are
-- right: 15 comes with column c exactly where c is such a column and none before it is (FirstDependent). So all who test one matrix are told one column, whatever
-- their buffers hold.
pub demand-2-column : (s : ℕ) (m old new : List ℕ) (answer : Inversion) (c : ℕ) → first_no (side_asked s ∷ lengths_asked s m old ∷ []) ≡ 0
    → InvertPost s m old answer new → ((invertNumber answer ≡ 15) × (column_number answer ≡ c)) ↔ FirstDependent s m c
demand-2-column = column-exactly

-- "Check now seeks the smallest set of traps whose removal leaves all others agreeing with one message and slack pair" (document 02, 2026-06). Of every accepted
-- check, whatever its budget: the set's nodes are of 1..n, and one pair gives the blocks of all others of 1..n (Serves), ..
pub demand-2-blame : (a : Params) (codeword : List ℕ) (budget : ℕ) (blame : Blame) → Bytes codeword → CheckPost a codeword budget (Blamed blame)
    → (within a.n blame.set.0 ≡ true) × Serves a codeword blame.set.0
demand-2-blame a codeword budget blame bytes post =
    let ok = ((check-accepted a _).0 post.0).valid in
    (blame-inside a codeword budget blame ok post.1, blame-serves a codeword budget blame ok bytes post.1)

-- .. and the distance is "how far the size may be above the smallest": no set of nodes of 1..n that serves is smaller by more. So with distance 0, as every set
-- found has, none is smaller.
pub demand-2-blame-size : (a : Params) (codeword : List ℕ) (budget : ℕ) (blame : Blame) → CheckPost a codeword budget (Blamed blame)
    → (s : ℕ) → within a.n s ≡ true → Serves a codeword s → size blame.set.0 ≤ size s + blame.distance
demand-2-blame-size a codeword budget blame post = blame-size a codeword budget blame post.1

-- The pair differs from the record at the nodes of the set, which are of 1..n, and nowhere else.
pub record DiffersAt (a : Params) (codeword message slack : List ℕ) (s : ℕ) : Type 0 where
  pub inside : within a.n s ≡ true
  pub others : Gives a message slack (λ i. not (has s i)) codeword
  pub these : (j : ℕ) → j < a.n → has s (suc j) ≡ true → Same a message slack codeword j → ⊥

-- Every pair differs from the record at exactly one set of nodes: the promise below speaks of all pairs.
pub demand-2-differs : (a : Params) (codeword message slack : List ℕ) → Pair a message slack
    → (s : ℕ) × DiffersAt a codeword message slack s × ((s' : ℕ) → DiffersAt a codeword message slack s' → s' ≡ s)
demand-2-differs a codeword message slack pair =
    let d = differs-exists a message slack codeword pair in (
      d.0,
      record { inside = d.1.0; others = d.1.1; these = d.1.2 },
      λ s' d'. differs-unique a message slack codeword s' d.0 (d'.inside, d'.others, d'.these) d.1,
    )

-- "If some pair differs from the record in at most (n − q)/2 traps and the budget sufficed, the set is exactly those traps"; it suffices above
-- the number of sets that come before theirs. Where more nodes are bad this promises nothing, at n − q = 1 of a single one: with (1,2,2,3) and node 3 bad, node 1
-- is blamed (proofs/Figures.antt, 06 0A 0D).
pub demand-2-blame-exact : (a : Params) (codeword : List ℕ) (budget : ℕ) (blame : Blame) → CheckPost a codeword budget (Blamed blame)
    → (message slack : List ℕ) (s : ℕ) → DiffersAt a codeword message slack s → size s + size s ≤ a.n - working a → earlier a.n s < budget
    → blame.set.0 ≡ s
demand-2-blame-exact a codeword budget blame post message slack s d few reach =
    blame-exact a codeword budget blame ((check-accepted a _).0 post.0).valid message slack s d.inside d.others d.these few reach post.1

-- That "the budget sufficed" and that the search was not stopped early, so that the set was found (Found), are one: under these hypotheses it was exactly where the
-- budget is above that number.
pub demand-2-blame-sufficed : (a : Params) (codeword : List ℕ) (budget : ℕ) (blame : Blame) → CheckPost a codeword budget (Blamed blame)
    → (message slack : List ℕ) (s : ℕ) → DiffersAt a codeword message slack s → size s + size s ≤ a.n - working a
    → Found a codeword budget blame ↔ earlier a.n s < budget
demand-2-blame-sufficed a codeword budget blame post message slack s d few =
    blame-sufficed a codeword budget blame ((check-accepted a _).0 post.0).valid message slack s d.inside d.others d.these few post.1

-- The same where fewer sets than the budget were tried, which who calls can see: the set was then found.
pub demand-2-blame-seen : (a : Params) (codeword : List ℕ) (budget : ℕ) (blame : Blame) → CheckPost a codeword budget (Blamed blame)
    → (message slack : List ℕ) (s : ℕ) → DiffersAt a codeword message slack s → size s + size s ≤ a.n - working a → blame.tried < budget
    → blame.set.0 ≡ s
demand-2-blame-seen a codeword budget blame post message slack s d few less =
    blame-seen a codeword budget blame ((check-accepted a _).0 post.0).valid message slack s d.inside d.others d.these few less post.1

-- And with a budget above 0 no node is blamed exactly where one pair gives all blocks.
pub demand-2-blame-none : (a : Params) (codeword : List ℕ) (budget : ℕ) (blame : Blame) → Bytes codeword → CheckPost a codeword budget (Blamed blame)
    → 0 < budget → (blame.set.0 ≡ 0) ↔ Serves a codeword 0
demand-2-blame-none a codeword budget blame bytes post some =
    blame-none a codeword budget blame ((check-accepted a _).0 post.0).valid bytes some post.1

-- From message to blocks, and from any r blocks back: an accepted reading through r nodes, the q lowest of which hold their blocks of an accepted set-up
-- (SameAt), gives its message, whatever the others hold, those of R too.
pub demand-2-back : (a : Params) (message slack old numbers codeword serials left buffer out : List ℕ) (from : ℕ) → Bytes message → Bytes slack
    → EncodePost a message slack old numbers 0 codeword serials → SameAt a from left codeword → DecodePost a left from buffer 0 out → out ≡ message
demand-2-back a message slack old numbers codeword serials left buffer out from hm hs set_up same reading =
    let e = (encode-accepted a _ _ _ _).0 (sym set_up.number) in
    let d = (decode-accepted a _ _ from).0 (sym reading.number) in
    decode-encode a e.valid from d.from_within d.from_size message slack codeword out (encode-pair hm hs set_up) (set_up.served refl).0
    (record { slack = (reading.served refl).slack; gives = gives_same a from (λ j p hj s hp. sym (same j p hj s hp)) (reading.served refl).gives })

-- 3. For every list of History: it opens with an accepted set-up and has no other; each accepted call is given the arrangement in force and the record, with the
-- serials where it is lent them, as the list so far has left them; each accepted change is a send of the change that its serial had before, or begins one, under a
-- higher serial and with none open; accepted rebuilds and rearrangements read undamaged nodes, between closed changes; damage puts whichever bytes into the nodes of
-- whichever set within n, one or several together (document 02, 2026-04). (Document 02 asks two things more, which are not needed: that a closed change is not sent again
-- once anything else was written, and that readings within the list come between closed changes.) And for every accepted reading after it through undamaged nodes,
-- between closed changes (Reading): the bytes read are the ledger's, in which all sends under one serial count once, ..
pub demand-3 : {events : List Event} {h : Held} {m : Machine} {out : List ℕ} → History events h m → Reading h m out → out ≡ m.ledger
demand-3 = D3.reading-is-ledger

-- .. and the message of the one pair that gives the blocks read: it gives all r of them, and no other gives even those of the q lowest nodes; ..
pub demand-3-pair : {events : List Event} {h : Held} {m : Machine} {out : List ℕ} → History events h m → (rd : Reading h m out)
    → (v : List ℕ) × Gives h.params out v (has rd.from) h.codeword
    × ((x' v' : List ℕ) → Gives h.params x' v' (used h.params rd.from) h.codeword → (x' ≡ out) × (v' ≡ v))
demand-3-pair = D3.reading-is-the-pair's

-- .. and for every two such lists and readings, these are equal exactly when the ledgers are.
pub demand-3-equal : {events events' : List Event} {h h' : Held} {m m' : Machine} {out out' : List ℕ}
    → History events h m → History events' h' m' → Reading h m out → Reading h' m' out' → (out ≡ out') ↔ (m.ledger ≡ m'.ledger)
demand-3-equal = D3.readings-equal

-- The arrangement in force is the machine's, and so is r.
pub demand-3-in-force : {events : List Event} {h : Held} {m : Machine} → History events h m → h.params ≡ m.params
demand-3-in-force = D3.in-force

-- "The dropped traps" are taken "out of the set": damaged nodes are of 1..n.
pub demand-3-damaged : {events : List Event} {h : Held} {m : Machine} → History events h m → (i : ℕ) → m.damaged i ≡ true
    → (1 ≤ i) × (i ≤ h.params.n)
demand-3-damaged = I.damaged-inside

-- Which lists these are, and which readings, with all that is asked in so many words. No node of R is damaged, and every change is closed:
abbrev NoneDamaged : Machine → ℕ → Type 0
NoneDamaged m from = (i : ℕ) → has from i ≡ true → m.damaged i ≡ false

abbrev AllClosed : Machine → Type 0
AllClosed m = (s : ℕ) → m.sends.sent s ≡ true → (i : ℕ) → has (m.sends.to s) i ≡ true → m.sends.reached s i ≡ true

-- An accepted set-up over whichever buffers (SetUp) ..
pub demand-3-set-up : {a : Params} {message slack buffer numbers codeword serials : List ℕ} → Bytes message → Bytes slack → Bytes buffer → Words32 numbers
    → EncodePost a message slack buffer numbers 0 codeword serials → SetUp a message slack codeword serials
demand-3-set-up {buffer = buffer} {numbers = numbers} hx hv hb hn post =
    record { buffer = buffer; numbers = numbers; typed = (hx, hv, hb, hn); accepted = post }

-- .. begins a list, with the machine that its effect leaves.
pub demand-3-begins : {message slack codeword serials : List ℕ} (m : Machine) (g : Given) → SetUp g.params message slack codeword serials
    → History [] (begun g.params codeword serials) (effect m (call g (encode message slack)))
demand-3-begins m g = L.begins

-- Next may come whatever is refused, and alters nothing; and, accepted, a change, which is the same again, W and bytes, if its serial was sent before, and else begins,
-- under a higher serial and with all closed; a rebuild and a rearrangement from undamaged nodes, with all closed; damage; a reading, a difference, a check and a view, while a change is open too.
pub record MayFollow (events : List Event) (h : Held) (m : Machine) : Type 0 where
  pub refused : (h' : Held) (q : ℕ) (e : Event) → Typed e → Step h e (suc q) h' → (h' ≡ h) × History (events ++ e ∷ []) h' m
  pub change : (d : List ℕ) (to serial reached : ℕ) (new serials : List ℕ) → Bytes d → to < 2 ^ 32 → serial < 2 ^ 32 → reached < 2 ^ 32
      → (m.sends.sent serial ≡ true → (to ≡ m.sends.to serial) × (d ≡ m.sends.change serial))
      → (m.sends.sent serial ≡ false → ((s : ℕ) → m.sends.sent s ≡ true → s < serial) × AllClosed m)
      → UpdatePost h.params d to serial reached h.codeword h.serials 0 new serials
      → History (events ++ call (in_force h) (update d to serial reached) ∷ []) (with_record new serials h)
      (effect m (call (in_force h) (update d to serial reached)))
  pub rebuild : (from lost : ℕ) (new serials : List ℕ) → from < 2 ^ 32 → lost < 2 ^ 32 → NoneDamaged m from → AllClosed m
      → RepairPost h.params from lost h.codeword h.serials 0 new serials
      → History (events ++ call (in_force h) (repair from lost) ∷ []) (with_record new serials h) (effect m (call (in_force h) (repair from lost)))
  pub rearrangement : (t : Shape) (buffer numbers message : List ℕ) (from to : ℕ) (new serials : List ℕ) → Bytes buffer → Words32 numbers → Bytes message
      → from < 2 ^ 32 → to < 2 ^ 32 → NoneDamaged m from → AllClosed m
      → ReconfigurePost h.params t h.codeword h.serials from to message buffer numbers 0 new serials
      → History (events ++ call (in_force h) (reconfigure t buffer numbers message from to) ∷ []) (begun (reshaped h.params t) new serials)
      (effect m (call (in_force h) (reconfigure t buffer numbers message from to)))
  pub damaging : (nodes : ℕ) (bytes : List ℕ) → nodes < 2 ^ 32 → Bytes bytes → damage_gate h.params.n nodes ≡ 0
      → History (events ++ damage nodes bytes ∷ []) (with_record (damaged_word h.params h.codeword nodes bytes) h.serials h)
      (effect m (damage nodes bytes))
  pub reading : (from : ℕ) (buffer out : List ℕ) → Bytes buffer → from < 2 ^ 32 → DecodePost h.params h.codeword from buffer 0 out
      → History (events ++ call (in_force h) (decode buffer from) ∷ []) h m
  pub difference : (to : ℕ) (d buffer out : List ℕ) → Bytes d → Bytes buffer → to < 2 ^ 32 → DeltaPost h.params d to buffer 0 out
      → History (events ++ call (in_force h) (delta d buffer to) ∷ []) h m
  pub checking : (budget : ℕ) (blame : Blame) → CheckPost h.params h.codeword budget (Blamed blame)
      → History (events ++ call (in_force h) (ledger.check budget) ∷ []) h m
  pub viewing : (node : ℕ) (part : List ℕ) → view_gate h.params (length h.codeword) node ≡ 0 → ViewPost h.params h.codeword node part
      → History (events ++ call (in_force h) (ledger.view node) ∷ []) h m

pub demand-3-lists : {events : List Event} {h : Held} {m : Machine} → History events h m → MayFollow events h m
demand-3-lists {h = h} y =
    record {
      refused = λ h' q e ty st. (refused-same h h' e (suc q) suc-not st, L.goes_on e y ty (λ z. absurd (suc-not z)) st);
      change = λ d to serial reached new serials hd ht hs hr same begins post.
          L.goes_on (call (in_force h) (update d to serial reached)) y ((tt, tt), hd, ht, hs, hr)
          (λ _. (given-in-force h, record { same = same; higher = λ e. (begins e).0; alone = λ e. (begins e).1 })) (ledger.updated 0 new serials post);
      rebuild = λ from lost new serials hf hl undamaged closed post.
          L.goes_on (call (in_force h) (repair from lost)) y ((tt, tt), hf, hl)
          (λ _. (given-in-force h, record { undamaged = undamaged; closed = closed })) (ledger.repaired 0 new serials post);
      rearrangement = λ t buffer numbers message from to new serials hb hn hx hf ht undamaged closed post.
          L.goes_on (call (in_force h) (reconfigure t buffer numbers message from to)) y ((tt, tt), hb, hn, hx, hf, ht)
          (λ _. (given-in-force h, record { undamaged = undamaged; closed = closed })) (ledger.reconfigured 0 new serials post);
      damaging = λ nodes bytes hn hb z. L.goes_on (damage nodes bytes) y (hn, hb) (λ _. tt) (ledger.damaged (sym z));
      reading = λ from buffer out hb hf post. L.goes_on (call (in_force h) (decode buffer from)) y ((tt, tt), hb, hf) (λ _. given) (ledger.decoded 0 out post);
      difference = λ to d buffer out hd hb ht post. L.goes_on (call (in_force h) (delta d buffer to)) y (hd, hb, ht) (λ _. refl) (ledger.differed 0 out post);
      checking = λ budget blame post. L.goes_on (call (in_force h) (ledger.check budget)) y (tt, tt) (λ _. given) (ledger.checked (Blamed blame) refl post);
      viewing = λ node part z post. L.goes_on (call (in_force h) (ledger.view node)) y (tt, tt) (λ _. given) (ledger.viewed part (sym z) post);
    }
  where
    suc-not : {q : ℕ} → suc q ≡ 0 → ⊥
    suc-not z = omega (arith, z)

    given : RecordInForce h (in_force h)
    given = record { params = refl; codeword = refl }

-- And demand 3 is of every accepted reading after such a list through undamaged nodes with all closed.
pub demand-3-reading : {events : List Event} {h : Held} {m : Machine} → History events h m → (from : ℕ) (buffer out : List ℕ)
    → DecodePost h.params h.codeword from buffer 0 out → NoneDamaged m from → AllClosed m → out ≡ m.ledger
demand-3-reading y from buffer out post undamaged closed =
    demand-3 y (record { from = from; buffer = buffer; accepted = post; readable = record { undamaged = undamaged; closed = closed } })

-- "Whichever traps had it before the drop, sending the same change to all w again, with nothing else written between, must give the record of one whole change"
-- (document 02, 2026-03). A change that was accepted is accepted again; ..
pub broken-send-accepted : {a : Params} {d old serials new serials₁ : List ℕ} {to serial : ℕ} (reached : ℕ)
    → UpdatePost a d to serial reached old serials 0 new serials₁ → update_gate a (length new) (length serials₁) (length d) to serial ≡ 0
broken-send-accepted reached post = send-accepted reached post

-- .. before it there may have been no send, or any such sends and one more, whichever nodes that one reaches (Sendings); ..
pub broken-send-none : {a : Params} {d old serials : List ℕ} {to serial : ℕ}
    → (sends : Sendings a d to serial old serials old serials) × ((i : ℕ) → reached_by sends i ≡ false)
broken-send-none = (none, λ i. refl)

pub broken-send-more : {a : Params} {d old serials mid serials₁ new serials₂ : List ℕ} {to serial : ℕ} (sends : Sendings a d to serial old serials mid serials₁)
    (reached : ℕ) → UpdatePost a d to serial reached mid serials₁ 0 new serials₂
    → (all : Sendings a d to serial old serials new serials₂) × ((i : ℕ) → reached_by all i ≡ (reached_by sends i || has reached i))
broken-send-more = one_more

-- .. after any number of sends of one change to whichever nodes, a send that reaches all of W leaves the record and the serials that one send to all of W
-- would have left, ..
pub broken-send : {a : Params} {d old serials mid serials₁ new serials₂ : List ℕ} {to serial : ℕ} (sends : Sendings a d to serial old serials mid serials₁)
    (reached : ℕ) → Covers (has reached) to → UpdatePost a d to serial reached mid serials₁ 0 new serials₂
    → UpdatePost a d to serial to old serials 0 new serials₂
broken-send sends reached all = resend sends reached (λ i e. either (reached_by sends i) (has reached i) (all i e))
  where
    either : (x y : Bool) → y ≡ true → (x || y) ≡ true
    either true y e = refl
    either false y e = e

-- .. also where it reaches but those that were missed, so that all of them together reach W; ..
pub broken-send-rest : {a : Params} {d old serials mid serials₁ new serials₂ : List ℕ} {to serial : ℕ} (sends : Sendings a d to serial old serials mid serials₁)
    (reached : ℕ) → Covers (λ i. reached_by sends i || has reached i) to → UpdatePost a d to serial reached mid serials₁ 0 new serials₂
    → UpdatePost a d to serial to old serials 0 new serials₂
broken-send-rest = resend

-- .. and that, where the change was new to W, is the change of document 01: the differences are added to W's blocks, and W's nodes have the serial.
pub broken-send-whole : {a : Params} {d old serials mid serials₁ new serials₂ : List ℕ} {to serial : ℕ} (sends : Sendings a d to serial old serials mid serials₁)
    (reached : ℕ) → Covers (λ i. reached_by sends i || has reached i) to → ((j : ℕ) → j < a.n → has to (suc j) ≡ true → get_or serials j 0 < serial)
    → UpdatePost a d to serial reached mid serials₁ 0 new serials₂ → Updated a old d to (has to) new × Stamped a.n (has to) serial serials serials₂
broken-send-whole = resend-whole

-- After a list every change that begins is new to all nodes: its sends, once all of W was reached, make one whole change, with nothing else asked but the rules for
-- lists. ..
pub broken-send-listed : {events : List Event} {h : Held} {m : Machine} → History events h m → {d mid serials₁ new serials₂ : List ℕ} {to serial : ℕ}
    → Sendable m.sends d to serial → m.sends.sent serial ≡ false
    → (sends : Sendings h.params d to serial h.codeword h.serials mid serials₁) (reached : ℕ) → Covers (λ i. reached_by sends i || has reached i) to
    → UpdatePost h.params d to serial reached mid serials₁ 0 new serials₂
    → Updated h.params h.codeword d to (has to) new × Stamped h.params.n (has to) serial h.serials serials₂
broken-send-listed = N.sent-whole

-- .. And a closed change that is sent again, whatever was written since, moves nobody: so that it "is never sent again" need not be asked of a list.
pub late-send-still : {events : List Event} {h : Held} {m : Machine} → History events h m → (d : List ℕ) (to serial reached : ℕ) (new serials : List ℕ)
    → m.sends.sent serial ≡ true → to ≡ m.sends.to serial → ((i : ℕ) → has to i ≡ true → m.sends.reached serial i ≡ true)
    → UpdatePost h.params d to serial reached h.codeword h.serials 0 new serials → (new ≡ h.codeword) × (serials ≡ h.serials)
late-send-still = N.late-still

-- "A grower's neighbour may walk off with n − w traps. For every choice of n − w traps, every two messages under one arrangement, and every list of accepted changes
-- and rebuilds used after both set-ups, with no damage: each slack of the first message has exactly one slack of the second for which those traps end with equal
-- bytes. It covers loose arrangements too" (document 02, 2026-07). So where all slacks are equally likely, what these nodes end with is as likely after the one message
-- as after the other, and tells nothing of it, to one who knows the list and its changes too.
pub stolen : {a : Params} {message slack : List ℕ} {events : List Event} {h : Held} → UpkeepAfter a message slack events h → (message' : List ℕ)
    → Parts a.b a.k message' → (nodes : ℕ) → within a.n nodes ≡ true → size nodes ≡ a.n - a.w
    → ExactlyOne (EndsAlike a events nodes h.codeword message')
stolen y message' parts nodes inside many = S.stolen-one y message' parts nodes (record { inside = inside; many = many })

-- "every list of accepted changes and rebuilds": an accepted set-up begins one (UpkeepAfter), ..
pub stolen-begins : {a : Params} {message slack buffer numbers codeword serials : List ℕ} → Bytes message → Bytes slack → Bytes buffer → Words32 numbers
    → EncodePost a message slack buffer numbers 0 codeword serials → UpkeepAfter a message slack [] (begun a codeword serials)
stolen-begins = U.begins

-- .. and each change and each rebuild that is accepted on what is then held may come next, whatever its serial, the nodes that it reaches, and what came before.
pub stolen-change : {a : Params} {message slack : List ℕ} {events : List Event} {h : Held} → UpkeepAfter a message slack events h → {new serials : List ℕ}
    → (d : List ℕ) (to serial reached : ℕ) → Typed (call (in_force h) (update d to serial reached))
    → UpdatePost h.params d to serial reached h.codeword h.serials 0 new serials
    → UpkeepAfter a message slack (events ++ call (in_force h) (update d to serial reached) ∷ []) (with_record new serials h)
stolen-change = U.change-next

pub stolen-rebuild : {a : Params} {message slack : List ℕ} {events : List Event} {h : Held} → UpkeepAfter a message slack events h → {new serials : List ℕ}
    → (from lost : ℕ) → Typed (call (in_force h) (repair from lost)) → RepairPost h.params from lost h.codeword h.serials 0 new serials
    → UpkeepAfter a message slack (events ++ call (in_force h) (repair from lost) ∷ []) (with_record new serials h)
stolen-rebuild = U.rebuild-next

-- "used after both set-ups": after every other accepted set-up under these parameters, with whichever message, slack and buffers, the list is accepted too, and the
-- serials, which are kept beside the record, end the same.
pub stolen-accepted : {a : Params} {message slack : List ℕ} {events : List Event} {h : Held} → UpkeepAfter a message slack events h
    → (message' slack' buffer numbers codeword serials : List ℕ) → Bytes message' → Bytes slack' → Bytes buffer → Words32 numbers
    → EncodePost a message' slack' buffer numbers 0 codeword serials
    → (h' : Held) × Upkeep (begun a codeword serials) events h' × (h'.serials ≡ h.serials)
stolen-accepted = S.upkeep-too

-- What a set-up and a list leave is settled by message, slack and list: no "there is" above leaves a choice.
pub stolen-settled : {a : Params} {message slack : List ℕ} {events : List Event} {h h' : Held} → UpkeepAfter a message slack events h
    → UpkeepAfter a message slack events h' → h ≡ h'
stolen-settled = U.after-once

-- Fewer nodes are some of n − w, and tell no more. That each message has a slack for which they end with equal bytes:
pub stolen-fewer : {a : Params} {message slack : List ℕ} {events : List Event} {h : Held} → UpkeepAfter a message slack events h → (message' : List ℕ)
    → Parts a.b a.k message' → (nodes : ℕ) → within a.n nodes ≡ true → size nodes ≤ a.n - a.w
    → (slack' : List ℕ) × EndsAlike a events nodes h.codeword message' slack'
stolen-fewer = S.fewer-some

-- More nodes tell something, one more already: some message has no slack for which they end with equal bytes. ..
pub stolen-more : {a : Params} {message slack : List ℕ} {events : List Event} {h : Held} → UpkeepAfter a message slack events h → (nodes : ℕ)
    → within a.n nodes ≡ true → a.n - a.w < size nodes
    → (message' : List ℕ) × Parts a.b a.k message' × ((slack' : List ℕ) → EndsAlike a events nodes h.codeword message' slack' → ⊥)
stolen-more = S.more-none

-- .. And n − w + k nodes or more, the working number, tell message and slack of the set-up to one who knows the list; with k = 1 that is one node more.
pub stolen-all : {a : Params} {message slack : List ℕ} {events : List Event} {h : Held} → UpkeepAfter a message slack events h → (nodes : ℕ)
    → within a.n nodes ≡ true → working a ≤ size nodes → (message' slack' : List ℕ) → EndsAlike a events nodes h.codeword message' slack'
    → (message' ≡ message) × (slack' ≡ slack)
stolen-all = S.working-all
