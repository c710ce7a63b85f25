-- A list with every kind of event, accepted and refused, shown to be a history by computing its posts; and the reading after it. Its first change breaks off, a
-- node is damaged while it is open, and it is sent again. Assumes nothing.
use mathlib.Core.Path.{◌≡◌, refl, sym}
use mathlib.Core.Bool.{Bool, true, false, not, ◌&&◌, ◌||◌, true≢false}
use mathlib.Core.List.{List, [], ◌∷◌, ◌++◌}
use Prim.Native.Nat.{ℕ, suc, ◌<◌}
use native.Mathlib.Omega.{arith}
use lib.Count.{ones}
use lib.Dec.{leb}
use Rattle.base.specs.Gate.{first_no}
use Rattle.base.specs.Seq.{cell, blocks, tabulate}
use Rattle.field.specs.Field.{add, plus, mul, pow}
use Rattle.field.specs.FiniteSum.{sum}
use Rattle.interpolation.specs.Polynomial.{evaluate}
use Rattle.params.specs.Nodes.{has, size, within, disjoint, count, lowest}
use Rattle.params.specs.Params.{slack_parts, working}
use Rattle.gates.specs.Gates.{encode_gate, decode_gate, delta_gate, update_gate, repair_gate, reconfigure_gate, check_gate, view_gate, damage_gate}
use Rattle.serials.specs.Serials.{highest}
use Rattle.subsets.specs.Order.{before, how_many, earlier}
use Rattle.code.specs.Code.{point, block}
use Rattle.code.specs.Calls.{Post, Unwritten}
use Rattle.code.specs.Verdict.{Refused, Blamed}
use Rattle.ledger.specs.Ledger.{Held, begun, Sends, no_sends, sending, Machine, opened, held, other, encode, update, repair, reconfigure, decode, delta}
use Rattle.ledger.specs.Ledger.{check, view, Call, Event, call, damage, RecordInForce, in_force, damaged_word, encoded, updated, repaired, reconfigured}
use Rattle.ledger.specs.Ledger.{decoded, differed, checked, viewed, damaged, Closed, Run, done, more, History, Reading}
use Rattle.ledger.proofs.Computed.{bytes, words, encode-by, decode-by, delta-by, update-by, repair-by, reconfigure-by, differing, found-by, stopped_by}
use Rattle.ledger.proofs.Computed.{undamaged-by, sent-none, sent-more, closed-by}
use Rattle.ledger.proofs.Invariant.{given-in-force}
use Rattle.ledger.proofs.Demand3.{reading-is-ledger}
use Rattle.ledger.proofs.Figures.{small, copies, spare}

-- a call that is given the parameters, the record and the serials in force; first these, ..
abbrev on-held : Call → Event
on-held = call (record { params = small; codeword = held; serials = held })

-- .. in the end those with slack to spare
abbrev on-spare : Call → Event
on-spare = call (record { params = spare; codeword = held; serials = held })

-- ---- accepted, from 06 0A 0C with serials 0 0 0

-- node 2's block is 0A, which no other node has
abbrev viewing : Event
viewing = on-held (view 2)

-- change 05 through nodes 1 and 2 under serial 1, but node 1 alone is reached: 00 0A 0C, serials 1 0 0
abbrev broken-change : Event
broken-change = on-held (update (0x05 ∷ []) 0b011 1 0b001)

-- while it is open: a reading, a difference, and damage to node 1, FF 0A 0C
abbrev reading : Event
reading = on-held (decode (0x00 ∷ []) 0b101)

abbrev difference : Event
difference = on-held (delta (0x05 ∷ []) (0x00 ∷ 0x00 ∷ []) 0b011)

abbrev open-blow : Event
open-blow = damage 0b001 (0xff ∷ [])

-- the change is sent again, to the nodes that were missed, and node 3, which is not of W: FF 0C 0C, serials 1 1 0. The two sends together have reached W.
abbrev change-again : Event
change-again = on-held (update (0x05 ∷ []) 0b011 1 0b110)

-- node 1 is rebuilt from nodes 2 and 3, whose highest serial is 1: 00 0C 0C, serials 1 1 0
abbrev first-rebuild : Event
first-rebuild = on-held (repair 0b110 0b001)

-- node 3 is damaged and rebuilt from nodes 1 and 2, whose serial it takes: 00 0C 0C, serials 1 1 1
abbrev other-blow : Event
other-blow = damage 0b100 (0xff ∷ [])

abbrev handing-rebuild : Event
handing-rebuild = on-held (repair 0b011 0b100)

-- a check that may try one set: none is blamed
abbrev checking : Event
checking = on-held (check 1)

-- ---- refused, each kind

-- the slack is too long: 6
abbrev bad-set-up : Event
bad-set-up = on-held (encode (0x07 ∷ []) (0x01 ∷ 0x01 ∷ []))

-- through one node: 8, though the serial is 0
abbrev bad-change : Event
bad-change = on-held (update (0x05 ∷ []) 0b001 0 0b001)

-- lent other serials, too few: 6
abbrev bad-serials : Event
bad-serials = call (record { params = small; codeword = held; serials = other (0 ∷ 0 ∷ []) }) (update (0x05 ∷ []) 0b011 2 0b011)

-- under serial 0: 24
abbrev bad-serial : Event
bad-serial = on-held (update (0x05 ∷ []) 0b011 0 0b011)

-- a node that is lost is read: 9
abbrev bad-rebuild : Event
bad-rebuild = on-held (repair 0b011 0b001)

-- to (1,1,1,2), where r + w is below k + n: 14
abbrev bad-rearrangement : Event
bad-rearrangement = on-held (reconfigure (record { k = 1; r = 1; w = 1; n = 2 }) (0x00 ∷ 0x00 ∷ []) (0 ∷ 0 ∷ []) (0x09 ∷ []) 0b011 0b011)

-- node 4 is read: 7
abbrev bad-reading : Event
bad-reading = on-held (decode (0x00 ∷ []) 0b1001)

-- with blocks of no bytes: 5
abbrev bad-difference : Event
bad-difference = call (record { params = record { k = 1; r = 2; w = 2; n = 3; b = 0 }; codeword = held; serials = held }) (delta [] [] 0b011)

-- another record, which is too short: 6
abbrev bad-check : Event
bad-check = call (record { params = small; codeword = other (0x06 ∷ 0x0a ∷ []); serials = held }) (check 1)

-- of node 0: 10
abbrev bad-view : Event
bad-view = on-held (view 0)

-- to nodes 1 and 4: 7, and node 1 keeps its block too
abbrev bad-blow : Event
bad-blow = damage 0b1001 (0xff ∷ 0xff ∷ [])

-- ---- accepted, over damaged nodes

-- node 1 is damaged: FF 0C 0C
abbrev blow : Event
blow = damage 0b001 (0xff ∷ [])

-- change 07 through nodes 1 and 3 leaves 75 0C 86, serials 2 1 2, and node 1 damaged
abbrev change-over : Event
change-over = on-held (update (0x07 ∷ []) 0b101 2 0b101)

-- node 1 is rebuilt: 8A 0C 86, serials 2 1 2
abbrev rebuild : Event
rebuild = on-held (repair 0b110 0b001)

-- node 1 is damaged again, and its block copied into the next record, AA 24 AE, whose message is 09. Nodes 2 and 3 are written and take 2, node 1 keeps its own: 2 2 2
abbrev second-blow : Event
second-blow = damage 0b001 (0xaa ∷ [])

abbrev rearrangement : Event
rearrangement = on-held (reconfigure (record { k = 1; r = 2; w = 2; n = 3 }) (0x00 ∷ 0x00 ∷ 0x00 ∷ []) (9 ∷ 9 ∷ 9 ∷ []) (0x09 ∷ []) 0b110 0b110)

-- all nodes are written anew for (2,2,3,3): 00 06 06
abbrev widening : Event
widening =
    on-held (reconfigure (record { k = 2; r = 2; w = 3; n = 3 }) (0x00 ∷ 0x00 ∷ 0x00 ∷ []) (0 ∷ 0 ∷ 0 ∷ []) (0x01 ∷ 0x01 ∷ []) 0b110 0b111)

-- ---- accepted, several nodes damaged together

-- all nodes are written anew for (1,1,3,3), which reads one node: 01 02 03
abbrev thinning : Event
thinning =
    call (record { params = record { k = 2; r = 2; w = 3; n = 3; b = 1 }; codeword = held; serials = held })
    (reconfigure (record { k = 1; r = 1; w = 3; n = 3 }) (0x00 ∷ 0x00 ∷ 0x00 ∷ []) (0 ∷ 0 ∷ 0 ∷ []) (0x01 ∷ []) 0b011 0b111)

-- nodes 1 and 3 are damaged together, AA 02 FF; then none
abbrev box : Event
box = damage 0b101 (0xaa ∷ 0xff ∷ [])

abbrev empty-box : Event
empty-box = damage 0b000 []

-- both are rebuilt from node 2: 01 02 03
abbrev box-rebuild : Event
box-rebuild = call (record { params = copies; codeword = held; serials = held }) (repair 0b010 0b101)

-- ---- accepted, with slack to spare

-- all nodes are written anew for (1,2,3,3), which reads two nodes and uses one: 07 0E 09
abbrev sparing : Event
sparing =
    call (record { params = copies; codeword = held; serials = held })
    (reconfigure (record { k = 1; r = 2; w = 3; n = 3 }) (0x00 ∷ 0x00 ∷ 0x00 ∷ []) (0 ∷ 0 ∷ 0 ∷ []) (0x07 ∷ []) 0b100 0b111)

-- a check that may try none stops with nodes 2 and 3
abbrev spare-check : Event
spare-check = on-spare (check 0)

-- node 3 is damaged, 07 0E FF, found by a check, and rebuilt from nodes 1 and 2, of which 1 is used: 07 0E 09
abbrev third-blow : Event
third-blow = damage 0b100 (0xff ∷ [])

abbrev blaming : Event
blaming = on-spare (check 10)

abbrev spare-rebuild : Event
spare-rebuild = on-spare (repair 0b011 0b100)

-- node 2 is damaged: 07 FF 09; nodes 2 and 3 then read F1, which no ledger settles
abbrev fourth-blow : Event
fourth-blow = damage 0b010 (0xff ∷ [])

abbrev spare-reading : Event
spare-reading = on-spare (decode (0x00 ∷ []) 0b110)

-- to (1,3,2,3), which reads all three nodes and uses two: node 1's block is copied, 07 02 05, and the message is 05
abbrev spare-rearrangement : Event
spare-rearrangement =
    on-spare (reconfigure (record { k = 1; r = 3; w = 2; n = 3 }) (0x00 ∷ 0x00 ∷ 0x00 ∷ []) (0 ∷ 0 ∷ 0 ∷ []) (0x05 ∷ []) 0b101 0b110)

-- change 05 through nodes 1 and 2 leaves 01 04 05, serials 3 3 2: message 00, though no block is 00
abbrev spare-change : Event
spare-change = call (record { params = record { k = 1; r = 3; w = 2; n = 3; b = 1 }; codeword = held; serials = held }) (update (0x05 ∷ []) 0b011 3 0b011)

-- to the same shape through all nodes, with nodes 1 and 2 written: F2 F7 05, whose message is 04. Node 3 is copied and keeps its serial, 3 3 2
abbrev copying : Event
copying =
    call (record { params = record { k = 1; r = 3; w = 2; n = 3; b = 1 }; codeword = held; serials = held })
    (reconfigure (record { k = 1; r = 3; w = 2; n = 3 }) (0x00 ∷ 0x00 ∷ 0x00 ∷ []) (0 ∷ 0 ∷ 0 ∷ []) (0x04 ∷ []) 0b111 0b011)

-- ---- the list, in parts, since one as long would take much longer to check

-- a change breaks off, ..
abbrev breaking : List Event
breaking = viewing ∷ broken-change ∷ reading ∷ difference ∷ open-blow ∷ []

-- .. and is sent again
abbrev mending : List Event
mending = change-again ∷ first-rebuild ∷ other-blow ∷ handing-rebuild ∷ checking ∷ []

abbrev refusals : List Event
refusals =
    bad-set-up ∷ bad-change ∷ bad-serials ∷ bad-serial ∷ bad-rebuild ∷ bad-rearrangement ∷ bad-reading ∷ bad-difference ∷ bad-check ∷ bad-view ∷ bad-blow ∷ []

abbrev second : List Event
second = blow ∷ change-over ∷ rebuild ∷ second-blow ∷ rearrangement ∷ widening ∷ []

abbrev boxes : List Event
boxes = thinning ∷ box ∷ empty-box ∷ box-rebuild ∷ []

abbrev third : List Event
third = sparing ∷ spare-check ∷ third-blow ∷ blaming ∷ spare-rebuild ∷ fourth-blow ∷ spare-reading ∷ spare-rearrangement ∷ spare-change ∷ copying ∷ []

abbrev pub events : List Event
events = breaking ++ (mending ++ (refusals ++ (second ++ (boxes ++ third))))

-- what is kept of the changes after each of them
abbrev broken : Sends
broken = sending (0x05 ∷ []) 0b011 1 0b001 no_sends

abbrev mended : Sends
mended = sending (0x05 ∷ []) 0b011 1 0b110 broken

abbrev over : Sends
over = sending (0x07 ∷ []) 0b101 2 0b101 mended

abbrev spared : Sends
spared = sending (0x05 ∷ []) 0b011 3 0b011 over

-- the changes up to a serial, all closed
mended-low : (s : ℕ) → mended.sent s ≡ true → s < 2
mended-low s = sent-more 1 tt (sent-more 1 tt sent-none)

over-low : (s : ℕ) → over.sent s ≡ true → s < 3
over-low s = sent-more 2 tt (sent-more 1 tt (sent-more 1 tt sent-none))

spared-low : (s : ℕ) → spared.sent s ≡ true → s < 4
spared-low s = sent-more 3 tt (sent-more 2 tt (sent-more 1 tt (sent-more 1 tt sent-none)))

mended-closed : Closed mended
unfolding has
mended-closed = closed-by mended.sent mended.to mended.reached 2 mended-low tt

over_closed : Closed over
unfolding has
over_closed = closed-by over.sent over.to over.reached 3 over-low tt

spared-closed : Closed spared
unfolding has
spared-closed = closed-by spared.sent spared.to spared.reached 4 spared-low tt

-- what the parts leave, and what the machine then holds
abbrev open-held : Held
open-held = begun small (0xff ∷ 0x0a ∷ 0x0c ∷ []) (1 ∷ 0 ∷ 0 ∷ [])

abbrev open-machine : Machine
open-machine = record { params = small; ledger = 0x02 ∷ []; damaged = λ i. false || has 0b001 i; sends = broken }

abbrev repaired-held : Held
repaired-held = begun small (0x00 ∷ 0x0c ∷ 0x0c ∷ []) (1 ∷ 1 ∷ 1 ∷ [])

abbrev mended-machine : Machine
mended-machine =
    record {
      params = small;
      ledger = 0x02 ∷ [];
      damaged = λ i. ((open-machine.damaged i && not (has 0b001 i)) || has 0b100 i) && not (has 0b100 i);
      sends = mended;
    }

abbrev wide : Held
wide = begun (record { k = 2; r = 2; w = 3; n = 3; b = 1 }) (0x00 ∷ 0x06 ∷ 0x06 ∷ []) (2 ∷ 2 ∷ 2 ∷ [])

-- a rearrangement takes damaged nodes out of the set: there are three nodes before and after it
abbrev rewrites : ℕ → (ℕ → Bool) → ℕ → Bool
rewrites to before i = ((before i && not (has to i)) && leb i 3) && leb i 3

abbrev widened : Machine
widened =
    record {
      params = wide.params;
      ledger = 0x01 ∷ 0x01 ∷ [];
      damaged = rewrites 0b111 (rewrites 0b110 (λ i. ((mended-machine.damaged i || has 0b001 i) && not (has 0b001 i)) || has 0b001 i));
      sends = over;
    }

abbrev copied : Held
copied = begun copies (0x01 ∷ 0x02 ∷ 0x03 ∷ []) (2 ∷ 2 ∷ 2 ∷ [])

abbrev swapped : Held
swapped = begun copies (0xaa ∷ 0x02 ∷ 0xff ∷ []) (2 ∷ 2 ∷ 2 ∷ [])

abbrev thinned : Machine
thinned =
    record {
      params = copies;
      ledger = 0x01 ∷ [];
      damaged = λ i. ((rewrites 0b111 widened.damaged i || has 0b101 i) || has 0b000 i) && not (has 0b101 i);
      sends = over;
    }

abbrev pub left : Held
left = begun (record { k = 1; r = 3; w = 2; n = 3; b = 1 }) (0xf2 ∷ 0xf7 ∷ 0x05 ∷ []) (3 ∷ 3 ∷ 2 ∷ [])

abbrev pub machine : Machine
machine =
    record {
      params = left.params;
      ledger = 0x04 ∷ [];
      damaged = rewrites 0b011 (rewrites 0b110 (λ i. (rewrites 0b111 thinned.damaged i || has 0b100 i) && not (has 0b100 i) || has 0b010 i));
      sends = spared;
    }

-- an answer other than 0
never : (q : ℕ) → suc q ≡ 0 → ⊥
never q z = omega arith

refused : {gate : ℕ} {A : Type 0} {old : List ℕ} (q : ℕ) → suc q ≡ gate → Post gate (suc q) A (old ≡ old)
refused q e = record { number = e; served = λ z. absurd (never q z); refused = λ _. refl }

both-refused : {gate : ℕ} {A : Type 0} {old serials : List ℕ} (q : ℕ) → suc q ≡ gate → Post gate (suc q) A (Unwritten old serials old serials)
both-refused q e = record { number = e; served = λ z. absurd (never q z); refused = λ _. (refl, refl) }

-- the record in force, for calls that are lent no serials
record-in-force : (h : Held) → RecordInForce h (in_force h)
record-in-force h = record { params = refl; codeword = refl }

breaking-run : Run (begun small (0x06 ∷ 0x0a ∷ 0x0c ∷ []) (0 ∷ 0 ∷ 0 ∷ [])) (opened small (0x07 ∷ [])) breaking open-held open-machine
unfolding decode_gate delta_gate update_gate view_gate damage_gate first_no slack_parts working
    has size ones within count lowest cell blocks tabulate block point evaluate sum add mul pow damaged_word plus
breaking-run =
    more {e = viewing} (tt, tt) (λ _. record-in-force _)
    (viewed (0x0a ∷ []) refl (record { number = refl; served = λ _. refl; refused = λ ne. absurd (ne refl) })) (
    more {e = broken-change} ((tt, tt), bytes (0x05 ∷ []) tt, omega arith, omega arith, omega arith)
    (λ _. (
      given-in-force _,
      record {
        same = λ e. absurd (true≢false (sym e));
        higher = λ _ s e. absurd (true≢false (sym e));
        alone = λ _ s e. absurd (true≢false (sym e));
      },
    ))
    (updated 0 (0x00 ∷ 0x0a ∷ 0x0c ∷ []) (1 ∷ 0 ∷ 0 ∷ []) (update-by _ _ _ _ _ _ _ _ _ (0x03 ∷ []) tt)) (
    more {e = reading} ((tt, tt), bytes (0x00 ∷ []) tt, omega arith) (λ _. record-in-force _)
    (decoded 0 (0x02 ∷ []) (decode-by _ _ _ _ (0x02 ∷ []) tt _ refl)) (
    more {e = difference} (bytes (0x05 ∷ []) tt, bytes (0x00 ∷ 0x00 ∷ []) tt, omega arith) (λ _. refl)
    (differed 0 (0x06 ∷ 0x06 ∷ []) (delta-by _ _ _ _ (0x03 ∷ []) tt _ refl)) (
    more {e = open-blow} (omega arith, bytes (0xff ∷ []) tt) (λ _. tt) (damaged refl) done))))

mending-run : Run open-held open-machine mending repaired-held mended-machine
unfolding update_gate repair_gate check_gate damage_gate first_no slack_parts working
    has size ones within disjoint count lowest highest before how_many earlier cell blocks tabulate block point evaluate sum add mul pow damaged_word plus
mending-run =
    more {e = change-again} ((tt, tt), bytes (0x05 ∷ []) tt, omega arith, omega arith, omega arith)
    (λ _. (
      given-in-force _,
      record { same = λ _. (refl, refl); higher = λ e. absurd (true≢false e); alone = λ e. absurd (true≢false e) },
    ))
    (updated 0 (0xff ∷ 0x0c ∷ 0x0c ∷ []) (1 ∷ 1 ∷ 0 ∷ []) (update-by _ _ _ _ _ _ _ _ _ (0x03 ∷ []) tt)) (
    more {e = first-rebuild} ((tt, tt), omega arith, omega arith)
    (λ _. (given-in-force _, record { undamaged = undamaged-by _ 0b110 (omega arith) tt; closed = mended-closed }))
    (repaired 0 (0x00 ∷ 0x0c ∷ 0x0c ∷ []) (1 ∷ 1 ∷ 0 ∷ []) (repair-by _ _ _ _ _ _ _ (0x02 ∷ []) (0x02 ∷ []) tt)) (
    more {e = other-blow} (omega arith, bytes (0xff ∷ []) tt) (λ _. tt) (damaged refl) (
    more {e = handing-rebuild} ((tt, tt), omega arith, omega arith)
    (λ _. (given-in-force _, record { undamaged = undamaged-by _ 0b011 (omega arith) tt; closed = mended-closed }))
    (repaired 0 (0x00 ∷ 0x0c ∷ 0x0c ∷ []) (1 ∷ 1 ∷ 1 ∷ []) (repair-by _ _ _ _ _ _ _ (0x02 ∷ []) (0x02 ∷ []) tt)) (
    more {e = checking} (tt, tt) (λ _. record-in-force _) (checked (Blamed _) refl (found-by _ _ 0b000 1 (0x02 ∷ []) (0x02 ∷ []) [] tt 1 (omega arith))) done))))

-- what is refused alters nothing
refused-run : Run repaired-held mended-machine refusals repaired-held mended-machine
unfolding encode_gate decode_gate delta_gate update_gate repair_gate reconfigure_gate check_gate view_gate damage_gate first_no slack_parts size ones within disjoint
refused-run =
    more {e = bad-set-up} ((tt, tt), bytes (0x07 ∷ []) tt, bytes (0x01 ∷ 0x01 ∷ []) tt) (λ z. absurd (never 5 z)) (encoded 6 _ _ (both-refused 5 refl)) (
    more {e = bad-change} ((tt, tt), bytes (0x05 ∷ []) tt, omega arith, omega arith, omega arith) (λ z. absurd (never 7 z))
    (updated 8 _ _ (both-refused 7 refl)) (
    more {e = bad-serials} ((tt, words (0 ∷ 0 ∷ []) tt), bytes (0x05 ∷ []) tt, omega arith, omega arith, omega arith) (λ z. absurd (never 5 z))
    (updated 6 _ _ (both-refused 5 refl)) (
    more {e = bad-serial} ((tt, tt), bytes (0x05 ∷ []) tt, omega arith, omega arith, omega arith) (λ z. absurd (never 23 z))
    (updated 24 _ _ (both-refused 23 refl)) (
    more {e = bad-rebuild} ((tt, tt), omega arith, omega arith) (λ z. absurd (never 8 z)) (repaired 9 _ _ (both-refused 8 refl)) (
    more {e = bad-rearrangement} ((tt, tt), bytes (0x00 ∷ 0x00 ∷ []) tt, words (0 ∷ 0 ∷ []) tt, bytes (0x09 ∷ []) tt, omega arith, omega arith)
    (λ z. absurd (never 13 z)) (reconfigured 14 (0x00 ∷ 0x00 ∷ []) (0 ∷ 0 ∷ []) (both-refused 13 refl)) (
    more {e = bad-reading} ((tt, tt), bytes (0x00 ∷ []) tt, omega arith) (λ z. absurd (never 6 z)) (decoded 7 (0x00 ∷ []) (refused 6 refl)) (
    more {e = bad-difference} (bytes [] tt, bytes [] tt, omega arith) (λ z. absurd (never 4 z)) (differed 5 [] (refused 4 refl)) (
    more {e = bad-check} (bytes (0x06 ∷ 0x0a ∷ []) tt, tt) (λ z. absurd (never 5 z))
    (checked (Refused 6) refl (refl, never 5)) (
    more {e = bad-view} (tt, tt) (λ z. absurd (never 9 z))
    (viewed {q = 10} [] refl (record { number = refl; served = λ z. absurd (never 9 z); refused = λ _. refl })) (
    more {e = bad-blow} (omega arith, bytes (0xff ∷ 0xff ∷ []) tt) (λ _. tt) (damaged refl) done))))))))))

second_run : Run repaired-held mended-machine second wide widened
unfolding update_gate repair_gate reconfigure_gate damage_gate first_no slack_parts working
    has size ones within disjoint count lowest highest cell blocks tabulate block point evaluate sum add mul pow damaged_word plus
second_run =
    more {e = blow} (omega arith, bytes (0xff ∷ []) tt) (λ _. tt) (damaged refl) (
    more {e = change-over} ((tt, tt), bytes (0x07 ∷ []) tt, omega arith, omega arith, omega arith)
    (λ _. (
      given-in-force _,
      record { same = λ e. absurd (true≢false (sym e)); higher = λ _ s e. mended-low s e; alone = λ _. mended-closed },
    ))
    (updated 0 (0x75 ∷ 0x0c ∷ 0x86 ∷ []) (2 ∷ 1 ∷ 2 ∷ []) (update-by _ _ _ _ _ _ _ _ _ (0x8d ∷ []) tt)) (
    more {e = rebuild} ((tt, tt), omega arith, omega arith)
    (λ _. (given-in-force _, record { undamaged = undamaged-by _ 0b110 (omega arith) tt; closed = over_closed }))
    (repaired 0 (0x8a ∷ 0x0c ∷ 0x86 ∷ []) (2 ∷ 1 ∷ 2 ∷ []) (repair-by _ _ _ _ _ _ _ (0x05 ∷ []) (0x8f ∷ []) tt)) (
    more {e = second-blow} (omega arith, bytes (0xaa ∷ []) tt) (λ _. tt) (damaged refl) (
    more {e = rearrangement} ((tt, tt), bytes (0x00 ∷ 0x00 ∷ 0x00 ∷ []) tt, words (9 ∷ 9 ∷ 9 ∷ []) tt, bytes (0x09 ∷ []) tt, omega arith, omega arith)
    (λ _. (given-in-force _, record { undamaged = undamaged-by _ 0b110 (omega arith) tt; closed = over_closed }))
    (reconfigured 0 (0xaa ∷ 0x24 ∷ 0xae ∷ []) (2 ∷ 2 ∷ 2 ∷ []) (reconfigure-by _ _ _ _ _ _ _ _ _ (0x05 ∷ []) (0x8f ∷ []) (0x83 ∷ []) tt _ _ refl refl)) (
    more {e = widening} ((tt, tt), bytes (0x00 ∷ 0x00 ∷ 0x00 ∷ []) tt, words (0 ∷ 0 ∷ 0 ∷ []) tt, bytes (0x01 ∷ 0x01 ∷ []) tt, omega arith, omega arith)
    (λ _. (given-in-force _, record { undamaged = undamaged-by _ 0b110 (omega arith) tt; closed = over_closed }))
    (reconfigured 0 (0x00 ∷ 0x06 ∷ 0x06 ∷ []) (2 ∷ 2 ∷ 2 ∷ []) (reconfigure-by _ _ _ _ _ _ _ _ _ (0x09 ∷ []) (0x83 ∷ []) [] tt _ _ refl refl)) done)))))

boxes-run : Run wide widened boxes copied thinned
unfolding repair_gate reconfigure_gate damage_gate first_no slack_parts working
    has size ones within disjoint count lowest highest cell blocks tabulate block point evaluate sum add mul pow damaged_word plus
boxes-run =
    more {e = thinning} ((tt, tt), bytes (0x00 ∷ 0x00 ∷ 0x00 ∷ []) tt, words (0 ∷ 0 ∷ 0 ∷ []) tt, bytes (0x01 ∷ []) tt, omega arith, omega arith)
    (λ _. (given-in-force _, record { undamaged = undamaged-by _ 0b011 (omega arith) tt; closed = over_closed }))
    (reconfigured 0 (0x01 ∷ 0x02 ∷ 0x03 ∷ []) (2 ∷ 2 ∷ 2 ∷ []) (reconfigure-by _ _ _ _ _ _ _ _ _ (0x01 ∷ 0x01 ∷ []) [] [] tt _ _ refl refl)) (
    more {e = box} (omega arith, bytes (0xaa ∷ 0xff ∷ []) tt) (λ _. tt) (damaged refl) (
    more {h = swapped} {h' = swapped} {e = empty-box} (omega arith, bytes [] tt) (λ _. tt) (damaged refl) (
    more {e = box-rebuild} ((tt, tt), omega arith, omega arith)
    (λ _. (given-in-force _, record { undamaged = undamaged-by _ 0b010 (omega arith) tt; closed = over_closed }))
    (repaired 0 (0x01 ∷ 0x02 ∷ 0x03 ∷ []) (2 ∷ 2 ∷ 2 ∷ []) (repair-by _ _ _ _ _ _ _ (0x01 ∷ []) [] tt)) done)))

third-run : Run copied thinned third left machine
unfolding decode_gate update_gate repair_gate reconfigure_gate check_gate damage_gate first_no slack_parts working
    has size ones within disjoint count lowest highest before how_many earlier cell blocks tabulate block point evaluate sum add mul pow damaged_word plus
third-run =
    more {e = sparing} ((tt, tt), bytes (0x00 ∷ 0x00 ∷ 0x00 ∷ []) tt, words (0 ∷ 0 ∷ 0 ∷ []) tt, bytes (0x07 ∷ []) tt, omega arith, omega arith)
    (λ _. (given-in-force _, record { undamaged = undamaged-by _ 0b100 (omega arith) tt; closed = over_closed }))
    (reconfigured 0 (0x07 ∷ 0x0e ∷ 0x09 ∷ []) (2 ∷ 2 ∷ 2 ∷ []) (reconfigure-by _ _ _ _ _ _ _ _ _ (0x01 ∷ []) [] [] tt _ _ refl refl)) (
    more {e = spare-check} (tt, tt) (λ _. record-in-force _) (checked (Blamed _) refl (stopped_by _ _ _ 0b110 2 0b000 [] tt)) (
    more {e = third-blow} (omega arith, bytes (0xff ∷ []) tt) (λ _. tt) (damaged refl) (
    more {e = blaming} (tt, tt) (λ _. record-in-force _)
    (checked (Blamed _) refl
    (found-by _ _ 0b100 4 (0x07 ∷ []) []
    (differing 0b000 (0x07 ∷ []) [] 2 ∷ differing 0b001 (0x07 ∷ []) [] 2 ∷ differing 0b010 (0x07 ∷ []) [] 2 ∷ []) tt 10 (omega arith))) (
    more {e = spare-rebuild} ((tt, tt), omega arith, omega arith)
    (λ _. (given-in-force _, record { undamaged = undamaged-by _ 0b011 (omega arith) tt; closed = over_closed }))
    (repaired 0 (0x07 ∷ 0x0e ∷ 0x09 ∷ []) (2 ∷ 2 ∷ 2 ∷ []) (repair-by _ _ _ _ _ _ _ (0x07 ∷ []) [] tt)) (
    more {e = fourth-blow} (omega arith, bytes (0xff ∷ []) tt) (λ _. tt) (damaged refl) (
    more {e = spare-reading} ((tt, tt), bytes (0x00 ∷ []) tt, omega arith) (λ _. record-in-force _)
    (decoded 0 (0xf1 ∷ []) (decode-by _ _ _ _ [] tt _ refl)) (
    more {e = spare-rearrangement} ((tt, tt), bytes (0x00 ∷ 0x00 ∷ 0x00 ∷ []) tt, words (0 ∷ 0 ∷ 0 ∷ []) tt, bytes (0x05 ∷ []) tt, omega arith, omega arith)
    (λ _. (given-in-force _, record { undamaged = undamaged-by _ 0b101 (omega arith) tt; closed = over_closed }))
    (reconfigured 0 (0x07 ∷ 0x02 ∷ 0x05 ∷ []) (2 ∷ 2 ∷ 2 ∷ []) (reconfigure-by _ _ _ _ _ _ _ _ _ (0x07 ∷ []) [] (0x02 ∷ []) tt _ _ refl refl)) (
    more {e = spare-change} ((tt, tt), bytes (0x05 ∷ []) tt, omega arith, omega arith, omega arith)
    (λ _. (
      given-in-force _,
      record { same = λ e. absurd (true≢false (sym e)); higher = λ _ s e. over-low s e; alone = λ _. over_closed },
    ))
    (updated 0 (0x01 ∷ 0x04 ∷ 0x05 ∷ []) (3 ∷ 3 ∷ 2 ∷ []) (update-by _ _ _ _ _ _ _ _ _ (0x03 ∷ []) tt)) (
    more {e = copying} ((tt, tt), bytes (0x00 ∷ 0x00 ∷ 0x00 ∷ []) tt, words (0 ∷ 0 ∷ 0 ∷ []) tt, bytes (0x04 ∷ []) tt, omega arith, omega arith)
    (λ _. (given-in-force _, record { undamaged = undamaged-by _ 0b111 (omega arith) tt; closed = spared-closed }))
    (reconfigured 0 (0xf2 ∷ 0xf7 ∷ 0x05 ∷ []) (3 ∷ 3 ∷ 2 ∷ []) (reconfigure-by _ _ _ _ _ _ _ _ _ (0x00 ∷ []) (0x01 ∷ []) (0xf6 ∷ []) tt _ _ refl refl)) done)))))))))

-- one list after another
followed : {h h' h'' : Held} {m m' m'' : Machine} {es es' : List Event} → Run h m es h' m' → Run h' m' es' h'' m'' → Run h m (es ++ es') h'' m''
followed done r = r
followed (more t al st rest) r = more t al st (followed rest r)

-- The list is a history, ..
pub example : History events left machine
unfolding encode_gate first_no slack_parts cell block point evaluate sum add mul pow
example =
    record {
      params = small;
      message = 0x07 ∷ [];
      slack = 0x01 ∷ [];
      buffer = 0xff ∷ 0xff ∷ 0xff ∷ [];
      numbers = 7 ∷ 7 ∷ 7 ∷ [];
      codeword = 0x06 ∷ 0x0a ∷ 0x0c ∷ [];
      serials = 0 ∷ 0 ∷ 0 ∷ [];
      typed = (bytes (0x07 ∷ []) tt, bytes (0x01 ∷ []) tt, bytes (0xff ∷ 0xff ∷ 0xff ∷ []) tt, words (7 ∷ 7 ∷ 7 ∷ []) tt);
      opening = encode-by _ _ _ _ _ tt _ _ refl refl;
      run = followed breaking-run (followed mending-run (followed refused-run (followed second_run (followed boxes-run third-run))));
    }

-- .. after which the nodes read 04, by what decode means, ..
pub example-reading : Reading left machine (0x04 ∷ [])
unfolding decode_gate first_no slack_parts working has size ones within count lowest cell block point evaluate sum add mul pow
example-reading =
    record {
      from = 0b111;
      buffer = 0xff ∷ [];
      accepted = decode-by _ _ _ _ (0xf6 ∷ []) tt _ refl;
      readable = record { undamaged = undamaged-by _ 0b111 (omega arith) tt; closed = spared-closed };
    }

-- .. and by the ledger: every reading there gives this byte.
pub example-ledger : (out : List ℕ) → Reading left machine out → out ≡ 0x04 ∷ []
example-ledger out rd = reading-is-ledger example rd

-- ---- more than the request asks: the closed change of serial 2 is sent once more, though another change and rearrangements were written since

abbrev late-send : Event
late-send = call (record { params = record { k = 1; r = 3; w = 2; n = 3; b = 1 }; codeword = held; serials = held }) (update (0x07 ∷ []) 0b101 2 0b101)

-- what the machine then holds: the ledger is as it was
abbrev late-machine : Machine
late-machine = record { params = machine.params; ledger = 0x04 ∷ []; damaged = machine.damaged; sends = sending (0x07 ∷ []) 0b101 2 0b101 spared }

late-run : Run left machine (late-send ∷ []) left late-machine
unfolding update_gate first_no slack_parts working has size ones within count cell block point evaluate sum add mul pow
late-run =
    more {e = late-send} ((tt, tt), bytes (0x07 ∷ []) tt, omega arith, omega arith, omega arith)
    (λ _. (
      given-in-force _,
      record { same = λ _. (refl, refl); higher = λ e. absurd (true≢false e); alone = λ e. absurd (true≢false e) },
    ))
    (updated 0 (0xf2 ∷ 0xf7 ∷ 0x05 ∷ []) (3 ∷ 3 ∷ 2 ∷ []) (update-by _ _ _ _ _ _ _ _ _ (0x8d ∷ []) tt)) done

-- It moves nobody, and the list with it is a history too.
pub example-late : History (events ++ late-send ∷ []) left late-machine
unfolding encode_gate first_no slack_parts cell block point evaluate sum add mul pow
example-late =
    record {
      params = example.params;
      message = example.message;
      slack = example.slack;
      buffer = example.buffer;
      numbers = example.numbers;
      codeword = example.codeword;
      serials = example.serials;
      typed = example.typed;
      opening = example.opening;
      run = followed example.run late-run;
    }
