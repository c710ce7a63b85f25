-- Two set-ups of a loose arrangement and one list after both, with a change that breaks off, a rebuild while it is open and a second send: the stolen nodes end with
-- equal bytes. By computing the posts. Assumes nothing.
use mathlib.Core.Path.{◌≡◌, refl, sym, ap, ◌∙◌, subst}
use mathlib.Core.List.{List, [], ◌∷◌}
use Prim.Native.Nat.{ℕ}
use native.Mathlib.Omega.{arith}
use lib.Count.{ones}
use lib.ListN.{length, get_or}
use Rattle.base.specs.Gate.{first_no}
use Rattle.base.specs.Seq.{cell}
use Rattle.field.specs.Field.{pow}
use Rattle.field.specs.FiniteSum.{sum}
use Rattle.interpolation.specs.Polynomial.{evaluate}
use Rattle.params.specs.Nodes.{has, size, within, disjoint, count, lowest}
use Rattle.params.specs.Params.{slack_parts, working}
use Rattle.params.specs.declared.Params.{Params}
use Rattle.gates.specs.Gates.{encode_gate, update_gate, repair_gate}
use Rattle.gates.proofs.Valid.{encode-accepted}
use Rattle.serials.specs.Serials.{highest}
use Rattle.code.specs.Code.{point, Parts, block}
use Rattle.ledger.specs.Ledger.{Held, begun, held, update, repair, Call, Event, call, updated, repaired}
use Rattle.ledger.specs.Stolen.{Handful, done, more, UpkeepAfter, EndsAlike}
use Rattle.ledger.proofs.Computed.{bytes, words, same, encode-by, update-by, repair-by}
use Rattle.ledger.proofs.Invariant.{given-in-force}
use Rattle.ledger.proofs.Figures.{spare}
use Rattle.ledger.proofs.Stolen.{stolen-one, working-all}

-- (1,4,3,5), B = 1: r + w is one above k + n; the slack has two parts, and three nodes tell all
abbrev loose : Params
loose = record { k = 1; r = 4; w = 3; n = 5; b = 1 }

abbrev on-held : Call → Event
on-held = call (record { params = loose; codeword = held; serials = held })

-- change 05 through nodes 1, 2 and 3 under serial 1, but node 1 alone is reached
abbrev broken-change : Event
broken-change = on-held (update (0x05 ∷ []) 0b00111 1 0b00001)

-- while it is open node 5 is rebuilt from nodes 1 to 4, which 2026-03 does not allow in its lists: the block is then not the message's, D7, where the closed change
-- leaves A0
abbrev open-rebuild : Event
open-rebuild = on-held (repair 0b01111 0b10000)

-- the change is sent again, to all of its nodes: node 1 has it already
abbrev change-again : Event
change-again = on-held (update (0x05 ∷ []) 0b00111 1 0b00111)

abbrev pub events : List Event
events = broken-change ∷ open-rebuild ∷ change-again ∷ []

-- message 07 with slack 01 02: 04 1A 12 8C A0; then 01 1A 12 8C A0, 01 1A 12 8C D7, and
abbrev pub first : Held
first = begun loose (0x01 ∷ 0x13 ∷ 0x91 ∷ 0x8c ∷ 0xd7 ∷ []) (1 ∷ 1 ∷ 1 ∷ 0 ∷ 1 ∷ [])

-- message 00 with slack DE 2B: F5 1A 15 73 A0; then F0 1A 15 73 A0, F0 1A 15 73 D7, and
abbrev pub second : Held
second = begun loose (0xf0 ∷ 0x13 ∷ 0x96 ∷ 0x73 ∷ 0xd7 ∷ []) (1 ∷ 1 ∷ 1 ∷ 0 ∷ 1 ∷ [])

pub first-after : UpkeepAfter loose (0x07 ∷ []) (0x01 ∷ 0x02 ∷ []) events first
unfolding encode_gate update_gate repair_gate first_no working has size ones within disjoint count lowest highest cell block point evaluate sum pow
first-after =
    record {
      buffer = 0xff ∷ 0xff ∷ 0xff ∷ 0xff ∷ 0xff ∷ [];
      numbers = 7 ∷ 7 ∷ 7 ∷ 7 ∷ 7 ∷ [];
      codeword = 0x04 ∷ 0x1a ∷ 0x12 ∷ 0x8c ∷ 0xa0 ∷ [];
      serials = 0 ∷ 0 ∷ 0 ∷ 0 ∷ 0 ∷ [];
      typed =
          (bytes (0x07 ∷ []) tt, bytes (0x01 ∷ 0x02 ∷ []) tt, bytes (0xff ∷ 0xff ∷ 0xff ∷ 0xff ∷ 0xff ∷ []) tt, words (7 ∷ 7 ∷ 7 ∷ 7 ∷ 7 ∷ []) tt);
      opening = encode-by _ _ _ _ _ tt _ _ refl refl;
      upkeep =
          more {e = broken-change} ((tt, tt), bytes (0x05 ∷ []) tt, omega arith, omega arith, omega arith) (given-in-force _)
          (updated 0 (0x01 ∷ 0x1a ∷ 0x12 ∷ 0x8c ∷ 0xa0 ∷ []) (1 ∷ 0 ∷ 0 ∷ 0 ∷ 0 ∷ []) (update-by _ _ _ _ _ _ _ _ _ (0x47 ∷ 0x47 ∷ []) tt)) (
          more {e = open-rebuild} ((tt, tt), omega arith, omega arith) (given-in-force _)
          (repaired 0 (0x01 ∷ 0x1a ∷ 0x12 ∷ 0x8c ∷ 0xd7 ∷ []) (1 ∷ 0 ∷ 0 ∷ 0 ∷ 1 ∷ []) (repair-by _ _ _ _ _ _ _ (0x02 ∷ []) (0x8e ∷ 0x8d ∷ []) tt)) (
          more {e = change-again} ((tt, tt), bytes (0x05 ∷ []) tt, omega arith, omega arith, omega arith) (given-in-force _)
          (updated 0 (0x01 ∷ 0x13 ∷ 0x91 ∷ 0x8c ∷ 0xd7 ∷ []) (1 ∷ 1 ∷ 1 ∷ 0 ∷ 1 ∷ []) (update-by _ _ _ _ _ _ _ _ _ (0x47 ∷ 0x47 ∷ []) tt)) done));
    }

pub second-after : UpkeepAfter loose (0x00 ∷ []) (0xde ∷ 0x2b ∷ []) events second
unfolding encode_gate update_gate repair_gate first_no working has size ones within disjoint count lowest highest cell block point evaluate sum pow
second-after =
    record {
      buffer = 0x00 ∷ 0x00 ∷ 0x00 ∷ 0x00 ∷ 0x00 ∷ [];
      numbers = 0 ∷ 0 ∷ 0 ∷ 0 ∷ 0 ∷ [];
      codeword = 0xf5 ∷ 0x1a ∷ 0x15 ∷ 0x73 ∷ 0xa0 ∷ [];
      serials = 0 ∷ 0 ∷ 0 ∷ 0 ∷ 0 ∷ [];
      typed =
          (bytes (0x00 ∷ []) tt, bytes (0xde ∷ 0x2b ∷ []) tt, bytes (0x00 ∷ 0x00 ∷ 0x00 ∷ 0x00 ∷ 0x00 ∷ []) tt, words (0 ∷ 0 ∷ 0 ∷ 0 ∷ 0 ∷ []) tt);
      opening = encode-by _ _ _ _ _ tt _ _ refl refl;
      upkeep =
          more {e = broken-change} ((tt, tt), bytes (0x05 ∷ []) tt, omega arith, omega arith, omega arith) (given-in-force _)
          (updated 0 (0xf0 ∷ 0x1a ∷ 0x15 ∷ 0x73 ∷ 0xa0 ∷ []) (1 ∷ 0 ∷ 0 ∷ 0 ∷ 0 ∷ []) (update-by _ _ _ _ _ _ _ _ _ (0x47 ∷ 0x47 ∷ []) tt)) (
          more {e = open-rebuild} ((tt, tt), omega arith, omega arith) (given-in-force _)
          (repaired 0 (0xf0 ∷ 0x1a ∷ 0x15 ∷ 0x73 ∷ 0xd7 ∷ []) (1 ∷ 0 ∷ 0 ∷ 0 ∷ 1 ∷ []) (repair-by _ _ _ _ _ _ _ (0x05 ∷ []) (0x51 ∷ 0xa4 ∷ []) tt)) (
          more {e = change-again} ((tt, tt), bytes (0x05 ∷ []) tt, omega arith, omega arith, omega arith) (given-in-force _)
          (updated 0 (0xf0 ∷ 0x13 ∷ 0x96 ∷ 0x73 ∷ 0xd7 ∷ []) (1 ∷ 1 ∷ 1 ∷ 0 ∷ 1 ∷ []) (update-by _ _ _ _ _ _ _ _ _ (0x47 ∷ 0x47 ∷ []) tt)) done));
    }

-- Nodes 2 and 5 are stolen. They hold 13 D7 after both, ..
pub handful : Handful loose 0b10010
unfolding size ones within
handful = record { inside = refl; many = refl }

pub ends-alike : EndsAlike loose events 0b10010 first.codeword (0x00 ∷ []) (0xde ∷ 0x2b ∷ [])
unfolding has cell
ends-alike = record { end = second; after = second-after; alike = same 5 1 (has 0b10010) (cell 1 first.codeword) (cell 1 second.codeword) tt }

-- .. and after no other set-up of message 00.
pub one-slack : (slack : List ℕ) → EndsAlike loose events 0b10010 first.codeword (0x00 ∷ []) slack → slack ≡ 0xde ∷ 0x2b ∷ []
one-slack slack e =
    let one = stolen-one first-after (0x00 ∷ []) (record { length_is = refl; bytes = bytes (0x00 ∷ []) tt }) 0b10010 handful in
    one.2 slack e ∙ sym (one.2 (0xde ∷ 0x2b ∷ []) ends-alike)

-- A third node, 1, and the message 00 is ruled out.
pub one-node-more : (slack : List ℕ) → EndsAlike loose events 0b10011 first.codeword (0x00 ∷ []) slack → ⊥
unfolding working size ones within
one-node-more slack e = differ (ap (λ (l : List ℕ). get_or l 0 0) (working-all first-after 0b10011 refl (omega arith) (0x00 ∷ []) slack e).0)
  where
    differ : ◌≡◌ {A = ℕ} 0x00 0x07 → ⊥
    differ z = omega arith

-- ---- where every change goes to all nodes

-- there is no slack, and the handful is empty; (1,2,3,3) is loose too
none-stolen : Handful spare 0
unfolding size ones within
none-stolen = record { inside = refl; many = refl }

empty : (xs : List ℕ) → length xs ≡ 0 → xs ≡ []
empty [] e = refl
empty (x ∷ xs) e = absurd (omega (arith, e))

-- The one slack is that of no bytes, after every list.
pub no-slack : {message slack : List ℕ} {events : List Event} {h : Held} → UpkeepAfter spare message slack events h → (message' : List ℕ) → Parts 1 1 message'
    → EndsAlike spare events 0 h.codeword message' []
unfolding slack_parts
no-slack {events = events} {h = h} y message' parts =
    let one = stolen-one y message' parts 0 none-stolen in
    subst (EndsAlike spare events 0 h.codeword message')
    (empty one.0 ((encode-accepted spare _ _ _ _).0 (sym one.1.after.opening.number)).slack_length) one.1
