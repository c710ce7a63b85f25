-- "Figures to prove" (document 01), those of an arrangement with slack to spare, of a broken send and of nodes blamed (document 02, 2026-01, 2026-03 and 2026-06):
-- one table, and one theorem over its rows, by computing. Assumes nothing.
use mathlib.Core.Path.{◌≡◌, refl}
use mathlib.Core.List.{List, [], ◌∷◌}
use Prim.Native.Nat.{ℕ, ◌≤◌}
use native.Mathlib.Omega.{arith}
use lib.Count.{ones}
use lib.ListN.{length}
use Rattle.base.specs.Gate.{first_no}
use Rattle.base.specs.Seq.{cell}
use Rattle.field.specs.Field.{add, mul, pow, Inverse}
use Rattle.field.specs.FiniteSum.{sum}
use Rattle.interpolation.specs.Polynomial.{evaluate}
use Rattle.params.specs.Nodes.{has, size, within, disjoint, count, lowest}
use Rattle.params.specs.Params.{slack_parts, working}
use Rattle.gates.specs.Gates.{encode_gate, decode_gate, delta_gate, update_gate, repair_gate, reconfigure_gate, check_gate}
use Rattle.params.specs.declared.Params.{Params}
use Rattle.params.specs.declared.Shape.{Shape}
use Rattle.serials.specs.Serials.{highest}
use Rattle.subsets.specs.Order.{before, how_many, earlier}
use Rattle.code.specs.Code.{point, block}
use Rattle.code.specs.Calls.{EncodePost, DecodePost, DeltaPost, UpdatePost, RepairPost, ReconfigurePost, CheckPost}
use Rattle.code.specs.Verdict.{Blamed}
use Rattle.ledger.proofs.Computed.{encode-by, decode-by, delta-by, update-by, repair-by, reconfigure-by, Against, differing, found-by, stopped_by}

pub data Row : Type 0 where
  product : (a b c : ℕ) → Row
  inverse : (a b : ℕ) → Row
  power : (a e c : ℕ) → Row
  encodes : Params → (message slack codeword serials : List ℕ) → Row
  differences : Params → (change : List ℕ) (to : ℕ) (out : List ℕ) → Row
  leaves : Params → (old serials change : List ℕ) (to serial reached : ℕ) (new serials' : List ℕ) → Row
  decodes : Params → (codeword : List ℕ) (from : ℕ) (out : List ℕ) → Row
  repairs : Params → (old serials : List ℕ) (from lost : ℕ) (new serials' : List ℕ) → Row
  finds : Params → (codeword : List ℕ) (set tried : ℕ) → Row
  stops : Params → (codeword : List ℕ) (budget set distance : ℕ) → Row
  reconfigures : Params → Shape → (old serials : List ℕ) (from to : ℕ) (message new serials' : List ℕ) → Row

-- What a row says, in the words of the contracts; the answers are 0, and a buffer to fill may hold whichever bytes or numbers.
abbrev pub holds : Row → Type 0
holds (product a b c) = mul a b ≡ c
holds (inverse a b) = Inverse a b
holds (power a e c) = pow a e ≡ c
holds (encodes a x v new serials) =
    (old numbers : List ℕ) → length old ≡ length new → length numbers ≡ length serials → EncodePost a x v old numbers 0 new serials
holds (differences a d to out) = (old : List ℕ) → length old ≡ length out → DeltaPost a d to old 0 out
holds (leaves a old serials d to serial reached new serials') = UpdatePost a d to serial reached old serials 0 new serials'
holds (decodes a codeword from out) = (old : List ℕ) → length old ≡ length out → DecodePost a codeword from old 0 out
holds (repairs a old serials from lost new serials') = RepairPost a from lost old serials 0 new serials'
-- A set found has distance 0, with each budget that allows as many tries; a check that stopped has tried its budget.
holds (finds a codeword s tried) =
    (budget : ℕ) → tried ≤ budget → CheckPost a codeword budget (Blamed (record { set = record { 0 = s }; tried = tried; distance = 0 }))
holds (stops a codeword budget s distance) = CheckPost a codeword budget (Blamed (record { set = record { 0 = s }; tried = budget; distance = distance }))
holds (reconfigures a t old serials from to x new serials') =
    (buffer numbers : List ℕ) → length buffer ≡ length new → length numbers ≡ length serials'
    → ReconfigurePost a t old serials from to x buffer numbers 0 new serials'

abbrev pub All : (Row → Type 0) → List Row → Type 0
All P [] = Unit
All P (row ∷ rows) = P row × All P rows

infixr 5 ◌&◌
-- one row's proof and the others'
◌&◌ : {A B : Type 0} → A → B → A × B
a & b = (a, b)

-- "for (1,2,2,3), B = 1"
abbrev pub small : Params
small = record { k = 1; r = 2; w = 2; n = 3; b = 1 }

-- (1,1,3,3), B = 1: one node is read
abbrev pub copies : Params
copies = record { k = 1; r = 1; w = 3; n = 3; b = 1 }

-- (1,2,3,3), B = 1: two nodes are read, and one is used
abbrev pub spare : Params
spare = record { k = 1; r = 2; w = 3; n = 3; b = 1 }

-- A set's lowest bit is node 1: 0b011 is {1, 2}. Serials are written in decimal.
abbrev pub table : List Row
table =
    -- "80·02 = 1D; 10·10 = 1D; 03·03 = 05; inverse of 02 is 8E; 02^8 = 1D"
    product 0x80 0x02 0x1d ∷
    product 0x10 0x10 0x1d ∷
    product 0x03 0x03 0x05 ∷
    inverse 0x02 0x8e ∷
    power 0x02 8 0x1d ∷
    -- "message 07, slack 01 give 06 0A 0C"; "0 after set-up"
    encodes small (0x07 ∷ []) (0x01 ∷ []) (0x06 ∷ 0x0a ∷ 0x0c ∷ []) (0 ∷ 0 ∷ 0 ∷ []) ∷
    -- "change 05 through traps 1, 2 has differences 06 06 and leaves 00 0C 0C", with serial 1 and all of W reached
    differences small (0x05 ∷ []) 0b011 (0x06 ∷ 0x06 ∷ []) ∷
    leaves small (0x06 ∷ 0x0a ∷ 0x0c ∷ []) (0 ∷ 0 ∷ 0 ∷ []) (0x05 ∷ []) 0b011 1 0b011 (0x00 ∷ 0x0c ∷ 0x0c ∷ []) (1 ∷ 1 ∷ 0 ∷ []) ∷
    -- "traps 1, 3 then read 02"
    decodes small (0x00 ∷ 0x0c ∷ 0x0c ∷ []) 0b101 (0x02 ∷ []) ∷
    -- "change 02 through 1, 3 leaves 03 0C 0F", with serial 2
    leaves small (0x00 ∷ 0x0c ∷ 0x0c ∷ []) (1 ∷ 1 ∷ 0 ∷ []) (0x02 ∷ []) 0b101 2 0b101 (0x03 ∷ 0x0c ∷ 0x0f ∷ []) (2 ∷ 1 ∷ 2 ∷ []) ∷
    -- "traps 2, 3 read 00"
    decodes small (0x03 ∷ 0x0c ∷ 0x0f ∷ []) 0b110 (0x00 ∷ []) ∷
    -- "rebuild of 1 from 2, 3 gives 03"; damage had kept its serial, and it is the highest in R
    repairs small (0xff ∷ 0x0c ∷ 0x0f ∷ []) (2 ∷ 1 ∷ 2 ∷ []) 0b110 0b001 (0x03 ∷ 0x0c ∷ 0x0f ∷ []) (2 ∷ 1 ∷ 2 ∷ []) ∷
    -- "rearranged to (2,2,3,3), message 01 01, all traps in W': 00 06 06"; all are newly written, and take the highest serial in R
    reconfigures small (record { k = 2; r = 2; w = 3; n = 3 }) (0x03 ∷ 0x0c ∷ 0x0f ∷ []) (2 ∷ 1 ∷ 2 ∷ []) 0b110 0b111 (0x01 ∷ 0x01 ∷ [])
    (0x00 ∷ 0x06 ∷ 0x06 ∷ []) (2 ∷ 2 ∷ 2 ∷ []) ∷
    -- with slack to spare: message 07, no slack; then node 2 is damaged, and the lowest node of R alone counts, in a rebuild and a rearrangement too. The
    -- highest serial is that of all of R all the same; node 1, which the rearrangement copies, keeps its own.
    encodes spare (0x07 ∷ []) [] (0x07 ∷ 0x0e ∷ 0x09 ∷ []) (0 ∷ 0 ∷ 0 ∷ []) ∷
    decodes spare (0x07 ∷ 0xff ∷ 0x09 ∷ []) 0b011 (0x07 ∷ []) ∷
    decodes spare (0x07 ∷ 0xff ∷ 0x09 ∷ []) 0b110 (0xf1 ∷ []) ∷
    repairs spare (0x07 ∷ 0xff ∷ 0x00 ∷ []) (1 ∷ 2 ∷ 0 ∷ []) 0b011 0b100 (0x07 ∷ 0xff ∷ 0x09 ∷ []) (1 ∷ 2 ∷ 2 ∷ []) ∷
    reconfigures spare (record { k = 1; r = 3; w = 2; n = 3 }) (0x07 ∷ 0xff ∷ 0x09 ∷ []) (1 ∷ 2 ∷ 0 ∷ []) 0b011 0b110 (0x05 ∷ [])
    (0x07 ∷ 0x02 ∷ 0x05 ∷ []) (1 ∷ 2 ∷ 2 ∷ []) ∷
    -- "The radio drops after some of the w traps have had their difference": the change 05 through 1, 2 from the start, under serial 1, and node 1 alone is reached
    leaves small (0x06 ∷ 0x0a ∷ 0x0c ∷ []) (0 ∷ 0 ∷ 0 ∷ []) (0x05 ∷ []) 0b011 1 0b001 (0x00 ∷ 0x0a ∷ 0x0c ∷ []) (1 ∷ 0 ∷ 0 ∷ []) ∷
    -- "sending the same change to all w again .. must give the record of one whole change": node 1 has the serial and does not add the difference again
    leaves small (0x00 ∷ 0x0a ∷ 0x0c ∷ []) (1 ∷ 0 ∷ 0 ∷ []) (0x05 ∷ []) 0b011 1 0b011 (0x00 ∷ 0x0c ∷ 0x0c ∷ []) (1 ∷ 1 ∷ 0 ∷ []) ∷
    -- "only if the serial is above its own": sent once more it moves nobody
    leaves small (0x00 ∷ 0x0c ∷ 0x0c ∷ []) (1 ∷ 1 ∷ 0 ∷ []) (0x05 ∷ []) 0b011 1 0b011 (0x00 ∷ 0x0c ∷ 0x0c ∷ []) (1 ∷ 1 ∷ 0 ∷ []) ∷
    -- "a choice, any bits, of the traps that the radio reaches": of all that are reached those of W take it
    leaves small (0x06 ∷ 0x0a ∷ 0x0c ∷ []) (0 ∷ 0 ∷ 0 ∷ []) (0x05 ∷ []) 0b011 1 0xffffffff (0x00 ∷ 0x0c ∷ 0x0c ∷ []) (1 ∷ 1 ∷ 0 ∷ []) ∷
    -- "Rebuilt .. traps take the highest serial in R": node 3 from 1, 2, also where its own was higher
    repairs small (0x00 ∷ 0x0c ∷ 0xff ∷ []) (1 ∷ 1 ∷ 0 ∷ []) 0b011 0b100 (0x00 ∷ 0x0c ∷ 0x0c ∷ []) (1 ∷ 1 ∷ 1 ∷ []) ∷
    repairs small (0x00 ∷ 0x0c ∷ 0xff ∷ []) (1 ∷ 2 ∷ 9 ∷ []) 0b011 0b100 (0x00 ∷ 0x0c ∷ 0x0c ∷ []) (1 ∷ 2 ∷ 2 ∷ []) ∷
    -- ".. or newly written": rearranged to (1,2,3,4), message 09, W' of 1, 2, 3, through 1, 2; node 4 is above n and takes it too
    reconfigures small (record { k = 1; r = 2; w = 3; n = 4 }) (0x00 ∷ 0x0c ∷ 0x0c ∷ []) (1 ∷ 1 ∷ 0 ∷ []) 0b0011 0b0111 (0x09 ∷ [])
    (0xc0 ∷ 0x11 ∷ 0xd1 ∷ 0x28 ∷ []) (1 ∷ 1 ∷ 1 ∷ 1 ∷ []) ∷
    -- to (1,1,1,1), message 09, through 2, 3: node 3, which is dropped, had the highest
    reconfigures small (record { k = 1; r = 1; w = 1; n = 1 }) (0x00 ∷ 0x0c ∷ 0x0c ∷ []) (1 ∷ 1 ∷ 5 ∷ []) 0b110 0b001 (0x09 ∷ []) (0x09 ∷ []) (5 ∷ []) ∷
    -- "Check now seeks the smallest set of traps whose removal leaves all others agreeing": none of a sound record; node 2, the third set tried
    finds small (0x06 ∷ 0x0a ∷ 0x0c ∷ []) 0b000 1 ∷
    finds spare (0x07 ∷ 0xff ∷ 0x09 ∷ []) 0b010 3 ∷
    -- "Stopped early, the set is traps q+1..n and the distance is its size less that of the first set not tried": three nodes of three messages. {1, 2} is the
    -- first set that serves; with budget 4 it is the first not tried.
    stops copies (0x01 ∷ 0x01 ∷ 0x01 ∷ []) 0 0b110 2 ∷
    stops copies (0x01 ∷ 0x01 ∷ 0x01 ∷ []) 1 0b110 1 ∷
    stops copies (0x01 ∷ 0x01 ∷ 0x01 ∷ []) 2 0b110 1 ∷
    stops copies (0x01 ∷ 0x01 ∷ 0x01 ∷ []) 3 0b110 1 ∷
    stops copies (0x01 ∷ 0x01 ∷ 0x01 ∷ []) 4 0b110 0 ∷
    finds copies (0x01 ∷ 0x01 ∷ 0x01 ∷ []) 0b011 5 ∷
    -- "With trap 1 bad" it is found behind the empty set, ..
    stops small (0xf9 ∷ 0x0a ∷ 0x0c ∷ []) 0 0b100 1 ∷
    stops small (0xf9 ∷ 0x0a ∷ 0x0c ∷ []) 1 0b100 0 ∷
    finds small (0xf9 ∷ 0x0a ∷ 0x0c ∷ []) 0b001 2 ∷
    -- .. and with node 3 bad node 1 is blamed too: n − q is 1, and nothing tells them apart
    finds small (0x06 ∷ 0x0a ∷ 0x0d ∷ []) 0b001 2 ∷ []

-- why of 01 01 01 the first four sets do not serve
abbrev unlike : List Against
unlike =
    differing 0b000 (0x01 ∷ []) [] 1 ∷ differing 0b001 (0x8e ∷ []) [] 2 ∷ differing 0b010 (0x01 ∷ []) [] 2 ∷ differing 0b100 (0x01 ∷ []) [] 1 ∷ []

-- Every row holds. The lists given are the slacks and pairs that the definitions speak of; a check that stopped is given the first set not tried.
pub figures : All holds table
unfolding encode_gate decode_gate delta_gate update_gate repair_gate reconfigure_gate check_gate first_no slack_parts working has size ones within disjoint count lowest
    highest before how_many earlier cell block point evaluate sum add mul pow
figures =
    refl &
    refl &
    refl &
    record { byte = omega arith; of_zero = λ z. absurd (omega arith); product = λ _. refl } &
    refl &
    encode-by _ _ _ _ _ tt &
    delta-by _ _ _ _ (0x03 ∷ []) tt &
    update-by _ _ _ _ _ _ _ _ _ (0x03 ∷ []) tt &
    decode-by _ _ _ _ (0x02 ∷ []) tt &
    update-by _ _ _ _ _ _ _ _ _ (0x01 ∷ []) tt &
    decode-by _ _ _ _ (0x03 ∷ []) tt &
    repair-by _ _ _ _ _ _ _ (0x00 ∷ []) (0x03 ∷ []) tt &
    reconfigure-by _ _ _ _ _ _ _ _ _ (0x00 ∷ []) (0x03 ∷ []) [] tt &
    encode-by _ _ _ _ _ tt &
    decode-by _ _ _ _ [] tt &
    decode-by _ _ _ _ [] tt &
    repair-by _ _ _ _ _ _ _ (0x07 ∷ []) [] tt &
    reconfigure-by _ _ _ _ _ _ _ _ _ (0x07 ∷ []) [] (0x02 ∷ []) tt &
    update-by _ _ _ _ _ _ _ _ _ (0x03 ∷ []) tt &
    update-by _ _ _ _ _ _ _ _ _ (0x03 ∷ []) tt &
    update-by _ _ _ _ _ _ _ _ _ (0x03 ∷ []) tt &
    update-by _ _ _ _ _ _ _ _ _ (0x03 ∷ []) tt &
    repair-by _ _ _ _ _ _ _ (0x02 ∷ []) (0x02 ∷ []) tt &
    repair-by _ _ _ _ _ _ _ (0x02 ∷ []) (0x02 ∷ []) tt &
    reconfigure-by _ _ _ _ _ _ _ _ _ (0x02 ∷ []) (0x02 ∷ []) (0xc9 ∷ []) tt &
    reconfigure-by _ _ _ _ _ _ _ _ _ (0x02 ∷ []) (0x02 ∷ []) [] tt &
    found-by _ _ _ _ (0x07 ∷ []) (0x01 ∷ []) [] tt &
    found-by _ _ _ _ (0x07 ∷ []) [] (differing 0b000 (0x07 ∷ []) [] 1 ∷ differing 0b001 (0xf1 ∷ []) [] 2 ∷ []) tt &
    stopped_by _ _ _ _ _ 0b000 unlike tt &
    stopped_by _ _ _ _ _ 0b001 unlike tt &
    stopped_by _ _ _ _ _ 0b010 unlike tt &
    stopped_by _ _ _ _ _ 0b100 unlike tt &
    stopped_by _ _ _ _ _ 0b011 unlike tt &
    found-by _ _ _ _ (0xf4 ∷ []) [] unlike tt &
    stopped_by _ _ _ _ _ 0b000 [] tt &
    stopped_by _ _ _ _ _ 0b001 (differing 0b000 (0xad ∷ []) (0x54 ∷ []) 2 ∷ []) tt &
    found-by _ _ _ _ (0x07 ∷ []) (0x01 ∷ []) (differing 0b000 (0xad ∷ []) (0x54 ∷ []) 2 ∷ []) tt &
    found-by _ _ _ _ (0xf2 ∷ []) (0xf5 ∷ []) (differing 0b000 (0x07 ∷ []) (0x01 ∷ []) 2 ∷ []) tt &
    tt
