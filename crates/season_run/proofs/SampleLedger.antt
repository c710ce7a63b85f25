-- A file with every kind of event, to which the theorems of LedgerRun apply: its accepted rebuild and rearrangement read undamaged nodes, and so its last reading,
-- through the node that a box of cards has left, prints the ledger. Assumes nothing.
use mathlib.Core.Path.{◌≡◌, refl}
use mathlib.Core.List.{List, [], ◌∷◌}
use Prim.Native.Nat.{ℕ}
use native.Mathlib.Omega.{arith}
use lib.Count.{ones}
use Rattle.base.specs.Gate.{first_no}
use Rattle.base.specs.Seq.{cell, blocks, tabulate}
use Rattle.field.specs.Field.{add, mul, pow}
use Rattle.field.specs.FiniteSum.{sum}
use Rattle.interpolation.specs.Polynomial.{evaluate}
use Rattle.params.specs.Nodes.{has, size, within, disjoint, count, lowest}
use Rattle.params.specs.Params.{slack_parts, working}
use Rattle.gates.specs.Gates.{encode_gate, decode_gate, update_gate, repair_gate, reconfigure_gate, damage_gate}
use Rattle.params.specs.declared.Params.{Params}
use Rattle.serials.specs.Serials.{highest}
use Rattle.code.specs.Code.{point, block}
use Rattle.ledger.specs.Ledger.{Held, Machine, begun, damaged_word, updated, repaired, damaged, decoded, reconfigured, stepped}
use Rattle.ledger.specs.Ledger as ledger
use Rattle.ledger.proofs.Computed.{bytes, encode-by, decode-by, update-by, repair-by, reconfigure-by, undamaged-by}
use Rattle.season_file.specs.File.{number_at, choice_at, opening_of, item_at}
use Rattle.season_lines.specs.Lines.{line_of}
use Rattle.season_answers.specs.Answers.{answer_of}
use Rattle.season_file.specs.declared.Event.TheVariants.{Update, Repair, Damage, Decode, Reconfigure}
use Rattle.season_file.specs.declared.Found.{Found}
use Rattle.season_file.specs.declared.Header.{Header}
use Rattle.season_run.specs.Season.{Place, Outcome, on, Opens, Goes}
use Rattle.season_run.specs.Season as season
use Rattle.season_run.specs.Ledgers.{Reached, opened, tried, ReadsUndamaged, listed_at}
use Rattle.season_run.proofs.LedgerRun.{season-line}

-- (1,1,3,3), one byte a block: each node has the message times its point
abbrev input : List ℕ
input =
    0x00 ∷ 0x05 ∷ 0x00 ∷ 0x01 ∷ 0x00 ∷ 0x01 ∷ 0x00 ∷ 0x03 ∷ 0x00 ∷ 0x03 ∷ 0x00 ∷ 0x01 ∷
    0x00 ∷ 0x01 ∷ 0x07 ∷
    0x00 ∷ 0x00 ∷
    0x00 ∷ 0x07 ∷
    0x01 ∷ 0x00 ∷ 0x00 ∷ 0x00 ∷ 0x07 ∷ 0x05 ∷
    0x04 ∷ 0x00 ∷ 0x00 ∷ 0x00 ∷ 0x04 ∷
    0x03 ∷ 0x00 ∷ 0x00 ∷ 0x00 ∷ 0x05 ∷ 0xaa ∷ 0xff ∷
    0x02 ∷ 0x00 ∷ 0x00 ∷ 0x00 ∷ 0x02 ∷ 0x00 ∷ 0x00 ∷ 0x00 ∷ 0x05 ∷
    0x05 ∷ 0x00 ∷ 0x00 ∷ 0x00 ∷ 0x01 ∷ 0x00 ∷ 0x01 ∷ 0x00 ∷ 0x01 ∷ 0x00 ∷ 0x02 ∷ 0x00 ∷ 0x02 ∷ 0x00 ∷ 0x00 ∷ 0x00 ∷ 0x03 ∷ 0x03 ∷
    0x03 ∷ 0x00 ∷ 0x00 ∷ 0x00 ∷ 0x02 ∷ 0xee ∷
    0x04 ∷ 0x00 ∷ 0x00 ∷ 0x00 ∷ 0x01 ∷ []

abbrev copies : Params
copies = record { k = 1; r = 1; w = 3; n = 3; b = 1 }

abbrev pair : Params
pair = record { k = 1; r = 1; w = 2; n = 2; b = 1 }

abbrev header : Header
header = record { params = copies; message = record { at = 14; count = 1 }; slack = record { at = 17; count = 0 }; events = 7; at = 19 }

-- the events but the last, and where the next one begins
abbrev change : Found
change = record { event = Update (record { to = record { 0 = 7 }; change = record { at = 24; count = 1 } }); next = 25 }

abbrev reading : Found
reading = record { event = Decode (record { from = record { 0 = 4 } }); next = 30 }

abbrev box : Found
box = record { event = Damage (record { nodes = record { 0 = 5 }; blocks = record { at = 35; count = 2 } }); next = 37 }

abbrev rebuild : Found
rebuild = record { event = Repair (record { from = record { 0 = 2 }; lost = record { 0 = 5 } }); next = 46 }

abbrev rearrangement : Found
rearrangement =
    record {
      event =
          Reconfigure
          (record {
            from = record { 0 = 1 };
            shape = record { k = 1; r = 1; w = 2; n = 2 };
            to = record { 0 = 3 };
            message = record { at = 63; count = 1 };
          });
      next = 64;
    }

abbrev card : Found
card = record { event = Damage (record { nodes = record { 0 = 2 }; blocks = record { at = 69; count = 1 } }); next = 70 }

-- where the run stands before each of them
abbrev place : Held → ℕ → ℕ → ℕ → Place
place h number left at = record { stands = h; number = number; left = left; at = at }

abbrev set-up-left : Held
set-up-left = begun copies (0x07 ∷ 0x0e ∷ 0x09 ∷ []) (0 ∷ 0 ∷ 0 ∷ [])

abbrev changed : Held
changed = begun copies (0x02 ∷ 0x04 ∷ 0x06 ∷ []) (1 ∷ 1 ∷ 1 ∷ [])

abbrev boxed : Held
boxed = begun copies (0xaa ∷ 0x04 ∷ 0xff ∷ []) (1 ∷ 1 ∷ 1 ∷ [])

abbrev rearranged : Held
rearranged = begun pair (0x03 ∷ 0x06 ∷ []) (1 ∷ 1 ∷ [])

abbrev swapped : Held
swapped = begun pair (0x03 ∷ 0xee ∷ []) (1 ∷ 1 ∷ [])

abbrev p₁ : Place
p₁ = place set-up-left 1 7 19

abbrev p₂ : Place
p₂ = place changed 2 6 25

abbrev p₃ : Place
p₃ = place changed 3 5 30

abbrev p₄ : Place
p₄ = place boxed 4 4 37

abbrev p₅ : Place
p₅ = place changed 5 3 46

abbrev p₆ : Place
p₆ = place rearranged 6 2 64

abbrev p₇ : Place
p₇ = place swapped 7 1 70

set_up : Opens input (line_of 0 0 0 []) (on p₁)
unfolding opening_of number_at encode_gate first_no slack_parts cell block point evaluate sum add mul pow
set_up = season.opened header (0x07 ∷ 0x0e ∷ 0x09 ∷ []) (0 ∷ 0 ∷ 0 ∷ []) refl (encode-by _ _ _ _ _ tt _ _ refl refl)

changes : Goes input p₁ (line_of 1 1 0 []) (on p₂)
unfolding item_at number_at choice_at answer_of update_gate first_no slack_parts has size ones within count cell block point evaluate sum add mul pow
changes =
    season.tried 6 change _ changed refl refl
    (record {
      message = [];
      prints = refl;
      line_is = refl;
      step = updated 0 (0x02 ∷ 0x04 ∷ 0x06 ∷ []) (1 ∷ 1 ∷ 1 ∷ []) (update-by _ _ _ _ _ _ _ _ _ [] tt);
    })

reads : Goes input p₂ (line_of 2 4 0 (0x02 ∷ [])) (on p₃)
unfolding item_at number_at choice_at answer_of decode_gate first_no slack_parts working has size ones within count lowest cell block point evaluate sum add mul pow
reads =
    season.tried 5 reading _ changed refl refl
    (record {
      message = 0x02 ∷ [];
      prints = record { served = λ _. (decode-by _ _ _ _ [] tt (0x00 ∷ []) refl).served refl; refused = λ ne. absurd (ne refl) };
      line_is = refl;
      step = decoded 0 (0x02 ∷ []) (decode-by _ _ _ _ [] tt _ refl);
    })

swaps : Goes input p₃ (line_of 3 3 0 []) (on p₄)
unfolding item_at number_at choice_at answer_of damage_gate first_no has size ones within count cell blocks tabulate damaged_word
swaps = season.tried 4 box _ boxed refl refl (record { message = []; prints = refl; line_is = refl; step = damaged refl })

rebuilds : Goes input p₄ (line_of 4 2 0 []) (on p₅)
unfolding item_at number_at choice_at answer_of repair_gate first_no slack_parts working has size ones within disjoint count lowest highest cell block point evaluate sum add mul pow
rebuilds =
    season.tried 3 rebuild _ changed refl refl
    (record {
      message = [];
      prints = refl;
      line_is = refl;
      step = repaired 0 (0x02 ∷ 0x04 ∷ 0x06 ∷ []) (1 ∷ 1 ∷ 1 ∷ []) (repair-by _ _ _ _ _ _ _ (0x02 ∷ []) [] tt);
    })

rearranges : Goes input p₅ (line_of 5 5 0 []) (on p₆)
unfolding item_at number_at choice_at answer_of reconfigure_gate first_no slack_parts working has size ones within count lowest highest cell block point evaluate sum add mul pow
rearranges =
    season.tried 2 rearrangement _ rearranged refl refl
    (record {
      message = [];
      prints = refl;
      line_is = refl;
      step = reconfigured 0 (0x03 ∷ 0x06 ∷ []) (1 ∷ 1 ∷ []) (reconfigure-by _ _ _ _ _ _ _ _ _ (0x02 ∷ []) [] [] tt _ _ refl refl);
    })

swaps-one : Goes input p₆ (line_of 6 3 0 []) (on p₇)
unfolding item_at number_at choice_at answer_of damage_gate first_no has size ones within count cell blocks tabulate damaged_word
swaps-one = season.tried 1 card _ swapped refl refl (record { message = []; prints = refl; line_is = refl; step = damaged refl })

-- the list of these events, and what the machine holds before each
abbrev list : List ledger.Event
list =
    listed_at input p₁ change ∷ listed_at input p₂ reading ∷ listed_at input p₃ box ∷ listed_at input p₄ rebuild ∷ listed_at input p₅ rearrangement ∷
    listed_at input p₆ card ∷ []

abbrev m₁ : Machine
m₁ = ledger.opened copies (0x07 ∷ [])

abbrev m₂ : Machine
m₂ = stepped 0 m₁ (listed_at input p₁ change)

abbrev m₃ : Machine
m₃ = stepped 0 m₂ (listed_at input p₂ reading)

abbrev m₄ : Machine
m₄ = stepped 0 m₃ (listed_at input p₃ box)

abbrev m₅ : Machine
m₅ = stepped 0 m₄ (listed_at input p₄ rebuild)

abbrev m₆ : Machine
m₆ = stepped 0 m₅ (listed_at input p₅ rearrangement)

abbrev m₇ : Machine
m₇ = stepped 0 m₆ (listed_at input p₆ card)

-- The run gets through them, ..
pub reached : Reached input list p₇ m₇
unfolding opening_of item_at number_at choice_at answer_of update_gate decode_gate repair_gate reconfigure_gate damage_gate first_no slack_parts has size ones within disjoint
reached =
    tried card
    (tried rearrangement
    (tried rebuild (tried box (tried reading (tried change (opened header refl set_up) refl changes) refl reads) refl swaps) refl rebuilds) refl rearranges)
    refl swaps-one

-- .. its rebuild and its rearrangement read undamaged nodes, ..
pub reads-undamaged : ReadsUndamaged reached
unfolding reached opening_of item_at number_at choice_at answer_of update_gate decode_gate repair_gate reconfigure_gate damage_gate first_no slack_parts has size ones within disjoint
reads-undamaged = (
  (
    ((((tt, λ _. tt), λ _. tt), λ _. tt), λ _. undamaged-by m₄.damaged 2 (omega arith) tt),
    λ _. undamaged-by m₅.damaged 1 (omega arith) tt,
  ),
  λ _. tt,
)

-- .. so whatever the next turn prints, it is the ledger.
pub prints : {line : List ℕ} {outcome : Outcome} → Goes input p₇ line outcome → line ≡ line_of 7 4 0 (0x03 ∷ [])
unfolding item_at number_at choice_at answer_of decode_gate first_no has size ones within
prints =
    season-line input (bytes input tt) reached reads-undamaged (record { from = record { 0 = 1 } }) 75 refl refl (undamaged-by m₇.damaged 1 (omega arith) tt) 0
    refl
