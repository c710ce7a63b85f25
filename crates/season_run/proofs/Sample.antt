-- The sample of document 01 ("The season program") in the form of document 02, 2026-04: its output is the output of its input, each event by computing what its
-- call's post-condition comes down to. And a file for the edges of that request. Assumes nothing.
use mathlib.Core.Path.{◌≡◌, refl}
use mathlib.Core.List.{List, [], ◌∷◌}
use Prim.Native.Nat.{ℕ, ◌≤◌}
use native.Mathlib.Omega.{arith}
use lib.Count.{ones}
use lib.ListN.{length}
use Rattle.base.specs.Gate.{first_no}
use Rattle.base.specs.Seq.{cell, blocks, tabulate}
use Rattle.field.specs.Field.{add, mul, pow}
use Rattle.field.specs.FiniteSum.{sum}
use Rattle.interpolation.specs.Polynomial.{evaluate}
use Rattle.params.specs.Nodes.{has, size, within, disjoint, count, lowest}
use Rattle.params.specs.Params.{slack_parts, working}
use Rattle.gates.specs.Gates.{encode_gate, decode_gate, update_gate, damage_gate}
use Rattle.params.specs.declared.Params.{Params}
use Rattle.code.specs.Code.{point, block}
use Rattle.ledger.specs.Ledger.{Held, begun, damaged_word, updated, damaged, decoded}
use Rattle.ledger.proofs.Computed.{encode-by, decode-by, update-by}
use Rattle.season_file.specs.File.{number_at, choice_at, opening_of, item_at}
use Rattle.season_lines.specs.Lines.{digits_before, decimal, hex_digit, hex, message_field, line_of}
use Rattle.season_answers.specs.Answers.{answer_of}
use Rattle.season_file.specs.declared.FileFault.TheVariants.{EndsEarly}
use Rattle.season_file.specs.declared.Found.{Found}
use Rattle.season_file.specs.declared.Event.TheVariants.{Update, Damage, Decode}
use Rattle.season_run.specs.Season.{Season, season, opened, turn, tried, faulty, over, done}
use Rattle.season_run.proofs.Output.{output-unique}

-- "Input: 0005 0001 0002 0002 0003 0001, 0001 07, 0001 01, 0005, 01 00000003 05, 04 00000005, 01 00000005 02, .., 04 00000006", with the damage event, which was
-- 03 01 FF, in the form of document 02, 2026-04: 03 00000001 FF
abbrev pub input : List ℕ
input =
    0x00 ∷ 0x05 ∷ 0x00 ∷ 0x01 ∷ 0x00 ∷ 0x02 ∷ 0x00 ∷ 0x02 ∷ 0x00 ∷ 0x03 ∷ 0x00 ∷ 0x01 ∷
    0x00 ∷ 0x01 ∷ 0x07 ∷
    0x00 ∷ 0x01 ∷ 0x01 ∷
    0x00 ∷ 0x05 ∷
    0x01 ∷ 0x00 ∷ 0x00 ∷ 0x00 ∷ 0x03 ∷ 0x05 ∷
    0x04 ∷ 0x00 ∷ 0x00 ∷ 0x00 ∷ 0x05 ∷
    0x01 ∷ 0x00 ∷ 0x00 ∷ 0x00 ∷ 0x05 ∷ 0x02 ∷
    0x03 ∷ 0x00 ∷ 0x00 ∷ 0x00 ∷ 0x01 ∷ 0xff ∷
    0x04 ∷ 0x00 ∷ 0x00 ∷ 0x00 ∷ 0x06 ∷ []

-- "0 0 0", "1 1 0", "2 4 0 02", "3 1 0", "4 3 0", "5 4 0 00", a line end after each
abbrev pub output : List ℕ
output =
    48 ∷ 32 ∷ 48 ∷ 32 ∷ 48 ∷ 10 ∷ 49 ∷ 32 ∷ 49 ∷ 32 ∷ 48 ∷ 10 ∷ 50 ∷ 32 ∷ 52 ∷ 32 ∷ 48 ∷ 32 ∷ 48 ∷ 50 ∷ 10 ∷ 51 ∷ 32 ∷ 49 ∷ 32 ∷ 48 ∷ 10 ∷
    52 ∷ 32 ∷ 51 ∷ 32 ∷ 48 ∷ 10 ∷ 53 ∷ 32 ∷ 52 ∷ 32 ∷ 48 ∷ 32 ∷ 48 ∷ 48 ∷ 10 ∷ []

abbrev small : Params
small = record { k = 1; r = 2; w = 2; n = 3; b = 1 }

-- what is held, with the record and the serials
abbrev stands : List ℕ → List ℕ → Held
stands = begun small

-- the events
abbrev change : ℕ → ℕ → ℕ → Found
change to at after = record { event = Update (record { to = record { 0 = to }; change = record { at = at; count = 1 } }); next = after }

abbrev reading : ℕ → ℕ → Found
reading from after = record { event = Decode (record { from = record { 0 = from } }); next = after }

abbrev blow : Found
blow = record { event = Damage (record { nodes = record { 0 = 1 }; blocks = record { at = 42; count = 1 } }); next = 43 }

-- nothing is left over
ends : length input ≤ 48
ends = omega arith

pub sample : Season input output
unfolding opening_of item_at number_at choice_at line_of decimal digits_before hex_digit hex message_field answer_of encode_gate decode_gate update_gate damage_gate first_no
    slack_parts working has size ones within disjoint count lowest cell blocks tabulate block point evaluate sum add mul pow damaged_word
sample =
    season
    (opened (record { params = small; message = record { at = 14; count = 1 }; slack = record { at = 17; count = 1 }; events = 5; at = 20 })
    (0x06 ∷ 0x0a ∷ 0x0c ∷ []) (0 ∷ 0 ∷ 0 ∷ []) refl (encode-by _ _ _ _ _ tt _ _ refl refl)) (
    turn
    (tried 4 (change 3 25 26) _ (stands (0x00 ∷ 0x0c ∷ 0x0c ∷ []) (1 ∷ 1 ∷ 0 ∷ [])) refl refl
    (record {
      message = [];
      prints = refl;
      line_is = refl;
      step = updated 0 (0x00 ∷ 0x0c ∷ 0x0c ∷ []) (1 ∷ 1 ∷ 0 ∷ []) (update-by _ _ _ _ _ _ _ _ _ (0x03 ∷ []) tt);
    })) (
    turn
    (tried 3 (reading 5 31) _ (stands (0x00 ∷ 0x0c ∷ 0x0c ∷ []) (1 ∷ 1 ∷ 0 ∷ [])) refl refl
    (record {
      message = 0x02 ∷ [];
      prints = record { served = λ _. (decode-by _ _ _ _ (0x02 ∷ []) tt (0x00 ∷ []) refl).served refl; refused = λ ne. absurd (ne refl) };
      line_is = refl;
      step = decoded 0 (0x02 ∷ []) (decode-by _ _ _ _ (0x02 ∷ []) tt _ refl);
    })) (
    turn
    (tried 2 (change 5 36 37) _ (stands (0x03 ∷ 0x0c ∷ 0x0f ∷ []) (3 ∷ 1 ∷ 3 ∷ [])) refl refl
    (record {
      message = [];
      prints = refl;
      line_is = refl;
      step = updated 0 (0x03 ∷ 0x0c ∷ 0x0f ∷ []) (3 ∷ 1 ∷ 3 ∷ []) (update-by _ _ _ _ _ _ _ _ _ (0x01 ∷ []) tt);
    })) (
    turn
    (tried 1 blow _ (stands (0xff ∷ 0x0c ∷ 0x0f ∷ []) (3 ∷ 1 ∷ 3 ∷ [])) refl refl
    (record { message = []; prints = refl; line_is = refl; step = damaged refl })) (
    turn
    (tried 0 (reading 6 48) _ (stands (0xff ∷ 0x0c ∷ 0x0f ∷ []) (3 ∷ 1 ∷ 3 ∷ [])) refl refl
    (record {
      message = 0x00 ∷ [];
      prints = record { served = λ _. (decode-by _ _ _ _ (0x03 ∷ []) tt (0x00 ∷ []) refl).served refl; refused = λ ne. absurd (ne refl) };
      line_is = refl;
      step = decoded 0 (0x00 ∷ []) (decode-by _ _ _ _ (0x03 ∷ []) tt _ refl);
    })) (turn (over refl ends) done))))))

-- no other output belongs to it
pub sample-only : {other : List ℕ} → Season input other → other ≡ output
sample-only s = output-unique s sample

-- ---- boxes of cards, for the same arrangement, message and slack

-- 03 0000000C AA BB: nodes 3 and 4, but there are three. 03 00000000: an empty box. 03 000000FF: 8 nodes, but 7 bytes.
abbrev pub boxes : List ℕ
boxes =
    0x00 ∷ 0x05 ∷ 0x00 ∷ 0x01 ∷ 0x00 ∷ 0x02 ∷ 0x00 ∷ 0x02 ∷ 0x00 ∷ 0x03 ∷ 0x00 ∷ 0x01 ∷
    0x00 ∷ 0x01 ∷ 0x07 ∷
    0x00 ∷ 0x01 ∷ 0x01 ∷
    0x00 ∷ 0x03 ∷
    0x03 ∷ 0x00 ∷ 0x00 ∷ 0x00 ∷ 0x0c ∷ 0xaa ∷ 0xbb ∷
    0x03 ∷ 0x00 ∷ 0x00 ∷ 0x00 ∷ 0x00 ∷
    0x03 ∷ 0x00 ∷ 0x00 ∷ 0x00 ∷ 0xff ∷ 0xcc ∷ 0xcc ∷ 0xcc ∷ 0xcc ∷ 0xcc ∷ 0xcc ∷ 0xcc ∷ []

-- "0 0 0", "1 3 7", "2 3 0", "3 3 21": node 3 keeps its block, the empty box is accepted, and 21 comes before 7
abbrev pub boxes-output : List ℕ
boxes-output =
    48 ∷ 32 ∷ 48 ∷ 32 ∷ 48 ∷ 10 ∷ 49 ∷ 32 ∷ 51 ∷ 32 ∷ 55 ∷ 10 ∷ 50 ∷ 32 ∷ 51 ∷ 32 ∷ 48 ∷ 10 ∷ 51 ∷ 32 ∷ 51 ∷ 32 ∷ 50 ∷ 49 ∷ 10 ∷ []

abbrev box : ℕ → ℕ → ℕ → ℕ → Found
box nodes at count after = record { event = Damage (record { nodes = record { 0 = nodes }; blocks = record { at = at; count = count } }); next = after }

pub boxes-sample : Season boxes boxes-output
unfolding opening_of item_at number_at choice_at line_of decimal digits_before message_field answer_of encode_gate damage_gate first_no
    slack_parts has size ones within count cell blocks tabulate block point evaluate sum add mul pow damaged_word
boxes-sample =
    season
    (opened (record { params = small; message = record { at = 14; count = 1 }; slack = record { at = 17; count = 1 }; events = 3; at = 20 })
    (0x06 ∷ 0x0a ∷ 0x0c ∷ []) (0 ∷ 0 ∷ 0 ∷ []) refl (encode-by _ _ _ _ _ tt _ _ refl refl)) (
    turn
    (tried 2 (box 0b1100 25 2 27) _ (stands (0x06 ∷ 0x0a ∷ 0x0c ∷ []) (0 ∷ 0 ∷ 0 ∷ [])) refl refl
    (record { message = []; prints = refl; line_is = refl; step = damaged refl })) (
    turn
    (tried 1 (box 0b0000 32 0 32) _ (stands (0x06 ∷ 0x0a ∷ 0x0c ∷ []) (0 ∷ 0 ∷ 0 ∷ [])) refl refl
    (record { message = []; prints = refl; line_is = refl; step = damaged refl })) (
    turn (faulty 0 (record { kind = 3; fault = EndsEarly }) refl refl) done)))

pub boxes-only : {other : List ℕ} → Season boxes other → other ≡ boxes-output
boxes-only s = output-unique s boxes-sample
