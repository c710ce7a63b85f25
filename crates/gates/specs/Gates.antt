-- "Questions at the gate" (document 01): each call's list of questions, in its order, and the number of the first whose answer is no.
-- Lengths are those of the slices lent; sets are numbers of 32 bits. Assumes nothing.
use Rattle.std.specs.Prelude.{Bool, ◌&&◌, List, [], ◌∷◌, ◌++◌, ℕ, ◌+◌, ◌*◌, leb, eqb}
use Rattle.base.specs.Gate.{Question, ask, first_no}
use Rattle.params.specs.Nodes.{size, within, disjoint}
use Rattle.params.specs.Params.{slack_parts, shape_of}
use Rattle.params.specs.declared.Params.{Params}
use Rattle.params.specs.declared.Shape.{Shape}

-- "Is n from 1 to 32? No: 1. Are r and w at most n? No: 2. Is k at least 1, at most r and at most w? No: 3." "Question 4 becomes: is r + w at least k + n? Answer
-- 14 changes alike" (document 02, 2026-01). "For the new arrangement, the first four again? No: 11, 12, 13, 14": the same with 10 more.
abbrev pub shape_asked : ℕ → Shape → List Question
shape_asked more t =
    ask (leb 1 t.n && leb t.n 32) (more + 1) ∷
    ask (leb t.r t.n && leb t.w t.n) (more + 2) ∷
    ask ((leb 1 t.k && leb t.k t.r) && leb t.k t.w) (more + 3) ∷
    ask (leb (t.k + t.n) (t.r + t.w)) (more + 4) ∷ []

-- "Is B from 1 to 1,024? No: 5."
abbrev pub block_asked : Params → Question
block_asked a = ask (leb 1 a.b && leb a.b 1024) 5

-- "Every other call puts 1 to 5 .."
abbrev pub params_asked : Params → List Question
params_asked a = shape_asked 0 (shape_of a) ++ (block_asked a ∷ [])

-- "Has each lent slice its exact length? No: 6." Serials are "a slice of n numbers lent to set-up, change, rebuild and rearrangement (old and new) under
-- question 6" (document 02, 2026-03).
abbrev pub lengths_asked : Bool → Question
lengths_asked right = ask right 6

-- "Does each choice name only traps up to its n? No: 7."
abbrev pub names_asked : Bool → Question
names_asked right = ask right 7

-- "Has R size r, W size w, W' size w'? No: 8."
abbrev pub sizes_asked : Bool → Question
sizes_asked right = ask right 8

-- "Is L free of R's traps? No: 9."
abbrev pub free_asked : ℕ → ℕ → Question
free_asked l r = ask (disjoint l r) 9

-- "Errors: 24, serial is 0, put after question 8" (document 02, 2026-03).
abbrev pub serial_asked : ℕ → Question
serial_asked serial = ask (leb 1 serial) 24

-- "Is the trap number from 1 to n? No: 10."
abbrev pub node_asked : ℕ → ℕ → Question
node_asked n i = ask (leb 1 i && leb i n) 10

-- ".. and 6, and then: set-up and check nothing more": set-up, with the lengths of message, slack, record and serials
unfoldable pub encode_gate : Params → ℕ → ℕ → ℕ → ℕ → ℕ
encode_gate a message slack codeword serials =
    first_no
    (params_asked a ++
    lengths_asked (eqb serials a.n && ((eqb message (a.k * a.b) && eqb slack (slack_parts a * a.b)) && eqb codeword (a.n * a.b))) ∷ [])

-- check
unfoldable pub check_gate : Params → ℕ → ℕ
check_gate a codeword = first_no (params_asked a ++ lengths_asked (eqb codeword (a.n * a.b)) ∷ [])

-- "reading, difference and change 7, 8": reading, with the record's length, that of the buffer for the message, and R
unfoldable pub decode_gate : Params → ℕ → ℕ → ℕ → ℕ
decode_gate a codeword out from =
    first_no
    (params_asked a ++ lengths_asked (eqb codeword (a.n * a.b) && eqb out (a.k * a.b)) ∷
    names_asked (within a.n from) ∷ sizes_asked (eqb (size from) a.r) ∷ [])

-- difference, with the lengths of d and of the buffer for the differences, and W
unfoldable pub delta_gate : Params → ℕ → ℕ → ℕ → ℕ
delta_gate a change out to =
    first_no
    (params_asked a ++ lengths_asked (eqb change (a.k * a.b) && eqb out (a.w * a.b)) ∷
    names_asked (within a.n to) ∷ sizes_asked (eqb (size to) a.w) ∷ [])

-- change, with the lengths of record, serials and d, W and the serial
unfoldable pub update_gate : Params → ℕ → ℕ → ℕ → ℕ → ℕ → ℕ
update_gate a codeword serials change to serial =
    first_no
    (params_asked a ++ lengths_asked (eqb serials a.n && (eqb codeword (a.n * a.b) && eqb change (a.k * a.b))) ∷
    names_asked (within a.n to) ∷ sizes_asked (eqb (size to) a.w) ∷ serial_asked serial ∷ [])

-- "rebuild 7, 8, 9", with the lengths of record and serials, R and L
unfoldable pub repair_gate : Params → ℕ → ℕ → ℕ → ℕ → ℕ
repair_gate a codeword serials from lost =
    first_no
    (params_asked a ++ lengths_asked (eqb serials a.n && eqb codeword (a.n * a.b)) ∷
    names_asked (within a.n from && within a.n lost) ∷ sizes_asked (eqb (size from) a.r) ∷ free_asked lost from ∷ [])

-- "view 10", with the record's length and the trap number
unfoldable pub view_gate : Params → ℕ → ℕ → ℕ
view_gate a codeword i = first_no (params_asked a ++ lengths_asked (eqb codeword (a.n * a.b)) ∷ node_asked a.n i ∷ [])

-- "rearrangement 11 to 14 before 6, then 7, 8", with the lengths of record and serials, the old ones and those of the buffers for the new (new, numbers), and of the new message, R and W'
unfoldable pub reconfigure_gate : Params → Shape → ℕ → ℕ → ℕ → ℕ → ℕ → ℕ → ℕ → ℕ
reconfigure_gate a t old serials new numbers message from to =
    first_no
    ((params_asked a ++ shape_asked 10 t) ++
    lengths_asked
    ((eqb serials a.n && eqb numbers t.n) && ((eqb old (a.n * a.b) && eqb new (t.n * a.b)) && eqb message (t.k * a.b))) ∷
    names_asked (within a.n from && within t.n to) ∷ sizes_asked (eqb (size from) a.r && eqb (size to) t.w) ∷ [])

-- A damage event with a set: "All are replaced, or none if a trap is above n (answer 7; 10 no longer comes from events)" (document 02, 2026-04)
unfoldable pub damage_gate : ℕ → ℕ → ℕ
damage_gate n s = first_no (names_asked (within n s) ∷ [])
