-- "The calls" (document 01, with what document 02 changes): for each, what its answer and every byte of its buffers are, served and refused. Results are said
-- by their meaning, through the one pair with the given blocks; that there is exactly one is proved in proofs/. Assumes nothing.
use Rattle.std.specs.Prelude.{◌≡◌, Bool, true, false, not, ◌&&◌, ◌||◌, ◌⊎◌, List, [], ℕ, suc, ◌+◌, ◌-◌, ◌*◌, ◌<◌, leb, ltb, length, take, drop, replicate, Result, Ok, Err}
use Rattle.base.specs.Seq.{cell}
use Rattle.field.specs.Field.{add}
use Rattle.params.specs.Nodes.{has, size, within, count}
use Rattle.params.specs.Params.{slack_parts, working, reshaped}
use Rattle.gates.specs.Gates.{encode_gate, decode_gate, delta_gate, update_gate, repair_gate, check_gate, view_gate, reconfigure_gate}
use Rattle.gates.specs.Refusals as refusals
use Rattle.gates.specs.declared.Refusal.{Refusal}
use Rattle.params.specs.declared.Params.{Params}
use Rattle.params.specs.declared.Shape.{Shape}
use Rattle.serials.specs.Serials.{takes, highest, Stamped}
use Rattle.subsets.specs.Order.{before, earlier}
use Rattle.code.specs.Code.{Parts, block, Pair, Gives, used}
use Rattle.code.specs.declared.Blame.{Blame}
use Rattle.code.specs.Verdict.{Verdict, Refused, Blamed}

-- A call answers its gate's number; with 0 it is served, with any other it is refused.
pub record Post (gate answer : ℕ) (WhenServed WhenRefused : Type 0) : Type 0 where
  pub number : answer ≡ gate
  pub served : answer ≡ 0 → WhenServed
  pub refused : (answer ≡ 0 → ⊥) → WhenRefused

-- Two buffers are as they were.
abbrev pub Unwritten : List ℕ → List ℕ → List ℕ → List ℕ → Type 0
Unwritten codeword serials codeword' serials' = (codeword' ≡ codeword) × (serials' ≡ serials)

-- ---- "Set-up: message and slack in, record written." "Each trap gets a 32-bit serial, 0 after set-up" (document 02, 2026-03).

pub record Encoded (a : Params) (x v new : List ℕ) : Type 0 where
  pub length_is : length new ≡ a.n * a.b
  pub holds : (j p : ℕ) → j < a.n → p < a.b → cell a.b new j p ≡ block a x v (suc j) p

abbrev pub EncodePost : Params → List ℕ → List ℕ → List ℕ → List ℕ → ℕ → List ℕ → List ℕ → Type 0
EncodePost a x v old serials answer new serials' =
    Post (encode_gate a (length x) (length v) (length old) (length serials)) answer (Encoded a x v new × (serials' ≡ replicate a.n 0))
    (Unwritten old serials new serials')

-- ---- "Reading: record and a choice R of r traps. Out: the message of the one (message, slack) pair that gives R's blocks", those of R's q lowest nodes. "It
-- is defined for whichever bytes R holds."

pub record Decoded (a : Params) (codeword : List ℕ) (from : ℕ) (out : List ℕ) : Type 0 where
  pub slack : List ℕ
  pub gives : Gives a out slack (used a from) codeword

abbrev pub DecodePost : Params → List ℕ → ℕ → List ℕ → ℕ → List ℕ → Type 0
DecodePost a codeword from old answer out =
    Post (decode_gate a (length codeword) (length old) from) answer (Decoded a codeword from out) (out ≡ old)

-- ---- "Difference: change bytes d (k·B) and a choice W of w traps. Out: w·B bytes, W's traps in rising order. They are the blocks of the one (d, slack)
-- pair that gives 00 at every trap outside W."

-- v is the slack with which d's blocks are 00 at every node of 1..n outside W
pub record Vanishes (a : Params) (d : List ℕ) (to : ℕ) (v : List ℕ) : Type 0 where
  pub slack : Parts a.b (slack_parts a) v
  pub zero : (j p : ℕ) → j < a.n → has to (suc j) ≡ false → p < a.b → block a d v (suc j) p ≡ 0

-- the block of node suc j stands at its rank among W's nodes
pub record Differences (a : Params) (d : List ℕ) (to : ℕ) (out : List ℕ) : Type 0 where
  pub slack : List ℕ
  pub vanishes : Vanishes a d to slack
  pub length_is : length out ≡ a.w * a.b
  pub holds : (j p : ℕ) → j < a.n → has to (suc j) ≡ true → p < a.b → cell a.b out (count (has to) j) p ≡ block a d slack (suc j) p

abbrev pub DeltaPost : Params → List ℕ → ℕ → List ℕ → ℕ → List ℕ → Type 0
DeltaPost a d to old answer out = Post (delta_gate a (length d) (length old) to) answer (Differences a d to out) (out ≡ old)

-- ---- "Change: adds those differences to W's blocks; every other byte stays. The record's bytes have no part in the difference." "A trap of W in that choice"
-- (of the traps that the radio reaches) "adds the difference and takes the serial together, only if the serial is above its own" (document 02, 2026-03).

-- the difference is added to the blocks of the nodes of 1..n that pass the test
pub record Updated (a : Params) (old d : List ℕ) (to : ℕ) (taking : ℕ → Bool) (new : List ℕ) : Type 0 where
  pub slack : List ℕ
  pub vanishes : Vanishes a d to slack
  pub length_is : length new ≡ a.n * a.b
  pub added : (j p : ℕ) → j < a.n → taking (suc j) ≡ true → p < a.b
      → cell a.b new j p ≡ add (cell a.b old j p) (block a d slack (suc j) p)
  pub kept : (j p : ℕ) → j < a.n → taking (suc j) ≡ false → p < a.b → cell a.b new j p ≡ cell a.b old j p

-- one send of a change: those that add the difference are those that take the serial
abbrev pub Sent : Params → List ℕ → (to serial reached : ℕ) → List ℕ → List ℕ → List ℕ → List ℕ → Type 0
Sent a d to serial reached old serials new serials' =
    Updated a old d to (takes to reached serials serial) new × Stamped a.n (takes to reached serials serial) serial serials serials'

abbrev pub UpdatePost : Params → List ℕ → (to serial reached : ℕ) → List ℕ → List ℕ → ℕ → List ℕ → List ℕ → Type 0
UpdatePost a d to serial reached old serials answer new serials' =
    Post (update_gate a (length old) (length serials) (length d) to serial) answer (Sent a d to serial reached old serials new serials')
    (Unwritten old serials new serials')

-- ---- "Rebuild: R and a lost choice L. L's blocks become those of R's pair", which its q lowest nodes give. "L may be empty, and then nothing is
-- written." "Rebuilt or newly written traps take the highest serial in R; copied traps .. keep theirs" (document 02, 2026-03), of all r nodes of R.

pub record Repaired (a : Params) (old : List ℕ) (from lost : ℕ) (new : List ℕ) : Type 0 where
  pub message : List ℕ
  pub slack : List ℕ
  pub gives : Gives a message slack (used a from) old
  pub length_is : length new ≡ a.n * a.b
  pub rebuilt : (j p : ℕ) → j < a.n → has lost (suc j) ≡ true → p < a.b → cell a.b new j p ≡ block a message slack (suc j) p
  pub kept : (j p : ℕ) → j < a.n → has lost (suc j) ≡ false → p < a.b → cell a.b new j p ≡ cell a.b old j p

abbrev pub RepairPost : Params → ℕ → ℕ → List ℕ → List ℕ → ℕ → List ℕ → List ℕ → Type 0
RepairPost a from lost old serials answer new serials' =
    Post (repair_gate a (length old) (length serials) from lost) answer
    (Repaired a old from lost new × Stamped a.n (has lost) (highest (has from) serials a.n) serials serials') (Unwritten old serials new serials')

-- ---- "Rearrangement: from k, r, w, n to k', r', w', n', same B, with R of r old traps, W' of w' of the new n', and a new message of k'·B bytes. The old
-- record is only read; the new one has its own buffer."

-- "Traps in W' get the new pair's blocks. Traps above n get theirs too. Any other trap's block is copied from the old record."
abbrev pub writes : Params → ℕ → ℕ → Bool
writes a to i = has to i || ltb a.n i

-- "R's old pair", which its q lowest nodes give, "gives a value z_i for each trap i up to n'. The new pair has the new message and agrees with z_i at every
-- trap of 1..n' outside W'."
pub record Reconfigured (a : Params) (t : Shape) (old : List ℕ) (from to : ℕ) (x new : List ℕ) : Type 0 where
  pub old_message : List ℕ
  pub old_slack : List ℕ
  pub gives : Gives a old_message old_slack (used a from) old
  pub slack : List ℕ
  pub pair : Pair (reshaped a t) x slack
  pub agrees : (j p : ℕ) → j < t.n → has to (suc j) ≡ false → p < a.b
      → block (reshaped a t) x slack (suc j) p ≡ block a old_message old_slack (suc j) p
  pub length_is : length new ≡ t.n * a.b
  pub written : (j p : ℕ) → j < t.n → writes a to (suc j) ≡ true → p < a.b → cell a.b new j p ≡ block (reshaped a t) x slack (suc j) p
  pub copied : (j p : ℕ) → j < t.n → writes a to (suc j) ≡ false → p < a.b → cell a.b new j p ≡ cell a.b old j p

-- The buffers lent are the new record's and the new serials'; the old serials are only read too. ".. newly written traps take the highest serial in R; copied traps
-- .. keep theirs" (document 02, 2026-03).
abbrev pub ReconfigurePost : Params → Shape → List ℕ → List ℕ → ℕ → ℕ → List ℕ → List ℕ → List ℕ → ℕ → List ℕ → List ℕ → Type 0
ReconfigurePost a t old serials from to x buffer numbers answer new serials' =
    Post (reconfigure_gate a t (length old) (length serials) (length buffer) (length numbers) (length x) from to) answer
    (Reconfigured a t old from to x new × Stamped t.n (writes a to) (highest (has from) serials a.n) serials serials')
    (Unwritten buffer numbers new serials')

-- ---- Check (document 02, 2026-06): "Check now seeks the smallest set of traps whose removal leaves all others agreeing with one message and slack pair. It tries
-- sets by size from 0, within a size by lowest choice number, and stops after a given number of sets. In place of its trap number it returns the set, the number tried
-- and how far the size may be above the smallest."

-- One pair gives the blocks of all nodes of 1..n outside s.
pub record Serves (a : Params) (codeword : List ℕ) (s : ℕ) : Type 0 where
  pub message : List ℕ
  pub slack : List ℕ
  pub gives : Gives a message slack (λ i. not (has s i)) codeword

-- No set that comes before s serves.
abbrev pub NoneBefore : Params → List ℕ → ℕ → Type 0
NoneBefore a codeword s = (t : ℕ) → within a.n t ≡ true → before t s ≡ true → Serves a codeword t → ⊥

-- The first set that serves is among the first budget sets: it is returned, and counts as tried.
pub record Found (a : Params) (codeword : List ℕ) (budget : ℕ) (blame : Blame) : Type 0 where
  pub inside : within a.n blame.set.0 ≡ true
  pub serves : Serves a codeword blame.set.0
  pub first : NoneBefore a codeword blame.set.0
  pub reached : earlier a.n blame.set.0 < budget
  pub tried_is : blame.tried ≡ suc (earlier a.n blame.set.0)
  pub distance_is : blame.distance ≡ 0

-- None of the first budget sets serves. "Stopped early, the set is traps q+1..n and the distance is its size less that of the first set not tried."
pub record Stopped (a : Params) (codeword : List ℕ) (budget : ℕ) (blame : Blame) : Type 0 where
  pub untried : ℕ
  pub inside : within a.n untried ≡ true
  pub first : NoneBefore a codeword untried
  pub reached : earlier a.n untried ≡ budget
  pub set_is : (i : ℕ) → has blame.set.0 i ≡ (ltb (working a) i && leb i a.n)
  pub tried_is : blame.tried ≡ budget
  pub distance_is : blame.distance + size untried ≡ size blame.set.0

abbrev pub Blames : Params → List ℕ → ℕ → Blame → Type 0
Blames a codeword budget blame = Found a codeword budget blame ⊎ Stopped a codeword budget blame

-- The verdict's number in document 01.
abbrev pub number : Verdict → ℕ
number (Refused q) = q
number (Blamed blame) = 0

-- A refused check gives its number alone.
abbrev pub CheckPost : Params → List ℕ → ℕ → Verdict → Type 0
CheckPost a codeword budget (Refused q) = (q ≡ check_gate a (length codeword)) × (q ≡ 0 → ⊥)
CheckPost a codeword budget (Blamed blame) = (check_gate a (length codeword) ≡ 0) × Blames a codeword budget blame

-- The verdict that check's result is.
abbrev pub verdict : Result Blame Refusal → Verdict
verdict (Ok blame) = Blamed blame
verdict (Err q) = Refused (refusals.number q)

-- ---- "View: the part of the record that is trap i's block, returned as a part of the lent record. A refused view is a part of length 0. The view returns
-- the part alone; a second call on the same arguments gives its gate number."

abbrev pub ViewPost : Params → List ℕ → ℕ → List ℕ → Type 0
ViewPost a codeword i part =
    Post (view_gate a (length codeword) i) (view_gate a (length codeword) i) (part ≡ take a.b (drop ((i - 1) * a.b) codeword)) (part ≡ [])
