-- To the first entries the multiples are added, the others are as they were. Assumes nothing.
use Rattle.std.proofs.Common.{◌≡◌, ℕ, ◌≤◌, ◌<◌, get_or}
use Rattle.field.specs.Field.{Bytes, add, mul}
use Rattle.matrix.proofs.work.add_to.Given as goal

abbrev pub invariant-loop-i : goal.invariant-loop-i
invariant-loop-i l =
    ((k : ℕ) → k < l.i → get_or l.x-items k 0 ≡ add (get_or l.initial.x-items k 0) (mul l.c (get_or l.other k 0)))
    × ((k : ℕ) → l.i ≤ k → get_or l.x-items k 0 ≡ get_or l.initial.x-items k 0) × Bytes l.x-items
