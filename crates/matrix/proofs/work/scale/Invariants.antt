-- The first entries are multiplied, the others are as they were. Assumes nothing.
use Rattle.std.proofs.Common.{◌≡◌, ℕ, ◌≤◌, ◌<◌, get_or}
use Rattle.field.specs.Field.{Bytes, mul}
use Rattle.matrix.proofs.work.scale.Given as goal

abbrev pub invariant-loop-x : goal.invariant-loop-x
invariant-loop-x l =
    ((k : ℕ) → k < l.x-index → get_or l.x-items k 0 ≡ mul l.c (get_or l.initial.x-items k 0))
    × ((k : ℕ) → l.x-index ≤ k → get_or l.x-items k 0 ≡ get_or l.initial.x-items k 0) × Bytes l.x-items
