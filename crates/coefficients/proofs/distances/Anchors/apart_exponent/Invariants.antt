-- After each point the sum is the exponent of the power and the factors so far. Assumes nothing.
use mathlib.Core.Path.{◌≡◌}
use Prim.Native.Nat.{suc, ◌+◌, ◌*◌, ◌≤◌}
use lib.ListN.{get_or}
use Rattle.field.specs.Field.{mul, pow}
use Rattle.interpolation.specs.Lagrange.{product, factor}
use Rattle.coefficients.proofs.distances.Anchors.apart_exponent.Given as goal

abbrev pub invariant-loop-d : goal.invariant-loop-d
invariant-loop-d l = (l.sum ≤ 254 * 33 + l.d-index * 254) × (pow 2 l.sum ≡ mul (pow l.x (suc l.self.e)) (product l.d-index (λ k. factor l.x l.x (get_or l.at k 0))))
