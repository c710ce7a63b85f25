-- After so many turns `most` is the highest of the nodes that they went over, and their bits are gone from the rest. Assumes nothing.
use mathlib.Core.Path.{◌≡◌}
use Prim.Native.Nat.{◌/◌, ◌^◌}
use Rattle.params.specs.Nodes.{has}
use Rattle.serials.specs.Serials.{highest}
use Rattle.serials.proofs.highest.Given as goal

abbrev pub invariant-loop-own : goal.invariant-loop-own
invariant-loop-own l = (l.rest ≡ l.initial.rest / 2 ^ l.own-index) × (l.most ≡ highest (has l.initial.rest) l.serials l.own-index)
