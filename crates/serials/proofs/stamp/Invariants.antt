-- After so many turns the nodes that they went over are done, and their bits are gone from the rest. Assumes nothing.
use mathlib.Core.Path.{◌≡◌}
use mathlib.Core.Bool.{cond}
use Prim.Native.Nat.{suc, ◌/◌, ◌^◌}
use lib.ListN.{get_or}
use Rattle.base.specs.Parts.{Filled}
use Rattle.params.specs.Nodes.{has}
use Rattle.serials.proofs.stamp.Given as goal

abbrev pub invariant-loop-own : goal.invariant-loop-own
invariant-loop-own l =
    (l.rest ≡ l.initial.rest / 2 ^ l.own-index) × Filled (λ j. cond (has l.initial.rest (suc j)) l.serial (get_or l.initial.serials j 0)) l.own-index l.initial.serials l.serials
