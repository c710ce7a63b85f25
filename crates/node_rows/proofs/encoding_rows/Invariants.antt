-- After j turns the first j entries are the points of their nodes. Assumes nothing.
use Prim.Native.Nat.{suc}
use Rattle.base.specs.Parts.{Filled}
use Rattle.code.specs.Code.{point}
use Rattle.node_rows.proofs.encoding_rows.Given as goal

abbrev pub invariant-loop-j : goal.invariant-loop-j
invariant-loop-j l = Filled (λ i. point (suc i)) l.j l.initial.place-items l.place-items
