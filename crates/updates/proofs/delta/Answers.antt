-- The gate's number; where it is 0, the rows go one after the other to a cleared buffer. Assumes nothing.
use mathlib.Core.Path.{sym}
use native.Mathlib.Omega.{arith}
use borrow.Author.Rules.{rules}
use lib.ListN.{length}
use lib.Seq.{length-take-le}
use Rattle.gates.specs.Valid.{DeltaAccepted}
use Rattle.gates.proofs.Valid.{delta-accepted}
use Rattle.code.proofs.Posts.{served}
use Rattle.updates.proofs.Targets.{in_a_row, differences}
use Rattle.updates.proofs.delta.Goals as goal
use Rattle.updates.proofs.delta.Goals.{In_ok-delta_gate}

-- what the gate's 0 says
accepted : (c : In_ok-delta_gate) → DeltaAccepted c.args.a (length c.args.change.now) (length c.args.out.now) c.args.to.0
accepted c = (delta-accepted _ _ _ _).0 (sym c.in_ok-delta_gate.ensures)

pub slice_bounds-order-end : goal.slice_bounds-order-end
slice_bounds-order-end c =
    let few = (accepted (goal.at.slice_bounds-order-end c).In_ok-delta_gate).valid.shape in
    omega (arith, few.w_le_n, few.n_high)

pub slice_bounds-spread-end : goal.slice_bounds-spread-end
slice_bounds-spread-end c =
    let few = (accepted (goal.at.slice_bounds-spread-end c).In_ok-delta_gate).valid.shape in
    sym (length-take-le _ c.in_order-order.result (omega (arith, few.w_le_n, few.n_high)))

pub spread-requires : goal.spread-requires
spread-requires c =
    in_a_row c.args.a c.args.to.0 (omega arith) c.args.change.now c.in_order-order.result c.in_order-order.ensures _
    (accepted (goal.at.spread-requires c).In_ok-delta_gate) _ (search rules)

pub returns : goal.returns
returns c =
    served _ (sym c.in_ok-delta_gate.ensures)
    (differences c.args.a c.args.to.0 (omega arith) c.args.change.now c.in_order-order.result c.in_order-order.ensures _
    (accepted (goal.at.returns c).In_ok-delta_gate) (length c.args.out.now) _ _ c.clear.ensures c.clear.auto.dst c.spread.ensures)
