-- Node j + 1 is bit j; no bit stands at 32 or above. Assumes nothing.
use mathlib.Core.Path.{◌≡◌, sym, ap, ◌∙◌}
use Prim.Native.Nat.{suc, ◌-◌}
use native.Mathlib.Omega.{arith}
use Rattle.params.specs.Nodes.{has}
use Rattle.params.proofs.Sets.{has-past}
use Rattle.params.proofs.NodeSet.has.Goals as goal

pub returns-then-node-lt1 : goal.returns-then-node-lt1
unfolding has
returns-then-node-lt1 c =
    let none : c.args.node.0 ≡ 0 = omega arith in
    sym (ap (has c.args.self.0) none)

pub returns-then-node-gt32 : goal.returns-then-node-gt32
unfolding has
returns-then-node-gt32 c =
    let j = c.args.node.0 - 1 in
    let node : suc j ≡ c.args.node.0 = omega arith in
    sym (has-past 32 c.args.self.0 j (omega arith) (omega arith)) ∙ ap (has c.args.self.0) node

pub returns : goal.returns
unfolding has
returns c =
    let node : suc (c.args.node.0 - 1) ≡ c.args.node.0 = omega arith in
    ap (has c.args.self.0) node
