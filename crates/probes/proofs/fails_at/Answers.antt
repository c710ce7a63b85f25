-- The probes' bytes are blocks of as many bytes as there are probes, tried as any others. Assumes nothing.
use mathlib.Core.Path.{sym, subst}
use Prim.Native.Nat.{◌*◌, ◌≤◌}
use native.Mathlib.Omega.{arith}
use lib.ListN.{length}
use Rattle.consistency.specs.Tested.{Testable}
use Rattle.probes.proofs.Picking.{probe-testable, named}
use Rattle.probes.proofs.fails_at.Goals as goal

pub returns-then-is_some : goal.returns-then-is_some
returns-then-is_some c ok e =
    let fits : c.args.a.n * c.args.probes ≤ length c.args.picked.now = omega (arith, c.if-picked-a.false) in
    named _ _ _ _ _ _ c.is_some.ensures c.if-is_some.true (c.other_node.ensures (probe-testable c.args.a _ _ c.args.picked.now _ ok (omega arith) fits))

pub returns-else-is_some : goal.returns-else-is_some
returns-else-is_some c ok e =
    let fits : c.args.a.n * c.args.probes ≤ length c.args.picked.now = omega (arith, c.if-picked-a.false) in
    named _ _ _ _ _ _ c.is_some-else-is_some.ensures e
    (c.other_node-else-is_some.ensures
    (subst (Testable _ _ _) (sym c.other_node.auto.fresh) (probe-testable c.args.a _ _ c.args.picked.now _ ok (omega arith) fits)))
